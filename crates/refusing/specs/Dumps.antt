-- Octets in lines of 16, each with the place of its first. Assumes nothing.
use Rattle.std.specs.Prelude.{ℕ, ◌%◌, cond, List, [], ◌++◌, eqb, length, get_or}
use Rattle.rules.specs.Program.{decimal}
use Rattle.wording.specs.Pieces.{for_each, right_in, hex}
use Rattle.phrases.specs.Words.{words, blank, newline}
use Rattle.phrases.specs.Sentences.{narrow}

-- the first line has none before it
unfoldable pub line_break : ℕ → List ℕ
line_break i = cond (eqb i 0) [] newline

-- before octet i: each 16th begins a line with its place
unfoldable pub lead : ℕ → List ℕ
lead i = cond (eqb (i % 16) 0) (line_break i ++ (right_in 4 (decimal (narrow i)) ++ words "  ")) blank

unfoldable pub dump_lines : List ℕ → List ℕ
dump_lines part = for_each (λ i. lead i ++ hex (get_or part i 0)) 0 (length part)

-- no octets have no line
unfoldable pub dump : List ℕ → List ℕ
dump part = cond (eqb (length part) 0) [] (dump_lines part ++ newline)
