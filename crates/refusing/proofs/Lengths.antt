-- The page on a message of n octets that 1 to 9 refuse has at most 301 + 10 n octets. Assumes nothing.
use mathlib.Core.Bool.{Bool, true, false, cond}
use mathlib.Core.List.{List, [], ◌∷◌, ◌++◌}
use Prim.Native.Nat.{ℕ, ◌+◌, ◌*◌, ◌%◌, ◌≤◌}
use native.Mathlib.Omega.{arith}
use lib.Dec.{eqb}
use lib.ListN.{length, get_or, length-append}
use Rattle.rules.specs.Program.{decimal}
use Rattle.rules.specs.declared.Verdict.{Verdict}
use Rattle.wording.specs.Pieces.{right_in, hex}
use Rattle.wording.proofs.Decimals.{decimal-length}
use Rattle.wording.proofs.Turns.{turns-length, right-length, hex-length}
use Rattle.phrases.specs.Words.{words}
use Rattle.phrases.specs.Table.{pages, verdicts}
use Rattle.phrases.specs.Sentences.{said, narrow}
use Rattle.phrases.proofs.Lengths.{page-length, verdict-length}
use Rattle.columns.specs.declared.View.{View}
use Rattle.refusing.specs.Dumps.{line_break, lead, dump_lines, dump}
use Rattle.refusing.specs.Levels.{reason_of}
use Rattle.refusing.specs.Refused.{refused_run, title_number, refused_lines, refused_page}

lead-length : (i : ℕ) → length (lead i) ≤ 8
unfolding lead line_break
lead-length i = go (eqb (i % 16) 0) (eqb i 0)
  where
    place : List ℕ
    place = right_in 4 (decimal (narrow i)) ++ words "  "

    most : length place ≤ 7
    most = omega (arith, length-append (right_in 4 (decimal (narrow i))) (words "  "), right-length 4 (decimal (narrow i)), decimal-length (narrow i))

    go : (c d : Bool) → length (cond c (cond d [] (10 ∷ []) ++ place) (32 ∷ [])) ≤ 8
    go true true = omega (arith, most)
    go true false = omega (arith, most)
    go false d = omega arith

lines-length : (part : List ℕ) → length (dump_lines part) ≤ 10 * length part
unfolding dump_lines
lines-length part = turns-length (λ i. lead i ++ hex (get_or part i 0)) 10 one 0 (length part)
  where
    one : (i : ℕ) → length (lead i ++ hex (get_or part i 0)) ≤ 10
    one i = omega (arith, length-append (lead i) (hex (get_or part i 0)), lead-length i, hex-length (get_or part i 0))

dump-length : (part : List ℕ) → length (dump part) ≤ 10 * length part + 1
unfolding dump
dump-length part = go (eqb (length part) 0)
  where
    go : (c : Bool) → length (cond c [] (dump_lines part ++ (10 ∷ []))) ≤ 10 * length part + 1
    go true = omega arith
    go false = omega (arith, length-append (dump_lines part) (10 ∷ []), lines-length part)

pub refused-length : (names : List ℕ) (w : View) (v : Verdict) (m : List ℕ) → length (refused_page names w v m) ≤ 301 + 10 * length m
unfolding refused_page refused_lines
refused-length names w v m = go w.right
  where
    run : List ℕ
    run = refused_run w.kind m v (reason_of w.kind m v)

    go : (r : Bool) → length ((said names run pages (title_number v) ++ said names run verdicts v.code) ++ cond r (dump m) []) ≤ 301 + 10 * length m
    go r =
        omega (
          arith,
          length-append (said names run pages (title_number v) ++ said names run verdicts v.code) (cond r (dump m) []),
          length-append (said names run pages (title_number v)) (said names run verdicts v.code),
          page-length names run (title_number v),
          verdict-length names run v.code,
          rest r,
        )
      where
        rest : (r : Bool) → length (cond r (dump m) []) ≤ 10 * length m + 1
        rest true = dump-length m
        rest false = omega arith
