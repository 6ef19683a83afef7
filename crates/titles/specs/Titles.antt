-- What stands over the rows of a message that 1 to 9 pass: title, the numbers of its header, the verdict, and the heads of the columns. Assumes nothing.
use Rattle.std.specs.Prelude.{ℕ, cond, List, [], ◌∷◌, ◌++◌, length, get_or}
use Rattle.rules.specs.Framing.{octet, flag_t, message_type}
use Rattle.rules.specs.Octets.{five}
use Rattle.rules.specs.declared.Verdict.{Verdict}
use Rattle.wording.specs.Pieces.{hexes}
use Rattle.phrases.specs.Words.{newline}
use Rattle.phrases.specs.Table.{pages, verdicts, headers}
use Rattle.phrases.specs.Sentences.{said, narrow}

-- the numbers that are said over its rows: kind, size, type, the five of the verdict, rows and kept rows
unfoldable pub top_run : ℕ → Verdict → List ℕ → List ℕ → List ℕ
top_run k v table copy = narrow k ∷ narrow (length copy) ∷ message_type copy ∷ (five v ++ (get_or table 0 0 ∷ get_or table 1 0 ∷ []))

-- the three octets of a sequence number
unfoldable pub sequence_text : ℕ → ℕ → ℕ → List ℕ
sequence_text a b c = hexes (a ∷ b ∷ c ∷ []) ++ newline

module _ (names run : List ℕ) where
  -- TEID and sequence number, or the sequence number alone
  unfoldable pub header_line : List ℕ → List ℕ
  header_line copy =
      cond (flag_t copy)
      (said names run headers 0
      ++ (hexes (octet copy 4 ∷ octet copy 5 ∷ octet copy 6 ∷ octet copy 7 ∷ []) ++ (said names run headers 1 ++ sequence_text (octet copy 8) (octet copy 9) (octet copy 10))))
      (said names run headers 2 ++ sequence_text (octet copy 4) (octet copy 5) (octet copy 6))

  -- title, header, verdict, and the heads of the columns
  unfoldable pub top_lines : ℕ → List ℕ → List ℕ
  top_lines code copy = said names run pages 1 ++ (header_line copy ++ (said names run verdicts code ++ said names run pages 2))

-- by the kind, the verdict, the table and the masked copy
unfoldable pub title_text : List ℕ → ℕ → Verdict → List ℕ → List ℕ → List ℕ
title_text names k v table copy = top_lines names (top_run k v table copy) v.code copy
