-- What stands over the rows has at most 441 octets. Assumes nothing.
use mathlib.Core.Bool.{Bool, true, false, cond}
use mathlib.Core.List.{List, [], ◌∷◌, ◌++◌}
use Prim.Native.Nat.{ℕ, ◌≤◌}
use native.Mathlib.Omega.{arith}
use lib.ListN.{length, length-append}
use Rattle.rules.specs.Framing.{octet, flag_t}
use Rattle.rules.specs.declared.Verdict.{Verdict}
use Rattle.wording.specs.Pieces.{hexes}
use Rattle.wording.proofs.Turns.{hexes-length}
use Rattle.phrases.specs.Table.{pages, verdicts, headers}
use Rattle.phrases.specs.Sentences.{said}
use Rattle.phrases.proofs.Lengths.{page-length, verdict-length, header-length}
use Rattle.titles.specs.Titles.{top_run, sequence_text, header_line, top_lines, title_text}

sequence-length : (a b c : ℕ) → length (sequence_text a b c) ≤ 7
unfolding sequence_text
sequence-length a b c = omega (arith, length-append (hexes (a ∷ b ∷ c ∷ [])) (10 ∷ []), hexes-length (a ∷ b ∷ c ∷ []))

module _ (names run : List ℕ) where
  line-length : (copy : List ℕ) → length (header_line names run copy) ≤ 41
  unfolding header_line
  line-length copy = go (flag_t copy)
    where
      teid : List ℕ
      teid = hexes (octet copy 4 ∷ octet copy 5 ∷ octet copy 6 ∷ octet copy 7 ∷ [])

      long : List ℕ
      long = sequence_text (octet copy 8) (octet copy 9) (octet copy 10)

      short : List ℕ
      short = sequence_text (octet copy 4) (octet copy 5) (octet copy 6)

      go : (c : Bool) → length (cond c (said names run headers 0 ++ (teid ++ (said names run headers 1 ++ long))) (said names run headers 2 ++ short)) ≤ 41
      go true =
          omega (
            arith,
            length-append (said names run headers 0) (teid ++ (said names run headers 1 ++ long)),
            length-append teid (said names run headers 1 ++ long),
            length-append (said names run headers 1) long,
            header-length names run 0,
            header-length names run 1,
            hexes-length (octet copy 4 ∷ octet copy 5 ∷ octet copy 6 ∷ octet copy 7 ∷ []),
            sequence-length (octet copy 8) (octet copy 9) (octet copy 10),
          )
      go false =
          omega (arith, length-append (said names run headers 2) short, header-length names run 2, sequence-length (octet copy 4) (octet copy 5) (octet copy 6))

  top-length : (code : ℕ) (copy : List ℕ) → length (top_lines names run code copy) ≤ 441
  unfolding top_lines
  top-length code copy =
      let verdict = said names run verdicts code in
      let heads = said names run pages 2 in
      omega (
        arith,
        length-append (said names run pages 1) (header_line names run copy ++ (verdict ++ heads)),
        length-append (header_line names run copy) (verdict ++ heads),
        length-append verdict heads,
        page-length names run 1,
        page-length names run 2,
        verdict-length names run code,
        line-length copy,
      )

pub title-length : (names : List ℕ) (k : ℕ) (v : Verdict) (table copy : List ℕ) → length (title_text names k v table copy) ≤ 441
unfolding title_text
title-length names k v table copy = top-length names (top_run k v table copy) v.code copy
