-- The cleaned copy (rules 11.1, 11.3, 11.4): rows set aside are left out at all levels, the lengths of groups and header are put right, every other octet is as
-- it came. Assumes nothing.
use Rattle.std.specs.Prelude.{ℕ, ◌+◌, ◌-◌, cond, List, [], ◌∷◌, ◌++◌, ltb, length, take, drop}
use Rattle.rules.specs.Framing.{octet, header_length}
use Rattle.rules.specs.Types.{is_group}
use Rattle.rules.specs.Listings.{Book}
use Rattle.rules.specs.Standing.{Item, value_place}
use Rattle.rules.specs.Taking.{body_level}
use Rattle.rules.specs.Table.{laid, kept_rows}
use Rattle.rules.specs.Verdicts.{check, refused, refuses, first, framing_checks, short_verdict, lack_verdict, items, framing_numbers}
use Rattle.rules.specs.declared.Verdict.{Verdict}
use Rattle.rules.specs.Emitting.{Piece, emitted, written}

-- a row of the message m as it came
unfoldable pub received : List ℕ → Item → Piece
received m i = record {
  parent = i.parent;
  typ = i.typ;
  fourth = octet m (i.place + 3);
  stand = i.stand;
  value = cond (is_group i.typ) [] (take i.len (drop (value_place i) m));
}

unfoldable pub pieces : List ℕ → List Item → List Piece
pieces m [] = []
pieces m (i ∷ is) = received m i ∷ pieces m is

module _ (b : Book) (k : ℕ) (m : List ℕ) where
  unfoldable pub cleaned : List ℕ
  cleaned = written (octet m 0) (octet m 1) (take (header_length m - 4) (drop 4 m)) (emitted 0 (pieces m (items b k m)))

  -- 13: the buffer is shorter than the cleaned copy
  abbrev pub is_too_short : ℕ → Verdict
  is_too_short room = check (ltb room (length cleaned)) (refused 13 0)

  -- what is asked, in turn: the framing, a short row that a line needs, a line that lacks one, and last the room
  unfoldable pub clean_checks : ℕ → List Verdict
  clean_checks room = framing_checks b k m ++ (short_verdict (items b k m) ∷ lack_verdict b k (body_level b m) (items b k m) ∷ is_too_short room ∷ [])

  abbrev pub clean_verdict : ℕ → Verdict
  clean_verdict room = first (clean_checks room)

  -- a refusal writes nothing, and its length is 0; the buffer past the cleaned copy stays
  unfoldable pub clean_copy : List ℕ → List ℕ
  clean_copy out = cond (refuses (clean_verdict (length out))) out (laid cleaned out)

  unfoldable pub clean_length : ℕ → ℕ
  clean_length room = cond (refuses (clean_verdict room)) 0 (length cleaned)

-- the numbers that it is refused with, in the order of its checks
abbrev pub clean_numbers : List ℕ
clean_numbers = framing_numbers ++ (11 ∷ 12 ∷ 13 ∷ [])

-- the number of a row among the kept ones: those up to it
abbrev pub renumbered : List Item → ℕ → ℕ
renumbered is r = kept_rows (take r is)
