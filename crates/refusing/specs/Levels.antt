-- Which of its two reasons 9 had: the level that goes on at its place has fewer than four octets left there, or an element claims more than it has. Assumes nothing.
use Rattle.std.specs.Prelude.{ℕ, zero, suc, ◌+◌, Bool, cond, ◌&&◌, List, [], ◌∷◌, eqb, ltb, leb, length}
use Rattle.rules.specs.Framing.{element_header}
use Rattle.rules.specs.Listings.{book}
use Rattle.rules.specs.Standing.{Item, value_place, value_end}
use Rattle.rules.specs.Answers.{read_items}
use Rattle.rules.specs.declared.Verdict.{Verdict}
use Rattle.masking.specs.Clearing.{number}
use Rattle.columns.specs.Values.{entered}

-- an element whose inside was entered, and whose value has octet q
unfoldable pub holds : ℕ → ℕ → ℕ → ℕ → ℕ → Bool
holds t s place end q = entered t s && leb place q && ltb q end

-- the end of the level that octet q stands in: that of the innermost group around it, which is the last in row order, or else the message's
unfoldable pub level_end : List Item → ℕ → ℕ → ℕ
level_end [] q end = end
level_end (i ∷ is) q end = level_end is q (cond (holds i.typ i.stand (value_place i) (value_end i) q) (value_end i) end)

-- of the rows before the cut: 1 if fewer than four octets are left, else 0
unfoldable pub reason_of : ℕ → List ℕ → Verdict → ℕ
reason_of k m v = cond (eqb v.code 9) (cond (ltb (level_end (read_items book k m) v.place (length m)) (v.place + element_header)) 1 0) 0

-- ---- the same by the numbers of the rows

-- where the value of row r ends
abbrev pub end_of : List ℕ → ℕ → ℕ
end_of rows r = number rows r 3 + number rows r 4

-- after row r
unfoldable pub inner_end : List ℕ → ℕ → ℕ → ℕ → ℕ
inner_end rows r q end = cond (holds (number rows r 1) (number rows r 5) (number rows r 3) (end_of rows r) q) (end_of rows r) end

-- after the first n rows
unfoldable pub end_after : List ℕ → ℕ → ℕ → ℕ → ℕ
end_after rows q end zero = end
end_after rows q end (suc n) = inner_end rows n q (end_after rows q end n)
