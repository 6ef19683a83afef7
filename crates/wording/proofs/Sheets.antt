-- What is put on a sheet: one text after another, and a text for each turn of a loop. Assumes nothing.
--     writes_none, then-writes           no text, and one after another
--     over-puts, writes_same             in the buffer of a new sheet; and no other text is put
--     next-octet, next_turn, next-number, all_turns   a loop's: one octet more of a text, and one text more of those for each number of a run
use mathlib.Core.Path.{◌≡◌, refl, ◌∙◌}
use mathlib.Core.List.{List, [], ◌∷◌, ◌++◌}
use Prim.Native.Nat.{ℕ, ◌+◌, ◌≤◌, ◌<◌}
use native.Mathlib.Omega.{arith}
use native.Mathlib.Numerals.{add-one}
use lib.ListN.{length, take, get_or}
use lib.Seq.{take-suc}
use Rattle.std.specs.Borrow.{MutBor}
use Rattle.wording.specs.declared.Sheet.{Sheet}
use Rattle.wording.specs.Puts.{Puts}
use Rattle.wording.specs.Sheets.{Over, Writes}
use Rattle.wording.specs.Pieces.{for_each}
use Rattle.wording.proofs.Puts.{puts_none, then-puts, puts-same}
use Rattle.wording.proofs.Turns.{for_each-more}

pub writes_none : (s : Sheet) → Writes [] s s
writes_none s = record { same = refl; put = puts_none s.at s.out.now }

module _ {s t u : Sheet} where
  pub then-writes : {a c : List ℕ} → Writes a s t → Writes c t u → Writes (a ++ c) s u
  then-writes p q = record { same = q.same ∙ p.same; put = then-puts p.put q.put }

  -- in a loop over a list, what is put is its start
  pub next-octet : (text : List ℕ) (n : ℕ) → Writes (take n text) s t → n < length text → Writes (get_or text n 0 ∷ []) t u → Writes (take (n + 1) text) s u
  next-octet text n p l q = rw (add-one n, take-suc text n 0 l) (then-writes p q)

  -- and in a loop that puts a text for each number from a first one on, the texts so far
  pub next_turn : (f : ℕ → List ℕ) (from n : ℕ) → Writes (for_each f from n) s t → Writes (f (from + n)) t u → Writes (for_each f from (n + 1)) s u
  next_turn f from n p q = rw (add-one n, for_each-more f from n) (then-writes p q)

  pub next-number : (f : ℕ → List ℕ) (n : ℕ) → Writes (for_each f 0 n) s t → Writes (f n) t u → Writes (for_each f 0 (n + 1)) s u
  next-number f n p q = let z : 0 + n ≡ n = omega arith in next_turn f 0 n p (rw z q)

-- where the loop ends, all of them
pub all_turns : (f : ℕ → List ℕ) (from : ℕ) {n count : ℕ} {s t : Sheet} → n ≤ count → count ≤ n → Writes (for_each f from n) s t → Writes (for_each f from count) s t
all_turns f from {n = n} {count = count} l m w = let e : count ≡ n = omega arith in rw e w

pub over-puts : {b : MutBor (List ℕ)} {at₀ : ℕ} {text : List ℕ} {s t : Sheet} → Over b at₀ s → Writes text s t → Puts text at₀ b.now t.at t.out.now
over-puts o w = rw (o.start, o.kept) at w.put

-- what is put on a sheet is determined
pub writes_same : {text : List ℕ} {s t u : Sheet} → Writes text s t → Writes text s u → (t.at ≡ u.at) × (t.out.now ≡ u.out.now)
writes_same v w = puts-same v.put w.put
