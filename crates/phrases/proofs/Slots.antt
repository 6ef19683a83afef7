-- Numbers cut to 16 bits, and what a slot says by the four numbers that the table has of it. Assumes nothing.
use mathlib.Core.Path.{◌≡◌, refl, sym, ap, ◌∙◌}
use mathlib.Core.List.{List, [], ◌∷◌}
use Prim.Native.Nat.{ℕ, zero, suc, ◌+◌, ◌*◌, ◌≤◌, ◌<◌}
use native.Mathlib.Omega.{arith}
use borrow.Author.Tests.{lt-ltb, le-ltb}
use lib.ListN.{get_or}
use Rattle.std.specs.Prelude.{Result, Ok, Err, OkIff}
use Rattle.std.specs.Result.{result_unwrap_or}
use Rattle.phrases.specs.declared.sentences.Said.{Said}
use Rattle.phrases.specs.declared.sentences.Said.TheVariants.{Itself}
use Rattle.phrases.specs.Table.{slots}
use Rattle.phrases.specs.Laid.{what_of, section_of, numbers_of, Slots}
use Rattle.phrases.specs.Sentences.{narrow, slot_number, worded, slot_text}

pub narrowed : {E : Type 0} (r : Result ℕ E) (n : ℕ) → OkIff r (n < 65536) n → result_unwrap_or r 65535 ≡ narrow n
unfolding narrow
narrowed (Ok x) n (l, e) = rw (lt-ltb n 65536 l, e)
narrowed (Err x) n l = rw (le-ltb n 65536 (omega arith))

-- ---- slots

abbrev blank : Said × ℕ × ℕ
blank = (Itself, 0, 0)

-- the four numbers of a slot
abbrev pub row : Said × ℕ × ℕ → List ℕ
row x = what_of x.0 ∷ x.1 ∷ x.2 ∷ section_of x.0 ∷ []

none : (j : ℕ) → get_or (row blank) j 0 ≡ 0
none zero = refl
none (suc zero) = refl
none (suc (suc zero)) = refl
none (suc (suc (suc zero))) = refl
none (suc (suc (suc (suc j)))) = refl

first : (a b c d j : ℕ) (ns : List ℕ) → j ≤ 3 → get_or (a ∷ b ∷ c ∷ d ∷ ns) j 0 ≡ get_or (a ∷ b ∷ c ∷ d ∷ []) j 0
first a b c d zero ns l = refl
first a b c d (suc zero) ns l = refl
first a b c d (suc (suc zero)) ns l = refl
first a b c d (suc (suc (suc zero))) ns l = refl
first a b c d (suc (suc (suc (suc j)))) ns l = absurd (omega arith)

number-at : (xs : List (Said × ℕ × ℕ)) (n j : ℕ) → j ≤ 3 → get_or (numbers_of xs) (4 * n + j) 0 ≡ get_or (row (get_or xs n blank)) j 0
unfolding numbers_of
number-at [] n j l = sym (none j)
number-at (x ∷ xs) zero j l = let z : 0 + j ≡ j = omega arith in rw z (first (what_of x.0) x.1 x.2 (section_of x.0) j (numbers_of xs) l)
number-at (x ∷ xs) (suc n) j l = let z : 4 * suc n + j ≡ suc (suc (suc (suc (4 * n + j)))) = omega arith in rw z (number-at xs n j l)

-- what the four numbers of a slot ask for
module _ (names run : List ℕ) (s : ℕ) {xs : List (Said × ℕ × ℕ)} {x : Said × ℕ × ℕ} {i w n : ℕ} (e : Slots xs slots) (f : x ≡ get_or xs s blank) (g : i ≡ x.1) (h : n ≡ get_or run i 0) (k : w ≡ x.2) where
  at : (j : ℕ) → j ≤ 3 → slot_number s j ≡ get_or (row x) j 0
  at j l = ap (λ ns. get_or ns (4 * s + j) 0) (sym e.is) ∙ number-at xs s j l ∙ ap (λ y. get_or (row y) j 0) (sym f)

  pub asked : slot_text names run s ≡ worded names (what_of x.0) w (section_of x.0) n
  unfolding slot_text
  asked = rw (at 0 (omega arith), at 1 (omega arith), at 2 (omega arith), at 3 (omega arith), h, g, k)
