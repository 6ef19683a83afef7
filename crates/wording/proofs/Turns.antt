-- A loop that puts one text for each number of a run. Assumes nothing.
--     for_each-more   the text of one number more
--     turns-length    a bound for each text is one for all; then for columns and octets
use mathlib.Core.Path.{◌≡◌, refl, sym, ap, ◌∙◌}
use mathlib.Core.List.{List, [], ◌∷◌, ◌++◌, append_assoc, append-nil}
use Prim.Native.Nat.{ℕ, zero, suc, ◌+◌, ◌-◌, ◌*◌, ◌≤◌}
use native.Mathlib.Omega.{arith}
use lib.ListN.{length, get_or, length-append}
use Rattle.wording.specs.Pieces.{for_each, gap, left_of_room, right_in, hex, hexes}

pub for_each-more : (f : ℕ → List ℕ) (i n : ℕ) → for_each f i (suc n) ≡ for_each f i n ++ f (i + n)
unfolding for_each
for_each-more f i zero = append-nil (f i) ∙ ap f (omega arith)
for_each-more f i (suc n) =
    ap (f i ++◌) (for_each-more f (suc i) n ∙ ap (λ j. for_each f (suc i) n ++ f j) (omega arith))
    ∙ sym (append_assoc (f i) (for_each f (suc i) n) (f (i + suc n)))

pub turns-length : (f : ℕ → List ℕ) (most : ℕ) → ((i : ℕ) → length (f i) ≤ most) → (i n : ℕ) → length (for_each f i n) ≤ most * n
unfolding for_each
turns-length f most each i zero = omega arith
turns-length f most each i (suc n) = omega (arith, length-append (f i) (for_each f (suc i) n), each i, turns-length f most each (suc i) n)

-- ---- a text for each number of a list

shift : (f : ℕ → List ℕ) (i n : ℕ) → for_each f (suc i) n ≡ for_each (λ j. f (suc j)) i n
unfolding for_each
shift f i zero = refl
shift f i (suc n) = ap (f (suc i) ++◌) (shift f (suc i) n)

module _ (g : ℕ → List ℕ) where
  pub each_none : for_each (λ i. g (get_or [] i 0)) 0 0 ≡ []
  unfolding for_each
  each_none = refl

  pub each_more : (x : ℕ) (t : List ℕ) → for_each (λ i. g (get_or (x ∷ t) i 0)) 0 (suc (length t)) ≡ g x ++ for_each (λ i. g (get_or t i 0)) 0 (length t)
  unfolding for_each
  each_more x t = ap (g x ++◌) (shift (λ i. g (get_or (x ∷ t) i 0)) 0 (length t))

-- a bound for each number's text
unfoldable pub sum_of : (ℕ → ℕ) → List ℕ → ℕ
sum_of m [] = 0
sum_of m (x ∷ t) = m x + sum_of m t

pub each-length : (g : ℕ → List ℕ) (m : ℕ → ℕ) → ((x : ℕ) → length (g x) ≤ m x) → (t : List ℕ) → length (for_each (λ i. g (get_or t i 0)) 0 (length t)) ≤ sum_of m t
unfolding sum_of
each-length g m each [] = rw (each_none g) (omega arith)
each-length g m each (x ∷ t) =
    rw (each_more g x t) (omega (arith, length-append (g x) (for_each (λ i. g (get_or t i 0)) 0 (length t)), each x, each-length g m each t))

-- ---- columns and octets

gap_length : (width taken : ℕ) → length (gap width taken) ≤ width - taken
unfolding gap
gap_length width taken = omega (arith, turns-length (λ i. 32 ∷ []) 1 (λ i. omega arith) taken (width - taken))

pub left-length : (width : ℕ) (text : List ℕ) → length (left_of_room width text) ≤ length text + (width - length text)
unfolding left_of_room
left-length width text = omega (arith, length-append text (gap width (length text)), gap_length width (length text))

pub right-length : (width : ℕ) (text : List ℕ) → length (right_in width text) ≤ length text + (width - length text)
unfolding right_in
right-length width text = omega (arith, length-append (gap width (length text)) text, gap_length width (length text))

pub hex-length : (x : ℕ) → length (hex x) ≤ 2
unfolding hex
hex-length x = omega arith

pub hexes-length : (part : List ℕ) → length (hexes part) ≤ 2 * length part
unfolding hexes
hexes-length part = turns-length (λ i. hex (get_or part i 0)) 2 (λ i. hex-length (get_or part i 0)) 0 (length part)
