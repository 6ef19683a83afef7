-- A copy that is laid octet by octet, and a message over the start of one that is long enough, where one that is shorter stays. Assumes nothing.
use mathlib.Core.Path.{◌≡◌, refl, ap, ◌∙◌}
use mathlib.Core.List.{List, [], ◌∷◌, ◌++◌, append-nil}
use Prim.Native.Nat.{ℕ, zero, suc, ◌+◌, ◌≤◌, ◌<◌}
use native.Mathlib.Omega.{arith}
use native.Mathlib.Numerals.{add-one}
use borrow.Author.Tests.{lt-ltb, le-ltb}
use lib.ListN.{length, get_or, take, drop, set}
use lib.Seq.{take-length}
use Rattle.rules.specs.Table.{laid}
use Rattle.copying.specs.Copying.{laid_over}

-- the first n octets are the others'
unfoldable pub laid_to : List ℕ → List ℕ → ℕ → List ℕ
laid_to m part n = take n m ++ drop n part

next-suc : (m part : List ℕ) (n : ℕ) → n < length m → n < length part → set (laid_to m part n) n (get_or m n 0) ≡ laid_to m part (suc n)
unfolding laid_to
next-suc [] part n h l = absurd (omega arith)
next-suc (x ∷ m) [] n h l = absurd (omega arith)
next-suc (x ∷ m) (y ∷ part) zero h l = refl
next-suc (x ∷ m) (y ∷ part) (suc n) h l = ap (λ (t : List ℕ). x ∷ t) (next-suc m part n (omega arith) (omega arith))

pub none-laid : (m part : List ℕ) → part ≡ laid_to m part 0
unfolding laid_to
none-laid m part = refl

pub next-laid : (m part : List ℕ) {now : List ℕ} {n : ℕ} → now ≡ laid_to m part n → n < length m → length part ≡ length m → set now n (get_or m n 0) ≡ laid_to m part (n + 1)
next-laid m part {n = n} e h l = ap (λ (t : List ℕ). set t n (get_or m n 0)) e ∙ rw add-one (next-suc m part n h (omega arith))

none-left : (m part : List ℕ) → length part ≡ length m → drop (length m) part ≡ []
none-left [] [] e = refl
none-left [] (y ∷ part) e = absurd (omega arith)
none-left (x ∷ m) [] e = absurd (omega arith)
none-left (x ∷ m) (y ∷ part) e = none-left m part (omega arith)

pub all-laid : (m part : List ℕ) {now : List ℕ} {n : ℕ} → now ≡ laid_to m part n → n ≤ length m → length m ≤ n → length part ≡ length m → now ≡ m
unfolding laid_to
all-laid m part {n = n} e h k l =
    let same : n ≡ length m = omega arith in
    e ∙ (rw (same, take-length, none-left m part l) (append-nil m))

pub goes_over : (m copy : List ℕ) → length m ≤ length copy → laid_over m copy ≡ laid m copy
unfolding laid_over
goes_over m copy room = rw (le-ltb (length copy) (length m) room)

pub too_short : (m copy : List ℕ) → length copy < length m → copy ≡ laid_over m copy
unfolding laid_over
too_short m copy l = rw (lt-ltb (length copy) (length m) l)
