-- Rows in depth-first order are a forest, and what they emit goes by its shape: so nobody looks at `within` again. Assumes nothing.
--     Forest     rows of one level, with parent p, after n rows        grown   what they emit, by shape
--     grows      the rows emit what their forest grows
use mathlib.Core.Path.{◌≡◌, refl, sym, ap, ◌∙◌}
use mathlib.Core.Bool.{true, false}
use mathlib.Core.List.{List, [], ◌∷◌, ◌++◌, append_assoc, append-nil}
use Prim.Native.Nat.{ℕ, suc, ◌+◌, ◌≤◌, ◌<◌}
use native.Mathlib.Omega.{arith}
use native.Mathlib.Nat.{add-zero}
use borrow.Author.Tests.{lt-ltb, le-ltb}
use lib.ListN.{length, length-append}
use Rattle.rules.specs.Framing.{element_header}
use Rattle.rules.specs.Types.{is_group}
use Rattle.rules.specs.Emitting.{Piece, stays, size_of, sizes, within, head_octets, length_of, emitted}

-- parent, rows before, rows
pub data Forest : ℕ → ℕ → List Piece → Type 0 where
  none : {p n : ℕ} → Forest p n []
  aside : {p n : ℕ} {ps : List Piece} (x : Piece) → stays x ≡ false → x.parent ≡ p → Forest p (n + 1) ps → Forest p n (x ∷ ps)
  leaf : {p n : ℕ} {ps : List Piece} (x : Piece) → stays x ≡ true → x.parent ≡ p → is_group x.typ ≡ false → Forest p (n + 1) ps → Forest p n (x ∷ ps)
  node : {p n : ℕ} {is ps : List Piece} (x : Piece) → stays x ≡ true → x.parent ≡ p → is_group x.typ ≡ true → x.value ≡ []
      → Forest (n + 1) (n + 1) is → Forest p (n + 1 + length is) ps → Forest p n (x ∷ (is ++ ps))

-- an element with this value
abbrev pub element : ℕ → ℕ → List ℕ → List ℕ
element t f ys = head_octets t (length ys) f ++ ys

unfoldable pub grown : {p n : ℕ} {ps : List Piece} → Forest p n ps → List ℕ
grown none = []
grown (aside x s e t) = grown t
grown (leaf x s e g t) = element x.typ x.fourth x.value ++ grown t
grown (node x s e g z d t) = element x.typ x.fourth (grown d) ++ grown t

-- ---- sizes

size_in : (x : Piece) → stays x ≡ true → size_of x ≡ element_header + length x.value
unfolding size_of
size_in x s = rw s

size-out : (x : Piece) → stays x ≡ false → size_of x ≡ 0
unfolding size_of
size-out x s = rw s

pub sizes_append : (is ps : List Piece) → sizes (is ++ ps) ≡ sizes is + sizes ps
unfolding sizes
sizes_append [] ps = omega arith
sizes_append (x ∷ is) ps = omega (arith, sizes_append is ps)

past : (r : ℕ) (x : Piece) (xs : List Piece) → r ≤ x.parent → within r (x ∷ xs) ≡ size_of x + within r xs
unfolding within
past r x xs l = rw (le-ltb x.parent r l)

pub stop : (r : ℕ) (x : Piece) (xs : List Piece) → x.parent < r → within r (x ∷ xs) ≡ 0
unfolding within
stop r x xs l = rw (lt-ltb x.parent r l)

-- what follows a level whose parent stands before r
stops : {p n : ℕ} {ps : List Piece} → Forest p n ps → (r : ℕ) (qs : List Piece) → p < r → within r qs ≡ 0 → within r (ps ++ qs) ≡ 0
stops none r qs l z = z
stops (aside {ps = ps} x s e t) r qs l z = stop r x (ps ++ qs) (omega arith)
stops (leaf {ps = ps} x s e g t) r qs l z = stop r x (ps ++ qs) (omega arith)
stops (node {is = is} {ps = ps} x s e g v d t) r qs l z = stop r x (is ++ ps ++ qs) (omega arith)

insides : {p n : ℕ} {ps : List Piece} (d : Forest p n ps) (r : ℕ) (qs : List Piece) → p ≤ n → r ≤ p → within r (ps ++ qs) ≡ length (grown d) + within r qs
unfolding grown
insides none r qs l c = omega arith
insides (aside {ps = ps} x s e t) r qs l c = omega (arith, past r x (ps ++ qs) (omega arith), size-out x s, insides t r qs (omega arith) c)
insides (leaf {ps = ps} x s e g t) r qs l c =
    omega (arith, past r x (ps ++ qs) (omega arith), size_in x s, insides t r qs (omega arith) c, length-append (element x.typ x.fourth x.value) (grown t))
insides (node {is = is} {ps = ps} x s e g v d t) r qs l c =
    omega (
      arith,
      past r x (is ++ ps ++ qs) (omega arith),
      size_in x s,
      ap length v,
      ap (within r) (append_assoc is ps qs),
      insides d r (ps ++ qs) (omega arith) (omega arith),
      insides t r qs (omega arith) c,
      length-append (element x.typ x.fourth (grown d)) (grown t),
    )

-- ---- what is emitted

emit_in : (n : ℕ) (x : Piece) (xs : List Piece) → stays x ≡ true
    → emitted n (x ∷ xs) ≡ head_octets x.typ (length_of (n + 1) x xs) x.fourth ++ (x.value ++ emitted (n + 1) xs)
unfolding emitted
emit_in n x xs s = rw s

emit_out : (n : ℕ) (x : Piece) (xs : List Piece) → stays x ≡ false → emitted n (x ∷ xs) ≡ emitted (n + 1) xs
unfolding emitted
emit_out n x xs s = rw s

emit_leaf : (n : ℕ) (x : Piece) (xs : List Piece) → stays x ≡ true → is_group x.typ ≡ false
    → emitted n (x ∷ xs) ≡ element x.typ x.fourth x.value ++ emitted (n + 1) xs
emit_leaf n x xs s g = emit_in n x xs s ∙ rw g

emit_node : (n : ℕ) (x : Piece) (xs : List Piece) → stays x ≡ true → is_group x.typ ≡ true → x.value ≡ []
    → emitted n (x ∷ xs) ≡ head_octets x.typ (within (n + 1) xs) x.fourth ++ emitted (n + 1) xs
emit_node n x xs s g v = emit_in n x xs s ∙ rw (g, v)

pub grows-before : {p n : ℕ} {ps : List Piece} (d : Forest p n ps) (qs : List Piece) → p ≤ n → ((r : ℕ) → n < r → within r qs ≡ 0)
    → emitted n (ps ++ qs) ≡ grown d ++ emitted (n + length ps) qs
unfolding grown
grows-before (none {n = n}) qs l z = let e : n + 0 ≡ n = add-zero n in rw e
grows-before (aside {n = n} {ps = ps} x s e t) qs l z =
    let c : n + suc (length ps) ≡ n + 1 + length ps = omega arith in
    rw c (emit_out n x (ps ++ qs) s ∙ grows-before t qs (omega arith) (λ r k. z r (omega arith)))
grows-before (leaf {n = n} {ps = ps} x s e g t) qs l z =
    let c : n + suc (length ps) ≡ n + 1 + length ps = omega arith in
    rw (c, append_assoc (element x.typ x.fourth x.value) (grown t) (emitted (n + 1 + length ps) qs))
    (emit_leaf n x (ps ++ qs) s g ∙ ap (λ (ys : List ℕ). element x.typ x.fourth x.value ++ ys) (grows-before t qs (omega arith) (λ r k. z r (omega arith))))
grows-before (node {p = p} {n = n} {is = is} {ps = ps} x s e g v d t) qs l z =
    let c : n + suc (length (is ++ ps)) ≡ n + 1 + length is + length ps = omega (arith, length-append is ps) in
    let w : within (n + 1) (is ++ (ps ++ qs)) ≡ length (grown d) =
    omega (arith, insides d (n + 1) (ps ++ qs) (omega arith) (omega arith), stops t (n + 1) qs (omega arith) (z (n + 1) (omega arith))) in
    let i : emitted (n + 1) (is ++ (ps ++ qs)) ≡ grown d ++ emitted (n + 1 + length is) (ps ++ qs) =
    grows-before d (ps ++ qs) (omega arith) (λ r k. stops t r qs (omega arith) (z r (omega arith))) in
    let j : emitted (n + 1 + length is) (ps ++ qs) ≡ grown t ++ emitted (n + 1 + length is + length ps) qs =
    grows-before t qs (omega arith) (λ r k. z r (omega arith)) in
    rw (c, append_assoc is ps qs) (
    emit_node n x (is ++ (ps ++ qs)) s g v
    ∙ rw (w, i, j)
    (ap (λ (ys : List ℕ). head_octets x.typ (length (grown d)) x.fourth ++ ys) (sym (append_assoc (grown d) (grown t) (emitted (n + 1 + length is + length ps) qs))))
    )

pub grows : {p n : ℕ} {ps : List Piece} (d : Forest p n ps) → p ≤ n → emitted n ps ≡ grown d
unfolding emitted within
grows {p} {n} {ps} d l =
    let e = grows-before d [] l (λ r k. refl) in
    rw (append-nil ps, append-nil (grown d)) at e

-- and their number is the sum of what each takes
pub grown-size : {p n : ℕ} {ps : List Piece} (d : Forest p n ps) → length (grown d) ≡ sizes ps
unfolding grown sizes
grown-size none = refl
grown-size (aside {ps = ps} x s e t) = omega (arith, size-out x s, grown-size t)
grown-size (leaf {ps = ps} x s e g t) = omega (arith, size_in x s, grown-size t, length-append (element x.typ x.fourth x.value) (grown t))
grown-size (node {is = is} {ps = ps} x s e g v d t) =
    omega (arith, size_in x s, ap length v, grown-size d, grown-size t, sizes_append is ps, length-append (element x.typ x.fourth (grown d)) (grown t))
