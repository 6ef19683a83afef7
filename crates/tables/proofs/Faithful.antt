-- A row says what the message's octets at its place say: what a level has left is a part of the message, wherever the walk stands. Assumes nothing.
use mathlib.Core.Path.{◌≡◌, sym, ap, ◌∙◌}
use mathlib.Core.List.{List, [], ◌∷◌}
use Prim.Native.Nat.{ℕ, zero, suc, ◌+◌, ◌-◌, ◌%◌, ◌≤◌, ◌<◌}
use native.Mathlib.Omega.{arith}
use lib.ListN.{length, take, drop, length-drop}
use lib.Seq.{get_or-take, get_or-drop, take-nil, take-take, drop-drop, length-take-le, take_all}
use Rattle.rules.specs.Framing.{octet, two_octets, element_header, header_length}
use Rattle.rules.specs.Listings.{Book}
use Rattle.rules.specs.Standing.{Item, item_of}
use Rattle.rules.specs.Met.{At}
use Rattle.rules.specs.Frames.{Element, element, frames_of, value_of}
use Rattle.rules.proofs.Heads.{whole_head, at_is, fits}
use Rattle.rules.proofs.Walked.{Walked, ends, alone, group}
use Rattle.rules.specs.Table.{nth}
use Rattle.rules.proofs.Rows.{Every, every_append, every-at}

pub record Stood (m : List ℕ) (i : Item) : Type 0 where
  pub typ : i.typ ≡ octet m i.place
  pub len : i.len ≡ two_octets m (i.place + 1)
  pub inst : i.inst ≡ octet m (i.place + 3) % 16

-- xs are the octets of m from `at` on
abbrev pub Sub : List ℕ → ℕ → List ℕ → Type 0
Sub m at xs = xs ≡ take (length xs) (drop at m)

pub sub-octet : (m : List ℕ) (at : ℕ) (xs : List ℕ) → Sub m at xs → (j : ℕ) → j < length xs → octet xs j ≡ octet m (at + j)
sub-octet m at xs s j l = ap (λ (l : List ℕ). octet l j) s ∙ get_or-take (length xs) (drop at m) j 0 l ∙ get_or-drop at m j 0

-- what stands from a place on
pub sub-body : (m : List ℕ) (at : ℕ) → Sub m at (drop at m)
sub-body m at = sym (take_all (length (drop at m)) (drop at m) (omega arith))

-- what is dropped of a part, and what is taken of it
part-drop : (n c : ℕ) (l : List ℕ) → drop c (take n l) ≡ take (n - c) (drop c l)
part-drop n zero l = let e : n - 0 ≡ n = omega arith in rw e
part-drop zero (suc c) l = let e : 0 - suc c ≡ 0 = omega arith in rw e
part-drop (suc n) (suc c) [] = rw (take-nil (suc n - suc c))
part-drop (suc n) (suc c) (x ∷ l) = let e : suc n - suc c ≡ n - c = omega arith in rw e (part-drop n c l)

pub sub-drop : (m : List ℕ) (at c at' : ℕ) (xs : List ℕ) → at + c ≡ at' → Sub m at xs → Sub m at' (drop c xs)
sub-drop m at c at' xs e s =
    ap (drop c) s ∙ part-drop (length xs) c (drop at m) ∙ ap (take (length xs - c)) (drop-drop c at m ∙ ap (λ (j : ℕ). drop j m) e) ∙ ap (λ (n : ℕ). take n (drop at' m)) (sym (length-drop c xs))

pub sub-take : (m : List ℕ) (at c : ℕ) (xs : List ℕ) → c ≤ length xs → Sub m at xs → Sub m at (take c xs)
sub-take m at c xs l s =
    let n : length (take c xs) ≡ c = length-take-le c xs l in
    ap (take c) s ∙ take-take c (length xs) (drop at m) l ∙ ap (λ (j : ℕ). take j (drop at m)) (sym n)

stood : (b : Book) (k v : ℕ) (ms : List ℕ) (p at : ℕ) (m xs : List ℕ) (h : Element) → At xs h → Sub m at xs → Stood m (item_of b k v ms p at h)
unfolding item_of
stood b k v ms p at m xs h a s =
    let e : h ≡ element (whole_head xs) (frames_of (value_of xs)) = at_is a in
    let f = fits a in
    let z : at + 0 ≡ at = omega arith in
    let o : octet xs 0 ≡ octet m at = rw z at (sub-octet m at xs s 0 (omega (arith, f))) in
    let o₁ : octet xs 1 ≡ octet m (at + 1) = sub-octet m at xs s 1 (omega (arith, f)) in
    let o₂ : octet xs 2 ≡ octet m (at + 2) = sub-octet m at xs s 2 (omega (arith, f)) in
    let o₃ : octet xs 3 ≡ octet m (at + 3) = sub-octet m at xs s 3 (omega (arith, f)) in
    let y : at + 1 + 1 ≡ at + 2 = omega arith in record {
      typ = ap (λ (x : Element). x.typ) e ∙ o;
      len = ap (λ (x : Element). x.len) e ∙ rw (y, o₁, o₂);
      inst = ap (λ (x : Element). x.inst) e ∙ ap (λ (x : ℕ). x % 16) o₃;
    }

faithful : {b : Book} {k v : ℕ} {ms : List ℕ} {p n at : ℕ} {xs : List ℕ} {es : List Item} → Walked b k v ms p n at xs es → (m : List ℕ) → Sub m at xs → Every (Stood m) es
unfolding Every
faithful ends m s = tt
faithful {b} {k} (alone {v = v} {m = ms} {p = p} {at = at} {xs = xs} h a e t) m s =
    (stood b k v ms p at m xs h a s, faithful t m (sub-drop m at (element_header + h.len) (at + element_header + h.len) xs (omega arith) s))
faithful {b} {k} (group {v = v} {m = ms} {p = p} {at = at} {xs = xs} {is = is} {es = es} h g a e d t) m s = (
  stood b k v ms p at m xs h a s,
  every_append (Stood m) is es (faithful d m (sub-take m (at + element_header) h.len (drop element_header xs) (omega (arith, fits a, length-drop element_header xs)) (sub-drop m at element_header (at + element_header) xs (omega arith) s)))
      (faithful t m (sub-drop m at (element_header + h.len) (at + element_header + h.len) xs (omega arith) s)),
)

pub rows-faithful : {b : Book} {k v : ℕ} {ms : List ℕ} (m : List ℕ) {es : List Item} → Walked b k v ms 0 0 (header_length m) (drop (header_length m) m) es → (r : ℕ) → r < length es → Stood m (nth es r)
rows-faithful m {es} d r l = every-at (Stood m) es (faithful d m (sub-body m (header_length m))) r l
