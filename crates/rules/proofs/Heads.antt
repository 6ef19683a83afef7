-- The head of an element: a whole one has its four octets and its value. Assumes nothing.
--     head-is      what a whole head says          fits          it lies in what is left
--     rest-length  how much is left after it       value-length  its value has the length that it says
use mathlib.Core.Path.{◌≡◌, refl, sym, ap, ◌∙◌}
use mathlib.Core.Bool.{Bool, true, false, cond, ◌&&◌}
use mathlib.Core.List.{List}
use Prim.Native.Nat.{ℕ, ◌+◌, ◌-◌, ◌%◌, ◌≤◌}
use native.Mathlib.Omega.{arith}
use borrow.Author.Tests.{leb-true, le-leb}
use lib.Dec.{leb}
use lib.ListN.{length, take, drop, length-take, length-drop}
use Rattle.rules.specs.Framing.{octet, element_header, value_length, first_octet, no_head, head_of}
use Rattle.rules.specs.Met.{At}
use Rattle.rules.specs.Frames.{Element, element, seen, frames_of, value_of}
use Rattle.rules.specs.declared.Head.{Head}

-- the head that stands where a whole element does
abbrev pub whole_head : List ℕ → Head
whole_head xs = record { whole = true; typ = octet xs 0; inst = octet xs 3 % 16; len = value_length xs; first = first_octet xs }

-- two octets for the type and length and so on, and the value
pub record Room (xs : List ℕ) : Type 0 where
  pub header : element_header ≤ length xs
  pub value : value_length xs ≤ length xs - element_header

both_tests : (a b : Bool) (x : Head) → (cond (a && b) x no_head).whole ≡ true → (a ≡ true) × (b ≡ true) × (cond (a && b) x no_head ≡ x)
both_tests true true x e = (refl, refl, refl)
both_tests true false x e = let z : ◌≡◌ {A = ℕ} 0 1 = cc in absurd (omega arith)
both_tests false b x e = let z : ◌≡◌ {A = ℕ} 0 1 = cc in absurd (omega arith)

pub head-is : (xs : List ℕ) → (head_of xs).whole ≡ true → head_of xs ≡ whole_head xs
unfolding head_of
head-is xs e = (both_tests (leb element_header (length xs)) (leb (value_length xs) (length xs - element_header)) (whole_head xs) e).2

pub head-room : (xs : List ℕ) → (head_of xs).whole ≡ true → Room xs
unfolding head_of
head-room xs e =
    let r = both_tests (leb element_header (length xs)) (leb (value_length xs) (length xs - element_header)) (whole_head xs) e in
    record { header = leb-true _ _ r.0; value = leb-true _ _ r.1 }

-- octets with room for what they say have a whole head
pub room_whole : (xs : List ℕ) → element_header + value_length xs ≤ length xs → head_of xs ≡ whole_head xs
unfolding head_of
room_whole xs l = rw (le-leb element_header (length xs) (omega arith), le-leb (value_length xs) (length xs - element_header) (omega arith))

-- what is seen of an element says what its head says, and what stands inside its value
module _ {xs : List ℕ} {h : Element} (a : At xs h) where
  pub at_seen : h ≡ element (head_of xs) (frames_of (value_of xs))
  unfolding seen
  at_seen = sym a.is

  pub at-whole : (head_of xs).whole ≡ true
  at-whole = sym (ap (λ (x : Element). x.whole) at_seen) ∙ a.whole

  pub at_is : h ≡ element (whole_head xs) (frames_of (value_of xs))
  at_is = at_seen ∙ ap (λ (x : Head). element x (frames_of (value_of xs))) (head-is xs at-whole)

  pub at-within : h.within ≡ frames_of (take h.len (drop element_header xs))
  at-within =
      let l : h.len ≡ (head_of xs).len = ap (λ (x : Element). x.len) at_seen in
      ap (λ (x : Element). x.within) at_seen ∙ ap (λ (n : ℕ). frames_of (take n (drop element_header xs))) (sym l)

  pub at_len : h.len ≡ value_length xs
  at_len = ap (λ (x : Element). x.len) at_seen ∙ ap (λ (x : Head). x.len) (head-is xs at-whole)

  pub fits : element_header + h.len ≤ length xs
  fits = let r = head-room xs at-whole in omega (arith, r.header, r.value, at_len)

pub rest-length : (xs : List ℕ) (n : ℕ) → element_header + n ≤ length xs → element_header + n + length (drop (element_header + n) xs) ≡ length xs
rest-length xs n h = simp length-drop (omega arith)

pub value-length : (xs : List ℕ) (n : ℕ) → element_header + n ≤ length xs → length (take n (drop element_header xs)) ≡ n
value-length xs n h = simp (length-take, length-drop) (omega arith)
