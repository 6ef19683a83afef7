-- What `head_of` finds at a position of a list, by what the code reads of the octets from there on. Assumes nothing.
use mathlib.Core.Path.{◌≡◌, refl, sym, ap, ◌∙◌}
use mathlib.Core.Bool.{true}
use mathlib.Core.List.{List}
use Prim.Native.Nat.{ℕ, ◌-◌, ◌%◌, ◌≤◌, ◌<◌}
use native.Mathlib.Omega.{arith}
use borrow.Author.Tests.{le-leb, lt-leb, eq-eqb, ne_eqb}
use lib.ListN.{length, take, drop, get_or, length-drop}
use lib.Seq.{get_or-drop, take_all}
use Rattle.rules.specs.Framing.{head_of, no_head, value_length, first_octet}
use Rattle.rules.specs.declared.Head.{Head}
use Rattle.taking.specs.Held.{Looked, Stands}

-- the octets from a place on, as they are lent
pub rest-is : (xs : List ℕ) (at : ℕ) → take (length xs - at) (drop at xs) ≡ drop at xs
rest-is xs at = take_all (length xs - at) (drop at xs) (simp length-drop (omega arith))

module _ (xs : List ℕ) (at : ℕ) where
  abbrev ys : List ℕ
  ys = take (length xs - at) (drop at xs)

  e : ys ≡ drop at xs
  e = rest-is xs at

  -- no whole element stands there
  none : no_head ≡ head_of ys → Looked xs at no_head
  none h = record { is = h ∙ ap head_of e; lies = λ z. let y : ◌≡◌ {A = ℕ} 0 1 = cc in absurd (omega arith); inst = omega arith }

  pub look-few : length ys < 4 → Looked xs at no_head
  unfolding head_of
  look-few h = none (simp (lt-leb _ _ h))

  module _ (len : ℕ) (le : 4 ≤ length ys) (hl : len ≡ value_length ys) where
    after-header : length (take (length ys - 4) (drop 4 ys)) ≡ length ys - 4
    after-header = ap length (rest-is ys 4) ∙ simp length-drop

    pub look-long : length (take (length ys - 4) (drop 4 ys)) < len → Looked xs at no_head
    unfolding head_of
    look-long h =
        let l : length ys - 4 < value_length ys = rw (← hl, ← after-header) h in
        none (simp (le-leb _ _ le, lt-leb _ _ l))

    module _ (fits : len ≤ length (take (length ys - 4) (drop 4 ys))) where
      here : (first : ℕ) → first ≡ first_octet ys → Stands xs at (record { whole = true; typ = get_or ys 0 0; inst = get_or ys 3 0 % 16; len = len; first = first })
      unfolding head_of
      here first f =
          let l : value_length ys ≤ length ys - 4 = rw (← hl, ← after-header) fits in
          let n : length ys ≡ length xs - at = ap length e ∙ simp length-drop in
          let raw : ◌≡◌ {A = Head} (head_of ys) (record { whole = true; typ = get_or ys 0 0; inst = get_or ys 3 0 % 16; len = value_length ys; first = first_octet ys })
          = simp (le-leb _ _ le, le-leb _ _ l) in
          record {
            looked = record { is = rw (hl, f) (sym raw ∙ ap head_of e); lies = λ w. omega arith; inst = omega arith };
            whole = refl;
          }

      pub look-empty : len ≡ 0 → Stands xs at (record { whole = true; typ = get_or ys 0 0; inst = get_or ys 3 0 % 16; len = len; first = 0 })
      look-empty z = here 0 (rw (eq-eqb _ _ (sym hl ∙ z)))

      pub look-full : (len ≡ 0 → ⊥)
          → Stands xs at (record { whole = true; typ = get_or ys 0 0; inst = get_or ys 3 0 % 16; len = len; first = get_or (take (length ys - 4) (drop 4 ys)) 0 0 })
      look-full z = here (get_or (take (length ys - 4) (drop 4 ys)) 0 0) (rw (rest-is ys 4, get_or-drop) (rw (ne_eqb (value_length ys) 0 (λ w. z (hl ∙ w)))))
