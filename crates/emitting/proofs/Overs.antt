-- Octets laid over a part of a buffer: a row after a row. Assumes nothing.
use mathlib.Core.Path.{◌≡◌, sym, ap, ◌∙◌}
use mathlib.Core.Bool.{Bool, true, false}
use mathlib.Core.List.{List, [], ◌++◌, append_assoc, append-nil}
use Prim.Native.Nat.{ℕ, ◌+◌, ◌-◌, ◌≤◌, ◌<◌}
use native.Mathlib.Omega.{arith}
use native.Mathlib.Nat.{add-zero}
use borrow.Rule.Slice.PartMut.{put_mid}
use borrow.Author.Tests.{eq-eqb}
use lib.ListN.{length, take, drop, length-append, length-drop, take-append-drop}
use lib.Seq.{length-take-le, take_at, drop_at, drop-drop}
use Rattle.rules.specs.Types.{is_group}
use Rattle.rules.specs.Emitting.{head_octets}
use Rattle.emitting.proofs.Puts.{one_less}
use Rattle.emitting.specs.Emits.{number, inside_in, length_in, last_in, headed, valued, part_within, parts_in, over, PutsRow, PutRow, PutsRows}

-- what stands before the end of what was laid, and after it
front_of : (out : List ℕ) (at : ℕ) (xs : List ℕ) → at + length xs ≤ length out → take (at + length xs) (over out at xs) ≡ take at out ++ xs
front_of out at xs l =
    let e : take at out ++ (xs ++ drop (at + length xs) out) ≡ take at out ++ xs ++ drop (at + length xs) out = sym (append_assoc (take at out) xs (drop (at + length xs) out)) in
    rw e (take_at (take at out ++ xs) (drop (at + length xs) out) (at + length xs) (omega (arith, length-append (take at out) xs, length-take-le at out (omega arith))))

back-of : (out : List ℕ) (at : ℕ) (xs : List ℕ) (n : ℕ) → at + length xs ≤ length out → drop (at + length xs + n) (over out at xs) ≡ drop (at + length xs + n) out
back-of out at xs n l =
    let e : take at out ++ (xs ++ drop (at + length xs) out) ≡ take at out ++ xs ++ drop (at + length xs) out = sym (append_assoc (take at out) xs (drop (at + length xs) out)) in
    let s : length (take at out ++ xs) ≡ at + length xs = omega (arith, length-append (take at out) xs, length-take-le at out (omega arith)) in
    rw e (sym (drop-drop n (at + length xs) (take at out ++ xs ++ drop (at + length xs) out))
    ∙ ap (drop n) (drop_at (take at out ++ xs) (drop (at + length xs) out) (at + length xs) s)
    ∙ drop-drop n (at + length xs) out)

pub over-over : (out : List ℕ) (at : ℕ) (xs ys : List ℕ) → at + length xs + length ys ≤ length out
    → over (over out at xs) (at + length xs) ys ≡ over out at (xs ++ ys)
over-over out at xs ys l =
    let n : length (xs ++ ys) ≡ length xs + length ys = length-append xs ys in
    let m : at + length (xs ++ ys) ≡ at + length xs + length ys = omega arith in
    rw (front_of out at xs (omega arith), back-of out at xs (length ys) (omega arith), m)
    (append_assoc (take at out) xs (ys ++ drop (at + length xs + length ys) out)
    ∙ ap (λ (zs : List ℕ). take at out ++ zs) (sym (append_assoc xs ys (drop (at + length xs + length ys) out))))

pub over_none : (out : List ℕ) (at : ℕ) → out ≡ over out at []
over_none out at = let e : at + 0 ≡ at = add-zero at in rw e (sym (take-append-drop at out))

pub over-length : (out : List ℕ) (at : ℕ) (xs : List ℕ) → at + length xs ≤ length out → length (over out at xs) ≡ length out
over-length out at xs l =
    omega (arith, length-append (take at out) (xs ++ drop (at + length xs) out), length-append xs (drop (at + length xs) out), length-take-le at out (omega arith), length-drop (at + length xs) out)

-- a part of a source, copied over a part of a buffer
pub laid-over : (source : List ℕ) (place len : ℕ) (out : List ℕ) (at : ℕ) {xs : List ℕ} → xs ≡ take (place + len - place) (drop place source)
    → put_mid at (at + len - at) out xs ≡ valued source place len out at
laid-over source place len out at {xs} e =
    let a : at + len - at ≡ len = omega arith in
    let p : place + len - place ≡ len = omega arith in
    rw (a, e, p, drop-drop len at out)

-- ---- one row

pub length-value : (rows : List ℕ) (n count : ℕ) → is_group (number rows n 1) ≡ false → (x : ℕ) → x ≡ number rows n 4 → x ≡ length_in rows n count
length-value rows n count g x e = rw g e

pub length-group : (rows : List ℕ) (n count : ℕ) → is_group (number rows n 1) ≡ true → (x : ℕ) → x ≡ inside_in rows n count → x ≡ length_in rows n count
length-group rows n count g x e = rw g e

module _ (rows : List ℕ) (n count : ℕ) (source : List ℕ) (own : Bool) (out : List ℕ) (at : ℕ) where
  part-value : number rows n 5 ≡ 0 → is_group (number rows n 1) ≡ false
      → part_within rows n count source own ≡ head_octets (number rows n 1) (length_in rows n count) (last_in rows n source own) ++ take (number rows n 4) (drop (number rows n 3) source)
  part-value z g = rw (eq-eqb (number rows n 5) 0 z, g)

  pub put-value : number rows n 5 ≡ 0 → is_group (number rows n 1) ≡ false → (len end place : ℕ) → len ≡ length_in rows n count → end ≡ last_in rows n source own → place ≡ number rows n 3
      → number rows n 3 + number rows n 4 ≤ length source → at + length (part_within rows n count source own) ≤ length out
      → (out₁ out₂ : List ℕ) → out₁ ≡ headed out at (number rows n 1) len end → out₂ ≡ valued source place len out₁ (at + 4) → PutRow rows n count source own out at (at + 4 + len) out₂
  put-value z g len end place e f p there room out₁ out₂ h q =
      let l4 : len ≡ number rows n 4 = e ∙ rw g in
      let vs : length (take (number rows n 4) (drop (number rows n 3) source)) ≡ number rows n 4 = length-take-le (number rows n 4) (drop (number rows n 3) source) (omega (arith, length-drop (number rows n 3) source)) in
      let hs : List ℕ = head_octets (number rows n 1) (length_in rows n count) (last_in rows n source own) in
      let part = part-value z g in
      let size : length (part_within rows n count source own) ≡ 4 + number rows n 4 = ap length part ∙ omega (arith, vs) in
      let oo : over (over out at (head_octets (number rows n 1) (length_in rows n count) (last_in rows n source own))) (at + 4) (take (number rows n 4) (drop (number rows n 3) source))
      ≡ over out at (head_octets (number rows n 1) (length_in rows n count) (last_in rows n source own) ++ take (number rows n 4) (drop (number rows n 3) source)) =
      over-over out at (head_octets (number rows n 1) (length_in rows n count) (last_in rows n source own)) (take (number rows n 4) (drop (number rows n 3) source)) (omega (arith, vs, size, room)) in
      record {
        next = omega (arith, size, l4);
        left = q ∙ same-value source place (number rows n 3) len (number rows n 4) out₁ (over out at (head_octets (number rows n 1) (length_in rows n count) (last_in rows n source own))) (at + 4) p l4 (h ∙ rw (e, f)) vs ∙ oo ∙ ap (over out at) (sym part);
      }
    where
      same-value : (source : List ℕ) (place place' len len' : ℕ) (out₁ out₂ : List ℕ) (to : ℕ) → place ≡ place' → len ≡ len' → out₁ ≡ out₂ → length (take len' (drop place' source)) ≡ len'
          → valued source place len out₁ to ≡ over out₂ to (take len' (drop place' source))
      same-value source place place' len len' out₁ out₂ to a c d s = rw (a, c, d, s)

-- ---- row after row

module _ (rows : List ℕ) (count : ℕ) (source : List ℕ) (own : Bool) where
  parts_next : (n : ℕ) → n < count → parts_in rows count source own n (count - n) ≡ part_within rows n count source own ++ parts_in rows count source own (n + 1) (count - (n + 1))
  unfolding parts_in
  parts_next n l = rw (one_less n count l)

  parts_none : (n : ℕ) → count ≤ n → parts_in rows count source own n (count - n) ≡ []
  unfolding parts_in
  parts_none n l = let e : count - n ≡ 0 = omega arith in rw e

  -- the rows before n are laid, and `front` is what they are
  pub record Putting (out₀ : List ℕ) (at : ℕ) (out : List ℕ) (to n : ℕ) : Type 0 where
    pub front : List ℕ
    pub most : n ≤ count
    pub long : length out ≡ length out₀
    pub next : to ≡ at + length front
    pub left : out ≡ over out₀ at front
    pub whole : front ++ parts_in rows count source own n (count - n) ≡ parts_in rows count source own 0 count

  module _ (out₀ : List ℕ) (at : ℕ) where
    module _ (p : PutsRows rows count source own out₀ at) where
      all-length : (out : List ℕ) (to n : ℕ) (s : Putting out₀ at out to n) → n < count
          → length s.front + length (part_within rows n count source own) ≤ length (parts_in rows count source own 0 count)
      all-length out to n s l =
          omega (
            arith,
            ap length s.whole,
            ap length (parts_next n l),
            length-append s.front (parts_in rows count source own n (count - n)),
            length-append (part_within rows n count source own) (parts_in rows count source own (n + 1) (count - (n + 1))),
          )

      pub put_asks : (out : List ℕ) (to n : ℕ) → Putting out₀ at out to n → n < count → PutsRow rows n count source own out to
      put_asks out to n s l = record { one = l; fit = p.fits n l; room = omega (arith, s.next, s.long, all-length out to n s l, p.room) }

      pub put-goes : (out : List ℕ) (to n : ℕ) → Putting out₀ at out to n → n < count → (to' : ℕ) (out' : List ℕ) → PutRow rows n count source own out to to' out' → length out' ≡ length out
          → Putting out₀ at out' to' (n + 1)
      put-goes out to n s l to' out' r long =
          let f = all-length out to n s l in
          record {
            front = s.front ++ part_within rows n count source own;
            most = omega arith;
            long = long ∙ s.long;
            next = omega (arith, r.next, s.next, length-append s.front (part_within rows n count source own));
            left = r.left ∙ rw (s.next, s.left) (over-over out₀ at s.front (part_within rows n count source own) (omega (arith, f, p.room)));
            whole = append_assoc s.front (part_within rows n count source own) (parts_in rows count source own (n + 1) (count - (n + 1)))
                ∙ ap (λ (xs : List ℕ). s.front ++ xs) (sym (parts_next n l)) ∙ s.whole;
          }

    pub put-ends : (out : List ℕ) (to n : ℕ) → Putting out₀ at out to n → count ≤ n → out ≡ over out₀ at (parts_in rows count source own 0 count)
    put-ends out to n s l =
        let e : s.front ≡ parts_in rows count source own 0 count = sym (append-nil s.front) ∙ ap (λ (xs : List ℕ). s.front ++ xs) (sym (parts_none n l)) ∙ s.whole in
        s.left ∙ ap (over out₀ at) e
