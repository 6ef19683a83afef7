-- What is hidden inside a void row is what stands in its value, in the message. Assumes nothing.
--     shown, rows-shown   of the rows of a run, and of a message
use mathlib.Core.Path.{◌≡◌, refl, ap, ◌∙◌}
use mathlib.Core.Bool.{Bool, true, false, cond}
use mathlib.Core.List.{List, []}
use Prim.Native.Nat.{ℕ, ◌+◌, ◌≤◌, ◌<◌}
use native.Mathlib.Omega.{arith}
use borrow.Author.Tests.{eqb-true}
use lib.Dec.{eqb}
use lib.ListN.{length, take, drop, get_or, length-take, length-drop}
use lib.Seq.{get_or-take, get_or-drop, ext_get_or}
use Rattle.rules.specs.Framing.{element_header, header_length}
use Rattle.rules.specs.Listings.{Book}
use Rattle.rules.specs.Frames.{Element, frames_of}
use Rattle.rules.specs.Standing.{Item, void, value_place, item_of, standing, line_in}
use Rattle.rules.specs.Taking.{whole, taken}
use Rattle.rules.specs.Met.{At, Met, ends, alone, group}
use Rattle.rules.specs.Sound.{sound}
use Rattle.rules.proofs.Heads.{at-within, fits}
use Rattle.rules.proofs.Frames.{Filled, over-filled, span, filled-span}
use Rattle.rules.proofs.Rows.{Every, every_append, body-met}
use Rattle.rules.proofs.Covers.{void-over}

-- the octets xs stand in m from `at` on
pub record Lies (m : List ℕ) (at : ℕ) (xs : List ℕ) : Type 0 where
  pub ends : at + length xs ≤ length m
  pub same : (j : ℕ) → j < length xs → get_or xs j 0 ≡ get_or m (at + j) 0

module _ {m : List ℕ} {at : ℕ} {xs : List ℕ} (l : Lies m at xs) where
  pub lies-drop : (c : ℕ) → c ≤ length xs → Lies m (at + c) (drop c xs)
  lies-drop c h = record {
    ends = simp length-drop (omega (arith, l.ends));
    same = λ j u. let e : at + c + j ≡ at + (c + j) = omega arith in rw (get_or-drop c xs j 0, e) (l.same (c + j) (omega (arith, length-drop c xs)));
  }

  pub lies-take : (c : ℕ) → Lies m at (take c xs)
  lies-take c = record {
    ends = simp length-take (omega (arith, l.ends));
    same = λ j u. rw (get_or-take c xs j 0 (omega (arith, length-take c xs))) (l.same j (omega (arith, length-take c xs)));
  }

  pub lies-is : (n : ℕ) → n ≤ length xs → take n xs ≡ take n (drop at m)
  lies-is n h =
      ext_get_or 0 (take n xs) (take n (drop at m)) (rw (length-take n xs, length-take n (drop at m), length-drop at m) (omega (arith, l.ends)))
      (λ j u. let i : j < n = omega (arith, length-take n xs) in
      rw (get_or-take n xs j 0 i, get_or-take n (drop at m) j 0 i, get_or-drop at m j 0) (l.same j (omega arith)))

-- the octets of a row's value
abbrev pub value_in : List ℕ → Item → List ℕ
value_in m i = take i.len (drop (value_place i) m)

pub record Shown (m : List ℕ) (i : Item) : Type 0 where
  pub hidden : i.hidden ≡ cond (eqb i.stand void) (frames_of (value_in m i)) []
  pub fills : i.stand ≡ void → Filled (value_in m i) (frames_of (value_in m i))

pub shown-holds : {m : List ℕ} {i : Item} → Shown m i → span i.hidden ≤ i.len
unfolding span
shown-holds {m} {i} x = rw x.hidden (go (eqb i.stand void) refl)
  where
    go : (c : Bool) → eqb i.stand void ≡ c → span (cond (eqb i.stand void) (frames_of (value_in m i)) []) ≤ i.len
    go true e = rw e (omega (arith, filled-span (x.fills (eqb-true _ _ e)), length-take i.len (drop (value_place i) m)))
    go false e = rw e (omega arith)

module _ (b : Book) (fine : sound b ≡ true) (k : ℕ) (m : List ℕ) where
  one-shown : (v : ℕ) (s : List ℕ) (p at : ℕ) {xs : List ℕ} (h : Element) → At xs h → Lies m at xs → Shown m (item_of b k v s p at h)
  unfolding item_of
  one-shown v s p at {xs} h a l = record { hidden = go (eqb (standing b k v s h) void) refl; fills = filled }
    where
      value : take h.len (drop element_header xs) ≡ take h.len (drop (at + element_header) m)
      value = lies-is (lies-drop l element_header (omega (arith, fits a))) h.len (simp length-drop (omega (arith, fits a)))

      go : (c : Bool) → eqb (standing b k v s h) void ≡ c
          → cond (eqb (standing b k v s h) void) h.within [] ≡ cond (eqb (standing b k v s h) void) (frames_of (take h.len (drop (at + element_header) m))) []
      go true e = rw e (at-within a ∙ ap frames_of value)
      go false e = rw e

      filled : standing b k v s h ≡ void → Filled (take h.len (drop (at + element_header) m)) (frames_of (take h.len (drop (at + element_header) m)))
      filled e = rw value at (over-filled (line_in b k v h).limits (take h.len (drop element_header xs)) (rw (at-within a) at (void-over b fine k v s h e)))

  pub shown : {v : ℕ} {s : List ℕ} {p n at : ℕ} {xs : List ℕ} {es : List Item} → Met b k v s p n at xs es → Lies m at xs → Every (Shown m) es
  unfolding Every
  shown ends l = tt
  shown (alone {v = v} {m = s} {p = p} {at = at} h a e t) l =
      let c : at + (element_header + h.len) ≡ at + element_header + h.len = omega arith in
      (one-shown v s p at h a l, shown t (rw c at (lies-drop l (element_header + h.len) (fits a))))
  shown (group {v = v} {m = s} {p = p} {at = at} {is = is} {es = es} h g a e d t) l =
      let c : at + (element_header + h.len) ≡ at + element_header + h.len = omega arith in (
        one-shown v s p at h a l,
        every_append (Shown m) is es
            (shown d (lies-take (lies-drop l element_header (omega (arith, fits a))) h.len))
            (shown t (rw c at (lies-drop l (element_header + h.len) (fits a)))),
      )

  pub rows-shown : (es : List Item) → taken b k m ≡ whole es → header_length m ≤ length m → Every (Shown m) es
  rows-shown es e h =
      shown (body-met b k m es e)
      (record { ends = simp length-drop (omega arith); same = λ j u. get_or-drop (header_length m) m j 0 })
