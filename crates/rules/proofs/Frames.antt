-- Elements that fill a value, by their headers alone. Assumes nothing.
--     frames-of, over-filled   the derivation `Filled` and `framesOf` say the same
--     filled-same              octets that agree wherever no value octet of theirs stands hold the same elements
--     hides-…                  which octets of a value are value octets of an element inside
use mathlib.Core.Path.{◌≡◌, refl, sym, ap, ◌∙◌}
use mathlib.Core.Bool.{Bool, true, false, cond, ◌&&◌}
use mathlib.Core.List.{List, [], ◌∷◌}
use Prim.Native.Nat.{ℕ, zero, suc, ◌+◌, ◌-◌, ◌≤◌, ◌<◌}
use native.Mathlib.Omega.{arith}
use borrow.Author.Tests.{lt-ltb, le-ltb}
use lib.ListN.{length, drop, length-drop}
use lib.Seq.{get_or-drop}
use Rattle.rules.specs.Framing.{octet, element_header, value_length, head_of}
use Rattle.rules.specs.Listings.{Limit}
use Rattle.rules.specs.Frames.{Frame, Element, frame_of, filled_by, frames_by, frames_of, tally, exceeds, hides}
use Rattle.rules.specs.Met.{At}
use Rattle.rules.specs.declared.Head.{Head}
use Rattle.rules.proofs.Heads.{whole_head, room_whole, at_seen, at-whole, head-is, head-room, rest-length}
use Rattle.rules.proofs.Walks.{rest_shorter}

-- ---- elements one after another, to the end of the octets

pub data Filled : List ℕ → List Frame → Type 0 where
  none : Filled [] []
  more : {xs : List ℕ} {fs : List Frame} → (head_of xs).whole ≡ true → Filled (drop (element_header + (head_of xs).len) xs) fs → Filled xs (frame_of (head_of xs) ∷ fs)

pub head-some : (xs : List ℕ) → (head_of xs).whole ≡ true → element_header + (head_of xs).len ≤ length xs
head-some xs w = let r = head-room xs w in omega (arith, r.header, r.value, ap (λ (x : Head). x.len) (head-is xs w))

filled-by : {xs : List ℕ} {fs : List Frame} → Filled xs fs → (f : ℕ) → length xs ≤ f → (filled_by f xs ≡ true) × (frames_by f xs ≡ fs)
unfolding filled_by frames_by
filled-by none zero l = (refl, refl)
filled-by none (suc f) l = (refl, refl)
filled-by (more {xs = []} w d) f l = absurd (omega (arith, head-some [] w))
filled-by (more {xs = x ∷ xs} w d) zero l = absurd (omega arith)
filled-by (more {xs = x ∷ xs} w d) (suc f) l =
    let r = filled-by d f (omega (arith, rest_shorter (head_of (x ∷ xs)).len (x ∷ xs) (omega arith))) in
    (rw (w, r.0), ap (λ (gs : List Frame). frame_of (head_of (x ∷ xs)) ∷ gs) r.1)

pub all-filled : {xs : List ℕ} {fs : List Frame} → Filled xs fs → filled_by (length xs) xs ≡ true
all-filled {xs} d = (filled-by d (length xs) (omega arith)).0

pub frames-of : {xs : List ℕ} {fs : List Frame} → Filled xs fs → frames_of xs ≡ fs
unfolding frames_of
frames-of {xs} d = let r = filled-by d (length xs) (omega arith) in rw (r.0, r.1)

both : (a c : Bool) → a && c ≡ true → (a ≡ true) × (c ≡ true)
both true c e = (refl, e)
both false c e = let z : ◌≡◌ {A = ℕ} 0 1 = cc in absurd (omega arith)

pub fills : (f : ℕ) (xs : List ℕ) → length xs ≤ f → filled_by f xs ≡ true → Filled xs (frames_by f xs)
unfolding filled_by frames_by
fills zero [] l e = none
fills (suc f) [] l e = none
fills zero (x ∷ xs) l e = absurd (omega arith)
fills (suc f) (x ∷ xs) l e =
    let c = both (head_of (x ∷ xs)).whole (filled_by f (drop (element_header + (head_of (x ∷ xs)).len) (x ∷ xs))) e in
    more c.0 (fills f (drop (element_header + (head_of (x ∷ xs)).len) (x ∷ xs)) (omega (arith, rest_shorter (head_of (x ∷ xs)).len (x ∷ xs) (omega arith))) c.1)

-- the number of turns does not bear on them once there are enough
pub frames-enough : (f g : ℕ) (xs : List ℕ) → length xs ≤ f → length xs ≤ g → (filled_by f xs ≡ filled_by g xs) × (frames_by f xs ≡ frames_by g xs)
unfolding filled_by frames_by
frames-enough zero zero xs a c = (refl, refl)
frames-enough zero (suc g) [] a c = (refl, refl)
frames-enough (suc f) zero [] a c = (refl, refl)
frames-enough (suc f) (suc g) [] a c = (refl, refl)
frames-enough zero (suc g) (x ∷ xs) a c = absurd (omega arith)
frames-enough (suc f) zero (x ∷ xs) a c = absurd (omega arith)
frames-enough (suc f) (suc g) (x ∷ xs) a c =
    let s = rest_shorter (head_of (x ∷ xs)).len (x ∷ xs) (omega arith) in
    let r = frames-enough f g (drop (element_header + (head_of (x ∷ xs)).len) (x ∷ xs)) (omega (arith, s)) (omega (arith, s)) in
    (ap (λ (z : Bool). (head_of (x ∷ xs)).whole && z) r.0, ap (λ (gs : List Frame). frame_of (head_of (x ∷ xs)) ∷ gs) r.1)

-- the first of them
pub record First (xs : List ℕ) (fs : List Frame) : Type 0 where
  pub whole : (head_of xs).whole ≡ true
  pub others : List Frame
  pub rest : Filled (drop (element_header + (head_of xs).len) xs) others
  pub is : fs ≡ frame_of (head_of xs) ∷ others

pub filled-first : {xs : List ℕ} {fs : List Frame} → Filled xs fs → 0 < length xs → First xs fs
filled-first none l = absurd (omega arith)
filled-first (more {fs = gs} w d) l = record { whole = w; others = gs; rest = d; is = refl }

pub none_exceed : (ls : List Limit) → exceeds ls [] ≡ false
unfolding exceeds tally
none_exceed [] = refl
none_exceed (l ∷ ls) = rw (le-ltb l.most 0 (omega arith), none_exceed ls)

pub over-filled : (ls : List Limit) (xs : List ℕ) → exceeds ls (frames_of xs) ≡ true → Filled xs (frames_of xs)
unfolding frames_of
over-filled ls xs e = go (filled_by (length xs) xs) refl e
  where
    go : (z : Bool) → filled_by (length xs) xs ≡ z → exceeds ls (cond z (frames_by (length xs) xs) []) ≡ true → Filled xs (cond z (frames_by (length xs) xs) [])
    go true w c = fills (length xs) xs (omega arith) w
    go false w c = let y : true ≡ false = sym c ∙ none_exceed ls in let z : ◌≡◌ {A = ℕ} 0 1 = cc in absurd (omega arith)

-- the same of a whole element
abbrev pub frame_in : Element → Frame
frame_in h = record { typ = h.typ; inst = h.inst; len = h.len }

pub filled_more : {xs : List ℕ} {h : Element} {fs : List Frame} → At xs h → Filled (drop (element_header + h.len) xs) fs → Filled xs (frame_in h ∷ fs)
filled_more {xs} {h} {fs} a d =
    let e = at_seen a in
    let l : h.len ≡ (head_of xs).len = ap (λ (x : Element). x.len) e in
    let d' : Filled (drop (element_header + (head_of xs).len) xs) fs = rw l at d in
    let f : frame_of (head_of xs) ≡ frame_in h = sym (ap frame_in e) in
    rw f at (more (at-whole a) d')

-- ---- the octets that they take, and the value octets among them

unfoldable pub span : List Frame → ℕ
span [] = 0
span (f ∷ fs) = element_header + f.len + span fs

pub filled-span : {xs : List ℕ} {fs : List Frame} → Filled xs fs → span fs ≡ length xs
unfolding span
filled-span none = refl
filled-span (more {xs = xs} w d) = omega (arith, filled-span d, rest-length xs (head_of xs).len (head-some xs w))

module _ (f : Frame) (fs : List Frame) where
  pub hides-head : (j : ℕ) → j < element_header → hides (f ∷ fs) j ≡ false
  unfolding hides
  hides-head j l = rw (lt-ltb j element_header l)

  pub hides-value : (j : ℕ) → element_header ≤ j → j < element_header + f.len → hides (f ∷ fs) j ≡ true
  unfolding hides
  hides-value j l u = rw (le-ltb j element_header l, lt-ltb j (element_header + f.len) u)

  pub hides-past : (j : ℕ) → element_header + f.len ≤ j → hides (f ∷ fs) j ≡ hides fs (j - (element_header + f.len))
  unfolding hides
  hides-past j l = rw (le-ltb j element_header (omega arith), le-ltb j (element_header + f.len) l)

  pub hides-rest : (j : ℕ) → hides (f ∷ fs) (element_header + f.len + j) ≡ hides fs j
  hides-rest j =
      let e : element_header + f.len + j - (element_header + f.len) ≡ j = omega arith in hides-past (element_header + f.len + j) (omega arith) ∙ ap (hides fs) e

pub hides-first : (fs : List Frame) → hides fs 0 ≡ false
unfolding hides
hides-first [] = refl
hides-first (f ∷ fs) = refl

pub hides-beyond : (fs : List Frame) (j : ℕ) → span fs ≤ j → hides fs j ≡ false
unfolding span hides
hides-beyond [] j l = refl
hides-beyond (f ∷ fs) j l = hides-past f fs j (omega arith) ∙ hides-beyond fs (j - (element_header + f.len)) (omega arith)

-- ---- octets that agree but for the values inside

same_frame : (xs ys : List ℕ) → (head_of xs).whole ≡ true → length ys ≡ length xs → ((j : ℕ) → j < element_header → octet xs j ≡ octet ys j)
    → ((head_of ys).whole ≡ true) × (frame_of (head_of ys) ≡ frame_of (head_of xs))
same_frame xs ys w size same =
    let n : value_length ys ≡ value_length xs = rw (same 1 (omega arith), same 2 (omega arith)) in
    let e = head-is xs w in
    let e' : head_of ys ≡ whole_head ys = room_whole ys (omega (arith, head-some xs w, ap (λ (x : Head). x.len) e)) in
    (rw e', rw (e, e', n, same 0 (omega arith), same 3 (omega arith)))

pub filled-same : {xs : List ℕ} {fs : List Frame} → Filled xs fs → (ys : List ℕ) → length ys ≡ length xs
    → ((j : ℕ) → j < length xs → hides fs j ≡ false → octet xs j ≡ octet ys j) → Filled ys fs
filled-same none [] l a = none
filled-same none (y ∷ ys) l a = absurd (omega arith)
filled-same (more {xs = xs} {fs = fs} w d) ys l a =
    let n = element_header + (head_of xs).len in
    let fit = head-some xs w in
    let s = same_frame xs ys w l (λ j c. a j (omega (arith, fit)) (hides-head (frame_of (head_of xs)) fs j c)) in
    let len : (head_of ys).len ≡ (head_of xs).len = ap (λ (f : Frame). f.len) s.1 in
    let r : Filled (drop n ys) fs
    = filled-same d (drop n ys) (rw (length-drop n xs, length-drop n ys, l))
    (λ j c u. rw (get_or-drop n xs j 0, get_or-drop n ys j 0)
    (a (n + j) (omega (arith, length-drop n xs)) (hides-rest (frame_of (head_of xs)) fs j ∙ u))) in
    let r' : Filled (drop (element_header + (head_of ys).len) ys) fs = rw len r in
    rw s.1 at (more s.0 r')
