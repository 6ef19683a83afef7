-- A count over a value's frames, one element after another, and that it is what the listings' limits ask. Assumes nothing.
--     crowd-none, crowd-cut, crowd-more   one turn          over-is   a limited line is over its limit where its value is crowded
use mathlib.Core.Path.{◌≡◌, refl, sym, ap, ◌∙◌}
use mathlib.Core.Bool.{Bool, true, false, cond, not, ◌&&◌, ◌||◌, or-false}
use mathlib.Core.List.{List, [], ◌∷◌}
use Prim.Native.Nat.{ℕ, zero, suc, ◌+◌, ◌≤◌, ◌<◌}
use native.Mathlib.Omega.{arith}
use native.Mathlib.Nat.{add-zero, zero-add}
use borrow.Author.Tests.{eqb-true}
use lib.Dec.{eqb, ltb}
use lib.ListN.{length, drop, get_or, length-drop}
use lib.Seq.{drop-drop}
use Rattle.rules.specs.Framing.{element_header, head_of, no_head}
use Rattle.rules.specs.Listings.{Limit, Line, empty_line, levels, book, listing}
use Rattle.rules.specs.Frames.{filled_by, frames_by, frames_of, tally, exceeds}
use Rattle.rules.specs.Sound.{every_line, no_limits, is_free}
use Rattle.rules.specs.declared.Head.{Head}
use Rattle.rules.proofs.Lines.{and_left, and_right, every-line-at}
use Rattle.rules.proofs.Frames.{frames-enough}
use Rattle.rules.proofs.Walks.{rest_shorter}
use Rattle.rules.proofs.Covers.{free-exceeds}
use Rattle.taking.specs.Frames.{apn, most_apns, crowd_from, crowd, only_apns, apns_alone, IsApn}
use Rattle.taking.specs.Held.{Looked, Stands}

-- ---- one turn

pub crowd-none : (n : ℕ) (xs : List ℕ) → length xs ≡ 0 → crowd_from n xs ≡ ltb most_apns n
unfolding crowd_from filled_by frames_by tally
crowd-none n [] e = rw add-zero
crowd-none n (x ∷ xs) e = absurd (omega arith)

pub crowd-cut : (n : ℕ) (xs : List ℕ) → 0 < length xs → (head_of xs).whole ≡ false → crowd_from n xs ≡ false
unfolding crowd_from filled_by
crowd-cut n [] l e = absurd (omega arith)
crowd-cut n (x ∷ xs) l e = rw e

pub crowd-more : (n : ℕ) (xs : List ℕ) → 0 < length xs → (head_of xs).whole ≡ true
    → crowd_from n xs ≡ crowd_from (n + cond (eqb (head_of xs).typ apn && eqb (head_of xs).inst 0) 1 0) (drop (element_header + (head_of xs).len) xs)
unfolding crowd_from filled_by frames_by tally
crowd-more n [] l e = absurd (omega arith)
crowd-more n (x ∷ xs) l e =
    let ys = drop (element_header + (head_of (x ∷ xs)).len) (x ∷ xs) in
    let s = rest_shorter (head_of (x ∷ xs)).len (x ∷ xs) (omega arith) in
    let r = frames-enough (length xs) (length ys) ys (omega (arith, s)) (omega arith) in
    rw (e, r.0, r.1) (ap (λ (z : ℕ). filled_by (length ys) ys && ltb most_apns z) (go (eqb (head_of (x ∷ xs)).typ apn && eqb (head_of (x ∷ xs)).inst 0) (tally apn 0 (frames_by (length ys) ys))))
  where
    go : (c : Bool) (k : ℕ) → n + cond c (suc k) k ≡ n + cond c 1 0 + k
    go true k = omega arith
    go false k = omega arith

-- what a turn knows
pub record Crowding (value : List ℕ) (at n : ℕ) : Type 0 where
  pub passed : at ≤ length value
  pub few : n ≤ at
  pub goes : crowd_from n (drop at value) ≡ crowd value

pub crowd-begins : (value : List ℕ) → Crowding value 0 0
unfolding crowd
crowd-begins value = record { passed = omega arith; few = omega arith; goes = refl }

module _ {value : List ℕ} {at n : ℕ} (s : Crowding value at n) where
  pub crowd-ends : length value ≤ at → ltb most_apns n ≡ crowd value
  crowd-ends l = sym (crowd-none n (drop at value) (simp length-drop (omega arith))) ∙ s.goes

  module _ (l : at < length value) where
    pos : 0 < length (drop at value)
    pos = simp length-drop (omega arith)

    pub crowd-breaks : Looked value at no_head → false ≡ crowd value
    crowd-breaks k = sym (crowd-cut n (drop at value) pos (ap (λ (x : Head). x.whole) (sym k.is))) ∙ s.goes

    pub crowd-turns : {h : Head} → Stands value at h → {r : ℕ} → IsApn h.typ h.inst r → Crowding value (at + (4 + h.len)) (n + r)
    crowd-turns {h} k {r} a =
        let e = crowd-more n (drop at value) pos (ap (λ (x : Head). x.whole) (sym k.looked.is) ∙ k.whole) in
        let d = drop-drop (4 + h.len) at value in
        record {
          passed = omega (arith, k.looked.lies k.whole);
          few = omega (arith, s.few, a.low);
          goes = rw a.is (sym (rw (← k.looked.is, d) at e) ∙ s.goes);
        }

-- ---- the limits of the listings

apns-only : apns_alone book.levels ≡ true
unfolding book levels apns_alone every_line
apns-only = refl

levels-apns : (lss : List (List Line)) → apns_alone lss ≡ true → (v j : ℕ) → j < length (get_or lss v []) → only_apns (get_or (get_or lss v []) j empty_line).limits ≡ true
unfolding apns_alone
levels-apns [] e v j h = absurd (omega arith)
levels-apns (ls ∷ lss) e zero j h = every-line-at (λ l. only_apns l.limits) ls (and_left (every_line (λ l. only_apns l.limits) ls) (apns_alone lss) e) j h
levels-apns (ls ∷ lss) e (suc v) j h = levels-apns lss (and_right (every_line (λ l. only_apns l.limits) ls) (apns_alone lss) e) v j h

pub line-apns : (v j : ℕ) → j < length (listing book v) → only_apns (get_or (listing book v) j empty_line).limits ≡ true
unfolding listing
line-apns v j h = levels-apns book.levels apns-only v j h

over-apns : (ls : List Limit) (xs : List ℕ) → only_apns ls ≡ true → no_limits ls ≡ false → crowd xs ≡ exceeds ls (frames_of xs)
unfolding exceeds frames_of crowd crowd_from tally
over-apns [] xs e f = let z : ◌≡◌ {A = ℕ} 0 1 = cc in absurd (omega arith)
over-apns (l ∷ []) xs e f =
    let c = and_left (eqb l.typ apn && eqb l.inst 0) (eqb l.most most_apns) e in
    let t : l.typ ≡ apn = eqb-true l.typ apn (and_left (eqb l.typ apn) (eqb l.inst 0) c) in
    let i : l.inst ≡ 0 = eqb-true l.inst 0 (and_right (eqb l.typ apn) (eqb l.inst 0) c) in
    let m : l.most ≡ most_apns = eqb-true l.most most_apns (and_right (eqb l.typ apn && eqb l.inst 0) (eqb l.most most_apns) e) in
    rw (t, i, m) (go (filled_by (length xs) xs))
  where
    go : (z : Bool) → z && ltb most_apns (0 + tally apn 0 (frames_by (length xs) xs)) ≡ ltb most_apns (tally apn 0 (cond z (frames_by (length xs) xs) [])) || false
    go true = rw (zero-add, or-false)
    go false = refl
over-apns (l ∷ (l' ∷ ls)) xs e f = let z : ◌≡◌ {A = ℕ} 0 1 = cc in absurd (omega arith)

-- what the code tests of a line and a value is whether the value holds more than the line lets stand
pub over-is : (v j : ℕ) → j < length (listing book v) → (xs : List ℕ)
    → not (is_free (get_or (listing book v) j empty_line)) && crowd xs ≡ exceeds (get_or (listing book v) j empty_line).limits (frames_of xs)
over-is v j h xs = go (is_free (get_or (listing book v) j empty_line)) refl
  where
    go : (c : Bool) → no_limits (get_or (listing book v) j empty_line).limits ≡ c → not c && crowd xs ≡ exceeds (get_or (listing book v) j empty_line).limits (frames_of xs)
    go true e = sym (free-exceeds (get_or (listing book v) j empty_line).limits (frames_of xs) e)
    go false e = over-apns (get_or (listing book v) j empty_line).limits xs (line-apns v j h) e
