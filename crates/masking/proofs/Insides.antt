-- The values inside a void row cleared one after another: what is left to clear, in what is cleared so far, is the whole. Assumes nothing.
--     empty-begins, again, empty-ends   the loop over them        four-left, fits   each has its header and its value before the end
use mathlib.Core.Path.{◌≡◌, refl, sym, ap, ◌∙◌}
use mathlib.Core.List.{List}
use Prim.Native.Nat.{ℕ, ◌+◌, ◌-◌, ◌≤◌, ◌<◌}
use native.Mathlib.Omega.{arith}
use native.Mathlib.Nat.{add-zero, sub-zero}
use lib.ListN.{length, drop, length-take, length-drop}
use lib.Seq.{get_or-take, get_or-drop, take-length}
use Rattle.rules.specs.Framing.{element_header, head_of}
use Rattle.rules.specs.Frames.{Frame, frames_of}
use Rattle.rules.specs.Covered.{zeroed, inside_cleared}
use Rattle.rules.specs.declared.Head.{Head}
use Rattle.rules.proofs.Heads.{head-is}
use Rattle.rules.proofs.Frames.{Filled, none, more, First, filled-first, fills, frames-of, head-some}
use Rattle.rules.proofs.Unseen.{Lies, lies-drop, lies-take, lies-is}
use Rattle.scratch.specs.Guessing.{Two}
use Rattle.masking.specs.Clearing.{between, Inside}

-- the values before `at` are cleared, and elements fill what is left up to e
pub record Emptying (m : List ℕ) (a e : ℕ) (copy copy' : List ℕ) (at : ℕ) : Type 0 where
  pub most : at ≤ e
  pub long : length copy' ≡ length copy
  pub frames : List Frame
  pub filled : Filled (between m at e) frames
  pub goes : inside_cleared copy' at frames ≡ inside_cleared copy a (frames_of (between m a e))

pub empty-begins : (m : List ℕ) (a e : ℕ) (copy : List ℕ) → Inside m a e (length copy) → Emptying m a e copy copy a
empty-begins m a e copy i =
    let d = fills (length (between m a e)) (between m a e) (omega arith) i.fills in
    record { most = i.begins; long = refl; frames = _; filled = d; goes = ap (inside_cleared copy a) (sym (frames-of d)) }

nothing_left : (xs : List ℕ) (fs : List Frame) → Filled xs fs → length xs ≡ 0 → (c : List ℕ) (at : ℕ) → inside_cleared c at fs ≡ c
unfolding inside_cleared
nothing_left xs fs none l c at = refl
nothing_left xs fs (more w d) l c at = absurd (omega (arith, head-some xs w))

pub empty-ends : {m copy copy' : List ℕ} {a e at : ℕ} → Emptying m a e copy copy' at → e ≤ at → copy' ≡ inside_cleared copy a (frames_of (between m a e))
empty-ends {m} {copy} {copy'} {a} {e} {at} s l =
    sym (nothing_left (between m at e) s.frames s.filled (simp (length-take, length-drop) (omega arith)) copy' at) ∙ s.goes

-- one element further
between-length : (m : List ℕ) (at e : ℕ) → e ≤ length m → length (between m at e) ≡ e - at
between-length m at e h = simp (length-take, length-drop) (omega arith)

between-lies : (m : List ℕ) (at e : ℕ) → at ≤ length m → Lies m at (between m at e)
between-lies m at e h = lies-take (record { ends = simp length-drop (omega arith); same = λ j u. get_or-drop at m j 0 }) (e - at)

between-drop : (m : List ℕ) (at e c : ℕ) → at + c ≤ e → e ≤ length m → drop c (between m at e) ≡ between m (at + c) e
between-drop m at e c l h =
    let n : length (drop c (between m at e)) ≡ e - (at + c) = rw (length-drop c (between m at e), between-length m at e h) (omega arith) in
    let there = lies-drop (between-lies m at e (omega arith)) c (omega (arith, between-length m at e h)) in
    rw (sym (take-length (drop c (between m at e))), n) (lies-is there (e - (at + c)) (omega (arith, n)))

module _ {m : List ℕ} {a e : ℕ} {copy copy' : List ℕ} {at : ℕ} (s : Emptying m a e copy copy' at) (l : at < e) (end : e ≤ length m) where
  size : length (between m at e) ≡ e - at
  size = between-length m at e end

  one : First (between m at e) s.frames
  one = filled-first s.filled (omega (arith, size))

  room : element_header + (head_of (between m at e)).len ≤ e - at
  room = rw size at (head-some (between m at e) one.whole)

  -- before its header is read there is room for it
  pub four-left : at + 4 ≤ e
  four-left = omega (arith, room)

  module _ (len : ℕ) (two : Two m (at + 1) len) where
    -- the length in the header
    head-len : (head_of (between m at e)).len ≡ len
    head-len =
        let i₁ : 1 < e - at = omega (arith, room) in
        let i₂ : 2 < e - at = omega (arith, room) in
        let k : at + 2 ≡ at + 1 + 1 = omega arith in
        ap (λ (x : Head). x.len) (head-is (between m at e) one.whole)
        ∙ rw (get_or-take (e - at) (drop at m) 1 0 i₁, get_or-take (e - at) (drop at m) 2 0 i₂, get_or-drop at m 1 0, get_or-drop at m 2 0, k) (sym two.is)

    pub fits : at + 4 + len ≤ e
    fits = omega (arith, room, head-len)

    pub again : (d : List ℕ) → length d ≡ length copy' → d ≡ zeroed copy' (at + 4 + 0) (len - 0) → Emptying m a e copy d (at + 4 + len)
    unfolding inside_cleared
    again x lx is =
        let c : at + (element_header + len) ≡ at + 4 + len = omega arith in
        let d : Filled (drop (element_header + len) (between m at e)) one.others = rw head-len at one.rest in
        let g = rw (one.is, head-len) at s.goes in
        record {
          most = fits;
          long = lx ∙ s.long;
          frames = one.others;
          filled = rw (between-drop m at e (element_header + len) (omega (arith, fits)) end, c) at d;
          goes = rw (is, add-zero, sub-zero) g;
        }
