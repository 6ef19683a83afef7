-- An overload report that may be void (CR 8), and the elements directly inside it. Assumes nothing.
use Rattle.std.specs.Prelude.{◌≡◌, true, List, ◌∷◌, ℕ, ◌+◌}
use Rattle.rules.specs.Framing.{element_header, message_type, head_of}
use Rattle.rules.specs.Frames.{Frame, frame_of, tally}
use Rattle.rules.specs.Values.{row_parent, row_type, row_instance}
use Rattle.verdicts.specs.Covers.{frames_in}

-- row r is of the pair 180/0, at the level of a message 67
pub record Report (m t : List ℕ) (r : ℕ) : Type 0 where
  pub message : message_type m ≡ 67
  pub level : row_parent t r ≡ 0
  pub typ : row_type t r ≡ 180
  pub inst : row_instance t r ≡ 0

-- how many elements 71/0 stand directly inside row r, short ones counted; where elements do not fill its value there are none
abbrev pub points : List ℕ → List ℕ → ℕ → ℕ
points m t r = tally 71 0 (frames_in m t r)

-- f is one of the elements that stand one after another, and c octets stand before it
pub data Inner : List Frame → ℕ → Frame → Type 0 where
  front : {f : Frame} {fs : List Frame} → Inner (f ∷ fs) 0 f
  later : {f g : Frame} {fs : List Frame} {c : ℕ} → Inner fs c f → Inner (g ∷ fs) (element_header + g.len + c) f

-- an element stands at the head of the octets, and its header says f
pub record Says (xs : List ℕ) (f : Frame) : Type 0 where
  pub whole : (head_of xs).whole ≡ true
  pub is : f ≡ frame_of (head_of xs)
