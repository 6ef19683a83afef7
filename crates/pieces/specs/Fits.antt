-- What a state that came of a start satisfies: the numbers that the sums and the marks need. Assumes nothing.
use Rattle.std.specs.Prelude.{◌≡◌, ℕ, ◌+◌, ◌≤◌, ◌<◌, true, false, List, [], ◌∷◌, length}
use Rattle.rules.specs.Sizes.{largest_message}
use Rattle.rules.specs.Framing.{element_header, value_length}
use Rattle.rules.specs.Types.{among}
use Rattle.rules.specs.Listings.{book}
use Rattle.taking.specs.Held.{Few}
use Rattle.pieces.specs.declared.Open.{Open}
use Rattle.pieces.specs.declared.Going.{Going}
use Rattle.pieces.specs.Depth.{deepest}
use Rattle.pieces.specs.Coded.{top_of}

pub record Slot (f : Open) : Type 0 where
  pub level : f.level < length book.levels
  pub parent : f.parent ≤ largest_message
  pub home : f.home ≤ largest_message

abbrev pub EachSlot : List Open → Type 0
EachSlot [] = Unit {0}
EachSlot (f ∷ fs) = Slot f × EachSlot fs

-- the octets that all of them have left, open or not
abbrev pub lefts : List Open → ℕ
lefts [] = 0
lefts (f ∷ fs) = f.left + lefts fs

pub record Sized (k : ℕ) (w : Going) : Type 0 where
  pub slots : length w.levels ≡ deepest
  pub bytes : length w.some ≡ 4
  pub deep : w.depth ≤ deepest
  pub have : w.have ≤ 4
  pub each : EachSlot w.levels
  pub ends : w.place + lefts w.levels ≤ largest_message
  pub few : Few w.counts w.place
  pub owns : w.back.rows + w.apns ≤ w.counts.rows
  pub spare : w.back.kept ≤ w.back.rows
  pub kind : 0 < w.depth → among k book.kinds ≡ true

-- a header is whole, and its value is not empty and lies in what its level has left
pub record Waiting (w : Going) : Type 0 where
  pub some : 0 < value_length w.some
  pub room : element_header + value_length w.some ≤ (top_of w).left

pub record Fits (k : ℕ) (w : Going) : Type 0 where
  pub sized : Sized k w
  pub wait : w.stopped ≡ false → 0 < w.depth → w.have ≡ 4 → Waiting w
