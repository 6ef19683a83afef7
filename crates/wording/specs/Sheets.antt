-- A sheet: a lent buffer, and where its next octet goes. Assumes nothing.
use Rattle.std.specs.Prelude.{◌≡◌, ℕ, List}
use Rattle.std.specs.Borrow.{MutBor}
use Rattle.wording.specs.declared.Sheet.{Sheet}
use Rattle.wording.specs.Puts.{Puts}

-- a sheet over a buffer from a place on, as it was lent
pub record Over (buffer : MutBor (List ℕ)) (at₀ : ℕ) (s : Sheet) : Type 0 where
  pub same : s.out.ghost_name ≡ buffer.ghost_name
  pub start : s.at ≡ at₀
  pub kept : s.out.now ≡ buffer.now

-- the text is put on a sheet, which stays over its buffer
pub record Writes (text : List ℕ) (old new : Sheet) : Type 0 where
  pub same : new.out.ghost_name ≡ old.out.ghost_name
  pub put : Puts text old.at old.out.now new.at new.out.now
