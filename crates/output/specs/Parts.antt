-- A part of a lent buffer from its start. Assumes nothing.
use Rattle.std.specs.Prelude.{◌≡◌, ℕ, List, take}
use Rattle.std.specs.Borrow.{Bor}

-- its octets, and where they stand
pub record First (text : Bor (List ℕ)) (n : ℕ) (part : Bor (List ℕ)) : Type 0 where
  pub octets : part.now ≡ take n text.now
  pub block : part.ref_ptr.0 ≡ text.ref_ptr.0
  pub place : part.ref_ptr.1 ≡ text.ref_ptr.1
