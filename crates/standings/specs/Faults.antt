-- A place with a pair as one number, of which 0 is none: which of two is given. Assumes nothing.
use Rattle.std.specs.Prelude.{ℕ, Bool, cond, ◌&&◌, eqb, leb}
use Rattle.rules.specs.Standing.{short}

-- the first stays; one is given only for a mandatory element that is short
abbrev pub first_fault : ℕ → Bool → ℕ → ℕ → ℕ
first_fault f must stand g = cond (eqb f 0 && must && eqb stand short) g f

-- the lesser of two
unfoldable pub lesser : ℕ → ℕ → ℕ
lesser f l = cond (eqb l 0) f (cond (eqb f 0) l (cond (leb f l) f l))
