-- One row cleared. Assumes nothing.
--     row_open, row-void   one row: its own value, and the values inside it if it is void
use mathlib.Core.Path.{◌≡◌, ◌∙◌}
use mathlib.Core.List.{List}
use Prim.Native.Nat.{ℕ, ◌+◌, ◌-◌}
use native.Mathlib.Omega.{arith}
use borrow.Author.Tests.{eq-eqb, ne_eqb}
use Rattle.rules.specs.Frames.{frames_of}
use Rattle.rules.specs.Standing.{void}
use Rattle.rules.specs.Covered.{open_octets, zeroed, inside_cleared}
use Rattle.masking.specs.Clearing.{number, between, cleared_row, Inside, RowWithin, Within}

-- by its place, its length and how many of its octets stay
module _ (rows m : List ℕ) (i : ℕ) (copy d : List ℕ) {place len shown : ℕ} (p : place ≡ number rows i 3) (n : len ≡ number rows i 4)
    (s : shown ≡ open_octets (number rows i 1) (number rows i 5) len) (e : d ≡ zeroed copy (place + shown) (len - shown)) where
  pub row_open : (number rows i 5 ≡ void → ⊥) → d ≡ cleared_row rows m i copy
  unfolding cleared_row inside_cleared
  row_open v = e ∙ rw (s, p, n, ne_eqb (number rows i 5) void v)

  pub row-void : number rows i 5 ≡ void → (d' : List ℕ) → d' ≡ inside_cleared d place (frames_of (between m place (place + len))) → d' ≡ cleared_row rows m i copy
  unfolding cleared_row
  row-void v d' e' =
      let k : number rows i 3 + number rows i 4 - number rows i 3 ≡ number rows i 4 = omega arith in
      e' ∙ rw (e, s, p, n, eq-eqb (number rows i 5) void v, k)

pub row_inside : {rows m : List ℕ} {i room place len : ℕ} → RowWithin rows m i room → place ≡ number rows i 3 → len ≡ number rows i 4 → number rows i 5 ≡ void
    → (room' : ℕ) → room' ≡ room → Inside m place (place + len) room'
row_inside {rows} {m} {i} w p n z room' e =
    let k : number rows i 3 + number rows i 4 - number rows i 3 ≡ number rows i 4 = omega arith in
    rw (p, n) (record { begins = omega arith; ends = w.sent; within = omega (arith, w.ends); few = w.few; fills = rw k (w.fills z) })

-- a copy of the same length
pub within_same : {rows m : List ℕ} {n room room' : ℕ} → Within rows m n room → room' ≡ room → Within rows m n room'
within_same w e = rw e w
