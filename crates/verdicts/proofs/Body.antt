-- The body is a level like any other, with no row behind it. Assumes nothing.
use mathlib.Core.Path.{◌≡◌, refl}
use mathlib.Core.Bool.{true}
use mathlib.Core.List.{List}
use Prim.Native.Nat.{ℕ, ◌≤◌, ◌<◌}
use native.Mathlib.Omega.{arith}
use native.Mathlib.Decide.{dec_lt, ℕ_discrete}
use lib.ListN.{length, drop, length-drop}
use Rattle.rules.specs.Framing.{header_length}
use Rattle.rules.specs.Listings.{Book}
use Rattle.rules.specs.Standing.{fresh}
use Rattle.rules.specs.Taking.{body_level}
use Rattle.rules.specs.Sound.{sound}
use Rattle.rules.specs.Values.{row_parent}
use Rattle.tables.specs.Words.{rows, row_start, CoversTo}
use Rattle.tables.specs.IsTable.{IsRows}
use Rattle.tables.proofs.Marks.{tells-fresh}
use Rattle.tables.proofs.Faithful.{sub-body}
use Rattle.tables.proofs.Trees.{start_is, backward}
use Rattle.tables.proofs.Tiling.{Next, opens}
use Rattle.verdicts.proofs.Rebuilding.{Ready}

module _ (b : Book) (fine : sound b ≡ true) (k : ℕ) (m t : List ℕ) (x : IsRows b k m t) (q : ℕ) (covers : CoversTo m t q) where
  pub in_body : (y : ℕ) → y < rows t → header_length m ≤ row_start t y
  in_body y l = go (dec_lt 0 y)
    where
      first : header_length m ≤ row_start t 0
      first =
          let z : row_parent t 0 ≡ 0 = omega (arith, backward b k m t x 0 (omega arith)) in
          rw z at (x.inside 0 (omega arith)).begins

      go : Dec (0 < y) → header_length m ≤ row_start t y
      go (yes h) = omega (arith, first, x.order 0 y h l, start_is b k m t x 0 (omega arith), start_is b k m t x y l)
      go (no h) = let z : y ≡ 0 = omega arith in rw z first

  first-row : 0 < length (drop (header_length m) m) → header_length m < q → Next t 0 (header_length m) 0
  first-row some near = go (opens b k m t x q covers 0 tt (omega (arith, some, length-drop (header_length m) m)) near)
    where
      go : (y : ℕ) × Next t 0 (header_length m) y → Next t 0 (header_length m) 0
      go (y, o) = by (ℕ_discrete y 0)
        where
          by : Dec (y ≡ 0) → Next t 0 (header_length m) 0
          by (yes d) = rw d at o
          by (no d) =
              absurd (omega (arith, x.order 0 y (omega arith) o.there, in_body 0 (omega (arith, o.there)), o.start, start_is b k m t x 0 (omega (arith, o.there)), start_is b k m t x y o.there))

  pub body-ready : Ready b fine k m t x q covers (body_level b m) 0 0 (header_length m) (drop (header_length m) m) fresh
  body-ready = record {
    level = tt;
    lev = refl;
    ends_at = omega (arith, length-drop (header_length m) m, x.has_body);
    sub = sub-body m (header_length m);
    under = omega arith;
    room = omega arith;
    next = first-row;
    later = λ y a c. in_body y c;
    tells = tells-fresh b fine k (body_level b m) t 0 0 (λ y l. absurd (omega arith));
  }
