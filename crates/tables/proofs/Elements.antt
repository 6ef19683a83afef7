-- The elements that were walked of a message are a tree, laid out depth first in octet order. Assumes nothing.
use mathlib.Core.Path.{◌≡◌, refl}
use mathlib.Core.Bool.{true}
use mathlib.Core.List.{List}
use Prim.Native.Nat.{ℕ, suc, ◌+◌, ◌≤◌, ◌<◌}
use native.Mathlib.Omega.{arith}
use native.Mathlib.Decide.{dec_lt}
use lib.Dec.{eqb}
use lib.ListN.{length, drop, length-drop}
use Rattle.rules.specs.Framing.{header_length, message_type}
use Rattle.rules.specs.Types.{is_group}
use Rattle.rules.specs.Listings.{Book, is_message}
use Rattle.rules.specs.Standing.{Item, kept, value_place, value_end}
use Rattle.rules.specs.Taking.{body_level}
use Rattle.rules.specs.Sound.{sound}
use Rattle.rules.specs.Table.{nth}
use Rattle.rules.proofs.Rows.{every-at}
use Rattle.rules.proofs.Places.{Before, rising, pairwise_at}
use Rattle.tables.specs.Places.{Within, Lies, Apart}
use Rattle.tables.specs.Levels.{line_at}
use Rattle.tables.proofs.Places.{lies, apart}
use Rattle.tables.proofs.Placed.{level_in, Placed}
use Rattle.tables.proofs.Levels.{kept-inside, some-group}
use Rattle.tables.proofs.Messages.{WalkedOf, all-stand, all_placed, parent-before}

module _ (b : Book) (fine : sound b ≡ true) (k : ℕ) (m : List ℕ) (es : List Item) (d : WalkedOf b k m es) where
  -- each row, header and value, lies within its parent, and in the body if it has none
  pub within : header_length m ≤ length m → (r : ℕ) → r < length es → Lies es (header_length m) (length m) (nth es r)
  unfolding Within
  within h r l =
      let z : header_length m + length (drop (header_length m) m) ≡ length m = omega (arith, length-drop (header_length m) m) in
      every-at (Lies es (header_length m) (length m)) es
      (rw z at (lies d es (header_length m) (header_length m + length (drop (header_length m) m)) (all-stand b fine k m es d) (omega arith, omega arith))) r l

  -- of two rows with one parent the earlier ends before the later begins
  pub siblings : (x y : ℕ) → x < y → y < length es → (nth es x).parent ≡ (nth es y).parent → value_end (nth es x) ≤ (nth es y).place
  siblings x y l h = pairwise_at Apart es (apart d (omega arith)) x y l h

  -- octet order
  pub in_order : (x y : ℕ) → x < y → y < length es → value_place (nth es x) ≤ (nth es y).place
  in_order x y l h = pairwise_at Before es (rising d (omega arith)) x y l h

  -- depth first: what stands between a row and its parent's row begins inside the parent
  pub depth-first : header_length m ≤ length m → (q s r : ℕ) → q < s → s ≤ r → r < length es → (nth es r).parent ≡ suc q
      → (value_place (nth es q) ≤ (nth es s).place) × ((nth es s).place < value_end (nth es q))
  unfolding Within
  depth-first h q s r a c l p = (in_order q s a (omega arith), ends (dec_lt s r))
    where
      home : Within es (header_length m) (length m) (suc q) (nth es r).place (value_end (nth es r))
      home = rw p at (within h r l)

      ends : Dec (s < r) → (nth es s).place < value_end (nth es q)
      ends (yes d) = omega (arith, in_order s r d l, home.2)
      ends (no d) = let z : s ≡ r = omega arith in rw z (omega (arith, home.2))

  -- parents are kept group rows that stand before
  pub parent-kept : is_message b (message_type m) ≡ true → (q r : ℕ) → r < length es → (nth es r).parent ≡ suc q
      → (q < r) × ((nth es q).stand ≡ kept) × (is_group (nth es q).typ ≡ true)
  parent-kept n q r l p =
      let back : (nth es r).parent ≤ r = parent-before b fine k m es d r l in
      let level : 0 < (nth es q).inside = rw p at (every-at (Placed b k (body_level b m) es) es (all_placed b fine k m es d n) r l).level in
      let own = (every-at (Placed b k (body_level b m) es) es (all_placed b fine k m es d n) q (omega arith)).inside in
      let c = kept-inside (nth es q).stand (line_at b k (level_in es (body_level b m) (nth es q).parent) (nth es q).typ (nth es q).inst).inside (eqb (nth es q).stand kept) refl (rw own at level) in
      (omega arith, c.0, some-group b fine k (level_in es (body_level b m) (nth es q).parent) (nth es q).typ (nth es q).inst c.1)
