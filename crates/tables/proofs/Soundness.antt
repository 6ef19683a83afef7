-- A table that the table of a whole message's elements stands at the start of is as IsTable says: its rows are right, as those of anything walked are, and a
-- whole run covers each of its octets. Assumes nothing.
use mathlib.Core.Path.{◌≡◌}
use mathlib.Core.Bool.{true}
use mathlib.Core.List.{List}
use Prim.Native.Nat.{ℕ, zero, suc, ◌+◌, ◌≤◌, ◌<◌}
use native.Mathlib.Omega.{arith}
use lib.ListN.{length, drop, length-drop}
use Rattle.rules.specs.Framing.{header_length, message_type}
use Rattle.rules.specs.Listings.{Book, is_message}
use Rattle.rules.specs.Standing.{Item, fresh}
use Rattle.rules.specs.Taking.{whole, taken, body_level}
use Rattle.rules.specs.Met.{Met}
use Rattle.rules.specs.Sound.{sound}
use Rattle.rules.proofs.Rows.{body-met}
use Rattle.tables.specs.Words.{RowOver, IsLevel, level_from, level_to}
use Rattle.tables.specs.IsTable.{IsOf, IsTable}
use Rattle.tables.proofs.Rowed.{Begins}
use Rattle.tables.proofs.Messages.{WalkedOf, walked-of, all-stand}
use Rattle.tables.proofs.Filling.{cover_own, cover_inside}
use Rattle.tables.proofs.RightRows.{same, over, is-entered, is-rows}

module _ (b : Book) (fine : sound b ≡ true) (k : ℕ) (m t : List ℕ) (es : List Item) (ok : Begins t es) (e : taken b k m ≡ whole es)
    (body : header_length m ≤ length m) (listed : is_message b (message_type m) ≡ true) where
  met : Met b k (body_level b m) fresh 0 0 (header_length m) (drop (header_length m) m) es
  met = body-met b k m es e

  walked : WalkedOf b k m es
  walked = walked-of b k m es e

  covers : (p : ℕ) → IsLevel t p → (j : ℕ) → level_from m t p ≤ j → j < level_to m t p → (r : ℕ) × RowOver t p j r
  covers zero g j a c =
      let r = cover_own met j a (omega (arith, c, length-drop (header_length m) m)) in
      (r.0, over b fine k m t es ok walked body listed 0 j r.0 r.1 r.2)
  covers (suc q) g j a c =
      let s = same b fine k m t es ok walked body listed q g.there in
      let r = cover_inside met es (all-stand b fine k m es walked) q s.there j (is-entered b fine k m t es ok walked body listed q g) (omega (arith, a, s.place)) (omega (arith, c, s.end)) in
      let z : suc (0 + q) ≡ suc q = omega arith in
      (r.0, over b fine k m t es ok walked body listed (suc q) j r.0 r.1 (rw z at r.2))

  pub is-table : IsOf k m t → IsTable b k m t
  is-table of = record { right = is-rows b fine k m t es ok walked body listed of; covers = covers }
