-- What the one call leaves in what was lent: a refusal leaves the table as it was, every one but 11 and 12 the copy too, and what is past the used part stays always.
-- Assumes nothing.
use mathlib.Core.Path.{◌≡◌, refl, ap}
use mathlib.Core.Logic.{◌⊎◌, inl, inr}
use mathlib.Core.Bool.{Bool, true, false}
use mathlib.Core.List.{List}
use Prim.Native.Nat.{ℕ}
use lib.ListN.{length, drop}
use Rattle.rules.specs.Framing.{message_type}
use Rattle.rules.specs.Sizes.{used}
use Rattle.rules.specs.Listings.{Book}
use Rattle.rules.specs.Sound.{sound}
use Rattle.rules.specs.Table.{table_of, laid}
use Rattle.rules.specs.Verdicts.{refuses, first, framing_checks, lent_checks, items, call_verdict, call_table}
use Rattle.rules.specs.Covered.{masked, call_copy}
use Rattle.tables.proofs.Tests.{true_or}
use Rattle.tables.proofs.Rowed.{table-length}
use Rattle.verdicts.specs.Conditions.{Copies}
use Rattle.verdicts.proofs.Laying.{laid-drop}
use Rattle.verdicts.proofs.Calling.{framing-passes, lent_iff, copies_iff}

module _ (b : Book) (k : ℕ) (m : List ℕ) (octets : ℕ) (t : List ℕ) where
  pub refused-table : refuses (call_verdict b k m octets (length t)) ≡ true → call_table b k m octets t ≡ t
  unfolding call_table
  refused-table e = rw e

  pub accepted-table : refuses (call_verdict b k m octets (length t)) ≡ false → call_table b k m octets t ≡ laid (table_of (message_type m) k (items b k m)) t
  unfolding call_table
  accepted-table e = rw e

  -- numbers past those used stay, whatever the verdict
  stays : (r : Bool) → refuses (call_verdict b k m octets (length t)) ≡ r → drop (used (length (items b k m))) (call_table b k m octets t) ≡ drop (used (length (items b k m))) t
  stays true e = ap (drop (used (length (items b k m)))) (refused-table e)
  stays false e = rw (accepted-table e, ← table-length (message_type m) k (items b k m)) (laid-drop (table_of (message_type m) k (items b k m)) t)

  pub table_stays : drop (used (length (items b k m))) (call_table b k m octets t) ≡ drop (used (length (items b k m))) t
  table_stays = stays (refuses (call_verdict b k m octets (length t))) refl

module _ (b : Book) (fine : sound b ≡ true) (k : ℕ) (m : List ℕ) (room : ℕ) (copy : List ℕ) where
  pub copied : Copies (call_verdict b k m (length copy) room) → call_copy b k m room copy ≡ laid (masked b k m) copy
  unfolding call_copy
  copied c = rw ((lent_iff b fine k m (length copy) room).1 ((copies_iff b fine k m (length copy) room).0 c))

  pub uncopied : (Copies (call_verdict b k m (length copy) room) → ⊥) → call_copy b k m room copy ≡ copy
  unfolding call_copy
  uncopied off = go (true_or (refuses (first (lent_checks b k m (length copy) room))))
    where
      go : (refuses (first (lent_checks b k m (length copy) room)) ≡ true) ⊎ (refuses (first (lent_checks b k m (length copy) room)) ≡ false) → call_copy b k m room copy ≡ copy
      go (inl e) = rw e
      go (inr e) = absurd (off ((copies_iff b fine k m (length copy) room).1 ((lent_iff b fine k m (length copy) room).0 e)))

  -- what is copied passes 1 to 9
  pub copied-framed : Copies (call_verdict b k m (length copy) room) → refuses (first (framing_checks b k m)) ≡ false
  copied-framed c = let x = (copies_iff b fine k m (length copy) room).0 c in framing-passes b fine k m (x.1.0, (x.1.1.0, x.1.1.1))
