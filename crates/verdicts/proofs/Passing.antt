-- The words of 1 to 9: 1 to 8 pass exactly where none of their conditions holds, and where none of the nine does the message has its table. Assumes nothing.
use mathlib.Core.Path.{◌≡◌, refl, sym}
use mathlib.Core.Logic.{inl, inr, ◌↔◌, ◌≢◌}
use mathlib.Core.Bool.{Bool, true, false}
use mathlib.Core.List.{List, [], ◌++◌}
use Prim.Native.Nat.{ℕ, zero, suc, ◌+◌, ◌≤◌, ◌<◌}
use native.Mathlib.Omega.{arith}
use native.Mathlib.Decide.{ℕ_discrete, dec_lt}
use lib.ListN.{length, drop, get_or}
use Rattle.rules.specs.Sizes.{largest_message}
use Rattle.rules.specs.Framing.{version, flag_p, flag_t, message_type, length_field, header_length}
use Rattle.rules.specs.Types.{among}
use Rattle.rules.specs.Listings.{Book, is_message, message_of}
use Rattle.rules.specs.Standing.{Item}
use Rattle.rules.specs.Taking.{Out, cut, whole, taken, body_level}
use Rattle.rules.specs.Table.{table_of}
use Rattle.rules.specs.Sound.{sound}
use Rattle.rules.proofs.Header.{Passed}
use Rattle.rules.proofs.Mets.{cut-met}
use Rattle.tables.specs.IsTable.{IsTable}
use Rattle.tables.proofs.Tests.{clash, not-true, not-false}
use Rattle.tables.proofs.Rowed.{own_of, own-begins}
use Rattle.tables.proofs.Soundness.{is-table}
use Rattle.verdicts.specs.Conditions.{framing_conditions}
use Rattle.verdicts.proofs.Acceptance.{NoneHolds}

same_bool : (a c : Bool) → (a ≢ c → ⊥) → a ≡ c
same_bool true true f = refl
same_bool true false f = absurd (f (λ e. clash true refl e))
same_bool false true f = absurd (f (λ e. clash true refl (sym e)))
same_bool false false f = refl

same_number : (a c : ℕ) → (a ≢ c → ⊥) → a ≡ c
same_number a c f = go (ℕ_discrete a c)
  where
    go : Dec (a ≡ c) → a ≡ c
    go (yes e) = e
    go (no e) = absurd (f e)

below : (a c : ℕ) → (a < c → ⊥) → c ≤ a
below a c f = go (dec_lt a c)
  where
    go : Dec (a < c) → c ≤ a
    go (yes e) = absurd (f e)
    go (no e) = omega arith

-- whatever conditions follow
module _ (b : Book) (fine : sound b ≡ true) (k : ℕ) (m : List ℕ) (cs : List (Type 0)) where
  pub passed-of : ((i : ℕ) → i < 9 → get_or (framing_conditions b k m ++ cs) i ⊥ → ⊥) → Passed b k m
  passed-of none = record {
    kind = not-false (among k b.kinds) (none 0 (omega arith));
    some = below (length m) 1 (λ h. none 1 (omega arith) (inl (omega arith)));
    most = below largest_message (length m) (λ h. none 1 (omega arith) (inr h));
    version_2 = same_number (version m) 2 (none 2 (omega arith));
    has_header = below (length m) (header_length m) (none 3 (omega arith));
    no_p = not-true (flag_p m) (none 4 (omega arith));
    length_right = same_number (length_field m + 4) (length m) (none 5 (omega arith));
    listed = not-false (is_message b (message_type m)) (none 6 (omega arith));
    on_kind = not-false (among k (message_of b (message_type m)).kinds) (none 7 (omega arith));
    t_right = same_bool (flag_t m) (message_of b (message_type m)).teid (none 8 (omega arith));
  }

  pub passed_none : Passed b k m → (i : ℕ) → i < 9 → get_or (framing_conditions b k m ++ cs) i ⊥ → ⊥
  passed_none p zero l c = clash (among k b.kinds) p.kind c
  passed_none p (suc zero) l (inl c) = omega (arith, c, p.some)
  passed_none p (suc zero) l (inr c) = omega (arith, c, p.most)
  passed_none p (suc (suc zero)) l c = c p.version_2
  passed_none p (suc (suc (suc zero))) l c = omega (arith, c, p.has_header)
  passed_none p (suc (suc (suc (suc zero)))) l c = clash (flag_p m) c p.no_p
  passed_none p (suc (suc (suc (suc (suc zero))))) l c = c p.length_right
  passed_none p (suc (suc (suc (suc (suc (suc zero)))))) l c = clash (is_message b (message_type m)) p.listed c
  passed_none p (suc (suc (suc (suc (suc (suc (suc zero))))))) l c = clash (among k (message_of b (message_type m)).kinds) p.on_kind c
  passed_none p (suc (suc (suc (suc (suc (suc (suc (suc zero)))))))) l c = c p.t_right
  passed_none p (suc (suc (suc (suc (suc (suc (suc (suc (suc i))))))))) l c = omega arith

  pub has-table : ((i : ℕ) → i < 10 → get_or (framing_conditions b k m ++ cs) i ⊥ → ⊥) → Passed b k m × ((t : List ℕ) × IsTable b k m t)
  unfolding taken
  has-table none = go (taken b k m) refl
    where
      p : Passed b k m
      p = passed-of (λ i l. none i (omega arith))

      go : (o : Out (List Item)) → taken b k m ≡ o → Passed b k m × ((t : List ℕ) × IsTable b k m t)
      go (cut q is) e = absurd (none 9 (omega arith) (q, cut-met b k (body_level b m) (header_length m) (drop (header_length m) m) q is e))
      go (whole is) e = (p, (table_of (message_type m) k is, is-table b fine k m (table_of (message_type m) k is) is (own-begins (message_type m) k is) e p.has_header p.listed (own_of k m is)))

pub passed_iff : (b : Book) → sound b ≡ true → (k : ℕ) (m : List ℕ) → Passed b k m ↔ NoneHolds (framing_conditions b k m) 9
passed_iff b fine k m = (passed_none b fine k m [], passed-of b fine k m [])
