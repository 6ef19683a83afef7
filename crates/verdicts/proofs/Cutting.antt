-- 9 without a derivation: it is given exactly where 1 to 8 do not apply and the message has no table. A whole message has one (Soundness), and one that
-- is cut has none (Completeness). Assumes nothing.
use mathlib.Core.Path.{◌≡◌, refl, sym, ◌∙◌}
use mathlib.Core.Logic.{◌↔◌}
use mathlib.Core.Bool.{true}
use mathlib.Core.List.{List}
use Prim.Native.Nat.{ℕ}
use native.Mathlib.Omega.{arith}
use lib.ListN.{drop}
use Rattle.rules.specs.Framing.{message_type, header_length}
use Rattle.rules.specs.Listings.{Book}
use Rattle.rules.specs.Standing.{Item}
use Rattle.rules.specs.Taking.{Out, cut, whole, taken, body_level}
use Rattle.rules.specs.Table.{table_of}
use Rattle.rules.specs.Verdicts.{judge_verdict}
use Rattle.rules.specs.Sound.{sound}
use Rattle.rules.proofs.Header.{Passed}
use Rattle.rules.proofs.Mets.{cut-met, met-cut}
use Rattle.verdicts.specs.Conditions.{CutIn, table_conditions}
use Rattle.tables.specs.IsTable.{IsTable}
use Rattle.tables.proofs.Rowed.{own_of, own-begins}
use Rattle.verdicts.proofs.Cases.{judge_words}
use Rattle.verdicts.proofs.Passing.{passed-of, passed_none}
use Rattle.tables.proofs.Soundness.{is-table}
use Rattle.verdicts.proofs.Completeness.{complete}

module _ (b : Book) (fine : sound b ≡ true) (k : ℕ) (m : List ℕ) where
  -- a message that is cut has no table
  pub cut-none : (q : ℕ) (is : List Item) → taken b k m ≡ cut q is → (t : List ℕ) → IsTable b k m t → ⊥
  cut-none q is e t x =
      let c = complete b fine k m t x in
      let d : whole c.0 ≡ cut q is = sym c.1 ∙ e in let z : ◌≡◌ {A = ℕ} 0 1 = cc in omega arith

  -- and one that has none is cut
  pub none-cut : Passed b k m → ((t : List ℕ) → IsTable b k m t → ⊥) → (q : ℕ) × CutIn b k m q
  unfolding taken
  none-cut p none = go (taken b k m) refl
    where
      go : (o : Out (List Item)) → taken b k m ≡ o → (q : ℕ) × CutIn b k m q
      go (cut q is) e = (q, cut-met b k (body_level b m) (header_length m) (drop (header_length m) m) q is e)
      go (whole es) e = absurd (none (table_of (message_type m) k es) (is-table b fine k m (table_of (message_type m) k es) es (own-begins (message_type m) k es) e p.has_header p.listed (own_of k m es)))

  pub cut_in : (q : ℕ) → CutIn b k m q → (is : List Item) × (taken b k m ≡ cut q is)
  unfolding taken
  cut_in q d = met-cut b k (body_level b m) (header_length m) (drop (header_length m) m) d

  module _ (room : ℕ) where
    pub nine_iff : ((judge_verdict b k m room).code ≡ 9) ↔ (Passed b k m × ((t : List ℕ) → IsTable b k m t → ⊥))
    nine_iff = (to, from)
      where
        to : (judge_verdict b k m room).code ≡ 9 → Passed b k m × ((t : List ℕ) → IsTable b k m t → ⊥)
        to e =
            let o = (judge_words b fine k m room 9 (omega arith)).0 e in
            let h : (q : ℕ) × CutIn b k m q = o.holds in
            let c = cut_in h.0 h.1 in
            (passed-of b fine k m (table_conditions b k m room) o.none_before, cut-none h.0 c.0 c.1)

        from : Passed b k m × ((t : List ℕ) → IsTable b k m t → ⊥) → (judge_verdict b k m room).code ≡ 9
        from (p, none) = (judge_words b fine k m room 9 (omega arith)).1 (record { holds = none-cut p none; none_before = passed_none b fine k m (table_conditions b k m room) p })
