-- 9 with its place, without a derivation: it is given at q exactly where 1 to 8 do not apply and rows are there as IsCut says of q. A message has a table or
-- such a place. Assumes nothing.
use mathlib.Core.Path.{◌≡◌, refl, sym, ap, ◌∙◌}
use mathlib.Core.Logic.{◌⊎◌, inl, inr, ◌↔◌}
use mathlib.Core.Bool.{true}
use mathlib.Core.List.{List}
use Prim.Native.Nat.{ℕ}
use native.Mathlib.Omega.{arith}
use lib.ListN.{drop}
use Rattle.rules.specs.Listings.{Book}
use Rattle.rules.specs.Framing.{message_type, header_length}
use Rattle.rules.specs.Standing.{Item}
use Rattle.rules.specs.Taking.{Out, cut, whole, taken, body_level}
use Rattle.rules.specs.Table.{table_of}
use Rattle.rules.specs.Verdicts.{refused_at, invalid_length, judge_verdict}
use Rattle.rules.specs.Sound.{sound}
use Rattle.rules.specs.declared.Verdict.{Verdict}
use Rattle.rules.proofs.Header.{Passed}
use Rattle.rules.proofs.Mets.{cut-met}
use Rattle.tables.specs.IsTable.{IsTable}
use Rattle.tables.proofs.Soundness.{is-table}
use Rattle.verdicts.specs.Conditions.{CutIn, table_conditions}
use Rattle.tables.proofs.Rowed.{own_of, own-begins}
use Rattle.verdicts.proofs.Cases.{judge_words, nine-says}
use Rattle.verdicts.specs.IsCut.{IsCut}
use Rattle.verdicts.proofs.CutRebuilding.{is_cut}
use Rattle.verdicts.proofs.Parts.{part_of}
use Rattle.verdicts.proofs.CutSoundness.{cut-rows}
use Rattle.verdicts.proofs.Cutting.{cut_in, cut-none}
use Rattle.verdicts.proofs.Passing.{passed-of, passed_none}

module _ (b : Book) (fine : sound b ≡ true) (k : ℕ) (m : List ℕ) where
  one_place : (q q' : ℕ) → CutIn b k m q → CutIn b k m q' → q ≡ q'
  one_place q q' d e =
      let x = cut_in b fine k m q d in
      let y = cut_in b fine k m q' e in
      let z : cut q x.0 ≡ cut q' y.0 = sym x.1 ∙ y.1 in cc

  -- where 1 to 8 do not apply, the rows before a cut are there exactly where the body is cut
  pub cut_iff : Passed b k m → (q : ℕ) → CutIn b k m q ↔ ((t : List ℕ) × IsCut b k m t q)
  cut_iff p q = (
    λ d. let r = part_of d 0 in (table_of (message_type m) k r.0, cut-rows b fine k m (table_of (message_type m) k r.0) r.0 (own-begins (message_type m) k r.0) q r.1 p.has_header p.listed (own_of k m r.0)),
    λ x. is_cut b fine k m x.0 q x.1,
  )

  -- a message has a table or is cut, never both, and is cut in one place
  pub table_or_cut : Passed b k m → ((t : List ℕ) × IsTable b k m t) ⊎ ((q : ℕ) × ((t : List ℕ) × IsCut b k m t q))
  unfolding taken
  table_or_cut p = go (taken b k m) refl
    where
      go : (o : Out (List Item)) → taken b k m ≡ o → ((t : List ℕ) × IsTable b k m t) ⊎ ((q : ℕ) × ((t : List ℕ) × IsCut b k m t q))
      go (whole es) e = inl (table_of (message_type m) k es, is-table b fine k m (table_of (message_type m) k es) es (own-begins (message_type m) k es) e p.has_header p.listed (own_of k m es))
      go (cut q is) e = inr (q, (cut_iff p q).0 (cut-met b k (body_level b m) (header_length m) (drop (header_length m) m) q is e))

  pub never_both : (t u : List ℕ) (q : ℕ) → IsTable b k m t → IsCut b k m u q → ⊥
  never_both t u q x c = let y = cut_in b fine k m q (is_cut b fine k m u q c) in cut-none b fine k m q y.0 y.1 t x

  pub cut-once : (t u : List ℕ) (q q' : ℕ) → IsCut b k m t q → IsCut b k m u q' → q ≡ q'
  cut-once t u q q' c d = one_place q q' (is_cut b fine k m t q c) (is_cut b fine k m u q' d)

  module _ (room q : ℕ) where
    says : (v : Verdict) → judge_verdict b k m room ≡ v → v.code ≡ 9 → (o : ℕ) × CutIn b k m o × (v ≡ refused_at 9 invalid_length o 0 0)
    says v w e = rw w at (nine-says b fine k m room (ap (λ (u : Verdict). u.code) w ∙ e))

    pub nine-at : (judge_verdict b k m room ≡ refused_at 9 invalid_length q 0 0) ↔ (Passed b k m × ((t : List ℕ) × IsCut b k m t q))
    nine-at = (to, from)
      where
        to : judge_verdict b k m room ≡ refused_at 9 invalid_length q 0 0 → Passed b k m × ((t : List ℕ) × IsCut b k m t q)
        to w =
            let o = (judge_words b fine k m room 9 (omega arith)).0 (ap (λ (u : Verdict). u.code) w) in
            let p = passed-of b fine k m (table_conditions b k m room) o.none_before in
            let s = says (refused_at 9 invalid_length q 0 0) w refl in
            let z : q ≡ s.0 = ap (λ (u : Verdict). u.place) s.2 in
            let d : CutIn b k m q = rw z s.1 in
            (p, (cut_iff p q).0 d)

        from : Passed b k m × ((t : List ℕ) × IsCut b k m t q) → judge_verdict b k m room ≡ refused_at 9 invalid_length q 0 0
        from (p, x) =
            let d = (cut_iff p q).1 x in
            let c = (judge_words b fine k m room 9 (omega arith)).1 (record { holds = (q, d); none_before = passed_none b fine k m (table_conditions b k m room) p }) in
            let s = says (judge_verdict b k m room) refl c in
            s.2 ∙ ap (λ (o : ℕ). refused_at 9 invalid_length o 0 0) (one_place s.0 q s.1 d)
