-- 10, 11 and 12 without the walk. Where 1 to 9 do not apply the message has its table, and the verdict goes by cases of that table alone (`outcome`): it
-- has no room; or it has, and a first row whose pair is mandatory is short; or none is, and a first level lacks a kept row of a mandatory pair; or none of
-- these, and it is accepted. So each number, and each with what it names, is given exactly where its words hold of the table. Assumes nothing.
use mathlib.Core.Path.{◌≡◌, refl, sym, ap, ◌∙◌}
use mathlib.Core.Logic.{inl, inr, ◌↔◌}
use mathlib.Core.Bool.{Bool, true, false, cond}
use mathlib.Core.List.{List, [], ◌∷◌}
use Prim.Native.Nat.{ℕ, suc, ◌≤◌, ◌<◌}
use native.Mathlib.Omega.{arith}
use native.Mathlib.Decide.{dec_lt, ℕ_discrete}
use borrow.Author.Tests.{lt-ltb, le-ltb}
use lib.Dec.{ltb}
use lib.ListN.{get_or}
use Rattle.rules.specs.Sizes.{used}
use Rattle.rules.specs.Listings.{Book}
use Rattle.rules.specs.Standing.{Item}
use Rattle.rules.specs.Taking.{whole, taken, body_level, items_in}
use Rattle.rules.specs.Verdicts.{accepted, refused, refused_at, invalid_length, mandatory_missing, check, refuses, first, framing_checks, short_verdict, lack_verdict, items, table_checks, judge_checks, judge_verdict, judge_numbers}
use Rattle.rules.specs.Sound.{sound}
use Rattle.rules.specs.Values.{row_type, row_instance}
use Rattle.rules.specs.declared.Verdict.{Verdict}
use Rattle.rules.proofs.Checks.{first_append}
use Rattle.rules.proofs.Header.{Passed}
use Rattle.tables.specs.Words.{rows}
use Rattle.tables.specs.Levels.{level_place, required}
use Rattle.tables.specs.IsTable.{IsTable}
use Rattle.verdicts.specs.Missing.{ShortRow, FirstShort, Lacks, FirstLack, NamesShort, NamesLack}
use Rattle.verdicts.specs.Conditions.{table_conditions}
use Rattle.tables.proofs.Tests.{clash}
use Rattle.tables.proofs.Rowed.{Begins, count_of}
use Rattle.tables.proofs.Messages.{WalkedOf, walked-of}
use Rattle.verdicts.proofs.Missing.{short-first, missing-first}
use Rattle.verdicts.proofs.Cases.{judge_words}
use Rattle.verdicts.proofs.Completeness.{complete}
use Rattle.verdicts.proofs.Accepting.{short-is, lack_is, passes}
use Rattle.verdicts.proofs.Passing.{has-table}

module _ (b : Book) (fine : sound b ≡ true) (k : ℕ) (m : List ℕ) where
  -- ---- the verdict of a message that has its table

  -- none short, none missing
  abbrev NoneShort : List ℕ → Type 0
  NoneShort t = (r : ℕ) → ShortRow b k (body_level b m) t r → ⊥

  abbrev NoneMissing : List ℕ → Type 0
  NoneMissing t = (p j : ℕ) → Lacks b k (body_level b m) t p j → ⊥

  -- what 11 says of row r, and 12 of line j of the level with parent p
  abbrev pub short_of : List ℕ → ℕ → Verdict
  short_of t r = refused_at 11 invalid_length (level_place b k (body_level b m) t (suc r)) (row_type t r) (row_instance t r)

  abbrev pub lack_of : List ℕ → ℕ → ℕ → Verdict
  lack_of t p j = refused_at 12 mandatory_missing (level_place b k (body_level b m) t p) (required b k (body_level b m) t p j).typ (required b k (body_level b m) t p j).inst

  pub data Outcome (t : List ℕ) (room : ℕ) : Verdict → Type 0 where
    no_room : room < used (rows t) → Outcome t room (refused 10 0)
    too_short : used (rows t) ≤ room → (r : ℕ) → FirstShort b k (body_level b m) t r → Outcome t room (short_of t r)
    missing : used (rows t) ≤ room → NoneShort t → (p j : ℕ) → FirstLack b k (body_level b m) t p j → Outcome t room (lack_of t p j)
    right : used (rows t) ≤ room → NoneShort t → NoneMissing t → Outcome t room accepted

  module _ (h : Passed b k m) (t : List ℕ) (x : IsTable b k m t) (room : ℕ) where
    abbrev es : List Item
    es = (complete b fine k m t x).0

    abbrev e : taken b k m ≡ whole (complete b fine k m t x).0
    e = (complete b fine k m t x).1

    abbrev ok : Begins t (complete b fine k m t x).0
    ok = (complete b fine k m t x).2

    abbrev walked : WalkedOf b k m (complete b fine k m t x).0
    walked = walked-of b k m es e

    items_are : items b k m ≡ (complete b fine k m t x).0
    items_are = ap items_in e

    -- the first of 10 to 12
    last-three : judge_verdict b k m room ≡ first (check (ltb room (used (rows t))) (refused 10 0) ∷ short_verdict es ∷ lack_verdict b k (body_level b m) es ∷ [])
    unfolding judge_checks
    last-three =
        first_append (framing_checks b k m) (table_checks b k m room)
        ∙ rw (passes b fine k m h es e, items_are, count_of t es ok)

    short-free : refuses (short_verdict es) ≡ false → NoneShort t
    short-free z r s = clash (refuses (short_verdict es)) ((short-is b fine k m t es e ok h).1 (r, s)) z

    lack_free : refuses (lack_verdict b k (body_level b m) es) ≡ false → NoneMissing t
    lack_free z p j s = clash (refuses (lack_verdict b k (body_level b m) es)) ((lack_is b fine k m t es e ok h).1 (p, j, s)) z

    by_lack : used (rows t) ≤ room → NoneShort t → (c : Bool) → refuses (lack_verdict b k (body_level b m) es) ≡ c → Outcome t room (cond c (lack_verdict b k (body_level b m) es) accepted)
    by_lack l s true z =
        let f = missing-first b fine k m t es ok walked h.listed z in
        rw f.3 (missing l s f.0 f.1 f.2)
    by_lack l s false z = right l s (lack_free z)

    by-short : used (rows t) ≤ room → (c : Bool) → refuses (short_verdict es) ≡ c
        → Outcome t room (cond c (short_verdict es) (cond (refuses (lack_verdict b k (body_level b m) es)) (lack_verdict b k (body_level b m) es) accepted))
    by-short l true z =
        let f = short-first b fine k m t es ok walked h.listed z in
        rw f.2 (too_short l f.0 f.1)
    by-short l false z = by_lack l (short-free z) (refuses (lack_verdict b k (body_level b m) es)) refl

    pub outcome : Outcome t room (judge_verdict b k m room)
    unfolding first check
    outcome = rw last-three (go (dec_lt room (used (rows t))))
      where
        go : Dec (room < used (rows t)) → Outcome t room (first (check (ltb room (used (rows t))) (refused 10 0) ∷ short_verdict es ∷ lack_verdict b k (body_level b m) es ∷ []))
        go (yes l) = rw (lt-ltb room (used (rows t)) l) (no_room l)
        go (no l) = rw (le-ltb room (used (rows t)) (omega arith)) (by-short (omega arith) (refuses (short_verdict es)) refl)

  -- ---- there is one first

  one-short : (t : List ℕ) (r r' : ℕ) → FirstShort b k (body_level b m) t r → FirstShort b k (body_level b m) t r' → r ≡ r'
  one-short t r r' f g = go (dec_lt r r') (dec_lt r' r)
    where
      go : Dec (r < r') → Dec (r' < r) → r ≡ r'
      go (yes l) d = absurd (g.none_before r l f.is-short)
      go (no l) (yes d) = absurd (f.none_before r' d g.is-short)
      go (no l) (no d) = omega arith

  one_lack : (t : List ℕ) (p j p' j' : ℕ) → FirstLack b k (body_level b m) t p j → FirstLack b k (body_level b m) t p' j' → (p ≡ p') × (j ≡ j')
  one_lack t p j p' j' f g = go (ℕ_discrete p p') (dec_lt p p') (dec_lt j j') (dec_lt j' j)
    where
      go : Dec (p ≡ p') → Dec (p < p') → Dec (j < j') → Dec (j' < j) → (p ≡ p') × (j ≡ j')
      go (yes e) l (yes c) d = absurd (g.none_before p j (inr (e, c)) f.lacks)
      go (yes e) l (no c) (yes d) = absurd (f.none_before p' j' (inr (sym e, d)) g.lacks)
      go (yes e) l (no c) (no d) = (e, omega arith)
      go (no e) (yes l) c d = absurd (g.none_before p j (inl l) f.lacks)
      go (no e) (no l) c d = absurd (f.none_before p' j' (inl (omega arith)) g.lacks)

  -- ---- a message that gets 10, 11 or 12 has its table

  reached : (room n : ℕ) → 10 ≤ n → n < 13 → (judge_verdict b k m room).code ≡ get_or judge_numbers n 0 → Passed b k m × ((t : List ℕ) × IsTable b k m t)
  reached room n l u z = has-table b fine k m (table_conditions b k m room) (λ i c. ((judge_words b fine k m room n u).0 z).none_before i (omega arith))

  -- ---- each number by its words

  module _ (room : ℕ) where
    ten-of : {t : List ℕ} {v : Verdict} → Outcome t room v → v.code ≡ 10 → room < used (rows t)
    ten-of (no_room l) z = l
    ten-of (too_short l r f) z = absurd (omega arith)
    ten-of (missing l s p j f) z = absurd (omega arith)
    ten-of (right l s d) z = absurd (omega arith)

    of-ten : {t : List ℕ} {v : Verdict} → Outcome t room v → room < used (rows t) → v.code ≡ 10
    of-ten (no_room l) u = refl
    of-ten (too_short l r f) u = absurd (omega arith)
    of-ten (missing l s p j f) u = absurd (omega arith)
    of-ten (right l s d) u = absurd (omega arith)

    pub ten_iff : ((judge_verdict b k m room).code ≡ 10) ↔ (Passed b k m × ((t : List ℕ) × IsTable b k m t × (room < used (rows t))))
    ten_iff = (
      λ z. let c = reached room 10 (omega arith) (omega arith) z in (c.0, (c.1.0, c.1.1, ten-of (outcome c.0 c.1.0 c.1.1 room) z)),
      λ c. of-ten (outcome c.0 c.1.0 c.1.1 room) c.1.2,
    )

    -- 11

    eleven-of : {t : List ℕ} {v : Verdict} → Outcome t room v → v.code ≡ 11 → (used (rows t) ≤ room) × ((r : ℕ) × FirstShort b k (body_level b m) t r × (v ≡ short_of t r))
    eleven-of (no_room l) z = absurd (omega arith)
    eleven-of (too_short l r f) z = (l, (r, f, refl))
    eleven-of (missing l s p j f) z = absurd (omega arith)
    eleven-of (right l s d) z = absurd (omega arith)

    of-eleven : {t : List ℕ} {v : Verdict} → Outcome t room v → used (rows t) ≤ room → (r : ℕ) → ShortRow b k (body_level b m) t r → v.code ≡ 11
    of-eleven (no_room l) u r x = absurd (omega arith)
    of-eleven (too_short l r' f) u r x = refl
    of-eleven (missing l s p j f) u r x = absurd (s r x)
    of-eleven (right l s d) u r x = absurd (s r x)

    abbrev pub Short : Type 0
    Short = Passed b k m × ((t : List ℕ) × IsTable b k m t × (used (rows t) ≤ room) × ((r : ℕ) × ShortRow b k (body_level b m) t r))

    pub eleven_iff : ((judge_verdict b k m room).code ≡ 11) ↔ Short
    eleven_iff = (
      λ z. let c = reached room 11 (omega arith) (omega arith) z in
          let o = eleven-of (outcome c.0 c.1.0 c.1.1 room) z in (c.0, (c.1.0, c.1.1, o.0, (o.1.0, o.1.1.is-short))),
      λ c. of-eleven (outcome c.0 c.1.0 c.1.1 room) c.1.2 c.1.3.0 c.1.3.1,
    )

    -- 12

    twelve-of : {t : List ℕ} {v : Verdict} → Outcome t room v → v.code ≡ 12
        → (used (rows t) ≤ room) × NoneShort t × ((p : ℕ) × (j : ℕ) × FirstLack b k (body_level b m) t p j × (v ≡ lack_of t p j))
    twelve-of (no_room l) z = absurd (omega arith)
    twelve-of (too_short l r f) z = absurd (omega arith)
    twelve-of (missing l s p j f) z = (l, s, (p, j, f, refl))
    twelve-of (right l s d) z = absurd (omega arith)

    of-twelve : {t : List ℕ} {v : Verdict} → Outcome t room v → used (rows t) ≤ room → NoneShort t → (p j : ℕ) → Lacks b k (body_level b m) t p j → v.code ≡ 12
    of-twelve (no_room l) u n p j x = absurd (omega arith)
    of-twelve (too_short l r f) u n p j x = absurd (n r f.is-short)
    of-twelve (missing l s p' j' f) u n p j x = refl
    of-twelve (right l s d) u n p j x = absurd (d p j x)

    abbrev pub Missing : Type 0
    Missing = Passed b k m × ((t : List ℕ) × IsTable b k m t × (used (rows t) ≤ room) × NoneShort t × ((p : ℕ) × (j : ℕ) × Lacks b k (body_level b m) t p j))

    pub twelve_iff : ((judge_verdict b k m room).code ≡ 12) ↔ Missing
    twelve_iff = (
      λ z. let c = reached room 12 (omega arith) (omega arith) z in
          let o = twelve-of (outcome c.0 c.1.0 c.1.1 room) z in (c.0, (c.1.0, c.1.1, o.0, o.1, (o.2.0, o.2.1, o.2.2.lacks))),
      λ c. of-twelve (outcome c.0 c.1.0 c.1.1 room) c.1.2 c.1.3 c.1.4.0 c.1.4.1 c.1.4.2,
    )

    -- ---- and by what it names

    module _ (q y i : ℕ) where
      abbrev pub ShortAt : Type 0
      ShortAt = Passed b k m × ((t : List ℕ) × IsTable b k m t × (used (rows t) ≤ room) × NamesShort b k (body_level b m) t q y i)

      pub eleven-at : (judge_verdict b k m room ≡ refused_at 11 invalid_length q y i) ↔ ShortAt
      eleven-at = (to, from)
        where
          to : judge_verdict b k m room ≡ refused_at 11 invalid_length q y i → ShortAt
          to w =
              let c = reached room 11 (omega arith) (omega arith) (ap (λ (u : Verdict). u.code) w) in
              let o = eleven-of (outcome c.0 c.1.0 c.1.1 room) (ap (λ (u : Verdict). u.code) w) in
              let z : refused_at 11 invalid_length q y i ≡ short_of c.1.0 o.1.0 = sym w ∙ o.1.2 in (
                c.0,
                (
                  c.1.0,
                  c.1.1,
                  o.0,
                  record {
                    row = o.1.0;
                    first = o.1.1;
                    place = ap (λ (u : Verdict). u.place) z;
                    typ = ap (λ (u : Verdict). u.typ) z;
                    inst = ap (λ (u : Verdict). u.inst) z;
                  },
                ),
              )

          from : ShortAt → judge_verdict b k m room ≡ refused_at 11 invalid_length q y i
          from (h, (t, x, l, n)) =
              let o = outcome h t x room in
              let f = eleven-of o (of-eleven o l n.row n.first.is-short) in
              let z : f.1.0 ≡ n.row = one-short t f.1.0 n.row f.1.1 n.first in
              f.1.2 ∙ rw (z, n.place, n.typ, n.inst)

      abbrev pub MissingAt : Type 0
      MissingAt = Passed b k m × ((t : List ℕ) × IsTable b k m t × (used (rows t) ≤ room) × NoneShort t × NamesLack b k (body_level b m) t q y i)

      pub twelve-at : (judge_verdict b k m room ≡ refused_at 12 mandatory_missing q y i) ↔ MissingAt
      twelve-at = (to, from)
        where
          to : judge_verdict b k m room ≡ refused_at 12 mandatory_missing q y i → MissingAt
          to w =
              let c = reached room 12 (omega arith) (omega arith) (ap (λ (u : Verdict). u.code) w) in
              let o = twelve-of (outcome c.0 c.1.0 c.1.1 room) (ap (λ (u : Verdict). u.code) w) in
              let z : refused_at 12 mandatory_missing q y i ≡ lack_of c.1.0 o.2.0 o.2.1 = sym w ∙ o.2.3 in (
                c.0,
                (
                  c.1.0,
                  c.1.1,
                  o.0,
                  o.1,
                  record {
                    parent = o.2.0;
                    line = o.2.1;
                    first = o.2.2;
                    place = ap (λ (u : Verdict). u.place) z;
                    typ = ap (λ (u : Verdict). u.typ) z;
                    inst = ap (λ (u : Verdict). u.inst) z;
                  },
                ),
              )

          from : MissingAt → judge_verdict b k m room ≡ refused_at 12 mandatory_missing q y i
          from (h, (t, x, l, s, n)) =
              let o = outcome h t x room in
              let f = twelve-of o (of-twelve o l s n.parent n.line n.first.lacks) in
              let z = one_lack t f.2.0 f.2.1 n.parent n.line f.2.2 n.first in
              f.2.3 ∙ rw (z.0, z.1, n.place, n.typ, n.inst)
