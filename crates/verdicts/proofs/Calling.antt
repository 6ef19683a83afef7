-- The one call without the walk, in words of the message's table. What 1 to 9 refuse it refuses so, whatever is lent; where they pass and the copy has no
-- room it says 13; and where the copy has room it says what checks 1 to 12 say with no copy asked for (`way`). So each number that these give is the call's
-- exactly where the copy has room besides. Assumes nothing.
--     one-framed, alike                                                                        1 to 9, whatever is lent
--     nine, nine-place, thirteen, ten, eleven, eleven-place, twelve, twelve-place, acceptance     each number, and with what it names
--     ample                                                                                  with a copy buffer for the largest message
--     lent_iff, copies_iff                                                                   where a copy is written
use mathlib.Core.Path.{◌≡◌, refl, sym, ap, ◌∙◌}
use mathlib.Core.Logic.{◌⊎◌, inl, inr, ◌↔◌}
use mathlib.Core.Bool.{Bool, true, false, ◌||◌}
use mathlib.Core.List.{List, [], ◌∷◌}
use Prim.Native.Nat.{ℕ, ◌≤◌, ◌<◌}
use native.Mathlib.Omega.{arith}
use native.Mathlib.Decide.{dec_lt}
use borrow.Author.Tests.{eqb-true, ltb-false, lt-ltb, le-ltb}
use lib.Dec.{eqb, ltb}
use lib.ListN.{length}
use Rattle.rules.specs.Framing.{message_type}
use Rattle.rules.specs.Sizes.{largest_message, used}
use Rattle.rules.specs.Listings.{Book}
use Rattle.rules.specs.Standing.{Item}
use Rattle.rules.specs.Taking.{Out, items_in}
use Rattle.rules.specs.Table.{table_of}
use Rattle.rules.specs.Types.{among}
use Rattle.rules.specs.Verdicts.{accepted, refused, refused_at, invalid_length, mandatory_missing, check, refuses, first, framing_checks, items, copy_check, room_check, table_checks, lent_checks, mask_checks, judge_checks, mask_verdict, judge_verdict, judge_table, judge_numbers, framing_numbers, call_verdict, call_table}
use Rattle.rules.specs.Sound.{sound}
use Rattle.rules.specs.declared.Verdict.{Verdict}
use Rattle.rules.proofs.Checks.{AllPass, all_pass, both-pass, first_append, check-off}
use Rattle.rules.proofs.Calls.{lent_split, call_masked, call_judged}
use Rattle.rules.proofs.Header.{Passed, framed}
use Rattle.tables.specs.Words.{rows}
use Rattle.tables.specs.IsTable.{IsTable}
use Rattle.tables.proofs.Tests.{clash, true_or}
use Rattle.tables.proofs.Rowed.{own_of, own-begins, count_of}
use Rattle.tables.proofs.Soundness.{is-table}
use Rattle.verdicts.specs.Accepts.{Leaves}
use Rattle.verdicts.specs.IsCut.{IsCut}
use Rattle.verdicts.specs.Conditions.{Copies}
use Rattle.verdicts.proofs.Acceptance.{OneOf, judge_codes}
use Rattle.verdicts.proofs.Completeness.{complete}
use Rattle.verdicts.proofs.Accepting.{passes, accepts_iff}
use Rattle.verdicts.proofs.Cutting.{nine_iff}
use Rattle.verdicts.proofs.CutPlace.{nine-at}
use Rattle.verdicts.proofs.Refusing.{Outcome, no_room, too_short, missing, right, outcome, ten_iff, Short, eleven_iff, ShortAt, eleven-at, Missing, twelve_iff, MissingAt, twelve-at}

-- the numbers with which a copy is made
pub copies_which : (v : Verdict) → Copies v → (v.code ≡ 0) ⊎ ((v.code ≡ 11) ⊎ (v.code ≡ 12))
copies_which v c = go (eqb v.code 0) (eqb v.code 11) (eqb v.code 12) refl refl refl c
  where
    go : (x y z : Bool) → eqb v.code 0 ≡ x → eqb v.code 11 ≡ y → eqb v.code 12 ≡ z → x || (y || (z || false)) ≡ true → (v.code ≡ 0) ⊎ ((v.code ≡ 11) ⊎ (v.code ≡ 12))
    go true y z e f g w = inl (eqb-true v.code 0 e)
    go false true z e f g w = inr (inl (eqb-true v.code 11 f))
    go false false true e f g w = inr (inr (eqb-true v.code 12 g))
    go false false false e f g w = let y : ◌≡◌ {A = ℕ} 0 1 = cc in absurd (omega arith)

module _ (b : Book) (fine : sound b ≡ true) (k : ℕ) (m : List ℕ) where
  -- the message has its table
  abbrev pub Tabled : Type 0
  Tabled = Passed b k m × ((t : List ℕ) × IsTable b k m t)

  abbrev framing : Verdict
  framing = first (framing_checks b k m)

  pub framing-passes : Tabled → refuses (first (framing_checks b k m)) ≡ false
  framing-passes (p, (t, x)) = let c = complete b fine k m t x in passes b fine k m p c.0 c.1

  pub tabled : refuses (first (framing_checks b k m)) ≡ false → Tabled
  tabled e =
      let f = framed b k m e in
      let p = f.0 in
      let es = f.1.0 in
      (p, (table_of (message_type m) k es, is-table b fine k m (table_of (message_type m) k es) es (own-begins (message_type m) k es) f.1.1 p.has_header p.listed (own_of k m es)))

  -- ---- the checks for the copy

  mask_is : (octets : ℕ) → refuses (first (framing_checks b k m)) ≡ false → mask_verdict b k m octets ≡ first (copy_check b k m octets ∷ [])
  unfolding mask_checks
  mask_is octets e = first_append (framing_checks b k m) (copy_check b k m octets ∷ []) ∙ rw e

  pub mask-passes : (octets : ℕ) → refuses (first (framing_checks b k m)) ≡ false → length m ≤ octets → refuses (mask_verdict b k m octets) ≡ false
  unfolding first check
  mask-passes octets e l = rw (mask_is octets e, le-ltb octets (length m) l)

  mask-thirteen : (octets : ℕ) → refuses (first (framing_checks b k m)) ≡ false → octets < length m → mask_verdict b k m octets ≡ refused 13 0
  unfolding first check
  mask-thirteen octets e l = mask_is octets e ∙ rw (lt-ltb octets (length m) l)

  mask-framing : (octets : ℕ) → refuses (first (framing_checks b k m)) ≡ true → mask_verdict b k m octets ≡ first (framing_checks b k m)
  unfolding mask_checks
  mask-framing octets e = first_append (framing_checks b k m) (copy_check b k m octets ∷ []) ∙ rw e

  -- ---- the call

  -- what 1 to 9 refuse is refused so, whatever is lent
  pub call_framing : (octets room : ℕ) → refuses (first (framing_checks b k m)) ≡ true → call_verdict b k m octets room ≡ first (framing_checks b k m)
  call_framing octets room e = let z = mask-framing octets e in call_masked b k m octets room (rw z e) ∙ z

  judge_framing : (room : ℕ) → refuses (first (framing_checks b k m)) ≡ true → judge_verdict b k m room ≡ first (framing_checks b k m)
  unfolding judge_checks
  judge_framing room e = first_append (framing_checks b k m) (table_checks b k m room) ∙ rw e

  -- and 13 is none of theirs
  pub never_13 : (room : ℕ) → (judge_verdict b k m room).code ≡ 13 → ⊥
  never_13 room z = go (judge_codes b fine k m room)
    where
      go : OneOf judge_numbers (judge_verdict b k m room) → ⊥
      go (inl a) = omega (arith, z, ap (λ (v : Verdict). v.code) a)
      go (inr a) = let c : false ≡ true = rw z at a in let y : ◌≡◌ {A = ℕ} 0 1 = cc in omega arith

  -- with a copy that has room it says what checks 1 to 12 say
  module _ (octets room : ℕ) where
    pub roomy : length m ≤ octets → call_verdict b k m octets room ≡ judge_verdict b k m room
    roomy l = go (true_or (refuses framing))
      where
        go : (refuses (first (framing_checks b k m)) ≡ true) ⊎ (refuses (first (framing_checks b k m)) ≡ false) → call_verdict b k m octets room ≡ judge_verdict b k m room
        go (inl e) = call_framing octets room e ∙ sym (judge_framing room e)
        go (inr e) = call_judged b k m octets room (mask-passes octets e l)

    data Way : Type 0 where
      framed_out : refuses (first (framing_checks b k m)) ≡ true → call_verdict b k m octets room ≡ judge_verdict b k m room → Way
      no_copy : refuses (first (framing_checks b k m)) ≡ false → octets < length m → call_verdict b k m octets room ≡ refused 13 0 → Way
      by_table : refuses (first (framing_checks b k m)) ≡ false → length m ≤ octets → call_verdict b k m octets room ≡ judge_verdict b k m room → Way

    way : Way
    way = go (true_or (refuses framing)) (dec_lt octets (length m))
      where
        go : (refuses (first (framing_checks b k m)) ≡ true) ⊎ (refuses (first (framing_checks b k m)) ≡ false) → Dec (octets < length m) → Way
        go (inl e) d = framed_out e (call_framing octets room e ∙ sym (judge_framing room e))
        go (inr e) (yes l) = let z = mask-thirteen octets e l in no_copy e l (call_masked b k m octets room (rw z) ∙ z)
        go (inr e) (no l) = by_table e (omega arith) (roomy (omega arith))

    -- a number of 1 to 9 is given by one of them
    pub one-framed : among (call_verdict b k m octets room).code framing_numbers ≡ true → refuses (first (framing_checks b k m)) ≡ true
    one-framed d = go way
      where
        never : false ≡ true → ⊥
        never e = let y : ◌≡◌ {A = ℕ} 0 1 = cc in absurd (omega arith)

        above : {t : List ℕ} {v : Verdict} → Outcome b fine k m t room v → among v.code framing_numbers ≡ true → ⊥
        above (no_room l) d = never d
        above (too_short l r f) d = never d
        above (missing l s p j f) d = never d
        above (right l s n) d = never d

        go : Way → refuses (first (framing_checks b k m)) ≡ true
        go (framed_out e z) = e
        go (no_copy e l z) = absurd (never (rw z at d))
        go (by_table e l z) = let t = tabled e in absurd (above (outcome b fine k m t.0 t.1.0 t.1.1 room) (rw z at d))

    -- so what one of them refuses is refused so whatever is lent
    pub alike : among (call_verdict b k m octets room).code framing_numbers ≡ true
        → (octets' room' : ℕ) → call_verdict b k m octets' room' ≡ call_verdict b k m octets room
    alike d octets' room' = let e = one-framed d in call_framing octets' room' e ∙ sym (call_framing octets room e)

    -- ---- what checks 1 to 12 say, carried over

    module _ (Says : Verdict → Type 0) (not-13 : Says (refused 13 0) → ⊥) where
      -- of a message that 1 to 9 refuse
      framed_alike : (Says (judge_verdict b k m room) → refuses (first (framing_checks b k m)) ≡ true) → Says (call_verdict b k m octets room) ↔ Says (judge_verdict b k m room)
      framed_alike out = (to way, from way)
        where
          to : Way → Says (call_verdict b k m octets room) → Says (judge_verdict b k m room)
          to (framed_out e z) s = rw z at s
          to (no_copy e l z) s = absurd (not-13 (rw z at s))
          to (by_table e l z) s = rw z at s

          from : Way → Says (judge_verdict b k m room) → Says (call_verdict b k m octets room)
          from (framed_out e z) s = rw z s
          from (no_copy e l z) s = absurd (clash (refuses framing) (out s) e)
          from (by_table e l z) s = rw z s

      -- and of one that has its table
      tabled-alike : (Says (judge_verdict b k m room) → refuses (first (framing_checks b k m)) ≡ false)
          → Says (call_verdict b k m octets room) ↔ ((length m ≤ octets) × Says (judge_verdict b k m room))
      tabled-alike passed = (to way, from way)
        where
          to : Way → Says (call_verdict b k m octets room) → (length m ≤ octets) × Says (judge_verdict b k m room)
          to (framed_out e z) s = absurd (clash (refuses framing) e (passed (rw z at s)))
          to (no_copy e l z) s = absurd (not-13 (rw z at s))
          to (by_table e l z) s = (l, rw z at s)

          from : Way → (length m ≤ octets) × Says (judge_verdict b k m room) → Says (call_verdict b k m octets room)
          from (framed_out e z) s = rw z s.1
          from (no_copy e l z) s = absurd (omega (arith, l, s.0))
          from (by_table e l z) s = rw z s.1

      -- in other words for what these say
      framed-words : {W : Type 0} → Says (judge_verdict b k m room) ↔ W → (W → Tabled → ⊥) → Says (call_verdict b k m octets room) ↔ W
      framed-words {W} f off =
          let x = framed_alike (λ s. out (f.0 s) (true_or (refuses framing))) in (λ s. f.0 (x.0 s), λ w. x.1 (f.1 w))
        where
          out : W → (refuses (first (framing_checks b k m)) ≡ true) ⊎ (refuses (first (framing_checks b k m)) ≡ false) → refuses (first (framing_checks b k m)) ≡ true
          out w (inl e) = e
          out w (inr e) = absurd (off w (tabled e))

      tabled-words : {W : Type 0} → Says (judge_verdict b k m room) ↔ W → (W → Tabled) → Says (call_verdict b k m octets room) ↔ ((length m ≤ octets) × W)
      tabled-words f on =
          let x = tabled-alike (λ s. framing-passes (on (f.0 s))) in
          (λ s. let y = x.0 s in (y.0, f.0 y.1), λ w. x.1 (w.0, f.1 w.1))

    -- ---- each number

    pub nine : ((call_verdict b k m octets room).code ≡ 9) ↔ (Passed b k m × ((t : List ℕ) → IsTable b k m t → ⊥))
    nine = framed-words (λ v. v.code ≡ 9) (λ e. omega arith) (nine_iff b fine k m room) (λ w t. w.1 t.1.0 t.1.1)

    pub ten : ((call_verdict b k m octets room).code ≡ 10) ↔ ((length m ≤ octets) × (Passed b k m × ((t : List ℕ) × IsTable b k m t × (room < used (rows t)))))
    ten = tabled-words (λ v. v.code ≡ 10) (λ e. omega arith) (ten_iff b fine k m room) (λ w. (w.0, (w.1.0, w.1.1)))

    pub eleven : ((call_verdict b k m octets room).code ≡ 11) ↔ ((length m ≤ octets) × Short b fine k m room)
    eleven = tabled-words (λ v. v.code ≡ 11) (λ e. omega arith) (eleven_iff b fine k m room) (λ w. (w.0, (w.1.0, w.1.1)))

    pub twelve : ((call_verdict b k m octets room).code ≡ 12) ↔ ((length m ≤ octets) × Missing b fine k m room)
    twelve = tabled-words (λ v. v.code ≡ 12) (λ e. omega arith) (twelve_iff b fine k m room) (λ w. (w.0, (w.1.0, w.1.1)))

    pub thirteen : ((call_verdict b k m octets room).code ≡ 13) ↔ ((octets < length m) × Tabled)
    thirteen = (to way, λ x. from x way)
      where
        to : Way → (call_verdict b k m octets room).code ≡ 13 → (octets < length m) × Tabled
        to (framed_out e z) c = absurd (never_13 room (rw z at c))
        to (no_copy e l z) c = (l, tabled e)
        to (by_table e l z) c = absurd (never_13 room (rw z at c))

        from : (octets < length m) × Tabled → Way → (call_verdict b k m octets room).code ≡ 13
        from x (framed_out e z) = absurd (clash (refuses framing) e (framing-passes x.1))
        from x (no_copy e l z) = rw z
        from x (by_table e l z) = absurd (omega (arith, l, x.0))

    -- ---- and what it names

    pub nine-place : (q : ℕ) → (call_verdict b k m octets room ≡ refused_at 9 invalid_length q 0 0) ↔ (Passed b k m × ((t : List ℕ) × IsCut b k m t q))
    nine-place q =
        framed-words (λ v. v ≡ refused_at 9 invalid_length q 0 0) (λ e. omega (arith, ap (λ (v : Verdict). v.code) e)) (nine-at b fine k m room q)
        (λ w t. ((nine_iff b fine k m room).0 (ap (λ (v : Verdict). v.code) ((nine-at b fine k m room q).1 w))).1 t.1.0 t.1.1)

    module _ (q y i : ℕ) where
      pub eleven-place : (call_verdict b k m octets room ≡ refused_at 11 invalid_length q y i) ↔ ((length m ≤ octets) × ShortAt b fine k m room q y i)
      eleven-place =
          tabled-words (λ v. v ≡ refused_at 11 invalid_length q y i) (λ e. omega (arith, ap (λ (v : Verdict). v.code) e)) (eleven-at b fine k m room q y i)
          (λ w. (w.0, (w.1.0, w.1.1)))

      pub twelve-place : (call_verdict b k m octets room ≡ refused_at 12 mandatory_missing q y i) ↔ ((length m ≤ octets) × MissingAt b fine k m room q y i)
      twelve-place =
          tabled-words (λ v. v ≡ refused_at 12 mandatory_missing q y i) (λ e. omega (arith, ap (λ (v : Verdict). v.code) e)) (twelve-at b fine k m room q y i)
          (λ w. (w.0, (w.1.0, w.1.1)))

    -- ---- where a copy is written

    abbrev pub HasRoom : Type 0
    HasRoom = (length m ≤ octets) × (Passed b k m × ((t : List ℕ) × IsTable b k m t × (used (rows t) ≤ room)))

    pub fits : (t : List ℕ) → IsTable b k m t → used (length (items b k m)) ≡ used (rows t)
    fits t x = let c = complete b fine k m t x in ap used (ap (λ (o : Out (List Item)). length (items_in o)) c.1 ∙ sym (count_of t c.0 c.2))

    -- neither 1 to 9 nor 13 nor 10 refuse
    pub lent_iff : (refuses (first (lent_checks b k m octets room)) ≡ false) ↔ HasRoom
    unfolding mask_checks first check AllPass
    lent_iff = (to, from)
      where
        to : refuses (first (lent_checks b k m octets room)) ≡ false → HasRoom
        to e =
            let both = both-pass (mask_checks b k m octets) (room_check b k m room ∷ []) (rw (lent_split b k m octets room) at e) in
            let front = both-pass (framing_checks b k m) (copy_check b k m octets ∷ []) both.0 in
            let c = (all_pass (copy_check b k m octets ∷ [])).0 front.1 in
            let r = (all_pass (room_check b k m room ∷ [])).0 both.1 in
            let t = tabled front.0 in
            let l = ltb-false octets (length m) (sym (check-off (ltb octets (length m)) (refused 13 0) refl) ∙ c.0) in
            let u = ltb-false room (used (length (items b k m))) (sym (check-off (ltb room (used (length (items b k m)))) (refused 10 0) refl) ∙ r.0) in
            (l, (t.0, (t.1.0, t.1.1, omega (arith, u, fits t.1.0 t.1.1))))

        from : HasRoom → refuses (first (lent_checks b k m octets room)) ≡ false
        from (l, (p, (t, x, u))) =
            let e = mask-passes octets (framing-passes (p, (t, x))) l in
            rw (ap first (lent_split b k m octets room) ∙ first_append (mask_checks b k m octets) (room_check b k m room ∷ []), e, le-ltb room (used (length (items b k m))) (omega (arith, u, fits t x)))

    -- 0, 11 and 12 are given there, and nowhere else
    pub copies_iff : Copies (call_verdict b k m octets room) ↔ HasRoom
    copies_iff = (to way, from)
      where
        by-outcome : {t : List ℕ} {v : Verdict} → Outcome b fine k m t room v → Copies v → used (rows t) ≤ room
        by-outcome (no_room l) c = let y : ◌≡◌ {A = ℕ} 0 1 = cc in absurd (omega arith)
        by-outcome (too_short l r f) c = l
        by-outcome (missing l s p j f) c = l
        by-outcome (right l s n) c = l

        of-outcome : {t : List ℕ} {v : Verdict} → Outcome b fine k m t room v → used (rows t) ≤ room → Copies v
        of-outcome (no_room l) u = absurd (omega arith)
        of-outcome (too_short l r f) u = refl
        of-outcome (missing l s p j f) u = refl
        of-outcome (right l s n) u = refl

        never-framing : refuses (first (framing_checks b k m)) ≡ true → ((judge_verdict b k m room).code ≡ 0) ⊎ (((judge_verdict b k m room).code ≡ 11) ⊎ ((judge_verdict b k m room).code ≡ 12)) → ⊥
        never-framing e (inl z) = let f : refuses (judge_verdict b k m room) ≡ true = rw (judge_framing room e) e in clash (refuses (judge_verdict b k m room)) f (rw z)
        never-framing e (inr (inl z)) = let w = (eleven_iff b fine k m room).0 z in clash (refuses framing) e (framing-passes (w.0, (w.1.0, w.1.1)))
        never-framing e (inr (inr z)) = let w = (twelve_iff b fine k m room).0 z in clash (refuses framing) e (framing-passes (w.0, (w.1.0, w.1.1)))

        to : Way → Copies (call_verdict b k m octets room) → HasRoom
        to (framed_out e z) c = absurd (never-framing e (copies_which (judge_verdict b k m room) (rw z at c)))
        to (no_copy e l z) c = let w : false ≡ true = rw z at c in let y : ◌≡◌ {A = ℕ} 0 1 = cc in absurd (omega arith)
        to (by_table e l z) c = let t = tabled e in (l, (t.0, (t.1.0, t.1.1, by-outcome (outcome b fine k m t.0 t.1.0 t.1.1 room) (rw z at c))))

        from : HasRoom → Copies (call_verdict b k m octets room)
        from (l, (p, (t, x, u))) = rw (roomy l) (of-outcome (outcome b fine k m p t x room) u)

  -- a copy buffer for the largest message has room for every message that is not refused for its length
  pub ample : (room : ℕ) → call_verdict b k m largest_message room ≡ judge_verdict b k m room
  ample room = go (true_or (refuses framing))
    where
      go : (refuses (first (framing_checks b k m)) ≡ true) ⊎ (refuses (first (framing_checks b k m)) ≡ false) → call_verdict b k m largest_message room ≡ judge_verdict b k m room
      go (inl e) = call_framing largest_message room e ∙ sym (judge_framing room e)
      go (inr e) = roomy largest_message room (framed b k m e).0.most

  -- ---- acceptance

  -- the table that is left is the one that the checks with no copy leave
  pub roomy-table : (octets : ℕ) (table : List ℕ) → length m ≤ octets → call_table b k m octets table ≡ judge_table b k m table
  unfolding call_table judge_table
  roomy-table octets table l = rw (roomy octets (length table) l)

  pub acceptance : (octets : ℕ) (lent left : List ℕ)
      → ((call_verdict b k m octets (length lent) ≡ accepted) × (call_table b k m octets lent ≡ left)) ↔ ((length m ≤ octets) × Leaves b k m lent left)
  acceptance octets lent left = (to, from)
    where
      room : length m ≤ octets → call_verdict b k m octets (length lent) ≡ accepted → judge_verdict b k m (length lent) ≡ accepted
      room l a = sym (roomy octets (length lent) l) ∙ a

      to : (call_verdict b k m octets (length lent) ≡ accepted) × (call_table b k m octets lent ≡ left) → (length m ≤ octets) × Leaves b k m lent left
      to (a, z) =
          let l = ((copies_iff octets (length lent)).0 (rw a)).0 in
          (l, (accepts_iff b fine k m lent left).0 (room l a, sym (roomy-table octets lent l) ∙ z))

      from : (length m ≤ octets) × Leaves b k m lent left → (call_verdict b k m octets (length lent) ≡ accepted) × (call_table b k m octets lent ≡ left)
      from (l, x) = let y = (accepts_iff b fine k m lent left).1 x in (roomy octets (length lent) l ∙ y.0, roomy-table octets lent l ∙ y.1)
