-- Demand 1: each number is given exactly in its own case, in words, and comes with what it names. Assumes nothing.
--     own-words    over any list of checks and conditions          call-words, judge_words   of the one call, and with no copy asked for
--     call_says                                                    what each number comes with
use mathlib.Core.Path.{◌≡◌, refl, sym, ◌∙◌}
use mathlib.Core.Logic.{◌⊎◌, inl, inr, ◌↔◌, ◌≢◌}
use mathlib.Core.Bool.{Bool, true, false, not, ◌||◌, beq}
use mathlib.Core.List.{List, [], ◌∷◌, ◌++◌}
use Prim.Native.Nat.{ℕ, zero, suc, ◌+◌, ◌-◌, ◌<◌}
use native.Mathlib.Omega.{arith}
use native.Mathlib.Decide.{dec_lt}
use borrow.Author.Tests.{eqb-true, eqb-false, eq-eqb, ne_eqb, ltb-true, lt-ltb}
use lib.Dec.{eqb, ltb}
use lib.ListN.{length, drop, get_or}
use Rattle.rules.specs.Sizes.{largest_message, used}
use Rattle.rules.specs.Framing.{version, flag_t, message_type, length_field, header_length}
use Rattle.rules.specs.Types.{among}
use Rattle.rules.specs.Listings.{Book, message_of, is_message}
use Rattle.rules.specs.Standing.{Item}
use Rattle.rules.specs.Taking.{Out, cut, whole, taken, body_level}
use Rattle.rules.specs.Sound.{sound}
use Rattle.rules.specs.Table.{table_of}
use Rattle.rules.specs.Verdicts.{accepted, refused, refused_at, invalid_length, check, refuses, first, cut_check, header_checks, framing_checks, items, short_verdict, lack_verdict, table_checks, copy_check, judge_checks, call_checks, judge_verdict, call_verdict, judge_numbers, call_numbers}
use Rattle.rules.specs.Cleaned.{clean_checks}
use Rattle.rules.specs.declared.Verdict.{Verdict}
use Rattle.rules.proofs.Mets.{cut-met, met-cut}
use Rattle.rules.proofs.Checks.{AllPass, all_pass, OwnCase}
use Rattle.rules.proofs.Header.{framed, judge_case, call_case}
use Rattle.verdicts.specs.Conditions.{CutIn, numbers, framing_conditions, table_conditions, copy_conditions, judge_conditions, call_conditions, OwnWords, framing_words, table_words, copy_words, call_words}
use Rattle.verdicts.specs.Missing.{ShortRow, Lacks}
use Rattle.tables.proofs.Tests.{clash, true_or}
use Rattle.tables.proofs.Rowed.{own-begins}
use Rattle.tables.proofs.Messages.{walked-of}
use Rattle.verdicts.proofs.Missing.{missing_iff, missing-first, short_iff, short-first}

-- where none of the checks before it applies, a check applies exactly where its condition holds
abbrev pub Step : List Verdict → List (Type 0) → ℕ → Type 0
Step vs cs j = ((i : ℕ) → i < j → refuses (get_or vs i accepted) ≡ false) → (refuses (get_or vs j accepted) ≡ true) ↔ get_or cs j ⊥

module _ (vs : List Verdict) (cs : List (Type 0)) where
  -- none of the conditions before n holds, so none of the checks applies
  pub none-applies : (n : ℕ) → ((j : ℕ) → j < n → Step vs cs j) → ((i : ℕ) → i < n → get_or cs i ⊥ → ⊥) → (i : ℕ) → i < n → refuses (get_or vs i accepted) ≡ false
  none-applies zero steps off i l = absurd (omega arith)
  none-applies (suc n) steps off i l =
      let before : (i : ℕ) → i < n → refuses (get_or vs i accepted) ≡ false
      = none-applies n (λ j h. steps j (omega arith)) (λ j h. off j (omega arith)) in
      pick (dec_lt i n) before
    where
      pick : Dec (i < n) → ((x : ℕ) → x < n → refuses (get_or vs x accepted) ≡ false) → refuses (get_or vs i accepted) ≡ false
      pick (yes h) before = before i h
      pick (no h) before = here (true_or (refuses (get_or vs i accepted)))
        where
          here : (refuses (get_or vs i accepted) ≡ true) ⊎ (refuses (get_or vs i accepted) ≡ false) → refuses (get_or vs i accepted) ≡ false
          here (inl x) = absurd (off i l ((steps i l (λ j z. before j (omega arith))).0 x))
          here (inr x) = x

  own-words : (j : ℕ) → ((i : ℕ) → i < suc j → Step vs cs i) → OwnCase vs j ↔ OwnWords cs j
  own-words j steps = (
    λ o. record {
      holds = (steps j (omega arith) o.none_before).0 o.applies;
      none_before = λ i l c. clash (refuses (get_or vs i accepted)) ((steps i (omega arith) (λ x y. o.none_before x (omega arith))).1 c) (o.none_before i l);
    },
    λ w. let off = none-applies j (λ i l. steps i (omega arith)) w.none_before in
        record { applies = (steps j (omega arith) off).1 w.holds; none_before = off },
  )

-- ---- the conditions

-- a check applies exactly where its test holds
on : (a : Bool) (v : Verdict) → refuses v ≡ true → (refuses (check a v) ≡ true) ↔ (a ≡ true)
unfolding check
on true v e = (λ x. refl, λ x. e)
on false v e = (λ x. x, λ x. x)

not_is : (a : Bool) → (not a ≡ true) ↔ (a ≡ false)
not_is true = (λ x. sym x, λ x. sym x)
not_is false = (λ x. refl, λ x. refl)

not_eq : (x y : ℕ) → (not (eqb x y) ≡ true) ↔ (x ≢ y)
not_eq x y = (λ e. eqb-false x y ((not_is (eqb x y)).0 e), λ f. (not_is (eqb x y)).1 (ne_eqb x y f))

or_is : (a c : Bool) → (a || c ≡ true) ↔ ((a ≡ true) ⊎ (c ≡ true))
or_is true c = (λ e. inl refl, λ e. refl)
or_is false c = (λ e. inr e, back)
  where
    back : (false ≡ true) ⊎ (c ≡ true) → c ≡ true
    back (inl x) = let z : ◌≡◌ {A = ℕ} 0 1 = cc in absurd (omega arith)
    back (inr x) = x

chain : {A B C : Type 0} → A ↔ B → B ↔ C → A ↔ C
chain f g = (λ a. g.0 (f.0 a), λ c. f.1 (g.1 c))

map_or : {A B C D : Type 0} → A ↔ B → C ↔ D → (A ⊎ C) ↔ (B ⊎ D)
map_or {A} {B} {C} {D} f g = (to, from)
  where
    to : A ⊎ C → B ⊎ D
    to (inl x) = inl (f.0 x)
    to (inr x) = inr (g.0 x)

    from : B ⊎ D → A ⊎ C
    from (inl x) = inl (f.1 x)
    from (inr x) = inr (g.1 x)

lt_is : (x y : ℕ) → (ltb x y ≡ true) ↔ (x < y)
lt_is x y = (ltb-true x y, lt-ltb x y)

eq_is : (x y : ℕ) → (eqb x y ≡ true) ↔ (x ≡ y)
eq_is x y = (eqb-true x y, eq-eqb x y)

differ : (a c : Bool) → (not (beq a c) ≡ true) ↔ (a ≢ c)
differ true true = (λ e. let z : ◌≡◌ {A = ℕ} 0 1 = cc in absurd (omega arith), λ f. absurd (f refl))
differ true false = (λ e x. let z : ◌≡◌ {A = ℕ} 0 1 = cc in omega arith, λ f. refl)
differ false true = (λ e x. let z : ◌≡◌ {A = ℕ} 0 1 = cc in omega arith, λ f. refl)
differ false false = (λ e. let z : ◌≡◌ {A = ℕ} 0 1 = cc in absurd (omega arith), λ f. absurd (f refl))

module _ (b : Book) (k : ℕ) (m : List ℕ) where
  cut_case : (o : Out (List Item)) → taken b k m ≡ o → (refuses (cut_check o) ≡ true) ↔ ((q : ℕ) × CutIn b k m q)
  unfolding taken
  cut_case (cut q is) e = (λ x. (q, cut-met b k (body_level b m) (header_length m) (drop (header_length m) m) q is e), λ x. refl)
  cut_case (whole is) e = (
    λ x. let z : ◌≡◌ {A = ℕ} 0 1 = cc in absurd (omega arith),
    λ x. let r = met-cut b k (body_level b m) (header_length m) (drop (header_length m) m) x.1 in
        let c : whole is ≡ cut x.0 r.0 = sym e ∙ r.1 in let z : ◌≡◌ {A = ℕ} 0 1 = cc in absurd (omega arith),
  )

  framing-step : (vs : List Verdict) (cs : List (Type 0)) (j : ℕ) → j < 10 → Step (framing_checks b k m ++ vs) (framing_conditions b k m ++ cs) j
  unfolding framing_checks header_checks
  framing-step vs cs zero l p = chain (on _ (refused 1 0) refl) (not_is (among k b.kinds))
  framing-step vs cs (suc zero) l p =
      chain (on _ (refused 2 0) refl) (chain (or_is (eqb (length m) 0) (ltb largest_message (length m))) (map_or (eq_is (length m) 0) (lt_is largest_message (length m))))
  framing-step vs cs (suc (suc zero)) l p = chain (on _ (refused 3 0) refl) (not_eq (version m) 2)
  framing-step vs cs (suc (suc (suc zero))) l p = chain (on _ (refused 4 0) refl) (lt_is (length m) (header_length m))
  framing-step vs cs (suc (suc (suc (suc zero)))) l p = on _ (refused 5 0) refl
  framing-step vs cs (suc (suc (suc (suc (suc zero))))) l p = chain (on _ (refused 6 67) refl) (not_eq (length_field m + 4) (length m))
  framing-step vs cs (suc (suc (suc (suc (suc (suc zero)))))) l p = chain (on _ (refused 7 0) refl) (not_is (is_message b (message_type m)))
  framing-step vs cs (suc (suc (suc (suc (suc (suc (suc zero))))))) l p = chain (on _ (refused 21 0) refl) (not_is (among k (message_of b (message_type m)).kinds))
  framing-step vs cs (suc (suc (suc (suc (suc (suc (suc (suc zero)))))))) l p = chain (on _ (refused 8 0) refl) (differ (flag_t m) (message_of b (message_type m)).teid)
  framing-step vs cs (suc (suc (suc (suc (suc (suc (suc (suc (suc zero))))))))) l p = cut_case (taken b k m) refl
  framing-step vs cs (suc (suc (suc (suc (suc (suc (suc (suc (suc (suc j)))))))))) l p = absurd (omega arith)

  -- ---- the lists of checks

  -- checks 1 to 9 pass where none of the first ten applies
  nine-pass : (vs : List Verdict) → ((i : ℕ) → i < 10 → refuses (get_or (framing_checks b k m ++ vs) i accepted) ≡ false) → refuses (first (framing_checks b k m)) ≡ false
  unfolding framing_checks header_checks AllPass
  nine-pass vs p =
      (all_pass (framing_checks b k m)).1
      (p 0 (omega arith), (p 1 (omega arith), (p 2 (omega arith), (p 3 (omega arith), (p 4 (omega arith), (p 5 (omega arith), (p 6 (omega arith), (p 7 (omega arith), (p 8 (omega arith), (p 9 (omega arith), tt))))))))))

module _ (b : Book) (fine : sound b ≡ true) (k : ℕ) (m : List ℕ) where
  -- a message that passes 1 to 9: its elements, and what the laws about its rows ask
  short-words : refuses (first (framing_checks b k m)) ≡ false
      → (refuses (short_verdict (items b k m)) ≡ true) ↔ ((r : ℕ) × ShortRow b k (body_level b m) (numbers b k m) r)
  short-words e =
      let f = framed b k m e in let es = f.1.0 in let w = f.1.1 in
      rw w (short_iff b fine k m (table_of (message_type m) k es) es (own-begins (message_type m) k es) (walked-of b k m es w) f.0.listed)

  lack_words : refuses (first (framing_checks b k m)) ≡ false
      → (refuses (lack_verdict b k (body_level b m) (items b k m)) ≡ true) ↔ ((p : ℕ) × (j : ℕ) × Lacks b k (body_level b m) (numbers b k m) p j)
  lack_words e =
      let f = framed b k m e in let es = f.1.0 in let w = f.1.1 in
      rw w (missing_iff b fine k m (table_of (message_type m) k es) es (own-begins (message_type m) k es) (walked-of b k m es w) f.0.listed)

  -- 10 to 12, where 1 to 9 pass
  table_step : (room i : ℕ) → i < 3 → refuses (first (framing_checks b k m)) ≡ false → (refuses (get_or (table_checks b k m room) i accepted) ≡ true) ↔ get_or (table_conditions b k m room) i ⊥
  table_step room zero l e = chain (on _ (refused 10 0) refl) (lt_is room (used (length (items b k m))))
  table_step room (suc zero) l e = short-words e
  table_step room (suc (suc zero)) l e = lack_words e
  table_step room (suc (suc (suc i))) l e = absurd (omega arith)

  judge_last : (room i : ℕ) → i < 3 → Step (judge_checks b k m room) (judge_conditions b k m room) (suc (suc (suc (suc (suc (suc (suc (suc (suc (suc i))))))))))
  unfolding judge_checks framing_checks header_checks
  judge_last room i l p = table_step room i l (nine-pass b k m (table_checks b k m room) (λ x h. p x (omega arith)))

  pub judge_step : (room j : ℕ) → j < 13 → Step (judge_checks b k m room) (judge_conditions b k m room) j
  unfolding judge_checks
  judge_step room j l = go (dec_lt j 10)
    where
      go : Dec (j < 10) → Step (judge_checks b k m room) (judge_conditions b k m room) j
      go (yes h) = framing-step b k m (table_checks b k m room) (table_conditions b k m room) j h
      go (no h) = let z : j ≡ suc (suc (suc (suc (suc (suc (suc (suc (suc (suc (j - 10)))))))))) = omega arith in rw z (judge_last room (j - 10) (omega arith))

  call_last : (octets room i : ℕ) → i < 4 → Step (call_checks b k m octets room) (call_conditions b k m octets room) (suc (suc (suc (suc (suc (suc (suc (suc (suc (suc i))))))))))
  unfolding call_checks framing_checks header_checks
  call_last octets room zero l p = chain (on _ (refused 13 0) refl) (lt_is octets (length m))
  call_last octets room (suc i) l p = table_step room i (omega arith) (nine-pass b k m (copy_check b k m octets ∷ table_checks b k m room) (λ x h. p x (omega arith)))

  pub call_step : (octets room j : ℕ) → j < 14 → Step (call_checks b k m octets room) (call_conditions b k m octets room) j
  unfolding call_checks
  call_step octets room j l = go (dec_lt j 10)
    where
      go : Dec (j < 10) → Step (call_checks b k m octets room) (call_conditions b k m octets room) j
      go (yes h) = framing-step b k m (copy_check b k m octets ∷ table_checks b k m room) (copy_conditions b k m octets ++ table_conditions b k m room) j h
      go (no h) = let z : j ≡ suc (suc (suc (suc (suc (suc (suc (suc (suc (suc (j - 10)))))))))) = omega arith in rw z (call_last octets room (j - 10) (omega arith))

  pub judge_words : (room j : ℕ) → j < 13 → ((judge_verdict b k m room).code ≡ get_or judge_numbers j 0) ↔ OwnWords (judge_conditions b k m room) j
  judge_words room j l = chain (judge_case b k m room j l) (own-words (judge_checks b k m room) (judge_conditions b k m room) j (λ i h. judge_step room i (omega arith)))

  pub call-words : (octets room j : ℕ) → j < 14 → ((call_verdict b k m octets room).code ≡ get_or call_numbers j 0) ↔ OwnWords (call_conditions b k m octets room) j
  call-words octets room j l =
      chain (call_case b k m octets room j l) (own-words (call_checks b k m octets room) (call_conditions b k m octets room) j (λ i h. call_step octets room i (omega arith)))

module _ (b : Book) (k : ℕ) (m : List ℕ) (room : ℕ) where
  pub judge_count : length (judge_checks b k m room) ≡ 13
  unfolding judge_checks framing_checks header_checks
  judge_count = refl

  pub call_count : (octets : ℕ) → length (call_checks b k m octets room) ≡ 14
  unfolding call_checks framing_checks header_checks
  call_count octets = refl

  pub clean-count : length (clean_checks b k m room) ≡ 13
  unfolding clean_checks framing_checks header_checks
  clean-count = refl

-- ---- what each number comes with

-- the check that is given says the verdict
own-says : (vs : List Verdict) (j : ℕ) → j < length vs → OwnCase vs j → first vs ≡ get_or vs j accepted
unfolding first
own-says [] j l o = absurd (omega arith)
own-says (v ∷ vs) zero l o = rw o.applies
own-says (v ∷ vs) (suc j) l o =
    rw (o.none_before 0 (omega arith)) (own-says vs j (omega arith) (record { applies = o.applies; none_before = λ i h. o.none_before (suc i) (omega arith) }))

-- a check that applies says its own verdict
says-own : (a : Bool) (v : Verdict) → refuses (check a v) ≡ true → check a v ≡ v
unfolding check
says-own true v e = refl
says-own false v e = let z : ◌≡◌ {A = ℕ} 0 1 = cc in absurd (omega arith)

abbrev Says : List Verdict → List (Verdict → Type 0) → ℕ → Type 0
Says vs ws j = OwnCase vs j → get_or ws j (λ v. ⊥) (get_or vs j accepted)

module _ (b : Book) (k : ℕ) (m : List ℕ) where
  cut-says : (o : Out (List Item)) → taken b k m ≡ o → refuses (cut_check o) ≡ true → (q : ℕ) × CutIn b k m q × (cut_check o ≡ refused_at 9 invalid_length q 0 0)
  unfolding taken
  cut-says (cut q is) e x = (q, cut-met b k (body_level b m) (header_length m) (drop (header_length m) m) q is e, refl)
  cut-says (whole is) e x = let z : ◌≡◌ {A = ℕ} 0 1 = cc in absurd (omega arith)

  framing-says : (vs : List Verdict) (ws : List (Verdict → Type 0)) (j : ℕ) → j < 10 → Says (framing_checks b k m ++ vs) (framing_words b k m ++ ws) j
  unfolding framing_checks header_checks
  framing-says vs ws zero l o = says-own _ (refused 1 0) o.applies
  framing-says vs ws (suc zero) l o = says-own _ (refused 2 0) o.applies
  framing-says vs ws (suc (suc zero)) l o = says-own _ (refused 3 0) o.applies
  framing-says vs ws (suc (suc (suc zero))) l o = says-own _ (refused 4 0) o.applies
  framing-says vs ws (suc (suc (suc (suc zero)))) l o = says-own _ (refused 5 0) o.applies
  framing-says vs ws (suc (suc (suc (suc (suc zero))))) l o = says-own _ (refused 6 67) o.applies
  framing-says vs ws (suc (suc (suc (suc (suc (suc zero)))))) l o = says-own _ (refused 7 0) o.applies
  framing-says vs ws (suc (suc (suc (suc (suc (suc (suc zero))))))) l o = says-own _ (refused 21 0) o.applies
  framing-says vs ws (suc (suc (suc (suc (suc (suc (suc (suc zero)))))))) l o = says-own _ (refused 8 0) o.applies
  framing-says vs ws (suc (suc (suc (suc (suc (suc (suc (suc (suc zero))))))))) l o = cut-says (taken b k m) refl o.applies
  framing-says vs ws (suc (suc (suc (suc (suc (suc (suc (suc (suc (suc j)))))))))) l o = absurd (omega arith)

module _ (b : Book) (fine : sound b ≡ true) (k : ℕ) (m : List ℕ) (room : ℕ) where
  -- 10 to 12, where 1 to 9 pass
  table-says : (i : ℕ) → i < 3 → refuses (first (framing_checks b k m)) ≡ false → refuses (get_or (table_checks b k m room) i accepted) ≡ true
      → get_or (table_words b k m) i (λ v. ⊥) (get_or (table_checks b k m room) i accepted)
  table-says zero l e a = says-own _ (refused 10 0) a
  table-says (suc zero) l e a =
      let f = framed b k m e in let es = f.1.0 in let w = f.1.1 in
      rw w (short-first b fine k m (table_of (message_type m) k es) es (own-begins (message_type m) k es) (walked-of b k m es w) f.0.listed (rw w at a))
  table-says (suc (suc zero)) l e a =
      let f = framed b k m e in let es = f.1.0 in let w = f.1.1 in
      rw w (missing-first b fine k m (table_of (message_type m) k es) es (own-begins (message_type m) k es) (walked-of b k m es w) f.0.listed (rw w at a))
  table-says (suc (suc (suc i))) l e a = absurd (omega arith)

  call_later : (octets i : ℕ) → i < 4 → Says (call_checks b k m octets room) (call_words b k m) (suc (suc (suc (suc (suc (suc (suc (suc (suc (suc i))))))))))
  unfolding call_checks framing_checks header_checks
  call_later octets zero l o = says-own _ (refused 13 0) o.applies
  call_later octets (suc i) l o =
      table-says i (omega arith) (nine-pass b k m (copy_check b k m octets ∷ table_checks b k m room) (λ x h. o.none_before x (omega arith))) o.applies

  call_saying : (octets j : ℕ) → j < 14 → Says (call_checks b k m octets room) (call_words b k m) j
  unfolding call_checks
  call_saying octets j l = go (dec_lt j 10)
    where
      go : Dec (j < 10) → Says (call_checks b k m octets room) (call_words b k m) j
      go (yes h) = framing-says b k m (copy_check b k m octets ∷ table_checks b k m room) (copy_words b k m ++ table_words b k m) j h
      go (no h) = let z : j ≡ suc (suc (suc (suc (suc (suc (suc (suc (suc (suc (j - 10)))))))))) = omega arith in rw z (call_later octets (j - 10) (omega arith))

  -- 9 alone, with no copy asked for
  pub nine-says : (judge_verdict b k m room).code ≡ 9 → (q : ℕ) × CutIn b k m q × (judge_verdict b k m room ≡ refused_at 9 invalid_length q 0 0)
  unfolding judge_checks
  nine-says e =
      let o = (judge_case b k m room 9 (omega arith)).0 e in
      rw (own-says (judge_checks b k m room) 9 (omega (arith, judge_count b k m room)) o) (framing-says b k m (table_checks b k m room) (table_words b k m) 9 (omega arith) o)

  pub call_says : (octets j : ℕ) → j < 14 → (call_verdict b k m octets room).code ≡ get_or call_numbers j 0 → get_or (call_words b k m) j (λ v. ⊥) (call_verdict b k m octets room)
  call_says octets j l e =
      let o = (call_case b k m octets room j l).0 e in
      rw (own-says (call_checks b k m octets room) j (omega (arith, call_count b k m room octets)) o) (call_saying octets j l o)
