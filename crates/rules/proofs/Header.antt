-- What passing checks 1 to 8 says of a message, and that each check has a number of its own. Assumes nothing.
--     passed      checks 1 to 8 pass               framed       checks 1 to 9 pass: the elements are all taken
--     framing_case, call_case, judge_case, clean_case, build_case   a number is given exactly in its own case
use mathlib.Core.Path.{◌≡◌, refl, sym}
use mathlib.Core.Logic.{◌⊎◌, inl, inr, ◌↔◌}
use mathlib.Core.Bool.{Bool, true, false, cond, not, ◌||◌}
use mathlib.Core.List.{List, [], ◌∷◌, ◌++◌}
use Prim.Native.Nat.{ℕ, suc, ◌+◌, ◌≤◌, ◌<◌}
use native.Mathlib.Omega.{arith}
use native.Mathlib.Nat.{pos_of_ne-zero}
use borrow.Author.Tests.{eqb-true, eqb-false, ltb-false}
use lib.Dec.{eqb}
use lib.ListN.{length, get_or}
use Rattle.rules.specs.Sizes.{largest_message}
use Rattle.rules.specs.Framing.{version, flag_p, flag_t, message_type, length_field, header_length}
use Rattle.rules.specs.Types.{among}
use Rattle.rules.specs.Listings.{Book, Line, listing, message_of, is_message}
use Rattle.rules.specs.Standing.{Item}
use Rattle.rules.specs.Taking.{Out, cut, whole, taken, body_level}
use Rattle.rules.specs.Verdicts.{refused, check, refuses, first, cut_check, short_checks, short_verdict, level_checks, inside_checks, group_checks, lack_checks, lack_verdict, header_checks, framing_checks, items, copy_check, table_checks, judge_checks, call_checks, framing_numbers, judge_numbers, call_numbers}
use Rattle.rules.specs.Cleaned.{is_too_short, clean_checks, clean_numbers}
use Rattle.rules.specs.Built.{build_checks, build_numbers}
use Rattle.rules.specs.declared.Verdict.{Verdict}
use Rattle.rules.proofs.Lines.{beq_same}
use Rattle.rules.proofs.Checks.{AllPass, all_pass, Numbered, separate, numbered_append, OwnCase, in_its_case}

pub record Passed (b : Book) (k : ℕ) (m : List ℕ) : Type 0 where
  pub kind : among k b.kinds ≡ true
  pub some : 0 < length m
  pub most : length m ≤ largest_message
  pub version_2 : version m ≡ 2
  pub has_header : header_length m ≤ length m
  pub no_p : flag_p m ≡ false
  pub length_right : length_field m + 4 ≡ length m
  pub listed : is_message b (message_type m) ≡ true
  pub on_kind : among k (message_of b (message_type m)).kinds ≡ true
  pub t_right : flag_t m ≡ (message_of b (message_type m)).teid

-- a check that does not refuse does not apply
off : (a : Bool) (v : Verdict) → refuses v ≡ true → refuses (check a v) ≡ false → a ≡ false
unfolding check
off true v r e = let z : ◌≡◌ {A = ℕ} 0 1 = cc in absurd (omega arith)
off false v r e = refl

un_not : (a : Bool) → not a ≡ false → a ≡ true
un_not true e = refl
un_not false e = sym e

neither : (a c : Bool) → a || c ≡ false → (a ≡ false) × (c ≡ false)
neither true c e = let z : ◌≡◌ {A = ℕ} 0 1 = cc in absurd (omega arith)
neither false c e = (refl, e)

module _ (b : Book) (k : ℕ) (m : List ℕ) where
  pub passed : refuses (first (header_checks b k m)) ≡ false → Passed b k m
  unfolding header_checks AllPass
  passed e =
      let a = (all_pass (header_checks b k m)).0 e in
      let size = neither _ _ (off _ (refused 2 0) refl a.1.0) in
      record {
        kind = un_not _ (off _ (refused 1 0) refl a.0);
        some = pos_of_ne-zero (eqb-false _ _ size.0);
        most = ltb-false _ _ size.1;
        version_2 = eqb-true _ _ (un_not _ (off _ (refused 3 0) refl a.1.1.0));
        has_header = ltb-false _ _ (off _ (refused 4 0) refl a.1.1.1.0);
        no_p = off _ (refused 5 0) refl a.1.1.1.1.0;
        length_right = eqb-true _ _ (un_not _ (off _ (refused 6 67) refl a.1.1.1.1.1.0));
        listed = un_not _ (off _ (refused 7 0) refl a.1.1.1.1.1.1.0);
        on_kind = un_not _ (off _ (refused 21 0) refl a.1.1.1.1.1.1.1.0);
        t_right = beq_same _ _ (un_not _ (off _ (refused 8 0) refl a.1.1.1.1.1.1.1.1.0));
      }

  -- checks 1 to 9 pass: checks 1 to 8 do, and the elements are all taken
  pass-front : (us vs : List Verdict) → AllPass (us ++ vs) → AllPass us × AllPass vs
  unfolding AllPass
  pass-front [] vs a = (tt, a)
  pass-front (u ∷ us) vs a = let r = pass-front us vs a.1 in ((a.0, r.0), r.1)

  not-cut : (o : Out (List Item)) → refuses (cut_check o) ≡ false → (is : List Item) × (o ≡ whole is)
  not-cut (cut q is) e = let z : ◌≡◌ {A = ℕ} 0 1 = cc in absurd (omega arith)
  not-cut (whole is) e = (is, refl)

  pub framed : refuses (first (framing_checks b k m)) ≡ false → Passed b k m × ((is : List Item) × (taken b k m ≡ whole is))
  unfolding framing_checks AllPass
  framed e =
      let a = pass-front (header_checks b k m) (cut_check (taken b k m) ∷ []) ((all_pass (framing_checks b k m)).0 e) in
      (passed ((all_pass (header_checks b k m)).1 a.0), not-cut (taken b k m) a.1.0)

-- ---- numbers of their own

abbrev ZeroOr : ℕ → Verdict → Type 0
ZeroOr n v = (v.code ≡ 0) ⊎ (v.code ≡ n)

check-code : (n : ℕ) (a : Bool) (v : Verdict) → v.code ≡ n → ZeroOr n (check a v)
unfolding check
check-code n true v e = inr e
check-code n false v e = inl refl

cut-code : (o : Out (List Item)) → ZeroOr 9 (cut_check o)
cut-code (cut q is) = inr refl
cut-code (whole is) = inl refl

unfoldable AllCode : ℕ → List Verdict → Type 0
AllCode n [] = Unit {0}
AllCode n (v ∷ vs) = ZeroOr n v × AllCode n vs

code_append : (n : ℕ) (us vs : List Verdict) → AllCode n us → AllCode n vs → AllCode n (us ++ vs)
unfolding AllCode
code_append n [] vs a c = c
code_append n (u ∷ us) vs a c = (a.0, code_append n us vs a.1 c)

first_code : (n : ℕ) (vs : List Verdict) → AllCode n vs → ZeroOr n (first vs)
unfolding first AllCode
first_code n [] a = inl refl
first_code n (v ∷ vs) a = pick (refuses v) a.0 (first_code n vs a.1)
  where
    pick : (r : Bool) → ZeroOr n v → ZeroOr n (first vs) → ZeroOr n (cond r v (first vs))
    pick true x y = x
    pick false x y = y

shorts_code : (is : List Item) → AllCode 11 (short_checks is)
unfolding short_checks AllCode
shorts_code [] = tt
shorts_code (i ∷ is) = (check-code 11 _ _ refl, shorts_code is)

level-code : (k : ℕ) (all : List Item) (p o : ℕ) (ls : List Line) → AllCode 12 (level_checks k all p o ls)
unfolding level_checks AllCode
level-code k all p o [] = tt
level-code k all p o (l ∷ ls) = (check-code 12 _ _ refl, level-code k all p o ls)

none_or : (c : Bool) (vs : List Verdict) → AllCode 12 vs → AllCode 12 (cond c [] vs)
unfolding AllCode
none_or true vs a = tt
none_or false vs a = a

groups-code : (b : Book) (k : ℕ) (all : List Item) (n : ℕ) (is : List Item) → AllCode 12 (group_checks b k all n is)
unfolding group_checks AllCode
groups-code b k all n [] = tt
groups-code b k all n (i ∷ is) =
    code_append 12 (inside_checks b k all (suc n) i) (group_checks b k all (suc n) is)
    (none_or (eqb i.inside 0) (level_checks k all (suc n) i.place (listing b i.inside)) (level-code k all (suc n) i.place (listing b i.inside)))
    (groups-code b k all (suc n) is)

lacks-code : (b : Book) (k v : ℕ) (is : List Item) → AllCode 12 (lack_checks b k v is)
unfolding lack_checks
lacks-code b k v is =
    code_append 12 (level_checks k is 0 0 (listing b v)) (group_checks b k is 0 is) (level-code k is 0 0 (listing b v)) (groups-code b k is 0 is)

module _ (b : Book) (k : ℕ) (m : List ℕ) where
  framing-numbered : Numbered framing_numbers (framing_checks b k m)
  unfolding framing_checks header_checks Numbered
  framing-numbered = (
    check-code 1 _ _ refl,
    (
      check-code 2 _ _ refl,
      (
        check-code 3 _ _ refl,
        (
          check-code 4 _ _ refl,
          (
            check-code 5 _ _ refl,
            (check-code 6 _ _ refl, (check-code 7 _ _ refl, (check-code 21 _ _ refl, (check-code 8 _ _ refl, (cut-code (taken b k m), tt))))),
          ),
        ),
      ),
    ),
  )

  -- checks after those
  numbered : (ns : List ℕ) (vs : List Verdict) → Numbered ns vs → Numbered (framing_numbers ++ ns) (framing_checks b k m ++ vs)
  numbered ns vs a = numbered_append framing_numbers ns (framing_checks b k m) vs framing-numbered a

  short-code : ((short_verdict (items b k m)).code ≡ 0) ⊎ ((short_verdict (items b k m)).code ≡ 11)
  short-code = first_code 11 (short_checks (items b k m)) (shorts_code (items b k m))

  lack_code : ((lack_verdict b k (body_level b m) (items b k m)).code ≡ 0) ⊎ ((lack_verdict b k (body_level b m) (items b k m)).code ≡ 12)
  lack_code = first_code 12 (lack_checks b k (body_level b m) (items b k m)) (lacks-code b k (body_level b m) (items b k m))

  -- 10 to 12
  table-numbered : (room : ℕ) → Numbered (10 ∷ 11 ∷ 12 ∷ []) (table_checks b k m room)
  unfolding Numbered
  table-numbered room = (check-code 10 _ _ refl, (short-code, (lack_code, tt)))

  -- those alone
  pub framing_case : (j : ℕ) → j < 10 → ((first (framing_checks b k m)).code ≡ get_or framing_numbers j 0) ↔ OwnCase (framing_checks b k m) j
  unfolding framing_checks header_checks separate
  framing_case j l = in_its_case framing_numbers (framing_checks b k m) refl framing-numbered j l

  -- 13, then 10 to 12
  pub call_case : (octets room j : ℕ) → j < 14 → ((first (call_checks b k m octets room)).code ≡ get_or call_numbers j 0) ↔ OwnCase (call_checks b k m octets room) j
  unfolding call_checks Numbered separate
  call_case octets room j l =
      in_its_case call_numbers (call_checks b k m octets room) refl
      (numbered (13 ∷ 10 ∷ 11 ∷ 12 ∷ []) (copy_check b k m octets ∷ table_checks b k m room) (check-code 13 _ _ refl, table-numbered room)) j l

  module _ (room : ℕ) where
    pub judge_case : (j : ℕ) → j < 13 → ((first (judge_checks b k m room)).code ≡ get_or judge_numbers j 0) ↔ OwnCase (judge_checks b k m room) j
    unfolding judge_checks separate
    judge_case j l =
        in_its_case judge_numbers (judge_checks b k m room) refl (numbered (10 ∷ 11 ∷ 12 ∷ []) (table_checks b k m room) (table-numbered room)) j l

    pub clean_case : (j : ℕ) → j < 13 → ((first (clean_checks b k m room)).code ≡ get_or clean_numbers j 0) ↔ OwnCase (clean_checks b k m room) j
    unfolding clean_checks Numbered separate
    clean_case j l =
        in_its_case clean_numbers (clean_checks b k m room) refl
        (numbered (11 ∷ 12 ∷ 13 ∷ []) (short_verdict (items b k m) ∷ lack_verdict b k (body_level b m) (items b k m) ∷ is_too_short b k m room ∷ [])
        (short-code, (lack_code, (check-code 13 _ _ refl, tt)))) j l

pub build_case : (b : Book) (k typ teid sequence : ℕ) (t values : List ℕ) (room j : ℕ) → j < 6
    → ((first (build_checks b k typ teid sequence t values room)).code ≡ get_or build_numbers j 0) ↔ OwnCase (build_checks b k typ teid sequence t values room) j
unfolding build_checks Numbered separate
build_case b k typ teid sequence t values room j l =
    in_its_case build_numbers (build_checks b k typ teid sequence t values room) refl
    (check-code 1 _ _ refl, (check-code 7 _ _ refl, (check-code 21 _ _ refl, (check-code 14 _ _ refl, (check-code 15 _ _ refl, (check-code 16 _ _ refl, tt)))))) j l
