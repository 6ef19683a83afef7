-- Acceptance is given exactly where no condition holds, and every answer is acceptance or has one of the numbers: either no check applies, or one is
-- the first that does, and that one has its number. Assumes nothing.
--     none-accepts   over any list of checks and conditions       call_accepting   of the one call
--     call_codes, judge_codes                                   every answer, and with no copy asked for
use mathlib.Core.Path.{◌≡◌, refl}
use mathlib.Core.Logic.{◌⊎◌, inl, inr, ◌↔◌}
use mathlib.Core.Bool.{Bool, true, false}
use mathlib.Core.List.{List, [], ◌∷◌}
use Prim.Native.Nat.{ℕ, zero, suc, ◌<◌}
use native.Mathlib.Omega.{arith}
use lib.Dec.{ltb}
use lib.ListN.{length, get_or}
use Rattle.rules.specs.Sizes.{header_numbers}
use Rattle.rules.specs.Types.{among}
use Rattle.rules.specs.Listings.{Book}
use Rattle.rules.specs.Sound.{sound}
use Rattle.rules.specs.Values.{table_type, table_kind}
use Rattle.rules.specs.Verdicts.{accepted, refuses, check, first, judge_checks, call_checks, judge_verdict, call_verdict, judge_numbers, call_numbers, framing_checks, framing_numbers, header_checks}
use Rattle.rules.specs.Cleaned.{clean_checks, clean_verdict, clean_numbers}
use Rattle.rules.specs.Built.{build_checks, headed_checks, build_verdict, build_numbers}
use Rattle.rules.specs.declared.Verdict.{Verdict}
use Rattle.rules.proofs.Checks.{AllPass, all_pass, first-pass, number-among, OwnCase}
use Rattle.rules.proofs.Header.{call_case, judge_case, clean_case, build_case, framing_case}
use Rattle.verdicts.specs.Conditions.{call_conditions}
use Rattle.tables.proofs.Tests.{clash}
use Rattle.verdicts.proofs.Cases.{Step, none-applies, call_step, call_count, judge_count, clean-count}

pass_all : (vs : List Verdict) → ((i : ℕ) → i < length vs → refuses (get_or vs i accepted) ≡ false) → AllPass vs
unfolding AllPass
pass_all [] f = tt
pass_all (v ∷ vs) f = (f 0 (omega arith), pass_all vs (λ i l. f (suc i) (omega arith)))

all-at : (vs : List Verdict) → AllPass vs → (i : ℕ) → i < length vs → refuses (get_or vs i accepted) ≡ false
unfolding AllPass
all-at [] a i l = absurd (omega arith)
all-at (v ∷ vs) a zero l = a.0
all-at (v ∷ vs) a (suc i) l = all-at vs a.1 i (omega arith)

-- none of the conditions holds
abbrev pub NoneHolds : List (Type 0) → ℕ → Type 0
NoneHolds cs n = (j : ℕ) → j < n → get_or cs j ⊥ → ⊥

module _ (vs : List Verdict) (cs : List (Type 0)) (n : ℕ) (len : length vs ≡ n) (steps : (j : ℕ) → j < n → Step vs cs j) where
  none-accepts : (first vs ≡ accepted) ↔ NoneHolds cs n
  none-accepts = (to, λ off. first-pass vs (pass_all vs (λ i l. none-applies vs cs n steps off i (omega (arith, l, len)))))
    where
      to : first vs ≡ accepted → NoneHolds cs n
      to e j l c =
          let a = (all_pass vs).0 (rw e) in
          let p : (i : ℕ) → i < n → refuses (get_or vs i accepted) ≡ false = λ i h. all-at vs a i (omega (arith, h, len)) in
          clash (refuses (get_or vs j accepted)) ((steps j l (λ i h. p i (omega arith))).1 c) (p j l)

-- no check applies, or one is the first that does
first-own : (vs : List Verdict) → AllPass vs ⊎ ((j : ℕ) × (j < length vs) × OwnCase vs j)
unfolding AllPass
first-own [] = inl tt
first-own (v ∷ vs) = go (refuses v) refl (first-own vs)
  where
    go : (r : Bool) → refuses v ≡ r → AllPass vs ⊎ ((j : ℕ) × (j < length vs) × OwnCase vs j) → AllPass (v ∷ vs) ⊎ ((j : ℕ) × (j < length (v ∷ vs)) × OwnCase (v ∷ vs) j)
    go true e x = inr (0, omega arith, record { applies = e; none_before = λ i l. absurd (omega arith) })
    go false e (inl a) = inl (e, a)
    go false e (inr x) = inr (suc x.0, omega (arith, x.1), record { applies = x.2.applies; none_before = before })
      where
        before : (i : ℕ) → i < suc x.0 → refuses (get_or (v ∷ vs) i accepted) ≡ false
        before zero l = e
        before (suc i) l = x.2.none_before i (omega arith)

-- acceptance, or one of the numbers
abbrev pub OneOf : List ℕ → Verdict → Type 0
OneOf ns v = (v ≡ accepted) ⊎ (among v.code ns ≡ true)

one_of : (vs : List Verdict) (ns : List ℕ) → length vs ≡ length ns → ((j : ℕ) → j < length ns → OwnCase vs j → (first vs).code ≡ get_or ns j 0) → OneOf ns (first vs)
one_of vs ns len own = go (first-own vs)
  where
    go : AllPass vs ⊎ ((j : ℕ) × (j < length vs) × OwnCase vs j) → OneOf ns (first vs)
    go (inl a) = inl (first-pass vs a)
    go (inr x) = let l : x.0 < length ns = omega (arith, x.1, len) in inr (rw (own x.0 l x.2) (number-among ns x.0 l))

pub call_accepting : (b : Book) (fine : sound b ≡ true) (k : ℕ) (m : List ℕ) (octets room : ℕ)
    → (call_verdict b k m octets room ≡ accepted) ↔ NoneHolds (call_conditions b k m octets room) (length call_numbers)
call_accepting b fine k m octets room =
    none-accepts (call_checks b k m octets room) (call_conditions b k m octets room) 14 (call_count b k m room octets) (call_step b fine k m octets room)

pub framing_codes : (b : Book) (k : ℕ) (m : List ℕ) → OneOf framing_numbers (first (framing_checks b k m))
unfolding framing_checks header_checks
framing_codes b k m = one_of (framing_checks b k m) framing_numbers refl (λ j l. (framing_case b k m j l).1)

module _ (b : Book) (fine : sound b ≡ true) (k : ℕ) (m : List ℕ) (room : ℕ) where
  pub call_codes : (octets : ℕ) → OneOf call_numbers (call_verdict b k m octets room)
  call_codes octets = one_of (call_checks b k m octets room) call_numbers (call_count b k m room octets) (λ j l. (call_case b k m octets room j l).1)

  pub judge_codes : OneOf judge_numbers (judge_verdict b k m room)
  judge_codes = one_of (judge_checks b k m room) judge_numbers (judge_count b k m room) (λ j l. (judge_case b k m room j l).1)

  pub clean_codes : OneOf clean_numbers (clean_verdict b k m room)
  clean_codes = one_of (clean_checks b k m room) clean_numbers (clean-count b k m room) (λ j l. (clean_case b k m room j l).1)

-- a table too short for a header is 14, and of any other the checks that follow say
pub build_codes : (b : Book) (teid sequence : ℕ) (t values : List ℕ) (room : ℕ) → OneOf build_numbers (build_verdict b teid sequence t values room)
unfolding build_checks headed_checks first check
build_codes b teid sequence t values room = go (ltb (length t) header_numbers) refl
  where
    go : (c : Bool) → ltb (length t) header_numbers ≡ c → OneOf build_numbers (build_verdict b teid sequence t values room)
    go true e = rw e (inr refl)
    go false e = rw e (one_of (build_checks b (table_kind t) (table_type t) teid sequence t values room) build_numbers refl (λ j l. (build_case b (table_kind t) (table_type t) teid sequence t values room j l).1))
