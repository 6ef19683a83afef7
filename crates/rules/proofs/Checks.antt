-- The first check that applies is given, and a check is given in no other case. Assumes nothing.
--     first_append   first of two lists of checks
--     all_pass       none applies exactly where acceptance is given
--     in_its_case    where each check has a number of its own, a number is given exactly where its check applies and none before it does
use mathlib.Core.Path.{◌≡◌, refl, sym, ◌∙◌}
use mathlib.Core.Logic.{◌⊎◌, inl, inr, ◌↔◌}
use mathlib.Core.Bool.{Bool, true, false, cond, not, ◌&&◌, or-true}
use mathlib.Core.List.{List, [], ◌∷◌, ◌++◌}
use Prim.Native.Nat.{ℕ, zero, suc, ◌<◌}
use native.Mathlib.Omega.{arith}
use borrow.Author.Tests.{ltb-true, eq-eqb}
use lib.Dec.{eqb, ltb}
use lib.ListN.{length, get_or}
use Rattle.rules.specs.Types.{among}
use Rattle.rules.specs.Verdicts.{accepted, check, refuses, first}
use Rattle.rules.specs.declared.Verdict.{Verdict}
use Rattle.rules.proofs.Lines.{and_left, and_right, not-both}

append_case : (us vs : List Verdict) (u : Verdict) (r : Bool) → refuses u ≡ r → first (us ++ vs) ≡ cond (refuses (first us)) (first us) (first vs)
    → cond r u (first (us ++ vs)) ≡ cond (refuses (cond r u (first us))) (cond r u (first us)) (first vs)
append_case us vs u true e f = rw e
append_case us vs u false e f = f

pub first_append : (us vs : List Verdict) → first (us ++ vs) ≡ cond (refuses (first us)) (first us) (first vs)
unfolding first
first_append [] vs = refl
first_append (u ∷ us) vs = append_case us vs u (refuses u) refl (first_append us vs)

neither : (u v : Verdict) (c : Bool) → refuses u ≡ c → refuses (cond c u v) ≡ false → (c ≡ false) × (refuses v ≡ false)
neither u v true e z = let y : ◌≡◌ {A = ℕ} 0 1 = cc in absurd (omega arith)
neither u v false e z = (refl, z)

-- two lists of checks pass where both do
pub both-pass : (us vs : List Verdict) → refuses (first (us ++ vs)) ≡ false → (refuses (first us) ≡ false) × (refuses (first vs) ≡ false)
both-pass us vs z = neither (first us) (first vs) (refuses (first us)) refl (rw (first_append us vs) at z)

-- a verdict that refuses nothing, and comes of a check, is acceptance
pub check-off : (b : Bool) (v : Verdict) → refuses v ≡ true → refuses (check b v) ≡ b
unfolding check
check-off true v e = e
check-off false v e = refl

-- none of the checks applies
unfoldable pub AllPass : List Verdict → Type 0
AllPass [] = Unit {0}
AllPass (v ∷ vs) = (refuses v ≡ false) × AllPass vs

pass_case : (v : Verdict) (vs : List Verdict) (r : Bool) → refuses v ≡ r → (refuses (first vs) ≡ false → AllPass vs)
    → refuses (cond r v (first vs)) ≡ false → (refuses v ≡ false) × AllPass vs
pass_case v vs true e f z = let y : ◌≡◌ {A = ℕ} 0 1 = cc in absurd (omega arith)
pass_case v vs false e f z = (e, f z)

pub all_pass : (vs : List Verdict) → (refuses (first vs) ≡ false) ↔ AllPass vs
unfolding first AllPass
all_pass [] = (λ e. tt, λ a. refl)
all_pass (v ∷ vs) = (λ e. pass_case v vs (refuses v) refl (all_pass vs).0 e, λ a. rw a.0 ((all_pass vs).1 a.1))

pub first-pass : (vs : List Verdict) → AllPass vs → first vs ≡ accepted
unfolding first AllPass
first-pass [] a = refl
first-pass (v ∷ vs) a = rw a.0 (first-pass vs a.1)

-- ---- numbers of their own

-- check by check, the number is the one in the list where the check applies
unfoldable pub Numbered : List ℕ → List Verdict → Type 0
Numbered [] [] = Unit {0}
Numbered [] (v ∷ vs) = ⊥
Numbered (n ∷ ns) [] = ⊥
Numbered (n ∷ ns) (v ∷ vs) = ((v.code ≡ 0) ⊎ (v.code ≡ n)) × Numbered ns vs

-- none of the numbers is 0, and none stands twice
unfoldable pub separate : List ℕ → Bool
separate [] = true
separate (n ∷ ns) = ltb 0 n && (not (among n ns) && separate ns)

pub numbered_append : (ns ms : List ℕ) (vs ws : List Verdict) → Numbered ns vs → Numbered ms ws → Numbered (ns ++ ms) (vs ++ ws)
unfolding Numbered
numbered_append [] ms [] ws a c = c
numbered_append [] ms (v ∷ vs) ws a c = absurd a
numbered_append (n ∷ ns) ms [] ws a c = absurd a
numbered_append (n ∷ ns) ms (v ∷ vs) ws a c = (a.0, numbered_append ns ms vs ws a.1 c)

-- a number of the list is among them
pub number-among : (ns : List ℕ) (j : ℕ) → j < length ns → among (get_or ns j 0) ns ≡ true
number-among [] j l = absurd (omega arith)
number-among (n ∷ ns) zero l = rw (eq-eqb n n refl)
number-among (n ∷ ns) (suc j) l = rw (number-among ns j (omega arith), or-true (eqb (get_or ns j 0) n))

-- what is given is acceptance or has one of the numbers
given : (ns : List ℕ) (vs : List Verdict) → Numbered ns vs → ((first vs).code ≡ 0) ⊎ (among (first vs).code ns ≡ true)
unfolding first Numbered
given [] [] a = inl refl
given [] (v ∷ vs) a = absurd a
given (n ∷ ns) [] a = absurd a
given (n ∷ ns) (v ∷ vs) a = go (refuses v) a.0 (given ns vs a.1)
  where
    go : (r : Bool) → (v.code ≡ 0) ⊎ (v.code ≡ n) → ((first vs).code ≡ 0) ⊎ (among (first vs).code ns ≡ true)
        → ((cond r v (first vs)).code ≡ 0) ⊎ (among (cond r v (first vs)).code (n ∷ ns) ≡ true)
    go true (inl z) w = inl z
    go true (inr z) w = inr (rw (eq-eqb v.code n z))
    go false x (inl z) = inl z
    go false x (inr z) = inr (rw (z, or-true (eqb (first vs).code n)))

-- check number j applies, and none before it does
pub record OwnCase (vs : List Verdict) (j : ℕ) : Type 0 where
  pub applies : refuses (get_or vs j accepted) ≡ true
  pub none_before : (i : ℕ) → i < j → refuses (get_or vs i accepted) ≡ false

-- the first number is not 0 and is none of the others
apart : (n : ℕ) (ns : List ℕ) → separate (n ∷ ns) ≡ true → (0 < n) × (among n ns ≡ true → ⊥) × (separate ns ≡ true)
unfolding separate
apart n ns d = (
  ltb-true 0 n (and_left (ltb 0 n) (not (among n ns) && separate ns) d),
  λ e. not-both (among n ns) e (and_left (not (among n ns)) (separate ns) (and_right (ltb 0 n) (not (among n ns) && separate ns) d)),
  and_right (not (among n ns)) (separate ns) (and_right (ltb 0 n) (not (among n ns) && separate ns) d),
)

pub in_its_case : (ns : List ℕ) (vs : List Verdict) → separate ns ≡ true → Numbered ns vs → (j : ℕ) → j < length ns → ((first vs).code ≡ get_or ns j 0) ↔ OwnCase vs j
unfolding first Numbered
in_its_case [] [] d a j l = absurd (omega arith)
in_its_case [] (v ∷ vs) d a j l = absurd a
in_its_case (n ∷ ns) [] d a j l = absurd a
in_its_case (n ∷ ns) (v ∷ vs) d a zero l = (to (refuses v) refl, from)
  where
    to : (r : Bool) → refuses v ≡ r → (cond r v (first vs)).code ≡ n → OwnCase (v ∷ vs) zero
    to true e z = record { applies = e; none_before = λ i k. absurd (omega arith) }
    to false e z = clash (given ns vs a.1)
      where
        clash : ((first vs).code ≡ 0) ⊎ (among (first vs).code ns ≡ true) → OwnCase (v ∷ vs) zero
        clash (inl y) = absurd (omega (arith, (apart n ns d).0))
        clash (inr y) = absurd ((apart n ns d).1 (rw z at y))

    from : OwnCase (v ∷ vs) zero → (cond (refuses v) v (first vs)).code ≡ n
    from c = rw c.applies (pick a.0)
      where
        pick : (v.code ≡ 0) ⊎ (v.code ≡ n) → v.code ≡ n
        pick (inl z) = absurd (omega (arith, ltb-true 0 v.code c.applies))
        pick (inr z) = z
in_its_case (n ∷ ns) (v ∷ vs) d a (suc j) l =
    (to (refuses v) refl (in_its_case ns vs (apart n ns d).2 a.1 j (omega arith)).0, from (in_its_case ns vs (apart n ns d).2 a.1 j (omega arith)).1)
  where
    more : OwnCase vs j → refuses v ≡ false → (i : ℕ) → i < suc j → refuses (get_or (v ∷ vs) i accepted) ≡ false
    more c e zero k = e
    more c e (suc i) k = c.none_before i (omega arith)

    to : (r : Bool) → refuses v ≡ r → ((first vs).code ≡ get_or ns j 0 → OwnCase vs j) → (cond r v (first vs)).code ≡ get_or ns j 0 → OwnCase (v ∷ vs) (suc j)
    to true e f z = clash a.0
      where
        clash : (v.code ≡ 0) ⊎ (v.code ≡ n) → OwnCase (v ∷ vs) (suc j)
        clash (inl y) = absurd (omega (arith, ltb-true 0 v.code e))
        clash (inr y) = absurd ((apart n ns d).1 (rw (sym z ∙ y) at (number-among ns j (omega arith))))
    to false e f z = let c = f z in record { applies = c.applies; none_before = more c e }

    from : (OwnCase vs j → (first vs).code ≡ get_or ns j 0) → OwnCase (v ∷ vs) (suc j) → (cond (refuses v) v (first vs)).code ≡ get_or ns j 0
    from f c = rw (c.none_before 0 (omega arith)) (f (record { applies = c.applies; none_before = λ i k. c.none_before (suc i) (omega arith) }))
