-- The first of a list of checks, by the two numbers of what they test: level by level, and line by line in a level. Assumes nothing.
--     search_both   two ranges of levels, one after the other      search_level   one level      search_groups   the kept groups
use mathlib.Core.Path.{◌≡◌, refl, sym, ap, ◌∙◌}
use mathlib.Core.Logic.{◌⊎◌, inl, inr}
use mathlib.Core.Bool.{Bool, true, false, cond, not, ◌&&◌}
use mathlib.Core.List.{List, [], ◌∷◌}
use Prim.Native.Nat.{ℕ, zero, suc, ◌+◌, ◌-◌, ◌≤◌, ◌<◌}
use native.Mathlib.Omega.{arith}
use native.Mathlib.Decide.{dec_lt}
use lib.Dec.{eqb}
use lib.ListN.{length, get_or}
use Rattle.rules.specs.Listings.{Book, Line, empty_line, listing}
use Rattle.rules.specs.Standing.{Item}
use Rattle.rules.specs.Verdicts.{accepted, refused_at, mandatory_missing, check, refuses, first, is_mandatory, has_kept, level_checks, inside_checks, group_checks, lack_checks, lack_verdict}
use Rattle.rules.specs.declared.Verdict.{Verdict}
use Rattle.rules.specs.Table.{nth}
use Rattle.rules.proofs.Checks.{first_append}
use Rattle.rules.proofs.Places.{Stand, stand-head, stand-tail}
use Rattle.tables.proofs.Placed.{level_in}

-- no test among the levels from lo on and below hi holds, and r is acceptance; or that of level p and line j is the first that holds, and r is what it says
pub data Search (T : ℕ → ℕ → Bool) (W : ℕ → ℕ → Verdict) (lo hi : ℕ) (r : Verdict) : Type 0 where
  none : ((p j : ℕ) → lo ≤ p → p < hi → T p j ≡ false) → r ≡ accepted → Search T W lo hi r
  found : (p j : ℕ) → lo ≤ p → p < hi → T p j ≡ true → ((p' j' : ℕ) → lo ≤ p' → (p' < p) ⊎ ((p' ≡ p) × (j' < j)) → T p' j' ≡ false) → r ≡ W p j
      → Search T W lo hi r

module _ (T : ℕ → ℕ → Bool) (W : ℕ → ℕ → Verdict) (says : (p j : ℕ) → refuses (W p j) ≡ true) where
  pub search_both : (lo mid hi : ℕ) (r s : Verdict) → lo ≤ mid → mid ≤ hi → Search T W lo mid r → Search T W mid hi s → Search T W lo hi (cond (refuses r) r s)
  search_both lo mid hi r s a c (found p j h l e f w) y =
      let z : refuses r ≡ true = rw w (says p j) in rw z (found p j h (omega arith) e f w)
  search_both lo mid hi r s a c (none n w) (none n' w') =
      let z : refuses r ≡ false = rw w in rw z (none (λ p j x y. either p j x y (dec_lt p mid)) w')
    where
      either : (p j : ℕ) → lo ≤ p → p < hi → Dec (p < mid) → T p j ≡ false
      either p j x y (yes d) = n p j x d
      either p j x y (no d) = n' p j (omega arith) y
  search_both lo mid hi r s a c (none n w) (found p j h l e f w') =
      let z : refuses r ≡ false = rw w in rw z (found p j (omega arith) l e (λ p' j' x y. either p' j' x y (dec_lt p' mid)) w')
    where
      either : (p' j' : ℕ) → lo ≤ p' → (p' < p) ⊎ ((p' ≡ p) × (j' < j)) → Dec (p' < mid) → T p' j' ≡ false
      either p' j' x y (yes d) = n p' j' x d
      either p' j' x y (no d) = f p' j' (omega arith) y

  -- nothing is tested
  pub search_none : (lo : ℕ) → Search T W lo lo accepted
  search_none lo = none (λ p j x y. absurd (omega arith)) refl

-- ---- one level

module _ (T : ℕ → Bool) (W : ℕ → Verdict) where
  -- the lines from number n on
  pub data Lines (n : ℕ) (r : Verdict) : Type 0 where
    no_line : ((j : ℕ) → n ≤ j → T j ≡ false) → r ≡ accepted → Lines n r
    at_line : (j : ℕ) → n ≤ j → T j ≡ true → ((j' : ℕ) → n ≤ j' → j' < j → T j' ≡ false) → r ≡ W j → Lines n r

  pub line-more : (n : ℕ) (r : Verdict) → refuses (W n) ≡ true → (c : Bool) → T n ≡ c → Lines (suc n) r
      → Lines n (cond (refuses (cond c (W n) accepted)) (cond c (W n) accepted) r)
  line-more n r says true e l = rw says (at_line n (omega arith) e (λ j x y. absurd (omega arith)) refl)
  line-more n r says false e (no_line f w) = no_line (λ j x. from j (dec_lt n j) x) w
    where
      from : (j : ℕ) → Dec (n < j) → n ≤ j → T j ≡ false
      from j (yes d) x = f j d
      from j (no d) x = let z : j ≡ n = omega arith in rw z e
  line-more n r says false e (at_line j x y f w) = at_line j (omega arith) y (λ j' u v. from j' (dec_lt n j') u v) w
    where
      from : (j' : ℕ) → Dec (n < j') → n ≤ j' → j' < j → T j' ≡ false
      from j' (yes d) u v = f j' d v
      from j' (no d) u v = let z : j' ≡ n = omega arith in rw z e

module _ (k : ℕ) (all : List Item) (p o : ℕ) where
  -- a line that is mandatory on this kind has no kept row with the parent p
  abbrev pub line_lacks : Line → Bool
  line_lacks l = is_mandatory k l && not (has_kept p l.typ l.inst all)

  abbrev pub line_says : Line → Verdict
  line_says l = refused_at 12 mandatory_missing o l.typ l.inst

  -- ls is what is left of a listing after n lines
  level-lines : (whole ls : List Line) (n : ℕ) → ((j : ℕ) → get_or whole (n + j) empty_line ≡ get_or ls j empty_line)
      → Lines (λ j. line_lacks (get_or whole j empty_line)) (λ j. line_says (get_or whole j empty_line)) n (first (level_checks k all p o ls))
  unfolding first level_checks check
  level-lines whole [] n e =
      no_line (λ j l. let z : n + (j - n) ≡ j = omega arith in ap line_lacks (ap (λ (x : ℕ). get_or whole x empty_line) (sym z) ∙ e (j - n))) refl
  level-lines whole (l ∷ ls) n e =
      let z : n + 0 ≡ n = omega arith in
      let here : get_or whole n empty_line ≡ l = rw z at (e 0) in
      rw (← here) (line-more (λ j. line_lacks (get_or whole j empty_line)) (λ j. line_says (get_or whole j empty_line)) n (first (level_checks k all p o ls)) refl
      (line_lacks (get_or whole n empty_line)) refl
      (level-lines whole ls (suc n) (λ j. let y : suc n + j ≡ n + suc j = omega arith in rw y (e (suc j)))))

-- ---- all levels

module _ (b : Book) (k v : ℕ) (all : List Item) where
  -- the first octet of the level of the rows with parent p
  abbrev pub place_in : ℕ → ℕ
  place_in zero = 0
  place_in (suc q) = (nth all q).place

  abbrev pub line_in : ℕ → ℕ → Line
  line_in p j = get_or (listing b (level_in all v p)) j empty_line

  -- the level is there, and the line lacks
  abbrev pub lacks : ℕ → ℕ → Bool
  lacks p j = not (eqb (level_in all v p) 0) && line_lacks k all p (place_in p) (line_in p j)

  abbrev pub lack_says : ℕ → ℕ → Verdict
  lack_says p j = line_says k all p (place_in p) (line_in p j)

  one-level : (p : ℕ) (r : Verdict) (c : Bool) → eqb (level_in all v p) 0 ≡ c
      → Lines (λ j. line_lacks k all p (place_in p) (line_in p j)) (λ j. lack_says p j) 0 r → Search lacks lack_says p (suc p) (cond c accepted r)
  one-level p r true e l = none (λ p' j x y. let z : p' ≡ p = omega arith in rw (z, e)) refl
  one-level p r false e (no_line f w) = none (λ p' j x y. let z : p' ≡ p = omega arith in rw (z, e) (f j (omega arith))) w
  one-level p r false e (at_line j x y f w) = found p j (omega arith) (omega arith) (rw e y) (λ p' j' u d. before p' j' u d) w
    where
      before : (p' j' : ℕ) → p ≤ p' → (p' < p) ⊎ ((p' ≡ p) × (j' < j)) → lacks p' j' ≡ false
      before p' j' u (inl d) = absurd (omega arith)
      before p' j' u (inr d) = rw (d.0, e) (f j' (omega arith) d.1)

  cond-first : (c : Bool) (vs : List Verdict) → first (cond c [] vs) ≡ cond c accepted (first vs)
  unfolding first
  cond-first true vs = refl
  cond-first false vs = refl

  search_level : (p : ℕ) → Search lacks lack_says p (suc p) (cond (eqb (level_in all v p) 0) accepted (first (level_checks k all p (place_in p) (listing b (level_in all v p)))))
  search_level p =
      one-level p (first (level_checks k all p (place_in p) (listing b (level_in all v p)))) (eqb (level_in all v p) 0) refl
      (level-lines k all p (place_in p) (listing b (level_in all v p)) (listing b (level_in all v p)) 0 (λ j. let z : 0 + j ≡ j = omega arith in rw z))

  search_inside : (n : ℕ) (i : Item) → nth all n ≡ i → Search lacks lack_says (suc n) (suc (suc n)) (first (inside_checks b k all (suc n) i))
  search_inside n i e =
      rw (← e, cond-first (eqb (nth all n).inside 0) (level_checks k all (suc n) (nth all n).place (listing b (nth all n).inside))) (search_level (suc n))

  search_groups : (n : ℕ) (is : List Item) → Stand all n is → Search lacks lack_says (suc n) (suc (n + length is)) (first (group_checks b k all n is))
  unfolding first group_checks
  search_groups n [] s = let z : n + 0 ≡ n = omega arith in rw z (search_none lacks lack_says (λ p j. refl) (suc n))
  search_groups n (i ∷ is) s =
      let z : n + 1 ≡ suc n = omega arith in
      let y : suc n + length is ≡ n + suc (length is) = omega arith in
      let rest : Search lacks lack_says (suc (suc n)) (suc (suc n + length is)) (first (group_checks b k all (suc n) is)) = search_groups (suc n) is (rw z at (stand-tail s)) in
      rw (first_append (inside_checks b k all (suc n) i) (group_checks b k all (suc n) is), ← y)
      (search_both lacks lack_says (λ p j. refl) (suc n) (suc (suc n)) (suc (suc n + length is)) (first (inside_checks b k all (suc n) i)) (first (group_checks b k all (suc n) is))
      (omega arith) (omega arith) (search_inside n i (stand-head s)) rest)

  -- the message first, then the kept groups in row order
  pub search_all : (eqb v 0 ≡ false) → Search lacks lack_says 0 (suc (length all)) (lack_verdict b k v all)
  unfolding lack_checks
  search_all e =
      let top : Search lacks lack_says 0 1 (first (level_checks k all 0 0 (listing b v))) = rw e at (search_level 0) in
      let z : 0 + length all ≡ length all = omega arith in
      let rest : Search lacks lack_says 1 (suc (length all)) (first (group_checks b k all 0 all))
      = rw z at (search_groups 0 all (record { room = omega arith; same = λ j l. let y : 0 + j ≡ j = omega arith in rw y })) in
      rw (first_append (level_checks k all 0 0 (listing b v)) (group_checks b k all 0 all))
      (search_both lacks lack_says (λ p j. refl) 0 1 (suc (length all)) (first (level_checks k all 0 0 (listing b v))) (first (group_checks b k all 0 all)) (omega arith) (omega arith) top rest)
