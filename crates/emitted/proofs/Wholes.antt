-- What it is to be accepted with a table large enough, and to be accepted with every row kept. Assumes nothing.
use mathlib.Core.Path.{◌≡◌, refl, ◌∙◌}
use mathlib.Core.Bool.{Bool, true, false, cond, not}
use mathlib.Core.List.{List, [], ◌∷◌}
use Prim.Native.Nat.{ℕ, suc}
use native.Mathlib.Omega.{arith}
use borrow.Author.Tests.{eqb-true, eq-eqb, le-ltb, not-true}
use lib.Dec.{eqb, ltb}
use lib.ListN.{length}
use Rattle.rules.specs.Sizes.{used}
use Rattle.rules.specs.Listings.{Book}
use Rattle.rules.specs.Standing.{Item, kept}
use Rattle.rules.specs.Taking.{whole, taken, body_level}
use Rattle.rules.specs.Table.{kept_rows}
use Rattle.rules.specs.Verdicts.{refused, refuses, cut_check, short_checks, lack_checks, header_checks, framing_checks, items, table_checks, judge_checks}
use Rattle.rules.proofs.Lines.{and_left, and_right}
use Rattle.rules.proofs.Rows.{Every, kept-most}
use Rattle.rules.proofs.Checks.{AllPass, all_pass, check-off}
use Rattle.rules.proofs.Header.{Passed, framed}
use Rattle.rules.specs.Emitting.{amply, accepted_whole}
use Rattle.emitted.proofs.Again.{Kept}
use Rattle.emitted.proofs.Lacking.{pass-split, pass-join, none_short}
use Rattle.emitted.proofs.Written.{passes}

-- accepted with a table large enough, with these rows
pub record Amply (b : Book) (k : ℕ) (m : List ℕ) (es : List Item) : Type 0 where
  pub passed : Passed b k m
  pub taken_whole : taken b k m ≡ whole es
  pub none_short : AllPass (short_checks es)
  pub none_lacks : AllPass (lack_checks b k (body_level b m) es)

-- and each is kept
pub record Wholly (b : Book) (k : ℕ) (m : List ℕ) (es : List Item) : Type 0 where
  pub passed : Passed b k m
  pub taken_whole : taken b k m ≡ whole es
  pub all_kept : Every Kept es
  pub none_lacks : AllPass (lack_checks b k (body_level b m) es)

pub all-kept-rows : (is : List Item) → Every Kept is → kept_rows is ≡ length is
unfolding kept_rows Every
all-kept-rows [] a = refl
all-kept-rows (i ∷ is) a = rw (a.0, all-kept-rows is a.1)

pub kept-rows-all : (is : List Item) → kept_rows is ≡ length is → Every Kept is
unfolding kept_rows Every
kept-rows-all [] e = tt
kept-rows-all (i ∷ is) e = go (eqb i.stand kept) refl e (kept-rows-all is)
  where
    go : (c : Bool) → eqb i.stand kept ≡ c → cond c (suc (kept_rows is)) (kept_rows is) ≡ suc (length is) → (kept_rows is ≡ length is → Every Kept is) → Kept i × Every Kept is
    go true w y f = (eqb-true i.stand kept w, f (omega arith))
    go false w y f = absurd (omega (arith, kept-most is))

module _ (b : Book) (k : ℕ) (m : List ℕ) where
  pub amply-accepted : refuses (amply b k m) ≡ false → (es : List Item) × Amply b k m es
  unfolding judge_checks AllPass
  amply-accepted z =
      let room = used (length (items b k m)) in
      let a = pass-split (framing_checks b k m) (table_checks b k m (used (length (items b k m)))) ((all_pass (judge_checks b k m (used (length (items b k m))))).0 z) in
      let f = framed b k m ((all_pass (framing_checks b k m)).1 a.0) in (
        f.1.0,
        record {
          passed = f.0;
          taken_whole = f.1.1;
          none_short = (all_pass (short_checks f.1.0)).0 (rw f.1.1 at a.1.1.0);
          none_lacks = (all_pass (lack_checks b k (body_level b m) f.1.0)).0 (rw f.1.1 at a.1.1.1.0);
        },
      )

  pub accepted-amply : (es : List Item) → Amply b k m es → refuses (amply b k m) ≡ false
  unfolding judge_checks framing_checks AllPass
  accepted-amply es a =
      (all_pass (judge_checks b k m (used (length (items b k m))))).1 (
      pass-join (framing_checks b k m) (table_checks b k m (used (length (items b k m))))
      (pass-join (header_checks b k m) (cut_check (taken b k m) ∷ []) (passes b k m a.passed) (rw a.taken_whole, tt)) (
        check-off (ltb (used (length (items b k m))) (used (length (items b k m)))) (refused 10 0) refl ∙ le-ltb (used (length (items b k m))) (used (length (items b k m))) (omega arith),
        (
          rw a.taken_whole ((all_pass (short_checks es)).1 a.none_short),
          (rw a.taken_whole ((all_pass (lack_checks b k (body_level b m) es)).1 a.none_lacks), tt),
        ),
      )
      )

  pub wholly-amply : (es : List Item) → Wholly b k m es → Amply b k m es
  wholly-amply es a = record { passed = a.passed; taken_whole = a.taken_whole; none_short = none_short es a.all_kept; none_lacks = a.none_lacks }

  pub wholly-accepted : (es : List Item) → Wholly b k m es → accepted_whole b k m ≡ true
  wholly-accepted es a =
      rw (
        accepted-amply es (wholly-amply es a),
        a.taken_whole,
        all-kept-rows es a.all_kept,
      ) (eq-eqb (length es) (length es) refl)

  pub accepted-wholly : accepted_whole b k m ≡ true → (es : List Item) × Wholly b k m es
  accepted-wholly z =
      let r = amply-accepted (not-true (refuses (amply b k m)) (and_left (not (refuses (amply b k m))) (eqb (kept_rows (items b k m)) (length (items b k m))) z)) in
      let q : kept_rows (items b k m) ≡ length (items b k m) = eqb-true _ _ (and_right (not (refuses (amply b k m))) (eqb (kept_rows (items b k m)) (length (items b k m))) z) in
      (r.0, record { passed = r.1.passed; taken_whole = r.1.taken_whole; all_kept = kept-rows-all r.0 (rw r.1.taken_whole at q); none_lacks = r.1.none_lacks })
