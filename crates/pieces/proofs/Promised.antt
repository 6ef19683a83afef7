-- What is promised of the form that is fed parts: of its three contracts (specs/Answers.antt), over any run of calls on one table that nobody else alters. It holds since after
-- each call of a run state and table hold of the octets so far, however they were cut, what the judge's own walk over them holds (`Main.Right`). Assumes nothing.
--     promised       the end of a run           cut_anyhow   two runs over the same octets
--     over-part ..   17, which changes nothing  started_unique ..   no contract allows two answers
use mathlib.Core.Path.{◌≡◌, refl, sym, ap, ◌∙◌}
use mathlib.Core.Logic.{inl, inr, ◌≢◌}
use mathlib.Core.Bool.{Bool, true, false}
use mathlib.Core.List.{List, [], ◌∷◌, ◌++◌, append_assoc, append-nil}
use Prim.Native.Nat.{ℕ, ◌<◌}
use native.Mathlib.Omega.{arith}
use borrow.Author.Tests.{lt-ltb}
use lib.ListN.{length, replicate}
use Rattle.rules.specs.Types.{among}
use Rattle.rules.specs.Listings.{book}
use Rattle.rules.specs.Verdicts.{accepted, refused, refuses, judge_verdict, judge_table, judge_numbers}
use Rattle.rules.specs.declared.Verdict.{Verdict}
use Rattle.rules.proofs.Rows.{Octets}
use Rattle.pieces.specs.declared.Pieces.{Pieces}
use Rattle.pieces.specs.declared.Told.{Told}
use Rattle.pieces.specs.Feeding.{joined_parts}
use Rattle.pieces.specs.Answers.{takes, part_told, part_table, ended_by, verdict_by, end_told, end_table, Started, Parted, Ended, Lent}
use Rattle.pieces.proofs.Main.{Right, start_right, part_right, taken_is, part-told, told, left, other_length}
use Rattle.pieces.proofs.Codes.{OneOf, judge_one-of}

-- ---- no contract allows two answers, or two tables

-- the one law: what is said to equal one thing is one thing
both : {A : Type 0} {x y z : A} → y ≡ x → z ≡ x → y ≡ z
both e f = e ∙ sym f

pub started_unique : (k : ℕ) (lent : List ℕ) (p p' : Pieces) (t t' : List ℕ) → Started k lent p t → Started k lent p' t' → (p ≡ p') × (t ≡ t')
started_unique k lent p p' t t' x y = (both x.answers y.answers, both x.table_left y.table_left)

pub parted_unique : (p : Pieces) (part lent : List ℕ) (r r' : Told) (t t' : List ℕ) → Parted p part lent r t → Parted p part lent r' t' → (r ≡ r') × (t ≡ t')
parted_unique p part lent r r' t t' x y = (both x.answers y.answers, both x.table_left y.table_left)

pub ended_unique : (p : Pieces) (lent : List ℕ) (r r' : Told) (t t' : List ℕ) → Ended p lent r t → Ended p lent r' t' → (r ≡ r') × (t ≡ t')
ended_unique p lent r r' t t' x y = (both x.answers y.answers, both x.table_left y.table_left)

-- ---- a run: a start on kind k with a table of so many numbers, then a part after a part, each with the state and the table that the call before left

pub data Runs (k room : ℕ) : List (List ℕ) → Pieces → List ℕ → Type 0 where
  begins : {lent t : List ℕ} {p : Pieces} → length lent ≡ room → Started k lent p t → Runs k room [] p t
  goes_on : {ps : List (List ℕ)} {p : Pieces} {part t t' : List ℕ} {r : Told} → Runs k room ps p t → Parted p part t r t' → Runs k room (ps ++ (part ∷ [])) r.state t'

-- there is a run over any parts
further : {k room : ℕ} {ps : List (List ℕ)} {p : Pieces} {t : List ℕ} (qs : List (List ℕ)) → Runs k room ps p t → (p' : Pieces) × (t' : List ℕ) × Runs k room (ps ++ qs) p' t'
further {k} {room} {ps} {p} {t} [] run = (p, t, rw (append-nil ps) run)
further {k} {room} {ps} {p} {t} (q ∷ qs) run =
    let e : (ps ++ (q ∷ [])) ++ qs ≡ ps ++ (q ∷ qs) = append_assoc ps (q ∷ []) qs in
    rw e at (further {ps = ps ++ (q ∷ [])} qs (goes_on {part = q} {t' = part_table p q t} {r = part_told p q t} run (record { answers = refl; table_left = refl })))

pub some-run : (k : ℕ) (lent : List ℕ) (ps : List (List ℕ)) → (p : Pieces) × (t : List ℕ) × Runs k (length lent) ps p t
some-run k lent ps = further ps (begins {lent = lent} refl (record { answers = refl; table_left = refl }))

one_more : (ps : List (List ℕ)) (part : List ℕ) → joined_parts (ps ++ (part ∷ [])) ≡ joined_parts ps ++ part
unfolding joined_parts
one_more [] part = append-nil part
one_more (p ∷ ps) part = ap (λ (m : List ℕ). p ++ m) (one_more ps part) ∙ sym (append_assoc p (joined_parts ps) part)

abbrev pub lent_of : Pieces → List ℕ → Lent
lent_of p t = record { state = p; table = t }

pub run-right : {k room : ℕ} {ps : List (List ℕ)} {p : Pieces} {t : List ℕ} → Runs k room ps p t → Right k room (lent_of p t) (joined_parts ps)
unfolding joined_parts
run-right {k} {room} (begins {lent = lent} {t = t} {p = p} e s) = rw (s.answers, s.table_left, e) (start_right k room)
run-right {k} {room} (goes_on {ps = ps} {p = p} {part = part} {t = t} {t' = t'} {r = r} run c) =
    rw (c.answers, c.table_left, one_more ps part) (part_right k room (lent_of p t) (joined_parts ps) (run-right run) part)

-- ---- what the owner asks

-- the state and the table of a start do not hang on what stood in the table, nor on anything before: a run begins
pub fresh_start : (k : ℕ) (lent lent' : List ℕ) (p p' : Pieces) (t t' : List ℕ) → length lent ≡ length lent' → Started k lent p t → Started k lent' p' t'
    → (p ≡ p') × (t ≡ t') × Runs k (length lent) [] p t
fresh_start k lent lent' p p' t t' e x y =
    (both x.answers (y.answers ∙ rw e), both x.table_left (y.table_left ∙ rw e), begins refl x)

pub zero-at-start : (k : ℕ) (lent : List ℕ) (p : Pieces) (t : List ℕ) → Started k lent p t → t ≡ replicate (length lent) 0
zero-at-start k lent p t s = s.table_left

-- 17: state and table are as they were
pub record NotTaken (p : Pieces) (table : List ℕ) (r : Told) (table' : List ℕ) : Type 0 where
  pub verdict : r.verdict ≡ refused 17 0
  pub state : r.state ≡ p
  pub table_left : table' ≡ table

part_out : (p : Pieces) (part t : List ℕ) (r : Told) (t' : List ℕ) → takes p (length t) ≡ false → Parted p part t r t' → NotTaken p t r t'
unfolding part_told part_table
part_out p part t r t' e c =
    record {
      verdict = ap (λ (x : Told). x.verdict) c.answers ∙ rw e;
      state = ap (λ (x : Told). x.state) c.answers ∙ rw e;
      table_left = c.table_left ∙ rw e;
    }

end_out : (p : Pieces) (t : List ℕ) (r : Told) (t' : List ℕ) → takes p (length t) ≡ false → Ended p t r t' → NotTaken p t r t'
unfolding end_told end_table
end_out p t r t' e c =
    record {
      verdict = ap (λ (x : Told). x.verdict) c.answers ∙ rw e;
      state = ap (λ (x : Told). x.state) c.answers ∙ rw e;
      table_left = c.table_left ∙ rw e;
    }

-- after an end whose code is neither 0 nor 17 the table is zero, whatever it was given
pub zero-refused : (p : Pieces) (t : List ℕ) (r : Told) (t' : List ℕ) → Ended p t r t' → r.verdict.code ≢ 0 → r.verdict.code ≢ 17 → t' ≡ replicate (length t) 0
unfolding end_told end_table
zero-refused p t r t' c some other = go (takes p (length t)) refl
  where
    go : (b : Bool) → takes p (length t) ≡ b → t' ≡ replicate (length t) 0
    go false e = absurd (other (ap (λ (v : Verdict). v.code) (end_out p t r t' e c).verdict))
    go true e =
        let v : r.verdict ≡ verdict_by p (length t) = ap (λ (x : Told). x.verdict) c.answers ∙ rw e in
        let n : 0 < r.verdict.code = omega (arith, some) in
        let y : refuses (verdict_by p (length t)) ≡ true = rw v at (lt-ltb 0 r.verdict.code n) in
        c.table_left ∙ rw (e, y)

module _ {k room : ℕ} {ps : List (List ℕ)} {p : Pieces} {t : List ℕ} (run : Runs k room ps p t) where
  taken : takes p (length t) ≡ true
  taken = taken_is k room (lent_of p t) (joined_parts ps) (run-right run)

  -- no part is answered early
  pub part-answers-nothing : (part : List ℕ) (r : Told) (t' : List ℕ) → Parted p part t r t' → r.verdict ≡ accepted
  part-answers-nothing part r t' c = ap (λ (x : Told). x.verdict) c.answers ∙ part-told k room (lent_of p t) (joined_parts ps) (run-right run) part

  -- the end: the judge's verdict on the joined parts, and its table in one of zeros
  module _ (oct : Octets (joined_parts ps)) (r : Told) (t' : List ℕ) (c : Ended p t r t') where
    pub promised : (r.verdict ≡ judge_verdict book k (joined_parts ps) room) × (t' ≡ judge_table book k (joined_parts ps) (replicate room 0))
    promised = (
      ap (λ (x : Told). x.verdict) c.answers ∙ told k room (lent_of p t) (joined_parts ps) (run-right run) oct,
      c.table_left ∙ left k room (lent_of p t) (joined_parts ps) (run-right run) oct,
    )

    -- its code is 0 or one of 1 to 12, never 17
    pub end-one-of : OneOf judge_numbers r.verdict
    end-one-of = rw promised.0 (judge_one-of k (joined_parts ps) room)

    pub never_17 : r.verdict.code ≢ 17
    never_17 e = go end-one-of
      where
        go : OneOf judge_numbers r.verdict → ⊥
        go (inl a) = omega (arith, e, ap (λ (v : Verdict). v.code) a)
        go (inr a) = let z : among 17 judge_numbers ≡ true = rw e at a in let y : ◌≡◌ {A = ℕ} 0 1 = cc in omega arith

  -- ---- 17 with a table of another length; the run goes on as if there had been no such call

  module _ (other : List ℕ) (n : length other ≢ room) where
    not_taken : takes p (length other) ≡ false
    not_taken = other_length p (length other) (λ e. n (sym e ∙ (run-right run).like.room_is))

    pub other-part : (part : List ℕ) (r : Told) (t' : List ℕ) → Parted p part other r t' → NotTaken p other r t' × Runs k room ps r.state t
    other-part part r t' c = let o = part_out p part other r t' not_taken c in (o, rw o.state run)

    pub other-end : (r : Told) (t' : List ℕ) → Ended p other r t' → NotTaken p other r t' × Runs k room ps r.state t
    other-end r t' c = let o = end_out p other r t' not_taken c in (o, rw o.state run)

-- two runs over the same octets, cut otherwise, end with one verdict and one table
pub cut_anyhow : {k room : ℕ} {ps ps' : List (List ℕ)} {p p' : Pieces} {t t' : List ℕ} → Runs k room ps p t → Runs k room ps' p' t' → joined_parts ps ≡ joined_parts ps' → Octets (joined_parts ps)
    → (r r' : Told) (u u' : List ℕ) → Ended p t r u → Ended p' t' r' u' → (r.verdict ≡ r'.verdict) × (u ≡ u')
cut_anyhow {k} {room} run run' e oct r r' u u' c c' =
    let a = promised run oct r u c in
    let b = promised run' (rw e at oct) r' u' c' in
    (a.0 ∙ rw e (sym b.0), a.1 ∙ rw e (sym b.1))

-- ---- 17 after the end

-- a run was ended, and no start came since
pub data Over : Pieces → Type 0 where
  by_end : {k room : ℕ} {ps : List (List ℕ)} {p : Pieces} {t t' : List ℕ} {r : Told} → Runs k room ps p t → Ended p t r t' → Over r.state
  then_part : {p : Pieces} {part t t' : List ℕ} {r : Told} → Over p → Parted p part t r t' → Over r.state
  then_end : {p : Pieces} {t t' : List ℕ} {r : Told} → Over p → Ended p t r t' → Over r.state

over-takes : (p : Pieces) (room : ℕ) → p.ended ≡ true → takes p room ≡ false
unfolding takes
over-takes p room e = rw e

over-ended : {p : Pieces} → Over p → p.ended ≡ true
unfolding end_told ended_by
over-ended (by_end {p = p} {t = t} {r = r} run c) = ap (λ (x : Told). x.state.ended) c.answers ∙ rw (taken run)
over-ended (then_part {p = p} {part = part} {t = t} {t' = t'} {r = r} o c) = ap (λ (x : Pieces). x.ended) (part_out p part t r t' (over-takes p (length t) (over-ended o)) c).state ∙ over-ended o
over-ended (then_end {p = p} {t = t} {t' = t'} {r = r} o c) = ap (λ (x : Pieces). x.ended) (end_out p t r t' (over-takes p (length t) (over-ended o)) c).state ∙ over-ended o

-- whatever table is lent
pub over-part : (p : Pieces) (part t : List ℕ) (r : Told) (t' : List ℕ) → Over p → Parted p part t r t' → NotTaken p t r t'
over-part p part t r t' o c = part_out p part t r t' (over-takes p (length t) (over-ended o)) c

pub over-end : (p : Pieces) (t : List ℕ) (r : Told) (t' : List ℕ) → Over p → Ended p t r t' → NotTaken p t r t'
over-end p t r t' o c = end_out p t r t' (over-takes p (length t) (over-ended o)) c
