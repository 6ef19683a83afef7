-- What a level lacks is told by its marks or by its kept rows, and an element may be counted either way: the mark of a mandatory line is touched by
-- elements of the line's own pair alone. Assumes nothing.
--     by-marks    with no row left, the marks decide          by_rows     with no mark made yet, the rows decide
--     with_mark   the first row is counted by its mark        same_rows   only kept rows of the level count
--     must-line   what a sound listing says of a mandatory line
use mathlib.Core.Path.{◌≡◌, refl, sym, ◌∙◌}
use mathlib.Core.Logic.{◌≢◌}
use mathlib.Core.Bool.{Bool, true, false, cond, not, ◌&&◌, ◌||◌, or-false, or_assoc}
use mathlib.Core.List.{List, [], ◌∷◌}
use Prim.Native.Nat.{ℕ, suc, ◌+◌, ◌<◌}
use native.Mathlib.Omega.{arith}
use native.Mathlib.Nat.{add-zero, zero-add, add-suc, suc-add}
use borrow.Author.Tests.{ltb-true, lt-ltb, eqb-true, eqb-false, eq-eqb, ne_eqb}
use lib.Dec.{eqb}
use lib.ListN.{length, get_or}
use lib.Seq.{get_or-set_same, get_or-set_other}
use Rattle.rules.specs.Types.{among}
use Rattle.rules.specs.Listings.{Book, Line, any_instance, lists, empty_line, listing}
use Rattle.rules.specs.Standing.{Item, kept, void, most_lines, fresh, mark_after, line_number, is_listed, standing, marked, item_of}
use Rattle.rules.specs.Verdicts.{is_mandatory, is_kept, has_kept, check, refused_at, mandatory_missing, first, level_checks}
use Rattle.rules.specs.Sound.{sound, is_free}
use Rattle.rules.specs.Frames.{Element}
use Rattle.rules.proofs.Lines.{and_left, and_right, seek-lists, seek-own, lists-is, level-distinct, level-size, line-sound, sound-line}
use Rattle.rules.proofs.Standings.{no_mark, marked-listed, marked_unlisted}
use Rattle.rules.proofs.Covers.{void-limited}
use Rattle.taking.specs.Lacks.{fault, lack_by, lack_of}
use Rattle.reading.specs.Gaps.{packed}

-- ---- the first mandatory line that is not had, whatever having it means

-- a line of that number is had by its mark, or by a kept row of its pair with the parent p
abbrev marks : List ℕ → ℕ → Line → Bool
marks m j l = eqb (get_or m j 0) 2

abbrev rows : ℕ → List Item → ℕ → Line → Bool
rows p es j l = has_kept p l.typ l.inst es

abbrev either : List ℕ → ℕ → List Item → ℕ → Line → Bool
either m p es j l = marks m j l || rows p es j l

module _ (k : ℕ) where
  unfoldable pub missing : (ℕ → Line → Bool) → ℕ → List Line → ℕ
  missing has o [] = 0
  missing has o (l ∷ ls) = cond (is_mandatory k l && not (has 0 l)) (fault o l.typ l.inst) (missing (λ j. has (suc j)) o ls)

  -- a fact of each mandatory line and its number
  abbrev pub EachMust : (ℕ → Line → Type 0) → List Line → Type 0
  EachMust P ls = (j : ℕ) → j < length ls → is_mandatory k (get_or ls j empty_line) ≡ true → P j (get_or ls j empty_line)

  missing-same : (f g : ℕ → Line → Bool) (o : ℕ) (ls : List Line) → EachMust (λ j l. f j l ≡ g j l) ls → missing f o ls ≡ missing g o ls
  unfolding missing
  missing-same f g o [] e = refl
  missing-same f g o (l ∷ ls) e =
      rw (missing-same (λ j. f (suc j)) (λ j. g (suc j)) o ls (λ j a. e (suc j) (omega arith))) (same (is_mandatory k l) refl _ _)
    where
      same : (c : Bool) → is_mandatory k l ≡ c → (x y : ℕ) → cond (c && not (f 0 l)) x y ≡ cond (c && not (g 0 l)) x y
      same true z x y = rw (e 0 (omega arith) z)
      same false z x y = refl

  lack-by : (m : List ℕ) (o n : ℕ) (ls : List Line) → lack_by k m o n ls ≡ missing (λ j. marks m (n + j)) o ls
  unfolding lack_by missing
  lack-by m o n [] = refl
  lack-by m o n (l ∷ ls) = rw (add-zero n, lack-by m o (suc n) ls) (simp (suc-add, add-suc))

  pub checks_by : (es : List Item) (p o : ℕ) (ls : List Line) → packed (first (level_checks k es p o ls)) ≡ missing (rows p es) o ls
  unfolding packed first level_checks missing check
  checks_by es p o [] = refl
  checks_by es p o (l ∷ ls) = go (is_mandatory k l && not (rows p es 0 l)) (checks_by es p o ls)
    where
      go : (c : Bool) {y : ℕ} → packed (first (level_checks k es p o ls)) ≡ y
          → packed (first (check c (refused_at 12 mandatory_missing o l.typ l.inst) ∷ level_checks k es p o ls)) ≡ cond c (fault o l.typ l.inst) y
      go true e = refl
      go false e = e

-- what level v lacks by its marks and the rows left; the parent of its rows is p, and its place is o
unfoldable pub lack_with : Book → ℕ → ℕ → List ℕ → ℕ → ℕ → List Item → ℕ
lack_with b k v m p o es = missing k (either m p es) o (listing b v)

module _ (b : Book) (k v p o : ℕ) where
  pub by-marks : (m : List ℕ) → lack_with b k v m p o [] ≡ lack_of b k v m o
  unfolding lack_with lack_of has_kept
  by-marks m =
      missing-same k (either m p []) (λ j. marks m (0 + j)) o (listing b v) (λ j a c. rw (zero-add j) (or-false (eqb (get_or m j 0) 2)))
      ∙ sym (lack-by k m o 0 (listing b v))

  pub by_rows : (es : List Item) → lack_with b k v fresh p o es ≡ packed (first (level_checks k es p o (listing b v)))
  unfolding lack_with
  by_rows es =
      missing-same k (either fresh p es) (rows p es) o (listing b v) (λ j a c. rw (no_mark most_lines j))
      ∙ sym (checks_by k es p o (listing b v))

  pub same_rows : (m : List ℕ) (es es' : List Item) → ((t j : ℕ) → has_kept p t j es ≡ has_kept p t j es') → lack_with b k v m p o es ≡ lack_with b k v m p o es'
  unfolding lack_with
  same_rows m es es' e = missing-same k (either m p es) (either m p es') o (listing b v) (λ j a c. rw e)

-- ---- a mandatory line lists its own pair and no other

pub record Must (k : ℕ) (l : Line) : Type 0 where
  pub on : among k l.kinds ≡ true
  pub typ : l.typ < 256
  pub inst : l.inst < any_instance
  pub free : is_free l ≡ true

free-must : (a c : Bool) → c ≡ true → a || not c ≡ true → a ≡ true
free-must true c e z = refl
free-must false true e z = z
free-must false false e z = e

pub must-line : (b : Book) → sound b ≡ true → (k v : ℕ) → EachMust k (λ j l. Must k l) (listing b v)
must-line b fine k v j a c =
    let l = get_or (listing b v) j empty_line in
    let s = sound-line (length b.levels) l (line-sound b fine v j a) in record {
      on = and_right l.must (among k l.kinds) c;
      typ = s.typ;
      inst = ltb-true _ _ (rw (and_left l.must (among k l.kinds) c) at s.must);
      free = free-must (is_free l) l.must (and_left l.must (among k l.kinds) c) s.optional;
    }

module _ {k : ℕ} {l : Line} (w : Must k l) (t i : ℕ) where
  lists-own : t ≡ l.typ → i ≡ l.inst → lists k t i l ≡ true
  lists-own et ei = rw (et, ei, eq-eqb l.typ l.typ refl, eq-eqb l.inst l.inst refl, w.on)

  lists-typ : lists k t i l ≡ true → t ≡ l.typ
  lists-typ e = sym (lists-is k t i l e).typ

  lists-inst : lists k t i l ≡ true → i ≡ l.inst
  lists-inst e = sym (eqb-true _ _ (rw (ne_eqb l.inst any_instance (λ z. omega (arith, w.inst)), or-false) at (lists-is k t i l e).inst))

-- ---- its mark after an element: 2 if it was, or if the element is a kept one of its pair, which is never void

after_two : (old s : ℕ) → eqb s void ≡ false → eqb (mark_after old s) 2 ≡ eqb old 2 || eqb s kept
unfolding mark_after
after_two old s e = rw e (go (eqb s kept) (eqb old 2))
  where
    go : (a c : Bool) → eqb (cond (a || false || c) 2 1) 2 ≡ c || a
    go true true = refl
    go true false = refl
    go false true = refl
    go false false = refl

module _ (b : Book) (fine : sound b ≡ true) (k v : ℕ) (m : List ℕ) (h : Element) (len : length m ≡ most_lines)
    (j : ℕ) (lt : j < length (listing b v)) (w : Must k (get_or (listing b v) j empty_line)) where
  abbrev line : Line
  line = get_or (listing b v) j empty_line

  -- the number of the element's line, and the mark that it gets
  abbrev at_line : ℕ
  at_line = line_number b k v h

  abbrev new : ℕ
  new = mark_after (get_or m at_line 0) (standing b k v m h)

  never-void : at_line ≡ j → eqb (standing b k v m h) void ≡ false
  never-void n = ne_eqb (standing b k v m h) void (λ s.
      let x : true ≡ false = sym w.free ∙ (rw n at (void-limited b fine k v m h s)) in
      let z : ◌≡◌ {A = ℕ} 0 1 = cc in omega arith)

  mark-own : h.typ ≡ line.typ → h.inst ≡ line.inst → eqb (get_or (marked b k v m h) j 0) 2 ≡ eqb (get_or m j 0) 2 || eqb (standing b k v m h) kept
  mark-own et ei =
      let n : at_line ≡ j = seek-own (listing b v) k h.typ h.inst (level-distinct b fine v) j lt (lists-own w h.typ h.inst et ei) in
      let own = get_or-set_same m at_line new 0 (rw n (omega (arith, level-size b fine v))) in
      rw (marked-listed b k v m h (rw n (lt-ltb _ _ lt)), ← n, own) (after_two (get_or m at_line 0) (standing b k v m h) (never-void n))

  mark-other : (h.typ ≡ line.typ → h.inst ≡ line.inst → ⊥) → get_or (marked b k v m h) j 0 ≡ get_or m j 0
  mark-other d = go (is_listed b k v h) refl
    where
      go : (c : Bool) → is_listed b k v h ≡ c → get_or (marked b k v m h) j 0 ≡ get_or m j 0
      go false e = rw (marked_unlisted b k v m h e)
      go true e =
          let apart : j ≢ at_line = λ n.
          let own : lists k h.typ h.inst line ≡ true = rw n (seek-lists (listing b v) k h.typ h.inst (ltb-true _ _ e)) in
          d (lists-typ w h.typ h.inst own) (lists-inst w h.typ h.inst own) in
          rw (marked-listed b k v m h e, get_or-set_other m at_line j new 0 apart)

  mark-is : (p at : ℕ) → eqb (get_or (marked b k v m h) j 0) 2 ≡ eqb (get_or m j 0) 2 || is_kept p line.typ line.inst (item_of b k v m p at h)
  unfolding item_of
  mark-is p at = rw (eq-eqb p p refl) (go (eqb h.typ line.typ) (eqb h.inst line.inst) refl refl)
    where
      go : (c d : Bool) → eqb h.typ line.typ ≡ c → eqb h.inst line.inst ≡ d
          → eqb (get_or (marked b k v m h) j 0) 2 ≡ eqb (get_or m j 0) 2 || (c && d && eqb (standing b k v m h) kept)
      go true true ec ed = mark-own (eqb-true _ _ ec) (eqb-true _ _ ed)
      go true false ec ed = rw (mark-other (λ x. eqb-false _ _ ed), or-false)
      go false d ec ed = rw (mark-other (λ x y. eqb-false _ _ ec x), or-false)

pub with_mark : (b : Book) → sound b ≡ true → (k v : ℕ) (m : List ℕ) (p o at : ℕ) (h : Element) (es : List Item) → length m ≡ most_lines
    → lack_with b k v m p o (item_of b k v m p at h ∷ es) ≡ lack_with b k v (marked b k v m h) p o es
unfolding lack_with has_kept
with_mark b fine k v m p o at h es len =
    missing-same k (either m p (item_of b k v m p at h ∷ es)) (either (marked b k v m h) p es) o (listing b v)
    (λ j a c. rw (mark-is b fine k v m h len j a (must-line b fine k v j a c) p at, or_assoc))
