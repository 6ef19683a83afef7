-- The standing of an element, case by case, and the marks after it. Assumes nothing.
--     standing_case   why a standing is what it is
--     own-mark        after an element of a listed pair its mark is not 0      marks_stay   and no mark goes back to 0
use mathlib.Core.Path.{◌≡◌, refl, sym, ap, ◌∙◌}
use mathlib.Core.Logic.{◌≢◌}
use mathlib.Core.Bool.{Bool, true, false, cond, not, ◌&&◌, ◌||◌}
use mathlib.Core.List.{List}
use Prim.Native.Nat.{ℕ, zero, suc, ◌≤◌, ◌<◌}
use native.Mathlib.Omega.{arith}
use native.Mathlib.Decide.{ℕ_discrete, dec_lt}
use borrow.Author.Tests.{eqb-true, eq-eqb}
use lib.Dec.{eqb}
use lib.ListN.{length, get_or, replicate, set, length-set}
use lib.Seq.{get_or-set_same, get_or-set_other, set_out}
use Rattle.rules.specs.Listings.{Book}
use Rattle.rules.specs.Standing.{kept, unexpected, repeated, short, void, line_number, line_in, is_listed, stood_earlier, is_short, is_over, standing, mark_after, marked, entered}
use Rattle.rules.specs.Frames.{Element}

-- before the first element of a level
pub no_mark : (n j : ℕ) → ◌≡◌ {A = ℕ} (get_or (replicate n 0) j 0) 0
no_mark zero j = refl
no_mark (suc n) zero = refl
no_mark (suc n) (suc j) = no_mark n j

some-mark : (a c : Bool) → ◌≢◌ {A = ℕ} (cond (a || c) 2 1) 0
some-mark true c e = omega arith
some-mark false true e = omega arith
some-mark false false e = omega arith

pub after-mark : (old s : ℕ) → mark_after old s ≢ 0
unfolding mark_after
after-mark old s = some-mark (eqb s kept || eqb s void) (eqb old 2)

module _ (b : Book) (k v : ℕ) (m : List ℕ) (h : Element) where
  pub data Case : ℕ → Type 0 where
    is_unexpected : is_listed b k v h ≡ false → Case unexpected
    is_repeated : is_listed b k v h ≡ true → (line_in b k v h).many ≡ false → stood_earlier b k v m h ≡ true → Case repeated
    is-short : is_listed b k v h ≡ true → not (line_in b k v h).many && stood_earlier b k v m h ≡ false → is_short h ≡ true → Case short
    is-kept : is_listed b k v h ≡ true → not (line_in b k v h).many && stood_earlier b k v m h ≡ false → is_short h ≡ false → is_over b k v h ≡ false → Case kept
    is_void : is_listed b k v h ≡ true → not (line_in b k v h).many && stood_earlier b k v m h ≡ false → is_short h ≡ false → is_over b k v h ≡ true → Case void

  by_tests : (a c d e f : Bool) → is_listed b k v h ≡ a → (line_in b k v h).many ≡ c → stood_earlier b k v m h ≡ d → is_short h ≡ e → is_over b k v h ≡ f
      → Case (cond (not a) unexpected (cond (not c && d) repeated (cond e short (cond f void kept))))
  by_tests false c d e f wa wc wd we wf = is_unexpected wa
  by_tests true false true e f wa wc wd we wf = is_repeated wa wc wd
  by_tests true false false true f wa wc wd we wf = is-short wa (rw (wc, wd)) we
  by_tests true false false false false wa wc wd we wf = is-kept wa (rw (wc, wd)) we wf
  by_tests true false false false true wa wc wd we wf = is_void wa (rw (wc, wd)) we wf
  by_tests true true d true f wa wc wd we wf = is-short wa (rw wc) we
  by_tests true true d false false wa wc wd we wf = is-kept wa (rw wc) we wf
  by_tests true true d false true wa wc wd we wf = is_void wa (rw wc) we wf

  pub standing_case : Case (standing b k v m h)
  unfolding standing
  standing_case = by_tests (is_listed b k v h) (line_in b k v h).many (stood_earlier b k v m h) (is_short h) (is_over b k v h) refl refl refl refl refl

  case_most : (s : ℕ) → Case s → s ≤ void
  case_most s (is_unexpected a) = omega arith
  case_most s (is_repeated a c d) = omega arith
  case_most s (is-short a c d) = omega arith
  case_most s (is-kept a c d f) = omega arith
  case_most s (is_void a c d f) = omega arith

  pub stand-most : standing b k v m h ≤ void
  stand-most = case_most (standing b k v m h) standing_case

  -- only what is kept is entered
  enter_case : (s : ℕ) (g : ℕ) → standing b k v m h ≡ s → (z : Bool) → eqb s kept ≡ z → (0 < cond z g 0) → s ≡ kept
  enter_case s g e true z l = eqb-true s kept z
  enter_case s g e false z l = absurd (omega arith)

  pub entered-kept : (0 < entered b k v m h) → standing b k v m h ≡ kept
  unfolding entered
  entered-kept l = enter_case (standing b k v m h) (line_in b k v h).inside refl (eqb (standing b k v m h) kept) refl l

  pub entered-inside : standing b k v m h ≡ kept → entered b k v m h ≡ (line_in b k v h).inside
  unfolding entered
  entered-inside e = rw (eq-eqb (standing b k v m h) kept e)

  -- ---- the marks

  pub marked-listed : is_listed b k v h ≡ true
      → marked b k v m h ≡ set m (line_number b k v h) (mark_after (get_or m (line_number b k v h) 0) (standing b k v m h))
  unfolding marked
  marked-listed e = rw e

  pub marked_unlisted : is_listed b k v h ≡ false → marked b k v m h ≡ m
  unfolding marked
  marked_unlisted e = rw e

  pub own-mark : is_listed b k v h ≡ true → line_number b k v h < length m → get_or (marked b k v m h) (line_number b k v h) 0 ≢ 0
  own-mark e l z =
      after-mark (get_or m (line_number b k v h) 0) (standing b k v m h)
      (sym (get_or-set_same m (line_number b k v h) (mark_after (get_or m (line_number b k v h) 0) (standing b k v m h)) 0 l) ∙ (rw (marked-listed e) at z))

  set-stays : (j n x : ℕ) → x ≢ 0 → get_or m j 0 ≢ 0 → Dec (j ≡ n) → Dec (n < length m) → get_or (set m n x) j 0 ≢ 0
  set-stays j n x a c (yes e) (yes l) z = a (sym (get_or-set_same m n x 0 l) ∙ (rw e at z))
  set-stays j n x a c (yes e) (no l) z = c (rw (set_out m n x (omega arith)) at z)
  set-stays j n x a c (no e) d z = c (sym (get_or-set_other m n j x 0 e) ∙ z)

  stays_case : (j : ℕ) (z : Bool) → is_listed b k v h ≡ z → get_or m j 0 ≢ 0 → get_or (marked b k v m h) j 0 ≢ 0
  stays_case j true e c =
      rw (marked-listed e) (set-stays j (line_number b k v h) (mark_after (get_or m (line_number b k v h) 0) (standing b k v m h))
      (after-mark (get_or m (line_number b k v h) 0) (standing b k v m h)) c (ℕ_discrete j (line_number b k v h)) (dec_lt (line_number b k v h) (length m)))
  stays_case j false e c = rw (marked_unlisted e) c

  pub marks_stay : (j : ℕ) → get_or m j 0 ≢ 0 → get_or (marked b k v m h) j 0 ≢ 0
  marks_stay j c = stays_case j (is_listed b k v h) refl c

  length_case : (z : Bool) → is_listed b k v h ≡ z → length (marked b k v m h) ≡ length m
  length_case true e =
      rw (marked-listed e) (length-set m (line_number b k v h) (mark_after (get_or m (line_number b k v h) 0) (standing b k v m h)))
  length_case false e = ap length (marked_unlisted e)

  pub marked-length : length (marked b k v m h) ≡ length m
  marked-length = length_case (is_listed b k v h) refl
