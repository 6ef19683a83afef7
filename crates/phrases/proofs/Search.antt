-- The search for a text by section and number ends at the text that the section has for the number. Assumes nothing.
--     found                            in the texts as they are laid down
--     seek-start, seek_hit, seek-next, seek-end   the loop: from what is left, the search ends where it does from the start
use mathlib.Core.Path.{◌≡◌, refl, sym, ◌∙◌}
use mathlib.Core.Bool.{Bool, true, false, cond, ◌&&◌, ◌||◌}
use mathlib.Core.List.{List, [], ◌∷◌}
use Prim.Native.Nat.{ℕ, ◌+◌, ◌*◌, ◌≤◌, ◌<◌}
use native.Mathlib.Omega.{arith}
use native.Mathlib.Numerals.{add-one}
use borrow.Author.Tests.{eq-eqb, ne_eqb, eqb-true, eqb-false, ltb-true, ltb-false, leb-true}
use lib.Dec.{eqb, ltb, leb}
use lib.ListN.{length, drop, get_or, drop_of_length-le}
use lib.Seq.{drop-cons}
use denote.Ref.{Bor}
use Rattle.std.proofs.Common.{map}
use Rattle.rules.proofs.Lines.{and_left, and_right}
use Rattle.phrases.specs.declared.sections.Section.{Section}
use Rattle.phrases.specs.declared.sections.Section.TheVariants.{Kinds}
use Rattle.phrases.specs.Sections.{number_of}
use Rattle.phrases.specs.Texts.{Text, every, key_for, key_of, text_in}
use Rattle.phrases.specs.Table.{texts, text_for}
use Rattle.phrases.specs.Laid.{rows_of, row_of, Texts}

-- the test of an entry, and the search
unfoldable pub is_of : ℕ → ℕ → ℕ → ℕ → Bool
is_of s n section number = eqb section s && (eqb number every || eqb number n)

unfoldable pub seek : List (ℕ × ℕ × List ℕ) → ℕ → ℕ → List ℕ
seek [] s n = []
seek (x ∷ xs) s n = cond (is_of s n x.0 x.1) x.2 (seek xs s n)

-- numbers are octets, so that a key has one section
unfoldable pub octet_numbers : List Text → Bool
octet_numbers [] = true
octet_numbers (t ∷ ts) = leb t.number every && octet_numbers ts

or_true : (a : Bool) → a || true ≡ true
or_true true = refl
or_true false = refl

and_false : (a : Bool) → a && false ≡ false
and_false true = refl
and_false false = refl

same-test : (s n : ℕ) (t : Text) → t.number ≤ 255 → (eqb (key_of t) (key_for s n) || eqb (key_of t) (key_for s every)) ≡ is_of s n t.section t.number
unfolding is_of
same-test s n t l = go (eqb t.section s) refl (eqb t.number every) refl (eqb t.number n) refl (ltb n every) refl
  where
    go : (a : Bool) → eqb t.section s ≡ a → (b : Bool) → eqb t.number every ≡ b → (c : Bool) → eqb t.number n ≡ c → (d : Bool) → ltb n every ≡ d
        → (eqb (key_of t) (256 * s + cond d n every) || eqb (key_of t) (256 * s + every)) ≡ (a && (b || c))
    go true x true y c z d w = rw (eq-eqb (key_of t) (256 * s + every) (omega (arith, eqb-true _ _ x, eqb-true _ _ y))) (or_true (eqb (key_of t) (256 * s + cond d n every)))
    go true x false y true z true w = rw (eq-eqb (key_of t) (256 * s + n) (omega (arith, eqb-true _ _ x, eqb-true _ _ z)))
    go true x false y true z false w = absurd (eqb-false _ _ y (omega (arith, l, eqb-true _ _ z, ltb-false _ _ w)))
    go true x false y false z true w =
        rw (ne_eqb (key_of t) (256 * s + n) (λ e. eqb-false _ _ z (omega (arith, eqb-true _ _ x))), ne_eqb (key_of t) (256 * s + every) (λ e. eqb-false _ _ y (omega (arith, eqb-true _ _ x))))
    go true x false y false z false w = rw (ne_eqb (key_of t) (256 * s + every) (λ e. eqb-false _ _ y (omega (arith, eqb-true _ _ x))))
    go false x b y c z true w =
        rw (ne_eqb (key_of t) (256 * s + n) (λ e. eqb-false _ _ x (omega (arith, l, ltb-true _ _ w))), ne_eqb (key_of t) (256 * s + every) (λ e. eqb-false _ _ x (omega (arith, l))))
    go false x b y c z false w = rw (ne_eqb (key_of t) (256 * s + every) (λ e. eqb-false _ _ x (omega (arith, l))))

by-key : (ts : List Text) → octet_numbers ts ≡ true → (s n : ℕ) → seek (rows_of ts) s n ≡ text_in ts (key_for s n) (key_for s every)
unfolding seek rows_of text_in octet_numbers
by-key [] e s n = refl
by-key (t ∷ ts) e s n =
    rw (same-test s n t (leb-true t.number every (and_left (leb t.number every) (octet_numbers ts) e)), by-key ts (and_right (leb t.number every) (octet_numbers ts) e) s n)

pub found : (s n : ℕ) → seek (rows_of texts) s n ≡ text_for s n
unfolding text_for texts octet_numbers
found s n = by-key texts refl s n

-- ---- the test, by what the code compares

module _ (s n a b : ℕ) where
  pub is_every : a ≡ s → b ≡ every → is_of s n a b ≡ true
  unfolding is_of
  is_every f g = rw (eq-eqb a s f, eq-eqb b every g)

  pub is-elsewhere : (a ≡ s → ⊥) → is_of s n a b ≡ false
  unfolding is_of
  is-elsewhere f = rw (ne_eqb a s f)

  -- with the number as another
  module _ {v : ℕ} (x : v ≡ b) where
    pub is_own : a ≡ s → eqb v n ≡ true → is_of s n a b ≡ true
    unfolding is_of
    is_own f g = rw (eq-eqb a s f, ← x, g) (or_true (eqb v every))

    pub is-other : (b ≡ every → ⊥) → eqb v n ≡ false → is_of s n a b ≡ false
    unfolding is_of
    is-other f g = rw (ne_eqb b every f, ← x, g) (and_false (eqb a s))

pub not-every : {v : Bool} {b : ℕ} → b ≡ every → v ≡ eqb b every → v ≡ false → ⊥
not-every {b = b} f g h = eqb-false b every (sym g ∙ h) f

-- ---- the loop

abbrev no_entry : Section × ℕ × Bor (List ℕ)
no_entry = (Kinds, 0, record { ref_ptr = (0, 0); now = [] })

module _ (xs : List (Section × ℕ × Bor (List ℕ))) (s n i : ℕ) {t : List ℕ} (e : seek (map row_of (drop i xs)) s n ≡ t) where
  module _ {r : ℕ} (l : i < length xs) (f : r ≡ number_of (get_or xs i no_entry).0) where
    one_more : cond (is_of s n r (get_or xs i no_entry).1) (get_or xs i no_entry).2.now (seek (map row_of (drop (i + 1) xs)) s n) ≡ t
    unfolding seek
    one_more = rw (add-one i, f) (rw (drop-cons xs i no_entry l) at e)

    pub seek_hit : is_of s n r (get_or xs i no_entry).1 ≡ true → (get_or xs i no_entry).2.now ≡ t
    seek_hit h = rw h at one_more

    pub seek-next : is_of s n r (get_or xs i no_entry).1 ≡ false → seek (map row_of (drop (i + 1) xs)) s n ≡ t
    seek-next h = rw h at one_more

  pub seek-end : length xs ≤ i → [] ≡ t
  unfolding seek
  seek-end l = rw (drop_of_length-le xs l) at e

pub seek-start : (xs : List (Section × ℕ × Bor (List ℕ))) (s n : ℕ) → Texts xs texts → seek (map row_of xs) s n ≡ text_for s n
seek-start xs s n e = rw e.is (found s n)
