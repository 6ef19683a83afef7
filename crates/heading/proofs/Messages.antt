-- Laws of any messages: how a search by their types goes on, and what a table says of one. Assumes nothing.
use mathlib.Core.Path.{◌≡◌, refl, sym, ap, ◌∙◌}
use mathlib.Core.Bool.{Bool, true, false, cond, not, ◌&&◌}
use mathlib.Core.List.{List, [], ◌∷◌, map}
use Prim.Native.Nat.{ℕ, zero, suc, ◌≤◌, ◌<◌}
use native.Mathlib.Nat.{pos_of_ne-zero}
use native.Mathlib.Omega.{arith}
use native.Mathlib.Decide.{dec_lt, ℕ_discrete}
use borrow.Author.Tests.{ne_eqb, ltb-true, lt-ltb, le-ltb, eqb-false, not-true}
use lib.Dec.{eqb, ltb}
use lib.ListN.{length, get_or, get_or-map}
use Rattle.rules.specs.Framing.{flag_t, header_length}
use Rattle.rules.specs.Types.{among}
use Rattle.rules.specs.Listings.{Message, no_message, messages, book, seek_message, is_message, message_of}
use Rattle.rules.specs.Sound.{every_level, every_message, sound}
use Rattle.rules.proofs.Lines.{and_left, and_right}
use Rattle.rules.proofs.Header.{Passed}
use Rattle.rules.proofs.Book.{book-sound}
use Rattle.std.specs.List.{find}
use Rattle.std.specs.Option.{MatchOption, option_map}
use Rattle.std.specs.Prelude.{Option, None, Some}
use Rattle.std.specs.Borrow.{Bor}
use Rattle.std.proofs.lemmas.Option.{MatchOption-at_none, MatchOption-at_some}
use Rattle.heading.specs.declared.Handled.{Handled}
use Rattle.heading.specs.Header.{Listed, Sought, handled_of, sent_by}

-- the table has what the messages say
further : (m : Option Handled) (a n : ℕ) (P : Handled → Type 0) → MatchOption m (a ≡ n) (λ h. (a < n) × P h) → MatchOption m (suc a ≡ suc n) (λ h. (suc a < suc n) × P h)
further None a n P e = ap suc e
further (Some h) a n P f = (omega (arith, f.0), f.1)

-- of messages xs: what the table finds of the type t
abbrev pub Finds : List Message → ℕ → Type 0
Finds xs t = MatchOption (find (λ (h : Handled). eqb h.typ t) (map handled_of xs))
    (seek_message xs t ≡ length xs)
    (λ h. (seek_message xs t < length xs) × (h ≡ handled_of (get_or xs (seek_message xs t) no_message)))

pub find_message : (xs : List Message) (t : ℕ) → Finds xs t
unfolding seek_message
find_message [] t = refl
find_message (x ∷ xs) t = go (eqb x.typ t) refl (find_message xs t)
  where
    go : (b : Bool) → eqb x.typ t ≡ b → Finds xs t → Finds (x ∷ xs) t
    go true e f = rw e (omega arith, refl)
    go false e f = rw e (further (find (λ (h : Handled). eqb h.typ t) (map handled_of xs)) (seek_message xs t) (length xs) (λ h. h ≡ handled_of (get_or xs (seek_message xs t) no_message)) f)

-- ---- these messages

pub count : length book.messages ≡ 10
unfolding book messages
count = refl

pub sought_from_find : (t : ℕ) (r : Option (Bor Handled)) → option_map (λ (b : Bor Handled). b.now) r ≡ find (λ (h : Handled). eqb h.typ t) (map handled_of book.messages) → Sought t r
unfolding is_message message_of
sought_from_find t None e =
    let f = MatchOption-at_none _ _ (sym e) (find_message book.messages t) in
    le-ltb (seek_message book.messages t) (length book.messages) (omega (arith, f))
sought_from_find t (Some h) e =
    let f = MatchOption-at_some _ _ h.now (sym e) (find_message book.messages t) in
    (lt-ltb (seek_message book.messages t) (length book.messages) f.0, f.1)

-- a type that is listed has a number
pub listed-low : (t : ℕ) → is_message book t ≡ true → seek_message book.messages t < length book.messages
unfolding is_message
listed-low t e = ltb-true (seek_message book.messages t) (length book.messages) e

-- a message whose header passes the checks has a type, which is listed
pub passed-listed : {k : ℕ} {m : List ℕ} → Passed book k m → Listed m
unfolding header_length
passed-listed {k} {m} p = record { long = go (flag_t m) p.has_header; listed = p.listed }
  where
    go : (c : Bool) → cond c 12 8 ≤ length m → 2 ≤ length m
    go true h = omega arith
    go false h = omega arith

-- a body is a level that there is
pub record IsLevel (v : ℕ) : Type 0 where
  pub some : 0 < v
  pub low : v < length book.levels

body_tests : (levels : ℕ) (xs : List Message) → every_message levels xs ≡ true → (n : ℕ) → n < length xs
    → not (eqb (get_or xs n no_message).body 0) && ltb (get_or xs n no_message).body levels ≡ true
unfolding every_message
body_tests levels [] e n h = absurd (omega arith)
body_tests levels (x ∷ xs) e zero h = and_left _ (every_message levels xs) e
body_tests levels (x ∷ xs) e (suc n) h = body_tests levels xs (and_right (not (eqb x.body 0) && ltb x.body levels) _ e) n (omega arith)

bodies_sound : every_message (length book.levels) book.messages ≡ true
unfolding sound
bodies_sound = and_right (every_level (length book.levels) book.levels) _ book-sound

pub body-level : (n : ℕ) → n < length book.messages → IsLevel (get_or book.messages n no_message).body
body-level n h =
    let v = (get_or book.messages n no_message).body in
    let e = body_tests (length book.levels) book.messages bodies_sound n h in
    record {
      some = pos_of_ne-zero (eqb-false v 0 (not-true (eqb v 0) (and_left (not (eqb v 0)) _ e)));
      low = ltb-true v (length book.levels) (and_right (not (eqb v 0)) _ e);
    }

pub has_body : (t : ℕ) → is_message book t ≡ true → IsLevel (message_of book t).body
unfolding message_of
has_body t e = body-level (seek_message book.messages t) (listed-low t e)

-- ---- kinds 1 to 3 have the same messages

kind_at : (k : ℕ) (xs : List Message) (n : ℕ) → get_or (map (λ (x : Message). among k x.kinds) xs) n false ≡ among k (get_or xs n no_message).kinds
kind_at k xs n = get_or-map (λ (x : Message). among k x.kinds) xs n no_message

pub by_kind : (k t : ℕ) → among k book.kinds ≡ true → sent_by (handled_of (message_of book t)) k ≡ among k (message_of book t).kinds
unfolding book messages message_of
by_kind k t e = go (ℕ_discrete k 1) (ℕ_discrete k 2) (ℕ_discrete k 3) (ℕ_discrete k 4)
  where
    n : ℕ
    n = seek_message messages t

    go : Dec (k ≡ 1) → Dec (k ≡ 2) → Dec (k ≡ 3) → Dec (k ≡ 4) → sent_by (handled_of (get_or messages n no_message)) k ≡ among k (get_or messages n no_message).kinds
    go (yes p) q r s = rw p
    go (no p) (yes q) r s = rw q (sym (kind_at 1 messages n) ∙ kind_at 2 messages n)
    go (no p) (no q) (yes r) s = rw r (sym (kind_at 1 messages n) ∙ kind_at 3 messages n)
    go (no p) (no q) (no r) (yes s) = rw s
    go (no p) (no q) (no r) (no s) = let z : false ≡ true = rw (ne_eqb k 1 p, ne_eqb k 2 q, ne_eqb k 3 r, ne_eqb k 4 s) at e in absurd (cc)

-- ---- types

-- every type is an octet, so no larger number is one
low_types : List Message → Bool
low_types [] = true
low_types (x ∷ xs) = ltb x.typ 256 && low_types xs

none-high : (xs : List Message) (t : ℕ) → low_types xs ≡ true → 255 < t → seek_message xs t ≡ length xs
unfolding seek_message low_types
none-high [] t e h = refl
none-high (x ∷ xs) t e h =
    let l = ltb-true x.typ 256 (and_left (ltb x.typ 256) (low_types xs) e) in
    rw (ne_eqb x.typ t (λ w. omega arith), none-high xs t (and_right (ltb x.typ 256) (low_types xs) e) h)

low-types : low_types book.messages ≡ true
unfolding low_types book messages
low-types = refl

pub no_octet : (t : ℕ) → 255 < t → is_message book t ≡ false
unfolding is_message
no_octet t h = le-ltb (seek_message book.messages t) (length book.messages) (omega (arith, none-high book.messages t low-types h))

-- so a type that is listed is an octet
pub listed_octet : (t : ℕ) → is_message book t ≡ true → t < 256
unfolding is_message
listed_octet t e = go (dec_lt 255 t)
  where
    go : Dec (255 < t) → t < 256
    go (yes h) = absurd (omega (arith, none-high book.messages t low-types h, ltb-true (seek_message book.messages t) (length book.messages) e))
    go (no h) = omega arith
