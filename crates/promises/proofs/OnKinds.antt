-- A type is among those of a kind exactly where it is listed and its message is sent on the kind, since no type is listed twice. Assumes nothing.
--     types_of   the types of each kind, computed        on_exactly, off-kind, kind-off   when a type is one of them, and when not
use mathlib.Core.Path.{◌≡◌, refl, sym, ◌∙◌}
use mathlib.Core.Logic.{◌⊎◌, inl, inr, ◌↔◌}
use mathlib.Core.Bool.{Bool, true, false, cond, not, ◌&&◌, ◌||◌}
use mathlib.Core.List.{List, [], ◌∷◌, map}
use Prim.Native.Nat.{ℕ, suc, ◌<◌}
use native.Mathlib.Omega.{arith}
use borrow.Author.Tests.{eqb-true, eq-eqb, ltb-true, lt-ltb}
use lib.Dec.{eqb, ltb}
use lib.ListN.{length, get_or}
use Rattle.rules.specs.Types.{among}
use Rattle.rules.specs.Listings.{Message, book, messages, no_message, seek_message, is_message, message_of}
use Rattle.rules.proofs.Checks.{separate}
use Rattle.rules.proofs.Lines.{and_left, and_right}
use Rattle.promises.specs.OnKinds.{types_on}

-- on kinds 1 to 3 every message but 131; on kind 4 it, and the two that every kind has
pub types_of : map (λ (k : ℕ). types_on k book.messages) (1 ∷ 2 ∷ 3 ∷ 4 ∷ [])
    ≡ (1 ∷ 2 ∷ 32 ∷ 37 ∷ 66 ∷ 67 ∷ 68 ∷ 69 ∷ 97 ∷ []) ∷ (1 ∷ 2 ∷ 32 ∷ 37 ∷ 66 ∷ 67 ∷ 68 ∷ 69 ∷ 97 ∷ []) ∷ (1 ∷ 2 ∷ 32 ∷ 37 ∷ 66 ∷ 67 ∷ 68 ∷ 69 ∷ 97 ∷ []) ∷ (1 ∷ 2 ∷ 131 ∷ []) ∷ []
unfolding types_on book messages
types_of = refl

abbrev types : List Message → List ℕ
types = map (λ (x : Message). x.typ)

pub never : false ≡ true → ⊥
never e = let y : ◌≡◌ {A = ℕ} 0 1 = cc in absurd (omega arith)

either : (a : Bool) {c : Bool} → a || c ≡ true → (a ≡ true) ⊎ (c ≡ true)
either true e = inl refl
either false e = inr e

not-both : (a : Bool) → a ≡ true → not a ≡ true → ⊥
not-both true e f = never f
not-both false e f = never e

right : (a : Bool) {c : Bool} → c ≡ true → a || c ≡ true
right true e = refl
right false e = e

no_twice : separate (types book.messages) ≡ true
unfolding separate book messages
no_twice = refl

module _ (k t : ℕ) where
  abbrev On : List Message → Type 0
  On xs = (seek_message xs t < length xs) × (among k (get_or xs (seek_message xs t) no_message).kinds ≡ true)

  -- one message before others, of which the law holds
  module _ (x : Message) (xs : List Message) where
    abbrev before : Bool → Type 0
    before a = (cond a 0 (suc (seek_message xs t)) < suc (length xs)) × (among k (get_or (x ∷ xs) (cond a 0 (suc (seek_message xs t))) no_message).kinds ≡ true)

    abbrev then : Bool → List ℕ
    then c = cond c (x.typ ∷ types_on k xs) (types_on k xs)

    one_type : (among t (types_on k xs) ≡ true → among t (types xs) ≡ true) → (c : Bool) → among t (then c) ≡ true → among t (types (x ∷ xs)) ≡ true
    one_type more false e = right (eqb t x.typ) (more e)
    one_type more true e = go (either (eqb t x.typ) e)
      where
        go : (eqb t x.typ ≡ true) ⊎ (among t (types_on k xs) ≡ true) → eqb t x.typ || among t (types xs) ≡ true
        go (inl f) = rw f
        go (inr f) = right (eqb t x.typ) (more f)

    one_on : (On xs → among t (types_on k xs) ≡ true) → (a c : Bool) → eqb x.typ t ≡ a → among k x.kinds ≡ c → before a → among t (then c) ≡ true
    one_on more true true e f o = let s : t ≡ x.typ = sym (eqb-true x.typ t e) in rw (eq-eqb t x.typ s)
    one_on more true false e f o = absurd (never (sym f ∙ o.1))
    one_on more false true e f o = right (eqb t x.typ) (more (omega (arith, o.0), o.1))
    one_on more false false e f o = more (omega (arith, o.0), o.1)

    -- a later one has another type
    one_in : (among t (types_on k xs) ≡ true → On xs) → (x.typ ≡ t → among t (types_on k xs) ≡ true → ⊥) → (a c : Bool) → eqb x.typ t ≡ a → among k x.kinds ≡ c
        → among t (then c) ≡ true → before a
    one_in more other true true e f g = (omega arith, f)
    one_in more other true false e f g = absurd (other (eqb-true x.typ t e) g)
    one_in more other false false e f g = let r = more g in (omega (arith, r.0), r.1)
    one_in more other false true e f g = go (either (eqb t x.typ) g)
      where
        go : (eqb t x.typ ≡ true) ⊎ (among t (types_on k xs) ≡ true) → before false
        go (inl h) = let s : x.typ ≡ t = sym (eqb-true t x.typ h) in absurd (never (sym e ∙ eq-eqb x.typ t s))
        go (inr h) = let r = more h in (omega (arith, r.0), r.1)

  among-types : (xs : List Message) → among t (types_on k xs) ≡ true → among t (types xs) ≡ true
  unfolding types_on
  among-types [] e = absurd (never e)
  among-types (x ∷ xs) e = one_type x xs (among-types xs) (among k x.kinds) e

  on_in : (xs : List Message) → On xs → among t (types_on k xs) ≡ true
  unfolding types_on seek_message
  on_in [] o = absurd (omega (arith, o.0))
  on_in (x ∷ xs) o = one_on x xs (on_in xs) (eqb x.typ t) (among k x.kinds) refl refl o

  in_on : (xs : List Message) → separate (types xs) ≡ true → among t (types_on k xs) ≡ true → On xs
  unfolding types_on seek_message separate
  in_on [] d e = absurd (never e)
  in_on (x ∷ xs) d e =
      let rest : not (among x.typ (types xs)) && separate (types xs) ≡ true = and_right (ltb 0 x.typ) _ d in
      one_in x xs (in_on xs (and_right (not (among x.typ (types xs))) _ rest))
      (λ s f. not-both (among x.typ (types xs)) (rw s (among-types xs f)) (and_left (not (among x.typ (types xs))) _ rest))
      (eqb x.typ t) (among k x.kinds) refl refl e

  pub on_exactly : (among t (types_on k book.messages) ≡ true) ↔ ((is_message book t ≡ true) × (among k (message_of book t).kinds ≡ true))
  unfolding is_message message_of
  on_exactly = (
    λ e. let r = in_on book.messages no_twice e in (lt-ltb (seek_message book.messages t) (length book.messages) r.0, r.1),
    λ o. on_in book.messages (ltb-true (seek_message book.messages t) (length book.messages) o.0, o.1),
  )

  -- a type that is listed and not sent on the kind
  pub off-kind : (is_message book t ≡ false → ⊥) → among k (message_of book t).kinds ≡ false → (is_message book t ≡ true) × (among t (types_on k book.messages) ≡ false)
  off-kind n e = (so (is_message book t) n, not_so (among t (types_on k book.messages)) (λ z. never (sym e ∙ (on_exactly.0 z).1)))
    where
      so : (a : Bool) → (a ≡ false → ⊥) → a ≡ true
      so true f = refl
      so false f = absurd (f refl)

      not_so : (a : Bool) → (a ≡ true → ⊥) → a ≡ false
      not_so true f = absurd (f refl)
      not_so false f = refl

  pub kind-off : is_message book t ≡ true → among t (types_on k book.messages) ≡ false → among k (message_of book t).kinds ≡ false
  kind-off l e = go (among k (message_of book t).kinds) refl
    where
      go : (c : Bool) → among k (message_of book t).kinds ≡ c → c ≡ false
      go false f = refl
      go true f = absurd (never (sym e ∙ on_exactly.1 (l, f)))
