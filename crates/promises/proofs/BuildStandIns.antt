-- Functions that only look like a builder are turned down, each by an example. Assumes nothing.
use mathlib.Core.Path.{◌≡◌, refl, sym, ap, ◌∙◌}
use mathlib.Core.Bool.{true}
use mathlib.Core.List.{List, [], ◌∷◌, ◌++◌, map}
use Prim.Native.Nat.{ℕ, ◌%◌}
use native.Mathlib.Omega.{arith}
use lib.ListN.{length, get_or, replicate}
use Rattle.rules.specs.Types.{groups, is_group}
use Rattle.rules.specs.Listings.{messages, book, seek_message, message_of}
use Rattle.rules.specs.Values.{row_type, row_length, table_type, table_kind}
use Rattle.rules.specs.Verdicts.{accepted, refused}
use Rattle.rules.specs.Emitting.{size_of, within, emitted}
use Rattle.rules.specs.Built.{built_by, given, givens, built}
use Rattle.rules.specs.Examples.{message_g}
use Rattle.rules.specs.CleanExamples.{Left}
use Rattle.rules.specs.BuildExamples.{builds, build_outcome, build_written, table_d, table_g, table_none}
use Rattle.rules.specs.declared.Verdict.{Verdict}
use Rattle.rules.proofs.Examples.{all-builds}
use Rattle.promises.specs.StandIns.{below, GivenTable, Builder, IsBuilder, outer_pieces, outer_built}

abbrev nothing : Left
nothing = record { verdict = accepted; length_is = 0; left = [] }

-- what comes out of example number n
example : (n : ℕ) → get_or (map build_outcome builds) n nothing ≡ get_or (map build_written builds) n nothing
example n = ap (λ (l : List Left). get_or l n nothing) all-builds

abbrev sevens : ℕ → List ℕ
sevens n = replicate n 7

-- G with its own table, and with another place and length of its group; D, with numbers past those used; no row at all
given-g : GivenTable 1 2 (table_g 16 5) message_g (sevens 23)
unfolding below
given-g = record { teid_number = refl; sequence_number = refl; numbers = refl; octets = refl; lent = refl }

given-other : GivenTable 1 2 (table_g 9999 9999) message_g (sevens 21)
unfolding below
given-other = record { teid_number = refl; sequence_number = refl; numbers = refl; octets = refl; lent = refl }

given_d : GivenTable 0x12345678 1 (table_d 0 1 ++ (9 ∷ 9 ∷ [])) (7 ∷ []) (sevens 23)
unfolding below
given_d = record { teid_number = refl; sequence_number = refl; numbers = refl; octets = refl; lent = refl }

given-none : GivenTable 1 2 table_none [] (sevens 23)
unfolding below
given-none = record { teid_number = refl; sequence_number = refl; numbers = refl; octets = refl; lent = refl }

module _ (f : Builder) (j : IsBuilder f) where
  builds-g : ((f 1 2 (table_g 16 5) message_g (sevens 23)).sent.verdict ≡ accepted) × ((f 1 2 (table_g 16 5) message_g (sevens 23)).sent.length ≡ 21)
  unfolding builds
  builds-g =
      let d = j 1 2 (table_g 16 5) message_g (sevens 23) given-g in
      (d.verdict_is ∙ ap (λ (x : Left). x.verdict) (example 0), d.length_is ∙ ap (λ (x : Left). x.length_is) (example 0))

  builds-other : ((f 1 2 (table_g 9999 9999) message_g (sevens 21)).sent.verdict ≡ accepted) × (get_or (f 1 2 (table_g 9999 9999) message_g (sevens 21)).left 14 0 ≡ 5)
  unfolding builds
  builds-other =
      let d = j 1 2 (table_g 9999 9999) message_g (sevens 21) given-other in
      (d.verdict_is ∙ ap (λ (x : Left). x.verdict) (example 1), ap (λ (l : List ℕ). get_or l 14 0) (d.room_left ∙ ap (λ (x : Left). x.left) (example 1)))

  builds_d : ((f 0x12345678 1 (table_d 0 1 ++ (9 ∷ 9 ∷ [])) (7 ∷ []) (sevens 23)).sent.verdict ≡ accepted)
      × (get_or (f 0x12345678 1 (table_d 0 1 ++ (9 ∷ 9 ∷ [])) (7 ∷ []) (sevens 23)).left 0 0 ≡ 0x40)
  unfolding builds
  builds_d =
      let d = j 0x12345678 1 (table_d 0 1 ++ (9 ∷ 9 ∷ [])) (7 ∷ []) (sevens 23) given_d in
      (d.verdict_is ∙ ap (λ (x : Left). x.verdict) (example 2), ap (λ (l : List ℕ). get_or l 0 0) (d.room_left ∙ ap (λ (x : Left). x.left) (example 2)))

  refuses-none : ((f 1 2 table_none [] (sevens 23)).sent.verdict ≡ refused 16 0) × (get_or (f 1 2 table_none [] (sevens 23)).left 0 0 ≡ 7)
  unfolding builds
  refuses-none =
      let d = j 1 2 table_none [] (sevens 23) given-none in
      (d.verdict_is ∙ ap (λ (x : Left). x.verdict) (example 6), ap (λ (l : List ℕ). get_or l 0 0) (d.room_left ∙ ap (λ (x : Left). x.left) (example 6)))

  -- one that refuses always, with 16 say
  pub build-refuses_always : ((i s : ℕ) (t v r : List ℕ) → GivenTable i s t v r → (f i s t v r).sent.verdict ≡ refused 16 0) → ⊥
  build-refuses_always r =
      omega (arith, ap (λ (v : Verdict). v.code) (sym builds-g.0 ∙ r 1 2 (table_g 16 5) message_g (sevens 23) given-g))

  -- one that builds the message level only
  outer_g : length (outer_built 1 66 1 2 (table_g 16 5) message_g) ≡ 16
  unfolding messages book seek_message message_of groups is_group size_of within emitted given givens outer_pieces
  outer_g = refl

  pub outer_alone : ((i s : ℕ) (t v r : List ℕ) → GivenTable i s t v r → (f i s t v r).sent.verdict ≡ accepted → (f i s t v r).sent.length ≡ length (outer_built (table_kind t) (table_type t) i s t v)) → ⊥
  outer_alone r = omega (arith, builds-g.1, outer_g, r 1 2 (table_g 16 5) message_g (sevens 23) given-g builds-g.0)

  -- one that takes a group's length from the table, if only where the group stands first after a header of 12 octets
  pub group-length-taken : ((i s : ℕ) (t v r : List ℕ) → GivenTable i s t v r → (f i s t v r).sent.verdict ≡ accepted → (message_of book (table_type t)).teid ≡ true → is_group (row_type t 0) ≡ true
      → get_or (f i s t v r).left 14 0 ≡ row_length t 0 % 256) → ⊥
  unfolding messages book seek_message message_of groups is_group
  group-length-taken r = omega (arith, builds-other.1, r 1 2 (table_g 9999 9999) message_g (sevens 21) given-other builds-other.0 refl refl)

  -- one that writes before 16 is decided
  built-none : get_or (built_by book 1 2 table_none []) 0 0 ≡ 0x48
  unfolding built messages book seek_message message_of
  built-none = refl

  pub writes_first : ((i s : ℕ) (t v r : List ℕ) → GivenTable i s t v r → (f i s t v r).sent.verdict ≡ refused 16 0
      → get_or (f i s t v r).left 0 0 ≡ get_or (built_by book i s t v) 0 0) → ⊥
  writes_first r = omega (arith, refuses-none.1, built-none, r 1 2 table_none [] (sevens 23) given-none refuses-none.0)

  -- one that carries a TEID for type 1
  pub teid-of_echo : ((i s : ℕ) (t v r : List ℕ) → GivenTable i s t v r → table_type t ≡ 1 → (f i s t v r).sent.verdict ≡ accepted → get_or (f i s t v r).left 0 0 ≡ 0x48) → ⊥
  teid-of_echo r = omega (arith, builds_d.1, r 0x12345678 1 (table_d 0 1 ++ (9 ∷ 9 ∷ [])) (7 ∷ []) (sevens 23) given_d refl builds_d.0)
