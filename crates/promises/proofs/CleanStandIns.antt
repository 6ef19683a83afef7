-- Functions that only look like a cleaner are turned down, each by an example, or by a promise. Assumes nothing.
use mathlib.Core.Path.{◌≡◌, refl, ap, ◌∙◌}
use mathlib.Core.Bool.{true}
use mathlib.Core.List.{List, [], ◌∷◌, map}
use Prim.Native.Nat.{ℕ, zero, suc, ◌+◌, ◌<◌}
use native.Mathlib.Omega.{arith}
use borrow.Author.Tests.{ltb-true}
use lib.Dec.{ltb}
use lib.ListN.{length, get_or}
use Rattle.rules.specs.Framing.{octet, flag_t, message_type, header_length, head_of}
use Rattle.rules.specs.Types.{parteds, least_by_type, least_of, groups, is_group}
use Rattle.rules.specs.Listings.{levels, messages, book, seek, seek_message, listing, message_of, is_message}
use Rattle.rules.specs.Frames.{seen, exceeds}
use Rattle.rules.specs.Standing.{is_short, mark_after, standing, marked, entered, item_of}
use Rattle.rules.specs.Taking.{run, walk, items_of, body_level, taken}
use Rattle.rules.specs.Table.{laid}
use Rattle.rules.specs.Verdicts.{accepted, refuses}
use Rattle.rules.specs.Emitting.{size_of, within, emitted, accepted_whole}
use Rattle.rules.specs.Cleaned.{received, pieces}
use Rattle.rules.specs.Examples.{message_k, sevens}
use Rattle.rules.specs.CleanExamples.{Left, cleanings, clean_outcome, clean_written, message_inner}
use Rattle.rules.proofs.Book.{book-sound}
use Rattle.rules.proofs.Lines.{and_left, and_right}
use Rattle.rules.proofs.Rows.{Octets}
use Rattle.rules.proofs.Examples.{all-cleanings}
use Rattle.emitted.proofs.Cleaning.{clean-same}
use Rattle.promises.specs.StandIns.{below, octet_bound, Given, Writer, IsCleaner, outer_cleaned}
use Rattle.promises.proofs.Cleaned.{made}

abbrev nothing : Left
nothing = record { verdict = accepted; length_is = 0; left = [] }

-- what comes out of example number n
example : (n : ℕ) → get_or (map clean_outcome cleanings) n nothing ≡ get_or (map clean_written cleanings) n nothing
example n = ap (λ (l : List Left). get_or l n nothing) all-cleanings

given-k : Given octet_bound 1 message_k sevens
unfolding below
given-k = record { kind = refl; octets = refl; numbers = refl }

given-inner : Given octet_bound 1 message_inner sevens
unfolding below
given-inner = record { kind = refl; octets = refl; numbers = refl }

-- numbers below 256 are octets
pub below-octets : (m : List ℕ) → below octet_bound m ≡ true → Octets m
unfolding below
below-octets [] e j = omega arith
below-octets (x ∷ xs) e zero = ltb-true x 256 (and_left (ltb x 256) (below 256 xs) e)
below-octets (x ∷ xs) e (suc j) = below-octets xs (and_right (ltb x 256) (below 256 xs) e) j

-- what a cleaner leaves, at least where it refuses nothing
abbrev pub Leaves : Writer → (ℕ → List ℕ → List ℕ → List ℕ) → Type 0
Leaves f left = (k : ℕ) (m c : List ℕ) → Given octet_bound k m c → (f k m c).sent.verdict ≡ accepted → (f k m c).left ≡ left k m c

module _ (f : Writer) (j : IsCleaner f) where
  -- K: 21 octets, and octet 3 of the copy says 17 that follow, where the message has 21
  cleans-k : ((f 1 message_k sevens).sent.verdict ≡ accepted) × ((f 1 message_k sevens).sent.length ≡ 21) × (get_or (f 1 message_k sevens).left 3 0 ≡ 0x11)
  unfolding cleanings
  cleans-k =
      let d = j 1 message_k sevens given-k in (
        d.verdict_is ∙ ap (λ (x : Left). x.verdict) (example 0),
        d.length_is ∙ ap (λ (x : Left). x.length_is) (example 0),
        ap (λ (l : List ℕ). get_or l 3 0) (d.out_left ∙ ap (λ (x : Left). x.left) (example 0)),
      )

  -- the element inside: octet 14, the group's length, is 5, where the message has 10
  cleans-inner : ((f 1 message_inner sevens).sent.verdict ≡ accepted) × (get_or (f 1 message_inner sevens).left 3 0 ≡ 0x11) × (get_or (f 1 message_inner sevens).left 14 0 ≡ 0x05)
  unfolding cleanings
  cleans-inner =
      let d = j 1 message_inner sevens given-inner in
      let l = d.out_left ∙ ap (λ (x : Left). x.left) (example 3) in
      (d.verdict_is ∙ ap (λ (x : Left). x.verdict) (example 3), ap (λ (l : List ℕ). get_or l 3 0) l, ap (λ (l : List ℕ). get_or l 14 0) l)

  -- one that refuses always
  pub clean-refuses_always : ((k : ℕ) (m c : List ℕ) → Given octet_bound k m c → refuses (f k m c).sent.verdict ≡ true) → ⊥
  clean-refuses_always r =
      let z : refuses accepted ≡ true = rw cleans-k.0 at (r 1 message_k sevens given-k) in let y : ◌≡◌ {A = ℕ} 0 1 = cc in omega arith

  -- one that copies everything
  pub clean-copies-all : Leaves f (λ k m c. laid m c) → ⊥
  unfolding laid
  clean-copies-all r = omega (arith, cleans-k.2, ap (λ (l : List ℕ). get_or l 3 0) (r 1 message_k sevens given-k cleans-k.0))

  -- one that leaves the header's length
  pub header-length-left : ((k : ℕ) (m c : List ℕ) → Given octet_bound k m c → (f k m c).sent.verdict ≡ accepted → get_or (f k m c).left 3 0 ≡ get_or m 3 0) → ⊥
  header-length-left r = omega (arith, cleans-k.2, r 1 message_k sevens given-k cleans-k.0)

  -- one that leaves the length of a group, if only where it stands first
  pub group-length-left : ((k : ℕ) (m c : List ℕ) → Given octet_bound k m c → (f k m c).sent.verdict ≡ accepted → is_group (octet m (header_length m)) ≡ true
      → get_or (f k m c).left (header_length m + 2) 0 ≡ get_or m (header_length m + 2) 0) → ⊥
  unfolding header_length flag_t is_group groups
  group-length-left r = omega (arith, cleans-inner.2, r 1 message_inner sevens given-inner cleans-inner.0 refl)

  -- one that drops what is set aside at the message's own level alone: the element inside stays
  outer_inner : get_or (outer_cleaned 1 message_inner) 3 0 ≡ 0x16
  unfolding seen exceeds flag_t message_type header_length head_of parteds least_by_type least_of groups is_group levels messages book seek seek_message listing message_of is_message is_short mark_after standing marked entered item_of run walk items_of body_level taken size_of within emitted received pieces
  outer_inner = refl

  pub outer_alone : Leaves f (λ k m c. laid (outer_cleaned k m) c) → ⊥
  unfolding laid
  outer_alone r = omega (arith, cleans-inner.1, outer_inner, ap (λ (l : List ℕ). get_or l 3 0) (r 1 message_inner sevens given-inner cleans-inner.0))

  -- one that answers the message's length
  pub answers-message : ((k : ℕ) (m c : List ℕ) → Given octet_bound k m c → (f k m c).sent.verdict ≡ accepted → (f k m c).sent.length ≡ length m) → ⊥
  answers-message r = omega (arith, cleans-k.1, r 1 message_k sevens given-k cleans-k.0)

  -- one that drops a kept row of any message that has no other
  pub drops_kept : (k : ℕ) (m c : List ℕ) → Given octet_bound k m c → accepted_whole book k m ≡ true → (f k m c).sent.verdict ≡ accepted → (f k m c).sent.length < length m → ⊥
  drops_kept k m c g w a l =
      omega (arith, made (j k m c g) a, ap length (clean-same book book-sound k m (below-octets m g.octets) w))
