-- The parts of contracts over a message's header. Assumes nothing.
use Rattle.std.specs.Prelude.{◌≡◌, Bool, true, false, cond, List, ℕ, ◌≤◌, ◌<◌, length, eqb, ⊤, Option, None, Some, MatchOption}
use Rattle.std.specs.Borrow.{Bor}
use Rattle.rules.specs.Framing.{message_type, length_field, header_length}
use Rattle.rules.specs.Types.{among}
use Rattle.rules.specs.Listings.{Message, book, is_message, message_of}
use Rattle.rules.specs.Taking.{body_level}
use Rattle.rules.proofs.Rows.{Octets}
use Rattle.heading.specs.declared.Handled.{Handled}

-- of the first four octets of a message of n, those that there are stand in `head`
pub record Opens (head : List ℕ) (n : ℕ) : Type 0 where
  pub there : (j : ℕ) → j < 4 → j < n → j < length head

-- what the table of the message types says of a message
abbrev pub handled_of : Message → Handled
handled_of m = record { typ = m.typ; teid = m.teid; gateways = among 1 m.kinds; mmes = among 4 m.kinds; body = m.body }

abbrev pub sent_by : Handled → ℕ → Bool
sent_by h kind = cond (eqb kind 4) h.mmes h.gateways

-- what the table says of the type t, if it is listed
abbrev pub Sought : ℕ → Option (Bor Handled) → Type 0
Sought t r = MatchOption r (is_message book t ≡ false) (λ h. (is_message book t ≡ true) × (h.now ≡ handled_of (message_of book t)))

-- a kind, and a type that is listed
pub record Known (kind typ : ℕ) : Type 0 where
  pub kind_is : among kind book.kinds ≡ true
  pub listed : is_message book typ ≡ true

-- the length that the header says, which has two octets
pub record Field (m : List ℕ) (r : ℕ) : Type 0 where
  pub is : r ≡ length_field m
  pub low : r < 65536

-- where the elements of a message begin
pub record Start (m : List ℕ) (r : ℕ) : Type 0 where
  pub is : r ≡ header_length m
  pub least : 8 ≤ r
  pub most : r ≤ 12

-- a message with a type, which is listed
pub record Listed (m : List ℕ) : Type 0 where
  pub long : 2 ≤ length m
  pub listed : is_message book (message_type m) ≡ true

-- the level of its body, which is one of the book's
pub record Body (m : List ℕ) (r : ℕ) : Type 0 where
  pub is : r ≡ body_level book m
  pub some : 0 < r
  pub level : r < length book.levels
  pub octets : Octets m

-- the length of the header of the type t, if it is listed
pub record HeaderOf (t : ℕ) (r : Option ℕ) : Type 0 where
  pub is : r ≡ cond (is_message book t) (Some (cond (message_of book t).teid 12 8)) None
  pub most : MatchOption r ⊤ (λ n. n ≤ 12)
