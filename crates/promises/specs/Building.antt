-- What a table of a built message has to do with the table that was given, by the numbers of both and the octets of the values. Assumes nothing.
use Rattle.std.specs.Prelude.{◌≡◌, true, false, List, ℕ, ◌-◌, ◌%◌, ◌<◌, take, drop}
use Rattle.rules.specs.Framing.{octet, flag_t, message_type, header_length}
use Rattle.rules.specs.Types.{is_group}
use Rattle.rules.specs.Listings.{book, message_of}
use Rattle.rules.specs.Standing.{kept}
use Rattle.rules.specs.Values.{row_parent, row_type, row_instance, row_place, row_length, row_standing}
use Rattle.rules.specs.Built.{teid_of, sequence_of}
use Rattle.rules.specs.declared.Verdict.{Verdict}
use Rattle.tables.specs.Words.{rows, kept_count}

-- t with its values, and u with the message
module _ (t values message u : List ℕ) where
  -- a group's place and length are worked out; any other value has its length and octets, and stands where the message has it
  pub record SameRow (r : ℕ) : Type 0 where
    pub parent : row_parent u r ≡ row_parent t r
    pub typ : row_type u r ≡ row_type t r
    pub inst : row_instance u r ≡ row_instance t r
    pub stand : row_standing u r ≡ kept
    pub len : is_group (row_type t r) ≡ false → row_length u r ≡ row_length t r
    pub value : is_group (row_type t r) ≡ false → take (row_length u r) (drop (row_place u r) message) ≡ take (row_length t r) (drop (row_place t r) values)

  pub record SameRows : Type 0 where
    pub as_many : rows u ≡ rows t
    pub all_kept : kept_count u ≡ rows u
    pub each : (r : ℕ) → r < rows t → SameRow r

-- a message has this type, TEID and sequence number, and no bit of its header is set that nothing reads
pub record HasHead (typ teid sequence : ℕ) (m : List ℕ) : Type 0 where
  pub type_is : message_type m ≡ typ
  pub carries : flag_t m ≡ (message_of book typ).teid
  pub teid_is : flag_t m ≡ true → teid_of m ≡ teid
  pub sequence_is : sequence_of m ≡ sequence
  pub flags : octet m 0 % 8 ≡ 0
  pub spare : octet m (header_length m - 1) ≡ 0

-- a verdict that names nothing
pub record NumberAlone (v : Verdict) : Type 0 where
  pub cause : v.cause ≡ 0
  pub place : v.place ≡ 0
  pub typ : v.typ ≡ 0
  pub inst : v.inst ≡ 0
