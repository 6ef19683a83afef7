-- Framing (TS 29.274 clauses 5 and 8.2): what the octets of a message's header and of an element's header say. Assumes nothing.
use Rattle.std.specs.Prelude.{ℕ, ◌+◌, ◌-◌, ◌*◌, ◌/◌, ◌%◌, Bool, true, false, cond, ◌&&◌, List, length, get_or, leb, eqb}
use Rattle.rules.specs.declared.Head.{Head}

-- Octets count from 0, high octet first. Past the end stands 0, and no answer hangs on that.
abbrev pub octet : List ℕ → ℕ → ℕ
octet xs k = get_or xs k 0

abbrev pub two_octets : List ℕ → ℕ → ℕ
two_octets xs k = octet xs k * 256 + octet xs (k + 1)

-- ---- the header of a message
--
--     octet 0      version (3 bits), P (1), T (1), ignored (3)
--     octet 1      message type
--     octets 2, 3  length of all that follows octet 3
--     T = 1:       4 octets of TEID
--     then         3 octets of sequence number, 1 octet ignored

unfoldable pub version : List ℕ → ℕ
version m = octet m 0 / 32

unfoldable pub flag_p : List ℕ → Bool
flag_p m = eqb (octet m 0 / 16 % 2) 1

unfoldable pub flag_t : List ℕ → Bool
flag_t m = eqb (octet m 0 / 8 % 2) 1

unfoldable pub message_type : List ℕ → ℕ
message_type m = octet m 1

unfoldable pub length_field : List ℕ → ℕ
length_field m = two_octets m 2

-- 8 octets, or 12 with T = 1
unfoldable pub header_length : List ℕ → ℕ
header_length m = cond (flag_t m) 12 8

-- ---- an element
--
--     octet 0      type
--     octets 1, 2  length of the value
--     octet 3      ignored (4 bits), instance (4 bits)
--     then         the value

-- the octets of an element's header
abbrev pub element_header : ℕ
element_header = 4

abbrev pub value_length : List ℕ → ℕ
value_length xs = two_octets xs 1

-- the first value octet, or 0 if the value is empty
abbrev pub first_octet : List ℕ → ℕ
first_octet xs = cond (eqb (value_length xs) 0) 0 (octet xs element_header)

-- at most 3 octets are left, or the element is longer than what is left
abbrev pub no_head : Head
no_head = record { whole = false; typ = 0; inst = 0; len = 0; first = 0 }

-- the element at the head of the octets that are left of its level
unfoldable pub head_of : List ℕ → Head
head_of xs =
    cond (leb element_header (length xs) && leb (value_length xs) (length xs - element_header))
    (record { whole = true; typ = octet xs 0; inst = octet xs 3 % 16; len = value_length xs; first = first_octet xs })
    no_head
