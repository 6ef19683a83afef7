-- What is said of an element by its type number alone, or with its first value octet: least value length, group, cover. Assumes nothing.
--
-- The type numbers that the rules name, with their names in TS 29.274 Table 8.1-1:
--       1 IMSI                    2 Cause                          3 Recovery
--      71 APN                    72 AMBR                          73 EPS Bearer ID          74 IP Address   75 MEI          76 MSISDN
--      77 Indication             78 PCO                           79 PDN Address Allocation
--      80 Bearer QoS             81 Flow QoS                      82 RAT Type               83 Serving Network
--      84 Bearer TFT             85 Traffic Aggregate Description 86 User Location Information
--      87 F-TEID                 93 Bearer Context                94 Charging ID            95 Charging Characteristics
--      96 Trace Information      97 Bearer Flags                  99 PDN Type              100 Procedure Transaction ID
--     103 to 108 MM Context     109 PDN Connection               136 FQDN
--     114 UE Time Zone          127 APN Restriction              128 Selection Mode        132 FQ-CSID
--     152 Node Features         156 EPC Timer                    170 ULI Timestamp         172 RAN/NAS Cause
--     180 Overload Control Information                           182 Metric                183 Sequence Number
--     201 Secondary RAT Usage Data Report                        255 Private Extension
use Rattle.std.specs.Prelude.{ℕ, ◌+◌, ◌/◌, ◌%◌, Bool, false, cond, ◌||◌, List, [], ◌∷◌, eqb}

-- a number stands in a list
abbrev pub among : ℕ → List ℕ → Bool
among t [] = false
among t (x ∷ xs) = eqb t x || among t xs

-- ---- least value lengths

-- Three types have parts that the first value octet tells of (rule 3.4). Its bits, the highest first:
--
--     79 PDN Address Allocation   five bits that nothing reads, PDN type (3 bits: 1 IPv4, 2 IPv6, 3 both)
--     86 User Location            two bits that add nothing, LAI, ECGI, TAI, RAI, SAI, CGI
--     87 F-TEID                   V4, V6, interface type (6 bits)

-- a part of so many octets is there where the first octet, divided and then modulo, is a number
pub record Part : Type 0 where
  pub divisor : ℕ
  pub modulus : ℕ
  pub is : ℕ
  pub size : ℕ

-- a type, the least length without any part, and its parts
pub record Parted : Type 0 where
  pub typ : ℕ
  pub base : ℕ
  pub parts : List Part

-- a part told of by one bit, which has that value in the octet
abbrev pub bit : ℕ → ℕ → Part
bit value size = record { divisor = value; modulus = 2; is = 1; size = size }

-- a part told of by the three lowest bits
abbrev pub low3 : ℕ → ℕ → Part
low3 n size = record { divisor = 1; modulus = 8; is = n; size = size }

unfoldable pub parteds : List Parted
parteds =
    record { typ = 87; base = 5; parts = bit 128 4 ∷ bit 64 16 ∷ [] }
    ∷ record { typ = 79; base = 1; parts = low3 1 4 ∷ low3 2 17 ∷ low3 3 21 ∷ [] }
    ∷ record { typ = 86; base = 1; parts = bit 1 7 ∷ bit 2 7 ∷ bit 4 7 ∷ bit 8 5 ∷ bit 16 7 ∷ bit 32 5 ∷ [] }
    ∷ []

-- what the first octet f adds
abbrev pub added : List Part → ℕ → ℕ
added [] f = 0
added (p ∷ ps) f = cond (eqb (f / p.divisor % p.modulus) p.is) p.size 0 + added ps f

-- every other type: by its number alone
unfoldable pub least_by_type : ℕ → ℕ
least_by_type t =
    cond (among t (93 ∷ 109 ∷ 180 ∷ [])) 0
    (cond (among t (2 ∷ 95 ∷ 114 ∷ 255 ∷ [])) 2
    (cond (eqb t 83) 3
    (cond (among t (74 ∷ 94 ∷ 170 ∷ 183 ∷ [])) 4
    (cond (eqb t 72) 8
    (cond (eqb t 81) 21
    (cond (eqb t 80) 22 1))))))

-- the least length of a value of type t whose first octet is f; an empty value reads as first octet 0, and is short if its type has parts
abbrev pub least_among : List Parted → ℕ → ℕ → ℕ
least_among [] t f = least_by_type t
least_among (p ∷ ps) t f = cond (eqb t p.typ) (p.base + added p.parts f) (least_among ps t f)

unfoldable pub least_of : ℕ → ℕ → ℕ
least_of t f = least_among parteds t f

-- does the first octet bear on it?
abbrev pub parted : List Parted → ℕ → Bool
parted [] t = false
parted (p ∷ ps) t = eqb t p.typ || parted ps t

unfoldable pub is_parted : ℕ → Bool
is_parted t = parted parteds t

-- ---- groups are 93, 109 and 180

unfoldable pub groups : List ℕ
groups = 93 ∷ 109 ∷ 180 ∷ []

unfoldable pub is_group : ℕ → Bool
is_group t = among t groups

-- ---- cover for the type's sake

-- the whole value
unfoldable pub whole_types : List ℕ
whole_types = 1 ∷ 74 ∷ 75 ∷ 76 ∷ 78 ∷ 103 ∷ 104 ∷ 105 ∷ 106 ∷ 107 ∷ 108 ∷ 255 ∷ []

unfoldable pub covers_whole : ℕ → Bool
covers_whole t = among t whole_types

-- all but the first value octet, which the least length hangs on
unfoldable pub rest_types : List ℕ
rest_types = 79 ∷ 86 ∷ []

unfoldable pub covers_rest : ℕ → Bool
covers_rest t = among t rest_types
