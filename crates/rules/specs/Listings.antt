-- Elements per level, as data: a listing is a list of lines in listing order, one line a pair. Assumes nothing.
use Rattle.std.specs.Prelude.{ℕ, suc, Bool, true, false, cond, ◌&&◌, ◌||◌, List, [], ◌∷◌, ◌++◌, eqb, ltb, length, get_or}
use Rattle.rules.specs.Types.{among}

-- the most elements of a pair that may stand directly inside a group
pub record Limit : Type 0 where
  pub typ : ℕ
  pub inst : ℕ
  pub most : ℕ

-- a pair t/i: is it mandatory, may it repeat, the kinds that list it, the level of its inside (0: it is no group), and the limits on what that holds
pub record Line : Type 0 where
  pub typ : ℕ
  pub inst : ℕ
  pub must : Bool
  pub many : Bool
  pub kinds : List ℕ
  pub inside : ℕ
  pub limits : List Limit

-- a message type: has it T = 1, the kinds that it is sent on, and the level of its body
pub record Message : Type 0 where
  pub typ : ℕ
  pub teid : Bool
  pub kinds : List ℕ
  pub body : ℕ

-- all that the rules take from the listings; level n is the n-th listing, and level 0 is none
pub record Book : Type 0 where
  pub kinds : List ℕ
  pub messages : List Message
  pub levels : List (List Line)

-- ---- the words of a listing

-- interface kinds: 1 = S11, 2 = S4, 3 = S5/S8, 4 = S10
abbrev pub all_kinds : List ℕ
all_kinds = 1 ∷ 2 ∷ 3 ∷ 4 ∷ []

-- every instance: an instance has four bits, so none is 16
abbrev pub any_instance : ℕ
any_instance = 16

-- may be absent, once, on every kind, no group
abbrev pub pair : ℕ → ℕ → Line
pair t i = record { typ = t; inst = i; must = false; many = false; kinds = all_kinds; inside = 0; limits = [] }

-- the same, and a group, whose inside is that level
abbrev pub group : ℕ → ℕ → ℕ → Line
group t i v = record { typ = t; inst = i; must = false; many = false; kinds = all_kinds; inside = v; limits = [] }

-- M
abbrev pub must : Line → Line
must l = record { typ = l.typ; inst = l.inst; must = true; many = l.many; kinds = l.kinds; inside = l.inside; limits = l.limits }

-- *
abbrev pub many : Line → Line
many l = record { typ = l.typ; inst = l.inst; must = l.must; many = true; kinds = l.kinds; inside = l.inside; limits = l.limits }

-- on these kinds only
abbrev pub only : List ℕ → Line → Line
only ks l = record { typ = l.typ; inst = l.inst; must = l.must; many = l.many; kinds = ks; inside = l.inside; limits = l.limits }

-- voided by more than n elements t/i directly inside
abbrev pub at_most : ℕ → ℕ → ℕ → Line → Line
at_most n t i l =
    record { typ = l.typ; inst = l.inst; must = l.must; many = l.many; kinds = l.kinds; inside = l.inside; limits = record { typ = t; inst = i; most = n } ∷ l.limits }

-- a body's listing has the private extension at its end; a group's has not
abbrev pub body : List Line → List Line
body ls = ls ++ (many (pair 255 any_instance) ∷ [])

-- ---- the levels

abbrev pub in_93/0_of_32 : ℕ
in_93/0_of_32 = 3

abbrev pub in_93/1_of_32 : ℕ
in_93/1_of_32 = 4

abbrev pub in_93/0_of_66 : ℕ
in_93/0_of_66 = 7

abbrev pub in_180 : ℕ
in_180 = 8

abbrev pub in_93/0_of_67 : ℕ
in_93/0_of_67 = 10

abbrev pub in_180/0_of_67 : ℕ
in_180/0_of_67 = 11

abbrev pub in_93/0_of_97 : ℕ
in_93/0_of_97 = 15

abbrev pub in_109/0_of_131 : ℕ
in_109/0_of_131 = 17

abbrev pub in_93/0_of_109/0 : ℕ
in_93/0_of_109/0 = 18

unfoldable pub levels : List (List Line)
levels =
    -- level 0 is none
    [] ∷
    -- level 1: 1, 2 (Echo Request, Response)
    body (
    must (pair 3 0) ∷
    pair 152 0 ∷
    []) ∷
    -- level 2: 32 Create Session Request
    body (
    pair 1 0 ∷  -- CR 5
    pair 76 0 ∷
    pair 75 0 ∷
    pair 86 0 ∷
    pair 83 0 ∷
    must (pair 82 0) ∷
    pair 77 0 ∷
    must (pair 87 0) ∷
    pair 87 1 ∷
    must (pair 71 0) ∷  -- CR 5
    pair 128 0 ∷
    pair 99 0 ∷
    pair 79 0 ∷
    pair 127 0 ∷
    pair 72 0 ∷
    pair 78 0 ∷
    must (many (group 93 0 in_93/0_of_32)) ∷
    many (group 93 1 in_93/1_of_32) ∷
    pair 96 0 ∷
    pair 3 0 ∷
    pair 132 0 ∷
    pair 132 1 ∷
    []) ∷
    -- level 3: in 93/0 of 32
    (
    must (pair 73 0) ∷
    pair 84 0 ∷
    pair 84 1 ∷
    pair 87 0 ∷
    pair 87 1 ∷
    pair 87 2 ∷
    must (pair 80 0) ∷
    pair 95 0 ∷
    pair 97 0 ∷
    []) ∷
    -- level 4: in 93/1 of 32
    (
    must (pair 73 0) ∷
    pair 87 1 ∷
    []) ∷
    -- level 5: 37 Delete Session Response
    body (
    must (pair 2 0) ∷
    pair 3 0 ∷
    pair 78 0 ∷
    []) ∷
    -- level 6: 66 Delete Bearer Command
    body (
    must (many (group 93 0 in_93/0_of_66)) ∷
    pair 86 0 ∷
    pair 170 0 ∷
    pair 114 0 ∷
    group 180 0 in_180 ∷
    only (3 ∷ []) (group 180 1 in_180) ∷
    only (3 ∷ []) (pair 87 0) ∷
    many (only (1 ∷ 3 ∷ []) (pair 201 0)) ∷
    []) ∷
    -- level 7: in 93/0 of 66
    (
    must (pair 73 0) ∷
    pair 97 0 ∷
    many (only (1 ∷ 3 ∷ []) (pair 172 0)) ∷
    []) ∷
    -- level 8: in 180 of 66, and in 180/1 of 67
    (
    must (pair 183 0) ∷
    must (pair 182 0) ∷
    must (pair 156 0) ∷
    []) ∷
    -- level 9: 67 Delete Bearer Failure Indication
    body (
    must (pair 2 0) ∷
    must (many (group 93 0 in_93/0_of_67)) ∷
    pair 3 0 ∷
    pair 77 0 ∷
    many (at_most 10 71 0 (group 180 0 in_180/0_of_67)) ∷
    only (1 ∷ 2 ∷ []) (group 180 1 in_180) ∷
    []) ∷
    -- level 10: in 93/0 of 67
    (
    must (pair 73 0) ∷
    must (pair 2 0) ∷
    []) ∷
    -- level 11: in 180/0 of 67
    (
    must (pair 183 0) ∷
    must (pair 182 0) ∷
    must (pair 156 0) ∷
    many (pair 71 0) ∷
    []) ∷
    -- level 12: 68 Bearer Resource Command
    body (
    pair 73 0 ∷
    pair 2 0 ∷
    must (pair 100 0) ∷
    pair 81 0 ∷
    must (pair 85 0) ∷
    []) ∷
    -- level 13: 69 Bearer Resource Failure Indication
    body (
    must (pair 2 0) ∷
    pair 73 0 ∷
    pair 73 1 ∷
    must (pair 100 0) ∷
    pair 3 0 ∷
    []) ∷
    -- level 14: 97 Update Bearer Request
    body (
    must (pair 1 0) ∷
    must (many (group 93 0 in_93/0_of_97)) ∷
    pair 100 0 ∷
    pair 78 0 ∷
    must (pair 72 0) ∷
    pair 96 0 ∷
    pair 132 2 ∷
    pair 132 1 ∷
    []) ∷
    -- level 15: in 93/0 of 97
    (
    must (pair 73 0) ∷
    pair 84 0 ∷
    pair 84 1 ∷
    pair 80 0 ∷
    pair 95 0 ∷
    pair 94 0 ∷
    []) ∷
    -- level 16: 131 Context Response
    body (
    must (pair 2 0) ∷
    pair 1 0 ∷
    pair 103 0 ∷
    pair 104 0 ∷
    pair 105 0 ∷
    pair 106 0 ∷
    pair 107 0 ∷
    pair 108 0 ∷
    many (group 109 0 in_109/0_of_131) ∷
    pair 87 0 ∷
    pair 87 1 ∷
    pair 136 0 ∷
    pair 77 0 ∷
    []) ∷
    -- level 17: in 109/0 of 131
    (
    must (pair 71 0) ∷
    pair 127 0 ∷
    pair 128 0 ∷
    pair 74 0 ∷
    pair 74 1 ∷
    must (pair 73 0) ∷
    must (pair 87 0) ∷
    pair 136 0 ∷
    must (many (group 93 0 in_93/0_of_109/0)) ∷
    must (pair 72 0) ∷
    []) ∷
    -- level 18: in 93/0 of 109/0
    (
    must (pair 73 0) ∷
    pair 84 0 ∷
    pair 87 0 ∷
    pair 87 1 ∷
    must (pair 80 0) ∷
    []) ∷
    []

-- type, T, the kinds that it is sent on, and the level of its body (rules 3.1, 3.2)
abbrev pub message : ℕ → Bool → List ℕ → ℕ → Message
message t teid ks v = record { typ = t; teid = teid; kinds = ks; body = v }

-- between gateways, and between a gateway and what it serves; and between MMEs
abbrev pub gateways : List ℕ
gateways = 1 ∷ 2 ∷ 3 ∷ []

abbrev pub mmes : List ℕ
mmes = 4 ∷ []

unfoldable pub messages : List Message
messages =
    message 1 false all_kinds 1 ∷
    message 2 false all_kinds 1 ∷
    message 32 true gateways 2 ∷
    message 37 true gateways 5 ∷
    message 66 true gateways 6 ∷
    message 67 true gateways 9 ∷
    message 68 true gateways 12 ∷
    message 69 true gateways 13 ∷
    message 97 true gateways 14 ∷
    message 131 true mmes 16 ∷
    []

-- these listings
unfoldable pub book : Book
book = record { kinds = all_kinds; messages = messages; levels = levels }

-- ---- looking a pair up

-- the line lists the pair t/i on kind k
abbrev pub lists : ℕ → ℕ → ℕ → Line → Bool
lists k t i l = eqb l.typ t && (eqb l.inst i || eqb l.inst any_instance) && among k l.kinds

-- the number of the first line that lists the pair, or the number of lines
unfoldable pub seek : List Line → ℕ → ℕ → ℕ → ℕ
seek [] k t i = 0
seek (l ∷ ls) k t i = cond (lists k t i l) 0 (suc (seek ls k t i))

-- what is said of a pair that is not listed
abbrev pub empty_line : Line
empty_line = record { typ = 0; inst = 0; must = false; many = false; kinds = []; inside = 0; limits = [] }

abbrev pub no_message : Message
no_message = message 0 false [] 0

-- the number of the first message of that type, or the number of messages
unfoldable pub seek_message : List Message → ℕ → ℕ
seek_message [] t = 0
seek_message (x ∷ xs) t = cond (eqb x.typ t) 0 (suc (seek_message xs t))

module _ (b : Book) where
  unfoldable pub listing : ℕ → List Line
  listing v = get_or b.levels v []

  unfoldable pub message_of : ℕ → Message
  message_of t = get_or b.messages (seek_message b.messages t) no_message

  unfoldable pub is_message : ℕ → Bool
  is_message t = ltb (seek_message b.messages t) (length b.messages)
