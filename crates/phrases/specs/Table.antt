-- The texts: names by number, and sentences with slots. A name or a sentence more is a line more here and in `src/table.rt`. Assumes nothing.
use Rattle.std.specs.Prelude.{ℕ, List, [], ◌∷◌, ◌++◌}
use Prim.Native.String.{String}
use Rattle.phrases.specs.Texts.{Piece, say, slot, Text, every, key_for, text_in}

-- ---- sections, and what a text of each is numbered by

-- interface kinds
abbrev pub kinds : ℕ
kinds = 0

-- messages by type
abbrev pub messages : ℕ
messages = 1

-- standings
abbrev pub standings : ℕ
standings = 2

-- which of its two reasons 9 had
abbrev pub reasons : ℕ
reasons = 3

-- the cause to reply with
abbrev pub causes : ℕ
causes = 4

-- a level by its place, which is 0 for the message
abbrev pub levels : ℕ
levels = 5

-- one row, or several
abbrev pub counts : ℕ
counts = 6

-- a verdict by its code
abbrev pub verdicts : ℕ
verdicts = 7

-- the first lines of a page: 0 the title without the message's type, 1 with it, 2 the heads of the columns
abbrev pub pages : ℕ
pages = 8

-- the numbers of a row, by its parent: an element inside a group stands two columns further in
abbrev pub rows : ℕ
rows = 9

-- the end of a row: 0 with no value, 1 before a value
abbrev pub endings : ℕ
endings = 10

-- the mark of the row that a refusal names, by its code; no other row has one
abbrev pub marks : ℕ
marks = 11

-- what is covered of a value, by how many of its octets stand before
abbrev pub covers : ℕ
covers = 12

-- before the numbers of the header: 0 its TEID, 1 the sequence number after that, 2 the sequence number alone
abbrev pub headers : ℕ
headers = 13

-- the length that a header gives, 0 if it has more than 16 bits
abbrev pub claims : ℕ
claims = 14

-- one octet, or several
abbrev pub sizes : ℕ
sizes = 15

-- why a group is set aside whole, by its standing; no other row has one
abbrev pub voids : ℕ
voids = 16

-- ---- slots

-- what is said of a number: itself, itself unless it is 0, the name of its element, its text in a section
abbrev pub itself : ℕ
itself = 0

abbrev pub unless_zero : ℕ
unless_zero = 1

abbrev pub element : ℕ
element = 2

abbrev pub text : ℕ
text = 3

-- four numbers a slot: what is said, of which number of the run, the column's width, the section
unfoldable pub slots : List ℕ
slots =
    -- of a page: the kind, the size, the message type, and the five numbers of the verdict
    text ∷ 0 ∷ 0 ∷ kinds
    ∷ itself ∷ 1 ∷ 0 ∷ 0
    ∷ text ∷ 1 ∷ 0 ∷ sizes
    ∷ text ∷ 2 ∷ 0 ∷ messages
    ∷ itself ∷ 2 ∷ 0 ∷ 0
    ∷ itself ∷ 3 ∷ 0 ∷ 0
    ∷ text ∷ 4 ∷ 0 ∷ causes
    ∷ itself ∷ 5 ∷ 0 ∷ 0
    ∷ text ∷ 5 ∷ 0 ∷ levels
    ∷ unless_zero ∷ 5 ∷ 0 ∷ 0
    ∷ itself ∷ 6 ∷ 0 ∷ 0
    ∷ element ∷ 6 ∷ 0 ∷ 0
    ∷ itself ∷ 7 ∷ 0 ∷ 0
    -- then of a message that was read, its rows and kept rows
    ∷ itself ∷ 8 ∷ 0 ∷ 0
    ∷ text ∷ 8 ∷ 0 ∷ counts
    ∷ itself ∷ 9 ∷ 0 ∷ 0
    -- or of one that 1 to 9 refuse, what its first four octets say, and the reason of a 9
    ∷ itself ∷ 8 ∷ 0 ∷ 0
    ∷ itself ∷ 9 ∷ 0 ∷ 0
    ∷ text ∷ 10 ∷ 0 ∷ claims
    ∷ unless_zero ∷ 10 ∷ 0 ∷ 0
    ∷ itself ∷ 11 ∷ 0 ∷ 0
    ∷ itself ∷ 12 ∷ 0 ∷ 0
    ∷ text ∷ 13 ∷ 0 ∷ reasons
    -- of a row's number and its six numbers
    ∷ itself ∷ 0 ∷ 4 ∷ 0
    ∷ itself ∷ 1 ∷ 7 ∷ 0
    ∷ itself ∷ 2 ∷ 4 ∷ 0
    ∷ element ∷ 2 ∷ 33 ∷ 0
    ∷ itself ∷ 2 ∷ 6 ∷ 0
    ∷ element ∷ 2 ∷ 31 ∷ 0
    ∷ itself ∷ 3 ∷ 4 ∷ 0
    ∷ itself ∷ 4 ∷ 6 ∷ 0
    ∷ itself ∷ 5 ∷ 5 ∷ 0
    ∷ text ∷ 6 ∷ 0 ∷ standings
    ∷ text ∷ 6 ∷ 11 ∷ standings
    ∷ []

-- their names, in the same order

abbrev pub kind : Piece
kind = slot 0

abbrev pub size : Piece
size = slot 1

abbrev pub octet_word : Piece
octet_word = slot 2

abbrev pub message : Piece
message = slot 3

abbrev pub message_type : Piece
message_type = slot 4

abbrev pub code : Piece
code = slot 5

abbrev pub cause : Piece
cause = slot 6

abbrev pub place : Piece
place = slot 7

abbrev pub level : Piece
level = slot 8

abbrev pub level_place : Piece
level_place = slot 9

abbrev pub typ : Piece
typ = slot 10

abbrev pub name : Piece
name = slot 11

abbrev pub inst : Piece
inst = slot 12

abbrev pub row_count : Piece
row_count = slot 13

abbrev pub row_word : Piece
row_word = slot 14

abbrev pub kept_count : Piece
kept_count = slot 15

abbrev pub version : Piece
version = slot 16

abbrev pub header_size : Piece
header_size = slot 17

abbrev pub over : Piece
over = slot 18

abbrev pub claim : Piece
claim = slot 19

abbrev pub flag : Piece
flag = slot 20

abbrev pub other_flag : Piece
other_flag = slot 21

abbrev pub reason : Piece
reason = slot 22

abbrev pub row_number : Piece
row_number = slot 23

abbrev pub parent : Piece
parent = slot 24

abbrev pub outer_type : Piece
outer_type = slot 25

abbrev pub outer_name : Piece
outer_name = slot 26

abbrev pub inner_type : Piece
inner_type = slot 27

abbrev pub inner_name : Piece
inner_name = slot 28

abbrev pub row_inst : Piece
row_inst = slot 29

abbrev pub row_place : Piece
row_place = slot 30

abbrev pub row_length : Piece
row_length = slot 31

abbrev pub standing : Piece
standing = slot 32

abbrev pub standing_in : Piece
standing_in = slot 33

-- ---- texts

abbrev pub sentence : ℕ → ℕ → List Piece → Text
sentence s n ps = record { section = s; number = n; pieces = ps }

abbrev pub named : ℕ → ℕ → String → Text
named s n w = sentence s n (say w ∷ [])

-- every refusal says its number first, and the cause last
abbrev pub refusal : ℕ → List Piece → Text
refusal n ps = sentence verdicts n (say "refused by check " ∷ code ∷ (ps ++ (cause ∷ say "\n" ∷ [])))

unfoldable pub texts : List Text
texts =
    named kinds 1 "S11"
    ∷ named kinds 2 "S4"
    ∷ named kinds 3 "S5/S8"
    ∷ named kinds 4 "S10"
    ∷ named kinds every "no known interface"
    ∷ named standings 0 "kept"
    ∷ named standings 1 "not listed"
    ∷ named standings 2 "repeat"
    ∷ named standings 3 "short"
    ∷ named standings 4 "void"
    ∷ named reasons 0 "an element claims more octets than its level has left"
    ∷ named reasons every "fewer than four octets are left of its level, too few for an element"
    ∷ named causes 67 "; cause 67 Invalid length"
    ∷ named causes 70 "; cause 70 Mandatory IE missing"
    ∷ named causes every "; no cause"
    ∷ named levels 0 "in the message"
    ∷ named levels every "in the group at octet "
    ∷ named counts 1 "row"
    ∷ named counts every "rows"
    ∷ sentence verdicts 0 (say "accepted: " ∷ row_count ∷ say " " ∷ row_word ∷ say ", " ∷ kept_count ∷ say " kept\n" ∷ [])
    ∷ refusal 1 (say ": kind not 1 to 4" ∷ [])
    ∷ refusal 2 (say ": message empty or over 4,096 octets" ∷ [])
    ∷ refusal 3 (say ": version " ∷ version ∷ say ", not 2" ∷ [])
    ∷ refusal 4 (say ": its header has " ∷ header_size ∷ say " octets, the message has " ∷ size ∷ [])
    ∷ refusal 5 (say ": P is set: a second message follows" ∷ [])
    ∷ refusal 6 (say ": the header says " ∷ over ∷ claim ∷ say " octets, the message has " ∷ size ∷ [])
    ∷ refusal 7 (say ": message type " ∷ message_type ∷ say " " ∷ message ∷ say " is not handled" ∷ [])
    ∷ refusal 21 (say ": message type " ∷ message_type ∷ say " " ∷ message ∷ say " is not handled on " ∷ kind ∷ [])
    ∷ refusal 8 (say ": T is " ∷ flag ∷ say ", not " ∷ other_flag ∷ say " as in message type " ∷ message_type ∷ say " " ∷ message ∷ [])
    ∷ refusal 9 (say ": octet " ∷ place ∷ say ": " ∷ reason ∷ [])
    ∷ refusal 11 (say ": a mandatory element is short, at octet " ∷ place ∷ say ": " ∷ typ ∷ say " " ∷ name ∷ say ", instance " ∷ inst ∷ [])
    ∷ refusal 12 (say ": a mandatory element is missing " ∷ level ∷ level_place ∷ say ": " ∷ typ ∷ say " " ∷ name ∷ say ", instance " ∷ inst ∷ [])
    ∷ refusal every []
    ∷ sentence pages 0 (say "Message on " ∷ kind ∷ say ", " ∷ size ∷ octet_word ∷ say "\n" ∷ [])
    ∷ sentence pages 1 (message ∷ say " (" ∷ message_type ∷ say ") on " ∷ kind ∷ say ", " ∷ size ∷ octet_word ∷ say "\n" ∷ [])
    ∷ named pages every " row parent element                              inst place  len standing\n"
    ∷ sentence rows 0 (row_number ∷ parent ∷ outer_type ∷ say " " ∷ outer_name ∷ row_inst ∷ row_place ∷ row_length ∷ say " " ∷ [])
    ∷ sentence rows every (row_number ∷ parent ∷ inner_type ∷ say " " ∷ inner_name ∷ row_inst ∷ row_place ∷ row_length ∷ say " " ∷ [])
    ∷ sentence endings 0 (standing ∷ [])
    ∷ sentence endings every (standing_in ∷ [])
    ∷ named marks 11 " <- short"
    ∷ named marks 12 " <- lacks it"
    ∷ named covers 0 "covered"
    ∷ named covers every " covered"
    ∷ named voids 4 "set aside: more than ten APNs"
    ∷ named headers 0 "TEID 0x"
    ∷ named headers 1 ", sequence 0x"
    ∷ named headers every "sequence 0x"
    ∷ named claims 0 "over 65,535"
    ∷ named sizes 1 " octet"
    ∷ named sizes every " octets"
    ∷ named messages 0 "Reserved"
    ∷ named messages 1 "Echo Request"
    ∷ named messages 2 "Echo Response"
    ∷ named messages 3 "Version Not Supported Indication"
    ∷ named messages 4 "Reserved for S101 interface"
    ∷ named messages 5 "Reserved for S101 interface"
    ∷ named messages 6 "Reserved for S101 interface"
    ∷ named messages 7 "Reserved for S101 interface"
    ∷ named messages 8 "Reserved for S101 interface"
    ∷ named messages 9 "Reserved for S101 interface"
    ∷ named messages 10 "Reserved for S101 interface"
    ∷ named messages 11 "Reserved for S101 interface"
    ∷ named messages 12 "Reserved for S101 interface"
    ∷ named messages 13 "Reserved for S101 interface"
    ∷ named messages 14 "Reserved for S101 interface"
    ∷ named messages 15 "Reserved for S101 interface"
    ∷ named messages 16 "Reserved for S101 interface"
    ∷ named messages 17 "Reserved for S121 interface"
    ∷ named messages 18 "Reserved for S121 interface"
    ∷ named messages 19 "Reserved for S121 interface"
    ∷ named messages 20 "Reserved for S121 interface"
    ∷ named messages 21 "Reserved for S121 interface"
    ∷ named messages 22 "Reserved for S121 interface"
    ∷ named messages 23 "Reserved for S121 interface"
    ∷ named messages 24 "Reserved for S121 interface"
    ∷ named messages 25 "Reserved for Sv interface"
    ∷ named messages 26 "Reserved for Sv interface"
    ∷ named messages 27 "Reserved for Sv interface"
    ∷ named messages 28 "Reserved for Sv interface"
    ∷ named messages 29 "Reserved for Sv interface"
    ∷ named messages 30 "Reserved for Sv interface"
    ∷ named messages 31 "Reserved for Sv interface"
    ∷ named messages 32 "Create Session Request"
    ∷ named messages 33 "Create Session Response"
    ∷ named messages 34 "Modify Bearer Request"
    ∷ named messages 35 "Modify Bearer Response"
    ∷ named messages 36 "Delete Session Request"
    ∷ named messages 37 "Delete Session Response"
    ∷ named messages 38 "Change Notification Request"
    ∷ named messages 39 "Change Notification Response"
    ∷ named messages 40 "Remote UE Report Notification"
    ∷ named messages 41 "Remote UE Report Acknowledge"
    ∷ named messages 64 "Modify Bearer Command"
    ∷ named messages 65 "Modify Bearer Failure Indication"
    ∷ named messages 66 "Delete Bearer Command"
    ∷ named messages 67 "Delete Bearer Failure Indication"
    ∷ named messages 68 "Bearer Resource Command"
    ∷ named messages 69 "Bearer Resource Failure Indication"
    ∷ named messages 70 "Downlink Data Notification Failure Indication"
    ∷ named messages 71 "Trace Session Activation"
    ∷ named messages 72 "Trace Session Deactivation"
    ∷ named messages 73 "Stop Paging Indication"
    ∷ named messages 95 "Create Bearer Request"
    ∷ named messages 96 "Create Bearer Response"
    ∷ named messages 97 "Update Bearer Request"
    ∷ named messages 98 "Update Bearer Response"
    ∷ named messages 99 "Delete Bearer Request"
    ∷ named messages 100 "Delete Bearer Response"
    ∷ named messages 101 "Delete PDN Connection Set Request"
    ∷ named messages 102 "Delete PDN Connection Set Response"
    ∷ named messages 103 "PGW Downlink Triggering Notification"
    ∷ named messages 104 "PGW Downlink Triggering Acknowledge"
    ∷ named messages 128 "Identification Request"
    ∷ named messages 129 "Identification Response"
    ∷ named messages 130 "Context Request"
    ∷ named messages 131 "Context Response"
    ∷ named messages 132 "Context Acknowledge"
    ∷ named messages 133 "Forward Relocation Request"
    ∷ named messages 134 "Forward Relocation Response"
    ∷ named messages 135 "Forward Relocation Complete Notification"
    ∷ named messages 136 "Forward Relocation Complete Acknowledge"
    ∷ named messages 137 "Forward Access Context Notification"
    ∷ named messages 138 "Forward Access Context Acknowledge"
    ∷ named messages 139 "Relocation Cancel Request"
    ∷ named messages 140 "Relocation Cancel Response"
    ∷ named messages 141 "Configuration Transfer Tunnel"
    ∷ named messages 149 "Detach Notification"
    ∷ named messages 150 "Detach Acknowledge"
    ∷ named messages 151 "CS Paging Indication"
    ∷ named messages 152 "RAN Information Relay"
    ∷ named messages 153 "Alert MME Notification"
    ∷ named messages 154 "Alert MME Acknowledge"
    ∷ named messages 155 "UE Activity Notification"
    ∷ named messages 156 "UE Activity Acknowledge"
    ∷ named messages 157 "ISR Status Indication"
    ∷ named messages 158 "UE Registration Query Request"
    ∷ named messages 159 "UE Registration Query Response"
    ∷ named messages 160 "Create Forwarding Tunnel Request"
    ∷ named messages 161 "Create Forwarding Tunnel Response"
    ∷ named messages 162 "Suspend Notification"
    ∷ named messages 163 "Suspend Acknowledge"
    ∷ named messages 164 "Resume Notification"
    ∷ named messages 165 "Resume Acknowledge"
    ∷ named messages 166 "Create Indirect Data Forwarding Tunnel Request"
    ∷ named messages 167 "Create Indirect Data Forwarding Tunnel Response"
    ∷ named messages 168 "Delete Indirect Data Forwarding Tunnel Request"
    ∷ named messages 169 "Delete Indirect Data Forwarding Tunnel Response"
    ∷ named messages 170 "Release Access Bearers Request"
    ∷ named messages 171 "Release Access Bearers Response"
    ∷ named messages 176 "Downlink Data Notification"
    ∷ named messages 177 "Downlink Data Notification Acknowledge"
    ∷ named messages 178 "Reserved"
    ∷ named messages 179 "PGW Restart Notification"
    ∷ named messages 180 "PGW Restart Notification Acknowledge"
    ∷ named messages 200 "Update PDN Connection Set Request"
    ∷ named messages 201 "Update PDN Connection Set Response"
    ∷ named messages 211 "Modify Access Bearers Request"
    ∷ named messages 212 "Modify Access Bearers Response"
    ∷ named messages 231 "MBMS Session Start Request"
    ∷ named messages 232 "MBMS Session Start Response"
    ∷ named messages 233 "MBMS Session Update Request"
    ∷ named messages 234 "MBMS Session Update Response"
    ∷ named messages 235 "MBMS Session Stop Request"
    ∷ named messages 236 "MBMS Session Stop Response"
    ∷ named messages 240 "Reserved for Sv interface"
    ∷ named messages 241 "Reserved for Sv interface"
    ∷ named messages 242 "Reserved for Sv interface"
    ∷ named messages 243 "Reserved for Sv interface"
    ∷ named messages 244 "Reserved for Sv interface"
    ∷ named messages 245 "Reserved for Sv interface"
    ∷ named messages 246 "Reserved for Sv interface"
    ∷ named messages 247 "Reserved for Sv interface"
    ∷ named messages every "For future use"
    ∷ []

-- the text that a section has for a number
unfoldable pub text_for : ℕ → ℕ → List ℕ
text_for s n = text_in texts (key_for s n) (key_for s every)
