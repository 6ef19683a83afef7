-- The desk's page on a message, with a table of the elements' names: what is refused by 1 to 9 in two lines, and of any other its header, the verdict, and a
-- line a row. Assumes nothing.
use Rattle.std.specs.Prelude.{◌≡◌, ℕ, ◌+◌, false, cond, List, ◌++◌, length, take, replicate}
use Rattle.rules.specs.Sizes.{largest_message, most_rows, used}
use Rattle.rules.specs.Framing.{message_type}
use Rattle.rules.specs.Listings.{book}
use Rattle.rules.specs.Table.{table_of, laid}
use Rattle.rules.specs.Verdicts.{refuses, first, framing_checks, call_verdict, items}
use Rattle.rules.specs.Covered.{call_copy}
use Rattle.rules.specs.declared.Verdict.{Verdict}
use Rattle.columns.specs.Rows.{row_lines}
use Rattle.columns.specs.declared.Listing.{Listing}
use Rattle.columns.specs.declared.View.{View}
use Rattle.titles.specs.Titles.{title_text}
use Rattle.refusing.specs.Refused.{refused_page}

-- ---- a message that was read

-- by the verdict, the table, the message and its masked copy: what is not a value is read from the copy
unfoldable pub read_page : List ℕ → View → Verdict → List ℕ → List ℕ → List ℕ → List ℕ
read_page names w v table m copy = title_text names w.kind v table copy ++ row_lines names w v table m copy

-- with what it is made from
abbrev pub read_page_of : Listing → List ℕ
read_page_of l = read_page l.names.now l.view l.verdict l.table.now l.message.now l.copy.now

-- ---- the page on a message

-- the table has room for 1,022 rows, and the copy for the message
abbrev pub table_room : List ℕ
table_room = replicate (used most_rows) 0

abbrev pub copy_room : List ℕ → List ℕ
copy_room m = replicate (length m) 0

-- the rows of a message, whether 11 or 12 refuse it or not
unfoldable pub table_read : ℕ → List ℕ → List ℕ
table_read k m = laid (table_of (message_type m) k (items book k m)) table_room

-- by the verdict of 1 to 9 on it
unfoldable pub page : List ℕ → View → Verdict → Verdict → List ℕ → List ℕ → List ℕ → List ℕ
page names w framing v table m copy = cond (refuses framing) (refused_page names w framing m) (read_page names w v table m copy)

-- with the verdict of the one call, whose table and copy have room for any such message, and the copy that it leaves
unfoldable pub page_of : List ℕ → View → List ℕ → List ℕ
page_of names w m =
    page names w (first (framing_checks book w.kind m)) (call_verdict book w.kind m (length m) (used most_rows)) (table_read w.kind m) m (call_copy book w.kind m (used most_rows) (copy_room m))

-- of a message its first 4,097 octets count, which are enough to see that it is too long
unfoldable pub page_on : List ℕ → View → List ℕ → List ℕ
page_on names w m = page_of names w (take (largest_message + 1) m)

-- ---- the parts of contracts

-- the call's verdict with room for every row; the rows of a message that 1 to 9 pass, and what the call leaves in the copy
pub record Listed (k : ℕ) (m : List ℕ) (v : Verdict) (table copy : List ℕ) : Type 0 where
  pub answers : v ≡ call_verdict book k m (length m) (used most_rows)
  pub listed : refuses (first (framing_checks book k m)) ≡ false → table ≡ table_read k m
  pub copied : copy ≡ call_copy book k m (used most_rows) (copy_room m)
