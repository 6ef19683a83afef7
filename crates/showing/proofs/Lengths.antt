-- A page whose values are cut has at most 163,840 octets, so that a buffer of that length never cuts it: a row's line has at most 158, and a message at most
-- 1,022 rows. Assumes nothing.
use mathlib.Core.Path.{◌≡◌, refl}
use mathlib.Core.Bool.{Bool, true, false, cond}
use mathlib.Core.List.{List}
use Prim.Native.Nat.{ℕ, ◌≤◌}
use native.Mathlib.Omega.{arith}
use lib.ListN.{length, take, length-append, length-take}
use Rattle.rules.specs.Sizes.{most_rows, used}
use Rattle.rules.specs.Listings.{book}
use Rattle.rules.specs.Table.{header, table_of, laid}
use Rattle.rules.specs.Verdicts.{refuses, first, framing_checks, call_verdict, items}
use Rattle.rules.specs.Covered.{call_copy}
use Rattle.rules.specs.Values.{is_of, table_rows}
use Rattle.rules.specs.declared.Verdict.{Verdict}
use Rattle.rules.proofs.Readings.{few, count_is}
use Rattle.columns.specs.Rows.{row_lines}
use Rattle.columns.specs.declared.View.{View}
use Rattle.columns.proofs.Lengths.{lines-length}
use Rattle.titles.specs.Titles.{title_text}
use Rattle.titles.proofs.Lengths.{title-length}
use Rattle.refusing.specs.Refused.{refused_page}
use Rattle.refusing.proofs.Lengths.{refused-length}
use Rattle.showing.specs.Showing.{read_page, copy_room, table_read, page, page_of, page_on}

rows_few : (k : ℕ) (m : List ℕ) → refuses (first (framing_checks book k m)) ≡ false → table_rows k m (table_read k m) ≤ 1022
unfolding table_rows table_read table_of header laid
rows_few k m e = go (is_of k m (table_read k m))
  where
    go : (c : Bool) → cond c (length (items book k m)) 0 ≤ 1022
    go true = omega (arith, few book k m, count_is book k m e)
    go false = omega arith

module _ (names : List ℕ) (w : View) (f : w.full ≡ false) where
  read_length : (v : Verdict) (table m copy : List ℕ) → table_rows w.kind m table ≤ 1022 → length (read_page names w v table m copy) ≤ 163840
  unfolding read_page
  read_length v table m copy l =
      omega (
        arith,
        length-append (title_text names w.kind v table copy) (row_lines names w v table m copy),
        title-length names w.kind v table copy,
        lines-length names w f v table m copy,
      )

  of_length : (m : List ℕ) → length m ≤ 4097 → length (page_of names w m) ≤ 163840
  unfolding page_of page
  of_length m l = go (refuses framing) refl
    where
      framing : Verdict
      framing = first (framing_checks book w.kind m)

      copy : List ℕ
      copy = call_copy book w.kind m (used most_rows) (copy_room m)

      v : Verdict
      v = call_verdict book w.kind m (length m) (used most_rows)

      go : (c : Bool) → refuses framing ≡ c → length (cond c (refused_page names w framing m) (read_page names w v (table_read w.kind m) m copy)) ≤ 163840
      go true e = omega (arith, refused-length names w framing m)
      go false e = read_length v (table_read w.kind m) m copy (rows_few w.kind m e)

  pub page-fits : (m : List ℕ) → length (page_on names w m) ≤ 163840
  unfolding page_on
  page-fits m = of_length (take 4097 m) (omega (arith, length-take 4097 m))
