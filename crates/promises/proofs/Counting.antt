-- What the count of rows says of the one call: it is the rows of a message's table, wherever it has one. Assumes nothing.
--     count-refused, count-accepted   refused by 1 to 9 as the call is, or not at all
--     count-table, count_most         the rows of the message's table; and at most a quarter of its octets after eight
--     count_room                      with a table for so many there is no 10
--     count_same                      it hangs on no covered octet
use mathlib.Core.Path.{◌≡◌, refl, sym, ap}
use mathlib.Core.Bool.{Bool, true, false}
use mathlib.Core.List.{List}
use Prim.Native.Nat.{ℕ, ◌≤◌}
use native.Mathlib.Omega.{arith}
use lib.ListN.{length}
use Rattle.rules.specs.Sizes.{used}
use Rattle.rules.specs.Types.{among}
use Rattle.rules.specs.Listings.{Book}
use Rattle.rules.specs.Standing.{Item}
use Rattle.rules.specs.Taking.{Out, items_in}
use Rattle.rules.specs.Verdicts.{accepted, refuses, first, framing_checks, items, framing_numbers, call_verdict}
use Rattle.rules.specs.Counting.{count_verdict, count_rows, quarter_of}
use Rattle.rules.specs.Sound.{sound}
use Rattle.rules.specs.declared.Verdict.{Verdict}
use Rattle.rules.proofs.Checks.{all_pass, first-pass}
use Rattle.rules.proofs.Header.{Passed, framed}
use Rattle.rules.proofs.Rows.{rows-quarter}
use Rattle.tables.specs.Words.{rows}
use Rattle.tables.specs.IsTable.{IsTable}
use Rattle.verdicts.proofs.Calling.{call_framing, one-framed, tabled, framing-passes, fits, ten}
use Rattle.promises.specs.Agreeing.{SameOpen}
use Rattle.promises.proofs.Agreeing.{same-framing, same_taken}

module _ (b : Book) (fine : sound b ≡ true) (k : ℕ) (m : List ℕ) where
  abbrev framing : Verdict
  framing = first (framing_checks b k m)

  pub count_none : refuses (count_verdict b k m) ≡ true → count_rows b k m ≡ 0
  unfolding count_rows
  count_none e = rw e

  pub count-items : refuses (count_verdict b k m) ≡ false → count_rows b k m ≡ length (items b k m)
  unfolding count_rows
  count-items e = rw e

  pub count-accepted : refuses (count_verdict b k m) ≡ false → count_verdict b k m ≡ accepted
  count-accepted e = first-pass (framing_checks b k m) ((all_pass (framing_checks b k m)).0 e)

  -- the rows of the message's table
  pub count-table : Passed b k m → (t : List ℕ) → IsTable b k m t → (count_verdict b k m ≡ accepted) × (count_rows b k m ≡ rows t)
  count-table p t x =
      let e = framing-passes b fine k m (p, (t, x)) in
      (count-accepted e, omega (arith, count-items e, fits b fine k m 0 0 t x))

  -- and where there is none 1 to 9 refuse
  pub count-refuses : refuses (count_verdict b k m) ≡ false → Passed b k m × ((t : List ℕ) × IsTable b k m t)
  count-refuses = tabled b fine k m

  pub count_most : count_rows b k m ≤ quarter_of (length m)
  count_most = go (refuses framing) refl
    where
      go : (c : Bool) → refuses framing ≡ c → count_rows b k m ≤ quarter_of (length m)
      go true e = omega (arith, count_none e)
      go false e =
          let x = framed b k m e in
          let n : length (items b k m) ≡ length x.1.0 = ap (λ (o : Out (List Item)). length (items_in o)) x.1.1 in
          omega (arith, count-items e, n, rows-quarter b k m x.1.0 x.1.1)

  module _ (octets room : ℕ) where
    pub count-alike : refuses (count_verdict b k m) ≡ true → call_verdict b k m octets room ≡ count_verdict b k m
    count-alike = call_framing b fine k m octets room

    pub count-only : among (call_verdict b k m octets room).code framing_numbers ≡ true → count_verdict b k m ≡ call_verdict b k m octets room
    count-only e = sym (count-alike (one-framed b fine k m octets room e))

    -- a table for as many rows is long enough
    pub count_room : used (count_rows b k m) ≤ room → (call_verdict b k m octets room).code ≡ 10 → ⊥
    count_room l e =
        let w = (ten b fine k m octets room).0 e in
        omega (arith, l, w.1.1.2, (count-table w.1.0 w.1.1.0 w.1.1.1).1)

  module _ (n : List ℕ) (s : SameOpen b k m n) where
    pub count_same : (count_verdict b k n ≡ count_verdict b k m) × (count_rows b k n ≡ count_rows b k m)
    unfolding count_rows
    count_same = let e = same-framing b fine k m n s in (ap first e, rw (e, same_taken b fine k m n s))
