-- At any time of a run no number stands in the table past the rows that are held then: a row is put behind the others, and those that go back are made zero at
-- once. Assumes nothing.
--     eat_tidy   one octet          past-rows   a run, part after part
use mathlib.Core.Path.{◌≡◌, refl, sym, ap, ◌∙◌}
use mathlib.Core.Bool.{Bool, true, false, cond}
use mathlib.Core.List.{List, [], ◌∷◌, ◌++◌}
use Prim.Native.Nat.{ℕ, ◌+◌, ◌-◌, ◌≤◌, ◌<◌}
use native.Mathlib.Omega.{arith}
use borrow.Author.Tests.{ltb-true, ltb-false, lt-ltb, le-ltb}
use lib.Dec.{eqb, ltb}
use lib.ListN.{length, get_or, drop}
use lib.Seq.{get_or-drop}
use Rattle.rules.specs.Sizes.{header_numbers, used}
use Rattle.rules.specs.Framing.{element_header, value_length, header_length}
use Rattle.rules.proofs.Standings.{no_mark}
use Rattle.rules.specs.Listings.{book}
use Rattle.rules.specs.Standing.{item_of, value_place}
use Rattle.taking.specs.Held.{one, count, counted, put_row}
use Rattle.pieces.specs.declared.Going.{Going}
use Rattle.pieces.specs.declared.Pieces.{Pieces}
use Rattle.pieces.specs.Drafts.{Draft}
use Rattle.pieces.specs.Feeding.{count_on, zeros, joined_parts}
use Rattle.pieces.specs.Coded.{top_of, stop, Fed, fed_with, head_on, take_by, gather_by, pass_one, headed_by, eat_by, idle_by, in_header_by, with_going, FedPieces, feed_by, feed_all_by}
use Rattle.pieces.specs.Answers.{takes, part_told, part_table}
use Rattle.pieces.proofs.Feeding.{header-most, counted-least}
use Rattle.pieces.proofs.Backs.{Tidy, tidy_put, tidy_back}
use Rattle.pieces.proofs.Main.{Like, feed-like, nothing, header_is, low_count, rows-again, all-length, taken_is}
use Rattle.pieces.proofs.Promised.{Runs, begins, goes_on, lent_of, run-right}

-- what is held, with the rows behind it
abbrev Kept : Fed → Type 0
Kept b = Tidy b.going.counts.rows b.rows

module _ (k : ℕ) where
  take_tidy : (w : Going) (x came : ℕ) (rows : List ℕ) → Tidy w.counts.rows rows → Kept (take_by k w x came rows)
  unfolding take_by one count counted put_row
  take_tidy w x came rows t =
      let i = item_of book k (top_of w).level (top_of w).marks (top_of w).parent w.place (head_on k w x) in
      tidy_back (put_row rows w.counts.rows i) (take_by k w x came rows).going.counts.rows (w.counts.rows + 1)
      (tidy_put w.counts.rows rows i.parent i.typ i.inst (value_place i) i.len i.stand t)

  headed_tidy : (w : Going) (rows : List ℕ) → Tidy w.counts.rows rows → Kept (headed_by k w rows)
  unfolding headed_by stop
  headed_tidy w rows t = go (ltb (top_of w).left (element_header + value_length w.some)) (eqb (value_length w.some) 0)
    where
      go : (a b : Bool) → Kept (cond a (fed_with (stop w) rows) (cond b (take_by k w 0 0 rows) (fed_with w rows)))
      go true b = t
      go false true = take_tidy w 0 0 rows t
      go false false = t

  eat_tidy : (w : Going) (x : ℕ) (rows : List ℕ) → Tidy w.counts.rows rows → Kept (eat_by k w x rows)
  unfolding eat_by pass_one gather_by
  eat_tidy w x rows t = go w.stopped (ltb 0 w.pass) (eqb w.depth 0) (ltb w.have 3) (eqb w.have 3)
    where
      go : (a b c d e : Bool)
          → Kept (cond a (fed_with w rows) (cond b (fed_with (pass_one w) rows) (cond c (fed_with w rows) (cond d (fed_with (gather_by w x) rows) (cond e (headed_by k (gather_by w x) rows) (take_by k w x 1 rows))))))
      go true b c d e = t
      go false true c d e = t
      go false false true d e = t
      go false false false true e = t
      go false false false false true = headed_tidy (gather_by w x) rows t
      go false false false false false = take_tidy w x 1 rows t

-- ---- the message

more : (n m : ℕ) (rows : List ℕ) → n ≤ m → Tidy n rows → Tidy m rows
more n m rows l t = record { none = λ j h. t.none j (omega arith); tail = t.tail }

module _ (k room : ℕ) where
  in_body : (p : Pieces) (rows m : List ℕ) → Like k room p rows m → header_length m ≤ length m → header_length m ≤ p.count
  in_body p rows m a l = omega (arith, a.count, counted-least (length m) (header_length m) l (omega (arith, header-most m)))

  feed_tidy : (p : Pieces) (rows m : List ℕ) (x : ℕ) → Like k room p rows m → Tidy p.going.counts.rows rows → Tidy (feed_by p x rows).state.going.counts.rows (feed_by p x rows).rows
  unfolding feed_by in_header_by
  feed_tidy p rows m x a t = go (ltb (length m) (header_length m)) refl
    where
      go : (c : Bool) → ltb (length m) (header_length m) ≡ c
          → Tidy (cond {A = FedPieces} (ltb p.count (header_length p.head)) (record { state = in_header_by p x; rows = rows })
          (record { state = with_going p (count_on p.count) p.head (eat_by p.kind p.going x rows).going; rows = (eat_by p.kind p.going x rows).rows })).state.going.counts.rows
          (cond {A = FedPieces} (ltb p.count (header_length p.head)) (record { state = in_header_by p x; rows = rows })
          (record { state = with_going p (count_on p.count) p.head (eat_by p.kind p.going x rows).going; rows = (eat_by p.kind p.going x rows).rows })).rows
      go true u =
          let l : length m < header_length m = ltb-true _ _ u in
          let z : p.going.counts.rows ≡ 0 = ap (λ (s : Draft). s.counts.rows) (nothing k room p rows m x a l) in
          rw (header_is k room p rows m x a, lt-ltb p.count (header_length m) (omega (arith, low_count k room p rows m x a l)))
          (more p.going.counts.rows _ rows (omega (arith, z)) t)
      go false u =
          let l : header_length m ≤ length m = ltb-false _ _ u in
          rw (header_is k room p rows m x a, le-ltb p.count (header_length m) (in_body p rows m a l))
          (eat_tidy p.kind p.going x rows t)

  all_tidy : (p : Pieces) (rows m xs : List ℕ) → Like k room p rows m → Tidy p.going.counts.rows rows → Tidy (feed_all_by p xs rows).state.going.counts.rows (feed_all_by p xs rows).rows
  unfolding feed_all_by
  all_tidy p rows m [] a t = t
  all_tidy p rows m (x ∷ xs) a t = all_tidy (feed_by p x rows).state (feed_by p x rows).rows (m ++ (x ∷ [])) xs (feed-like k room p rows m x a) (feed_tidy p rows m x a t)

  blank_tidy : Tidy 0 (drop header_numbers (zeros room))
  blank_tidy = record { none = λ j l. zero-at j; tail = λ j l. zero-at j }
    where
      zero-at : (j : ℕ) → get_or (drop header_numbers (zeros room)) j 0 ≡ 0
      zero-at j = get_or-drop header_numbers (zeros room) j 0 ∙ no_mark room (header_numbers + j)

  part_tidy : (p : Pieces) (part t : List ℕ) {m : List ℕ} → Like k room p (drop header_numbers t) m → takes p (length t) ≡ true → Tidy p.going.counts.rows (drop header_numbers t)
      → Tidy (part_told p part t).state.going.counts.rows (drop header_numbers (part_table p part t))
  unfolding part_told part_table
  part_tidy p part t {m} a w y =
      let r = rows-again k room t (feed_all_by p part (drop header_numbers t)).rows (all-length p part (drop header_numbers t)) in
      rw (w, r.0) (all_tidy p (drop header_numbers t) m part a y)

  run_tidy : {ps : List (List ℕ)} {p : Pieces} {t : List ℕ} → Runs k room ps p t → Tidy p.going.counts.rows (drop header_numbers t)
  unfolding idle_by
  run_tidy (begins {lent = lent} e s) = rw (s.answers, s.table_left, e) blank_tidy
  run_tidy (goes_on {ps = ps} {p = p} {part = part} {t = t} {t' = t'} {r = r} run c) = rw (c.answers, c.table_left) (part_tidy p part t (run-right run).like (taken_is k room (lent_of p t) (joined_parts ps) (run-right run)) (run_tidy run))

-- after any part, and so at the end of a void group: what lies past the rows that are held is zero
pub past-rows : {k room : ℕ} {ps : List (List ℕ)} {p : Pieces} {t : List ℕ} → Runs k room ps p t → (j : ℕ) → used p.going.counts.rows ≤ j → get_or t j 0 ≡ 0
past-rows {k} {room} {ps} {p} {t} run j l =
    let e : header_numbers + (j - header_numbers) ≡ j = omega arith in
    (rw e at (sym (get_or-drop header_numbers t (j - header_numbers) 0))) ∙ (run_tidy k room run).none (j - header_numbers) (omega arith)
