-- What a page tells without the right to see subscribers. Assumes nothing.
--     refused-blind    of a message that 1 to 9 refuse: its kind, the verdict, its length, its first four octets, and which of its two reasons 9 had
--     page-blind       of any other: its kind, length and type, the verdict, the table and the masked copy
--     covered_unseen   so two messages that differ in covered octets alone have one page
use mathlib.Core.Path.{◌≡◌, refl, sym, ap, ◌∙◌}
use mathlib.Core.Bool.{Bool, true, false}
use mathlib.Core.List.{List}
use Prim.Native.Nat.{ℕ, zero, suc, ◌+◌, ◌<◌}
use native.Mathlib.Omega.{arith}
use lib.ListN.{length, take, get_or, replicate}
use lib.Seq.{take_all, get_or-take}
use Rattle.rules.specs.Sizes.{largest_message, most_rows, used}
use Rattle.rules.specs.Framing.{octet, version, flag_t, message_type, length_field, header_length}
use Rattle.rules.specs.Listings.{book}
use Rattle.rules.specs.Verdicts.{refuses, first, framing_checks, call_verdict}
use Rattle.rules.specs.Covered.{call_copy}
use Rattle.rules.specs.Values.{is_of, table_rows, row_span, desk_span}
use Rattle.rules.specs.declared.Verdict.{Verdict}
use Rattle.rules.proofs.Book.{book-sound}
use Rattle.rules.proofs.Header.{framed}
use Rattle.promises.specs.Agreeing.{SameOpen}
use Rattle.promises.proofs.Agreeing.{refused-same, same_reading, same_taken, same-framing}
use Rattle.promises.proofs.Main.{both-verdict, both-copy}
use Rattle.wording.specs.Pieces.{for_each}
use Rattle.columns.specs.Rows.{row_line, row_lines}
use Rattle.columns.specs.declared.View.{View}
use Rattle.refusing.specs.Levels.{reason_of}
use Rattle.refusing.specs.Refused.{claim, refused_run, refused_page}
use Rattle.showing.specs.Showing.{read_page, copy_room, table_read, page, page_of, page_on}

-- the octets of a message that count
abbrev pub counted : List ℕ → List ℕ
counted m = take (largest_message + 1) m

-- ---- a message that 1 to 9 refuse

-- two messages on one kind that 1 to 9 refuse, alike in all that is told of them
pub record RefusedAlike (k : ℕ) (m n : List ℕ) : Type 0 where
  pub refusal : refuses (first (framing_checks book k m)) ≡ true
  pub verdict : first (framing_checks book k n) ≡ first (framing_checks book k m)
  pub size : length n ≡ length m
  pub first_four : take 4 n ≡ take 4 m
  pub reason : reason_of k n (first (framing_checks book k m)) ≡ reason_of k m (first (framing_checks book k m))

-- of the octets the first four are said
run-blind : (k : ℕ) (m n : List ℕ) (v : Verdict) (reason : ℕ) → length n ≡ length m → take 4 n ≡ take 4 m → refused_run k n v reason ≡ refused_run k m v reason
unfolding refused_run claim version flag_t message_type length_field header_length
run-blind k m n v reason e f =
    let at : (j : ℕ) → j < 4 → octet n j ≡ octet m j = λ j l. sym (get_or-take 4 n j 0 l) ∙ ap (λ (xs : List ℕ). get_or xs j 0) f ∙ get_or-take 4 m j 0 l in
    rw (e, at 0 (omega arith), at 1 (omega arith), at 2 (omega arith), at 3 (omega arith))

module _ (names : List ℕ) (w : View) (r : w.right ≡ false) where
  of-refused : (v : Verdict) (m n : List ℕ) → length n ≡ length m → take 4 n ≡ take 4 m → reason_of w.kind n v ≡ reason_of w.kind m v
      → refused_page names w v n ≡ refused_page names w v m
  unfolding refused_page
  of-refused v m n e f g = rw (r, g, run-blind w.kind m n v (reason_of w.kind m v) e f)

  pub refused-blind : (m n : List ℕ) → RefusedAlike w.kind (counted m) (counted n) → page_on names w n ≡ page_on names w m
  unfolding page_on page_of page
  refused-blind m n a =
      rw (a.verdict, a.refusal) (of-refused (first (framing_checks book w.kind (counted m))) (counted m) (counted n) a.size a.first_four a.reason)

  -- ---- a message that was read

  lines_same : (f g : ℕ → List ℕ) → ((i : ℕ) → f i ≡ g i) → (i n : ℕ) → for_each f i n ≡ for_each g i n
  unfolding for_each
  lines_same f g e i zero = refl
  lines_same f g e i (suc n) = rw (e i, lines_same f g e (suc i) n)

  -- two messages of one length and type are one to the lookups
  module _ (m n : List ℕ) (e : length n ≡ length m) (f : octet n 1 ≡ octet m 1) where
    rows-blind : (table : List ℕ) → table_rows w.kind n table ≡ table_rows w.kind m table
    unfolding table_rows is_of
    rows-blind table = rw (e, f)

    span-blind : (i size : ℕ) (table : List ℕ) → desk_span w.kind i n size table ≡ desk_span w.kind i m size table
    unfolding desk_span row_span
    span-blind i size table = rw (rows-blind table, e)

    row-blind : (v : Verdict) (table copy : List ℕ) (i : ℕ) → row_line names w v table n copy i ≡ row_line names w v table m copy i
    unfolding row_line
    row-blind v table copy i = rw (r, span-blind i (length copy) table)

    pub page-blind : (v : Verdict) (table copy : List ℕ) → read_page names w v table n copy ≡ read_page names w v table m copy
    unfolding read_page row_lines
    page-blind v table copy =
        rw (rows-blind table, lines_same (row_line names w v table n copy) (row_line names w v table m copy) (row-blind v table copy) 0 (table_rows w.kind m table))

  -- ---- two messages that differ in covered octets alone

  module _ (m n : List ℕ) (s : SameOpen book w.kind m n) where
    abbrev k : ℕ
    k = w.kind

    -- the type is open
    type_same : octet n 1 ≡ octet m 1
    unfolding message_type
    type_same = (same_reading book book-sound k m n s).typ

    table_same : table_read k n ≡ table_read k m
    unfolding table_read message_type
    table_same = rw (same_taken book book-sound k m n s, type_same)

    framing-same : first (framing_checks book k n) ≡ first (framing_checks book k m)
    framing-same = ap first (same-framing book book-sound k m n s)

    read_unseen : refuses (first (framing_checks book k m)) ≡ false → page_of names w n ≡ page_of names w m
    unfolding page_of page
    read_unseen e =
        let v : call_verdict book k n (length n) (used most_rows) ≡ call_verdict book k m (length m) (used most_rows)
        = both-verdict k m n s (length n) (used most_rows) ∙ ap (λ (c : ℕ). call_verdict book k m c (used most_rows)) s.size in
        let copy : call_copy book k n (used most_rows) (copy_room n) ≡ call_copy book k m (used most_rows) (copy_room m)
        = both-copy k m n s (used most_rows) (copy_room n) ∙ ap (λ (c : ℕ). call_copy book k m (used most_rows) (replicate c 0)) s.size in
        rw (framing-same, e, v, table_same, copy)
        (page-blind m n s.size type_same (call_verdict book k m (length m) (used most_rows)) (table_read k m) (call_copy book k m (used most_rows) (copy_room m)))

    pub covered_unseen : page_on names w n ≡ page_on names w m
    unfolding page_on
    covered_unseen = go (refuses (first (framing_checks book k m))) refl
      where
        go : (c : Bool) → refuses (first (framing_checks book k m)) ≡ c → page_of names w (counted n) ≡ page_of names w (counted m)
        go true e = ap (λ (x : List ℕ). page_of names w (counted x)) (refused-same book book-sound k m n s e)
        go false e =
            let l = (framed book k m e).0.most in
            ap (page_of names w) (take_all (largest_message + 1) n (omega (arith, s.size))) ∙ read_unseen e ∙ sym (ap (page_of names w) (take_all (largest_message + 1) m (omega arith)))
