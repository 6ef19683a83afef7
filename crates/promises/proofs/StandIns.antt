-- Functions that only look like the one call or a lookup are turned down, each by an example. Assumes nothing.
use mathlib.Core.Path.{◌≡◌, refl, sym, ap, ◌∙◌}
use mathlib.Core.Logic.{◌≢◌}
use mathlib.Core.Bool.{Bool, true, false}
use mathlib.Core.List.{List, []}
use Prim.Native.Nat.{ℕ, ◌<◌}
use native.Mathlib.Omega.{arith}
use lib.ListN.{length, get_or, replicate}
use denote.Ref.{Bor}
use Rattle.rules.specs.Framing.{version, flag_p, flag_t, message_type, length_field, header_length, head_of}
use Rattle.rules.specs.Sizes.{used}
use Rattle.rules.specs.Types.{parteds, least_by_type, least_of, whole_types, covers_whole, rest_types, covers_rest}
use Rattle.rules.specs.Listings.{levels, messages, book, seek, seek_message, listing, message_of, is_message}
use Rattle.rules.specs.Frames.{seen, filled_by, frames_by, frames_of, tally, exceeds}
use Rattle.rules.specs.Standing.{is_short, mark_after, standing, marked, entered, item_of}
use Rattle.rules.specs.Taking.{run, walk, items_of, body_level, taken}
use Rattle.rules.specs.Table.{header, table_of, laid}
use Rattle.rules.specs.Verdicts.{accepted, refused, refused_at, check, refuses, first, short_checks, has_kept, level_checks, group_checks, lack_checks, header_checks, framing_checks, call_checks, call_verdict, items}
use Rattle.rules.specs.Covered.{open_octets, zeroed, inside_cleared, clear_all, masked}
use Rattle.rules.specs.Values.{standing_kept, is_of, table_rows, row_span, desk_span, is_plain, seek_plain, plain_span}
use Rattle.rules.specs.Examples.{Outcome, examples, rooms, voids, roomy, paper, empties, sevens, sheet, message_d, message_e, message_g, message_m, head, line}
use Rattle.rules.specs.declared.Verdict.{Verdict}
use Rattle.verdicts.specs.Conditions.{Copies}
use Rattle.verdicts.proofs.Laying.{laid_in}
use Rattle.promises.proofs.Left.{accepted-table}
use Rattle.promises.proofs.Examples.{example, written_of, example-room, written_room, example-void, written_void, called, message_i, message_j, message_short, message_void}
use Rattle.promises.specs.StandIns.{below, Function, Asked, IsCall, Lookup, GivenPair, IsPlain, DeskLookup, GivenRow, IsDesk, outer_line, outer_lines, outer_levels, outer_book, free_line, free_book, cleared_whole}

-- ---- what comes out of the examples

-- an answer that meets the contract says what the example says
calls_as : (f : Function) → IsCall f → (k : ℕ) (m t c : List ℕ) → Asked k m t c → (o : Outcome) → called k m t c ≡ o
    → ((f k m t c).verdict ≡ o.verdict) × ((f k m t c).table ≡ o.table) × ((f k m t c).copy ≡ o.copy)
calls_as f j k m t c g o e = (
  (j k m t c g).answers ∙ ap (λ (x : Outcome). x.verdict) e,
  (j k m t c g).table_left ∙ ap (λ (x : Outcome). x.table) e,
  (j k m t c g).copy_left ∙ ap (λ (x : Outcome). x.copy) e,
)

clash : ◌≡◌ {A = ℕ} 0 1 → ⊥
clash e = omega arith

-- the examples can be given to the code
asked_d : Asked 1 message_d sevens sheet
unfolding below
asked_d = record { kind = refl; octets = refl; numbers = refl; copied = refl }

asked-e : Asked 1 message_e sevens sheet
unfolding below
asked-e = record { kind = refl; octets = refl; numbers = refl; copied = refl }

asked-f : Asked 1 message_short sevens sheet
unfolding below
asked-f = record { kind = refl; octets = refl; numbers = refl; copied = refl }

asked-g : Asked 1 message_g sevens sheet
unfolding below
asked-g = record { kind = refl; octets = refl; numbers = refl; copied = refl }

asked-i : Asked 1 message_i sevens sheet
unfolding below
asked-i = record { kind = refl; octets = refl; numbers = refl; copied = refl }

asked_j : Asked 1 message_j sevens sheet
unfolding below
asked_j = record { kind = refl; octets = refl; numbers = refl; copied = refl }

asked-m : Asked 1 message_m sevens sheet
unfolding below
asked-m = record { kind = refl; octets = refl; numbers = refl; copied = refl }

-- D with a number and an octet too few, and E with a number too few
asked-few : Asked 1 message_d (replicate 11 7) (replicate 12 7)
unfolding below
asked-few = record { kind = refl; octets = refl; numbers = refl; copied = refl }

asked-five : Asked 1 message_e (replicate 5 7) (replicate 8 7)
unfolding below
asked-five = record { kind = refl; octets = refl; numbers = refl; copied = refl }

asked-void : Asked 1 message_void roomy (paper 82)
unfolding below empties
asked-void = record { kind = refl; octets = refl; numbers = refl; copied = refl }

module _ (f : Function) (j : IsCall f) where
  -- ---- verdict and table

  -- a call that refuses always (D)
  pub refuses_always : ((k : ℕ) (m t c : List ℕ) → Asked k m t c → refuses (f k m t c).verdict ≡ true) → ⊥
  unfolding examples
  refuses_always r =
      let d = calls_as f j 1 message_d sevens sheet asked_d (written_of 3) (example 3) in
      let z : refuses accepted ≡ true = rw d.0 at (r 1 message_d sevens sheet asked_d) in let y : ◌≡◌ {A = ℕ} 0 1 = cc in clash y

  -- one that accepts always, with one table or any (E)
  pub accepts_always : ((k : ℕ) (m t c : List ℕ) → Asked k m t c → (f k m t c).verdict ≡ accepted) → ⊥
  unfolding examples
  accepts_always a =
      let e = calls_as f j 1 message_e sevens sheet asked-e (written_of 5) (example 5) in
      let z : accepted ≡ refused_at 12 70 0 3 0 = sym (a 1 message_e sevens sheet asked-e) ∙ e.0 in omega (arith, ap (λ (v : Verdict). v.code) z)

  -- one that leaves one table, whatever it is asked (D and E: what D leaves is not what E leaves)
  pub one_table : (u : List ℕ) → ((k : ℕ) (m t c : List ℕ) → Asked k m t c → (f k m t c).table ≡ u) → ⊥
  unfolding examples
  one_table u a =
      let d = calls_as f j 1 message_d sevens sheet asked_d (written_of 3) (example 3) in
      let e = calls_as f j 1 message_e sevens sheet asked-e (written_of 5) (example 5) in
      omega (arith, ap (λ (l : List ℕ). get_or l 0 0) (sym d.1 ∙ a 1 message_d sevens sheet asked_d ∙ sym (a 1 message_e sevens sheet asked-e) ∙ e.1))

  -- one that reads the body alone and makes up what groups hold accepts I and J; so the one alone turns it down, and so does the other
  outer_accepts-i : call_verdict outer_book 1 message_i (length sheet) (length sevens) ≡ accepted
  unfolding outer_book outer_levels outer_lines outer_line seen exceeds version flag_p flag_t message_type length_field header_length head_of parteds least_by_type least_of levels messages book seek seek_message listing message_of is_message is_short mark_after standing marked entered item_of run walk items_of body_level taken check first short_checks has_kept level_checks group_checks lack_checks header_checks framing_checks call_checks
  outer_accepts-i = refl

  outer_accepts_j : call_verdict outer_book 1 message_j (length sheet) (length sevens) ≡ accepted
  unfolding outer_book outer_levels outer_lines outer_line seen exceeds version flag_p flag_t message_type length_field header_length head_of parteds least_by_type least_of levels messages book seek seek_message listing message_of is_message is_short mark_after standing marked entered item_of run walk items_of body_level taken check first short_checks has_kept level_checks group_checks lack_checks header_checks framing_checks call_checks
  outer_accepts_j = refl

  pub pretends_inside-i : (f 1 message_i sevens sheet).verdict ≡ call_verdict outer_book 1 message_i (length sheet) (length sevens) → ⊥
  unfolding examples
  pretends_inside-i p =
      let i = calls_as f j 1 message_i sevens sheet asked-i (written_of 10) (example 10) in
      let z : accepted ≡ refused_at 12 70 12 73 0 = sym outer_accepts-i ∙ sym p ∙ i.0 in omega (arith, ap (λ (v : Verdict). v.code) z)

  -- any call that accepts J, as the old decoder did
  pub accepts_j : (f 1 message_j sevens sheet).verdict ≡ accepted → ⊥
  unfolding examples
  accepts_j a =
      let x = calls_as f j 1 message_j sevens sheet asked_j (written_of 11) (example 11) in omega (arith, ap (λ (v : Verdict). v.code) (sym a ∙ x.0))

  pub pretends_inside_j : (f 1 message_j sevens sheet).verdict ≡ call_verdict outer_book 1 message_j (length sheet) (length sevens) → ⊥
  pretends_inside_j p = accepts_j (p ∙ outer_accepts_j)

  pub pretends_inside : ((k : ℕ) (m t c : List ℕ) → Asked k m t c → (f k m t c).verdict ≡ call_verdict outer_book k m (length c) (length t)) → ⊥
  pretends_inside p = pretends_inside-i (p 1 message_i sevens sheet asked-i)

  -- one that lists what stands inside a void group (CR 8): it would want room for eleven rows more
  free-refuses : call_verdict free_book 1 message_void (length (paper 82)) (length roomy) ≡ refused 10 0
  unfolding free_book free_line empties seen exceeds filled_by frames_by frames_of version flag_p flag_t message_type length_field header_length head_of parteds least_by_type least_of levels messages book seek seek_message listing message_of is_message is_short mark_after standing marked entered item_of run walk items_of body_level taken check first short_checks has_kept level_checks group_checks lack_checks header_checks framing_checks call_checks
  free-refuses = refl

  voids_as : ((f 1 message_void roomy (paper 82)).verdict ≡ accepted) × ((f 1 message_void roomy (paper 82)).copy ≡ (written_void 0).copy)
  unfolding voids empties
  voids_as = let d = calls_as f j 1 message_void roomy (paper 82) asked-void (written_void 0) (example-void 0) in (d.0, d.2)

  pub lists-void-one : (f 1 message_void roomy (paper 82)).verdict ≡ call_verdict free_book 1 message_void (length (paper 82)) (length roomy) → ⊥
  lists-void-one p = let z : accepted ≡ refused 10 0 = sym voids_as.0 ∙ p ∙ free-refuses in omega (arith, ap (λ (v : Verdict). v.code) z)

  pub lists-void : ((k : ℕ) (m t c : List ℕ) → Asked k m t c → (f k m t c).verdict ≡ call_verdict free_book k m (length c) (length t)) → ⊥
  lists-void p = lists-void-one (p 1 message_void roomy (paper 82) asked-void)

  -- a row count that is not the number of elements taken
  pub wrong-count : (k : ℕ) (m t c : List ℕ) → Asked k m t c → refuses (f k m t c).verdict ≡ false → get_or (f k m t c).table 0 0 ≢ length (items book k m) → ⊥
  unfolding laid table_of header
  wrong-count k m t c g a n =
      let e : refuses (call_verdict book k m (length c) (length t)) ≡ false = rw (j k m t c g).answers at a in
      n (ap (λ (l : List ℕ). get_or l 0 0) ((j k m t c g).table_left ∙ accepted-table book k m (length c) t e))

  -- one that writes the table where 11 refuses (F exchanged: it has two rows)
  rows_short : length (items book 1 message_short) ≡ 2
  unfolding seen exceeds version flag_p flag_t message_type length_field header_length head_of parteds least_by_type least_of levels messages book seek seek_message listing message_of is_message is_short mark_after standing marked entered item_of run walk items_of body_level taken
  rows_short = refl

  pub table-on-eleven : ((k : ℕ) (m t c : List ℕ) → Asked k m t c → (f k m t c).verdict.code ≡ 11 → (f k m t c).table ≡ laid (table_of (message_type m) k (items book k m)) t) → ⊥
  unfolding examples laid table_of header
  table-on-eleven r =
      let d = calls_as f j 1 message_short sevens sheet asked-f (written_of 7) (example 7) in
      omega (arith, rows_short, ap (λ (l : List ℕ). get_or l 0 0) (sym d.1 ∙ r 1 message_short sevens sheet asked-f (ap (λ (v : Verdict). v.code) d.0)))

  -- one that says 10 wherever the table is too short for the rows, though the copy is too short as well (D)
  d_framed : (refuses (first (framing_checks book 1 message_d)) ≡ false) × (length (items book 1 message_d) ≡ 1)
  unfolding seen exceeds version flag_p flag_t message_type length_field header_length head_of parteds least_by_type least_of levels messages book seek seek_message listing message_of is_message is_short mark_after standing marked entered item_of run walk items_of body_level taken check first header_checks framing_checks
  d_framed = (refl, refl)

  pub ten-first : ((k : ℕ) (m t c : List ℕ) → Asked k m t c → refuses (first (framing_checks book k m)) ≡ false → length t < used (length (items book k m)) → (f k m t c).verdict.code ≡ 10) → ⊥
  unfolding rooms
  ten-first r =
      let d = calls_as f j 1 message_d (replicate 11 7) (replicate 12 7) asked-few (written_room 3) (example-room 3) in
      omega (arith, ap (λ (v : Verdict). v.code) d.0, r 1 message_d (replicate 11 7) (replicate 12 7) asked-few d_framed.0 (omega (arith, d_framed.1)))

  -- ---- the copy

  -- what is left in a copy, at least where one is made
  abbrev Makes : (List ℕ → List ℕ → List ℕ) → Type 0
  Makes left = (k : ℕ) (m t c : List ℕ) → Asked k m t c → Copies (f k m t c).verdict → (f k m t c).copy ≡ left m c

  -- M: its copy begins with the message's first octet, which is neither 7 nor 0, and ends with two zeros, which the message does not
  copy-m : ((f 1 message_m sevens sheet).verdict ≡ accepted) × (get_or (f 1 message_m sevens sheet).copy 0 0 ≡ 0x40) × (get_or (f 1 message_m sevens sheet).copy 17 0 ≡ 0)
  unfolding examples
  copy-m =
      let d = calls_as f j 1 message_m sevens sheet asked-m (written_of 14) (example 14) in
      (d.0, ap (λ (l : List ℕ). get_or l 0 0) d.2, ap (λ (l : List ℕ). get_or l 17 0) d.2)

  made-m : Copies (f 1 message_m sevens sheet).verdict
  made-m = rw copy-m.0

  -- one that leaves the copy untouched
  pub leaves-copy : Makes (λ m c. c) → ⊥
  leaves-copy r = omega (arith, copy-m.1, ap (λ (l : List ℕ). get_or l 0 0) (r 1 message_m sevens sheet asked-m made-m))

  -- one that copies everything, even if it refuses as it should
  pub copies-all : Makes (λ m c. laid m c) → ⊥
  unfolding laid
  copies-all r = omega (arith, copy-m.2, ap (λ (l : List ℕ). get_or l 17 0) (r 1 message_m sevens sheet asked-m made-m))

  -- one that zeroes everything, likewise
  pub zeroes_all : Makes (λ m c. laid (replicate (length m) 0) c) → ⊥
  unfolding laid
  zeroes_all r = omega (arith, copy-m.1, ap (λ (l : List ℕ). get_or l 0 0) (r 1 message_m sevens sheet asked-m made-m))

  -- one that leaves one copy, whatever it is asked, and so that of an old message (D and G)
  pub one-copy : (xs : List ℕ) → Makes (λ m c. laid xs c) → ⊥
  unfolding examples
  one-copy xs r =
      let d = calls_as f j 1 message_d sevens sheet asked_d (written_of 3) (example 3) in
      let g = calls_as f j 1 message_g sevens sheet asked-g (written_of 8) (example 8) in
      omega (
        arith,
        ap (λ (l : List ℕ). get_or l 0 0) (sym d.2 ∙ r 1 message_d sevens sheet asked_d (rw d.0) ∙ sym (r 1 message_g sevens sheet asked-g (rw g.0)) ∙ g.2),
      )

  -- one that makes no copy where 12 refuses (E)
  pub no_copy-on-twelve : ((k : ℕ) (m t c : List ℕ) → Asked k m t c → (f k m t c).verdict.code ≡ 12 → (f k m t c).copy ≡ c) → ⊥
  unfolding examples
  no_copy-on-twelve r =
      let d = calls_as f j 1 message_e sevens sheet asked-e (written_of 5) (example 5) in
      omega (arith, ap (λ (l : List ℕ). get_or l 0 0) (sym d.2 ∙ r 1 message_e sevens sheet asked-e (ap (λ (v : Verdict). v.code) d.0)))

  -- one that makes one where 10 refuses (E with a number too few)
  e-masked : get_or (masked book 1 message_e) 0 0 ≡ 0x40
  unfolding masked clear_all open_octets zeroed inside_cleared seen exceeds version flag_p flag_t message_type length_field header_length head_of parteds least_by_type least_of levels messages book seek seek_message listing message_of is_message is_short mark_after standing marked entered item_of run walk items_of body_level taken
  e-masked = refl

  e-long : length (masked book 1 message_e) ≡ 8
  unfolding masked clear_all open_octets zeroed inside_cleared seen exceeds version flag_p flag_t message_type length_field header_length head_of parteds least_by_type least_of levels messages book seek seek_message listing message_of is_message is_short mark_after standing marked entered item_of run walk items_of body_level taken
  e-long = refl

  pub copy-on-ten : ((k : ℕ) (m t c : List ℕ) → Asked k m t c → (f k m t c).verdict.code ≡ 10 → (f k m t c).copy ≡ laid (masked book k m) c) → ⊥
  unfolding rooms
  copy-on-ten r =
      let d = calls_as f j 1 message_e (replicate 5 7) (replicate 8 7) asked-five (written_room 7) (example-room 7) in
      omega (
        arith,
        e-masked,
        laid_in (masked book 1 message_e) (replicate 8 7) 0 (omega (arith, e-long)),
        ap (λ (l : List ℕ). get_or l 0 0) (sym d.2 ∙ r 1 message_e (replicate 5 7) (replicate 8 7) asked-five (ap (λ (v : Verdict). v.code) d.0)),
      )

  -- one that zeroes the headers inside a void group with the values (CR 8): octet 37 is the first of such a header
  whole-cleared : (get_or (cleared_whole message_void (items book 1 message_void)) 37 0 ≡ 0) × (length (cleared_whole message_void (items book 1 message_void)) ≡ 82)
  unfolding cleared_whole zeroed open_octets inside_cleared whole_types covers_whole rest_types covers_rest empties seen exceeds tally filled_by frames_by frames_of version flag_p flag_t message_type length_field header_length head_of parteds least_by_type least_of levels messages book seek seek_message listing message_of is_message is_short mark_after standing marked entered item_of run walk items_of body_level taken
  whole-cleared = (refl, refl)

  pub clears_headers-one : (f 1 message_void roomy (paper 82)).copy ≡ laid (cleared_whole message_void (items book 1 message_void)) (paper 82) → ⊥
  unfolding voids empties
  clears_headers-one p =
      let xs = cleared_whole message_void (items book 1 message_void) in
      omega (arith, ap (λ (l : List ℕ). get_or l 37 0) (sym voids_as.1 ∙ p), laid_in xs (paper 82) 37 (omega (arith, whole-cleared.1)), whole-cleared.0)

  pub clears_headers : ((k : ℕ) (m t c : List ℕ) → Asked k m t c → Copies (f k m t c).verdict → (f k m t c).copy ≡ laid (cleared_whole m (items book k m)) c) → ⊥
  clears_headers p = clears_headers-one (p 1 message_void roomy (paper 82) asked-void (rw voids_as.0))

-- ---- lookups that always answer the empty part (G)

-- the message G, lent somewhere, and its table
lent_g : Bor (List ℕ)
lent_g = record { ref_ptr = (0, 0); now = message_g }

table_g : List ℕ
table_g = head 2 2 6 18 66 1 (line 0 93 0 16 5 0 (line 1 73 0 20 1 0 []))

pub plain-empty : (f : Lookup) → ((k y i : ℕ) (m : Bor (List ℕ)) (t : List ℕ) → GivenPair k y i m t → (f k y i m t).now ≡ []) → IsPlain f → ⊥
unfolding lent_g table_g standing_kept is_of table_rows row_span is_plain seek_plain plain_span below
plain-empty f e j =
    let g : GivenPair 1 93 0 lent_g table_g = record { kind = refl; typ = refl; inst = refl; octets = refl; numbers = refl } in
    omega (arith, ap length (sym (e 1 93 0 lent_g table_g g) ∙ (j 1 93 0 lent_g table_g g).octets))

pub desk-empty : (f : DeskLookup) → ((k r : ℕ) (right : Bool) (m c : Bor (List ℕ)) (t : List ℕ) → GivenRow k r m c t → (f k r right m c t).now ≡ []) → IsDesk f → ⊥
unfolding lent_g table_g standing_kept is_of table_rows row_span desk_span below
desk-empty f e j =
    let g : GivenRow 1 1 lent_g lent_g table_g = record { kind = refl; row = refl; octets = refl; copied = refl; numbers = refl } in
    omega (arith, ap length (sym (e 1 1 true lent_g lent_g table_g g) ∙ (j 1 1 true lent_g lent_g table_g g).octets))
