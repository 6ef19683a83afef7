-- Every statement to the owner, demand by demand, of the one call, the cleaner, the builder, the lookups and the exports by the listings of rule 3.2. Each is proved in the file
-- that it cites, there, or in the laws below it, of any listings that pass the test `sound`; these do (`book-sound`). Assumes nothing.
use mathlib.Core.Path.{◌≡◌, refl, sym, ap, ◌∙◌}
use mathlib.Core.Logic.{◌⊎◌, inl, inr, ◌↔◌, ◌≢◌}
use mathlib.Core.Bool.{Bool, true, false, cond, ◌||◌}
use mathlib.Core.List.{List, [], ◌∷◌, ◌++◌}
use Prim.Native.Nat.{ℕ, zero, suc, ◌+◌, ◌-◌, ◌*◌, ◌≤◌, ◌<◌}
use native.Mathlib.Omega.{arith}
use borrow.Author.Tests.{lt-ltb}
use lib.ListN.{length, take, drop, get_or, length-take}
use denote.Ref.{Bor}
use Rattle.rules.specs.Sizes.{largest_message, most_rows, header_numbers, five_octets, answer_octets, used}
use Rattle.rules.specs.Framing.{octet, element_header, header_length, message_type}
use Rattle.rules.specs.Types.{among}
use Rattle.rules.specs.Listings.{book, empty_line, lists, is_message}
use Rattle.rules.specs.Frames.{Frame, hides}
use Rattle.rules.specs.Standing.{Item, kept, unexpected, repeated, short, void}
use Rattle.rules.specs.Taking.{whole, taken, body_level}
use Rattle.rules.specs.Table.{kept_rows, table_of, laid}
use Rattle.rules.specs.Verdicts.{accepted, refused, refused_at, invalid_length, mandatory_missing, refuses, first, framing_checks, items, call_verdict, call_table, framing_numbers, call_numbers, judge_verdict, judge_table}
use Rattle.rules.specs.Covered.{covered, masked, call_copy}
use Rattle.rules.specs.Cleaned.{cleaned, clean_checks, clean_verdict, clean_length, clean_numbers}
use Rattle.rules.specs.Counting.{count_verdict, count_rows, quarter_of}
use Rattle.rules.specs.Built.{teid_of, sequence_of, ZeroBits, built_by, build_checks, build_verdict, build_length, build_numbers}
use Rattle.rules.specs.Values.{row_type, row_instance, row_parent, row_place, row_length, row_standing, table_type, table_kind, reads_as_cut, disagrees, is_of, nowhere, Stands}
use Rattle.rules.specs.Program.{blanked, row_lines, accept_word, refuse_word, text_of}
use Rattle.rules.specs.Octets.{numbers_in, five, six, table_room}
use Rattle.rules.specs.Answers.{Called, CalledStored, Cleans, Builds, Plain, PlainFound, Desk, DeskFound, CalledOctets, CleanedOctets, BuiltOctets, Counted, CountedOctets}
use Rattle.rules.specs.declared.Verdict.{Verdict}
use Rattle.rules.specs.declared.Span.{Span}
use Rattle.rules.specs.declared.Sent.{Sent}
use Rattle.rules.specs.declared.Count.{Count}
use Rattle.rules.proofs.Book.{book-sound}
use Rattle.rules.proofs.Checks.{OwnCase}
use Rattle.rules.proofs.Header.{Passed, clean_case, build_case}
use Rattle.rules.proofs.Frames.{Filled}
use Rattle.rules.proofs.Rows.{Octets, header-least}
use Rattle.tables.specs.Words.{rows, kept_count, first_row, numbers_used, kept_among, row_start, row_end, KeptGroup, IsLevel, Inside, Faithful}
use Rattle.tables.specs.Levels.{level_of}
use Rattle.tables.specs.Standings.{its_listing, Listed, Again, Below, Over}
use Rattle.tables.specs.IsTable.{IsOf, IsTable}
use Rattle.tables.specs.Tiles.{Tiles}
use Rattle.verdicts.specs.Missing.{ShortRow, Lacks, NamesShort, NamesLack}
use Rattle.verdicts.specs.Accepts.{Leaves}
use Rattle.verdicts.specs.IsCut.{IsCut}
use Rattle.verdicts.specs.Covers.{ValueOver, frames_in, Covers}
use Rattle.verdicts.specs.Conditions.{framing_conditions, call_conditions, OwnWords, call_words, copying_numbers, Copies}
use Rattle.tables.proofs.Rowed.{Begins}
use Rattle.verdicts.proofs.Cases.{call-words, call_says}
use Rattle.verdicts.proofs.Acceptance.{NoneHolds, OneOf, call_accepting, call_codes, clean_codes, build_codes, framing_codes}
use Rattle.tables.proofs.Standings.{listed_iff, unexpected_iff, repeated_iff, short_iff, void_iff, kept_iff, kept-listed}
use Rattle.tables.proofs.Trees.{backward, between, in_message}
use Rattle.tables.proofs.Tiling.{tiles}
use Rattle.tables.proofs.Levels.{level-group, group-level}
use Rattle.verdicts.proofs.Passing.{passed_iff}
use Rattle.verdicts.proofs.Calling.{ample, alike, roomy, roomy-table, nine, nine-place, thirteen, ten, eleven, eleven-place, twelve, twelve-place, fits, copies_iff, acceptance}
use Rattle.verdicts.proofs.Completeness.{one_table, few}
use Rattle.verdicts.proofs.Accepting.{table_iff}
use Rattle.verdicts.proofs.Covers.{covered_iff}
use Rattle.verdicts.proofs.CutPlace.{table_or_cut, never_both, cut-once}
use Rattle.promises.specs.Agreeing.{SameOpen, AtDesk}
use Rattle.promises.specs.OnKinds.{types_on}
use Rattle.promises.specs.Judged.{Judged}
use Rattle.promises.specs.Voids.{Report, points, Inner, Says}
use Rattle.promises.specs.Exports.{LeavesOctets}
use Rattle.promises.specs.Cleaning.{CleanRows}
use Rattle.promises.specs.Building.{SameRows, HasHead, NumberAlone}
use Rattle.promises.proofs.Counting.{count_none, count-accepted, count-alike, count-only, count-refuses, count-table, count_room, count_most, count_same}
use Rattle.promises.proofs.OnKinds.{never, on_exactly, off-kind, kind-off}
use Rattle.promises.proofs.Built.{short-table, long-table, build-alone, build-left-alone, is-built, build-past-stays, built-head, built-judged, built-zero, rebuilt-same}
use Rattle.promises.specs.Lookups.{value_of, TopRow, FirstTopRow, SomethingElse}
use Rattle.promises.proofs.Left.{refused-table, accepted-table, table_stays, copied, uncopied, copied-framed}
use Rattle.promises.proofs.Covering.{header_open, element-header_open}
use Rattle.promises.proofs.Voids.{report-void, report-kept, void_childless, void-apart, void-lacks, never-named}
use Rattle.promises.proofs.Insides.{report-filled, inner-says, covers-void, inner-value-covered, inner-header_open}
use Rattle.promises.proofs.Copies.{masked-twice, copy-octet, copy-past, copy-front, copy_open, copy-is-table}
use Rattle.promises.proofs.Calling.{call_same, call_table-same, call_copy-same, two-called, two-stored, two-octets, called_open, desk-part}
use Rattle.promises.proofs.Exports.{zero-accepted, code_of, stored_as_called, stored-leaves, leaves-stored, stored-stays, octets-stored, five-read, five-stays, five-short, answer-read, answer-stays, answer-short}
use Rattle.promises.proofs.Cleaned.{left_alone, refused_as_judged, accepted_exactly, thirteen-by-room, made, is-copy, past-stays, header-kept, no_longer, clean-judged_as, accepted_too, clean-once, whole_same, commutes}
use Rattle.promises.proofs.Lookups.{is-of, other-header, other-kind, no_type, other_type, plain-nowhere, desk-nowhere, desk-span, desk-found, plain-span, plain-found}

module _ (k : ℕ) (m : List ℕ) where
  -- ======== Demand 1: whatever is asked gets an answer; a refusal has a number of rule 6.2, its place and its turn; and what is left is fixed.

  -- each of the call's numbers, 1 to 9, 13, 10, 11 and 12 in this order, is given exactly where its condition holds and none before it does, and says what is
  -- to be named
  pub call_in_its_case : (octets room j : ℕ) → j < length call_numbers → ((call_verdict book k m octets room).code ≡ get_or call_numbers j 0) ↔ OwnWords (call_conditions book k m octets room) j
  call_in_its_case = call-words book book-sound k m

  pub call_names : (octets room j : ℕ) → j < length call_numbers → (call_verdict book k m octets room).code ≡ get_or call_numbers j 0
      → get_or (call_words book k m) j (λ v. ⊥) (call_verdict book k m octets room)
  call_names octets room = call_says book book-sound k m room octets

  -- acceptance, five zeros, is given exactly where no condition holds
  pub call_accepts : (octets room : ℕ) → (call_verdict book k m octets room ≡ accepted) ↔ NoneHolds (call_conditions book k m octets room) (length call_numbers)
  call_accepts = call_accepting book book-sound k m

  -- and every answer is acceptance or has one of the numbers
  pub call_one-of : (octets room : ℕ) → OneOf call_numbers (call_verdict book k m octets room)
  call_one-of octets room = call_codes book book-sound k m room octets

  -- none of 1 to 8 applies exactly where the header is as `Passed` says; what 1 to 9 refuse they refuse so, whatever is lent
  pub passed_exactly : Passed book k m ↔ NoneHolds (framing_conditions book k m) 9
  passed_exactly = passed_iff book book-sound k m

  -- a kind's messages: 1, 2 and 131 on kind 4, all but 131 on the others (`OnKinds.types_of`); what passes 1 to 8 is one of them, and where 1 to 6 pass a listed type
  -- that is none of its kind's is told by 21, and nothing else is
  pub of-its-kind : Passed book k m → among (message_type m) (types_on k book.messages) ≡ true
  of-its-kind p = (on_exactly k (message_type m)).1 (p.listed, p.on_kind)

  pub other-kind-told : (octets room : ℕ) → ((call_verdict book k m octets room).code ≡ 21)
      ↔ (NoneHolds (framing_conditions book k m) 6 × ((is_message book (message_type m) ≡ true) × (among (message_type m) (types_on k book.messages) ≡ false)))
  other-kind-told octets room = (
    λ e. let w = (call_in_its_case octets room 7 (omega arith)).0 e in (six w, off-kind k (message_type m) (w.none_before 6 (omega arith)) w.holds),
    λ (n, (l, o)). (call_in_its_case octets room 7 (omega arith)).1 (record { holds = kind-off k (message_type m) l o; none_before = seven n l }),
  )
    where
      six : OwnWords (call_conditions book k m octets room) 7 → NoneHolds (framing_conditions book k m) 6
      six w zero h = w.none_before 0 (omega arith)
      six w (suc zero) h = w.none_before 1 (omega arith)
      six w (suc (suc zero)) h = w.none_before 2 (omega arith)
      six w (suc (suc (suc zero))) h = w.none_before 3 (omega arith)
      six w (suc (suc (suc (suc zero)))) h = w.none_before 4 (omega arith)
      six w (suc (suc (suc (suc (suc zero))))) h = w.none_before 5 (omega arith)
      six w (suc (suc (suc (suc (suc (suc j)))))) h = absurd (omega arith)

      seven : NoneHolds (framing_conditions book k m) 6 → is_message book (message_type m) ≡ true → (j : ℕ) → j < 7 → get_or (call_conditions book k m octets room) j ⊥ → ⊥
      seven n l zero h = n 0 (omega arith)
      seven n l (suc zero) h = n 1 (omega arith)
      seven n l (suc (suc zero)) h = n 2 (omega arith)
      seven n l (suc (suc (suc zero))) h = n 3 (omega arith)
      seven n l (suc (suc (suc (suc zero)))) h = n 4 (omega arith)
      seven n l (suc (suc (suc (suc (suc zero))))) h = n 5 (omega arith)
      seven n l (suc (suc (suc (suc (suc (suc zero)))))) h = λ e. never (sym e ∙ l)
      seven n l (suc (suc (suc (suc (suc (suc (suc j))))))) h = absurd (omega arith)

  pub refused-alike : (octets room : ℕ) → among (call_verdict book k m octets room).code framing_numbers ≡ true
      → (octets' room' : ℕ) → call_verdict book k m octets' room' ≡ call_verdict book k m octets room
  refused-alike = alike book book-sound k m

  -- with a copy that has room for the message it says, and leaves in the table, what checks 1 to 12 do with no copy asked for
  pub with_room : (octets room : ℕ) → length m ≤ octets → call_verdict book k m octets room ≡ judge_verdict book k m room
  with_room = roomy book book-sound k m

  pub with_room-table : (octets : ℕ) (t : List ℕ) → length m ≤ octets → call_table book k m octets t ≡ judge_table book k m t
  with_room-table = roomy-table book book-sound k m

  -- a refusal leaves the table as it was, and any but 11 and 12 the copy too; numbers past those used stay always
  pub refusal-leaves-table : (octets : ℕ) (t : List ℕ) → refuses (call_verdict book k m octets (length t)) ≡ true → call_table book k m octets t ≡ t
  refusal-leaves-table = refused-table book k m

  pub refusal-leaves-copy : (room : ℕ) (c : List ℕ) → (Copies (call_verdict book k m (length c) room) → ⊥) → call_copy book k m room c ≡ c
  refusal-leaves-copy = uncopied book book-sound k m

  pub past_the_used : (octets : ℕ) (t : List ℕ) → drop (used (length (items book k m))) (call_table book k m octets t) ≡ drop (used (length (items book k m))) t
  past_the_used = table_stays book k m

  -- ======== Demand 2: verdict and table are those that the rules draw from the standard; rows lie in their parents and siblings apart; and 12 says that
  -- a level has no kept row of a pair that it must have, where nothing else went wrong before.

  -- with 0, 11 and 12 the copy is the masked message over the start of what was lent; on acceptance the table is the numbers of the elements taken, and with 11
  -- and 12 it stays
  pub copy_writes : (room : ℕ) (c : List ℕ) → Copies (call_verdict book k m (length c) room) → call_copy book k m room c ≡ laid (masked book k m) c
  copy_writes = copied book book-sound k m

  pub acceptance_writes : (t c : List ℕ) → call_verdict book k m (length c) (length t) ≡ accepted
      → (call_table book k m (length c) t ≡ laid (table_of (message_type m) k (items book k m)) t) × (call_copy book k m (length t) c ≡ laid (masked book k m) c)
  acceptance_writes t c a = (accepted-table book k m (length c) t (rw a), copy_writes (length t) c (rw a))

  pub late-refusal_writes : (t c : List ℕ) → ((call_verdict book k m (length c) (length t)).code ≡ 11) ⊎ ((call_verdict book k m (length c) (length t)).code ≡ 12)
      → (call_table book k m (length c) t ≡ t) × (call_copy book k m (length t) c ≡ laid (masked book k m) c)
  late-refusal_writes t c (inl e) = (refusal-leaves-table (length c) t (rw e), copy_writes (length t) c (rw e))
  late-refusal_writes t c (inr e) = (refusal-leaves-table (length c) t (rw e), copy_writes (length t) c (rw e))

  -- `IsTable` says what a table of the message is without the walk. Where 1 to 8 pass, it holds of t exactly where the message is whole and the numbers of
  -- its elements stand at the start of t, which says that it is of this kind and of the message's type; and of one table only
  pub table_exactly : Passed book k m → (t : List ℕ) → IsTable book k m t ↔ (IsOf k m t × ((es : List Item) × (taken book k m ≡ whole es) × Begins t es))
  table_exactly = table_iff book book-sound k m

  pub table_unique : (t u : List ℕ) → IsTable book k m t → IsTable book k m u → (rows t ≡ rows u) × ((i : ℕ) → i < used (rows t) → get_or t i 0 ≡ get_or u i 0)
  table_unique = one_table book book-sound k m

  -- a message has a table or is cut, never both, and is cut in one place
  pub table_or_cut-at : Passed book k m → ((t : List ℕ) × IsTable book k m t) ⊎ ((q : ℕ) × ((t : List ℕ) × IsCut book k m t q))
  table_or_cut-at = table_or_cut book book-sound k m

  pub not-both : (t u : List ℕ) (q : ℕ) → IsTable book k m t → IsCut book k m u q → ⊥
  not-both = never_both book book-sound k m

  pub cut_in_one-place : (t u : List ℕ) (q q' : ℕ) → IsCut book k m t q → IsCut book k m u q' → q ≡ q'
  cut_in_one-place = cut-once book book-sound k m

  -- it accepts and leaves `left` exactly where the copy has room, a table of the message stands in `left`, no mandatory row of that is short and none is
  -- missing, and the rest is as it was lent
  pub accepts_exactly : (octets : ℕ) (lent left : List ℕ)
      → ((call_verdict book k m octets (length lent) ≡ accepted) × (call_table book k m octets lent ≡ left)) ↔ ((length m ≤ octets) × Leaves book k m lent left)
  accepts_exactly = acceptance book book-sound k m

  module _ (octets room : ℕ) where
    -- 9 exactly where 1 to 8 pass and there is no table of the message; and at the place q exactly where the rows before q are right and leave out nothing,
    -- and a level goes on at q with no whole element
    pub nine_exactly : ((call_verdict book k m octets room).code ≡ 9) ↔ (Passed book k m × ((t : List ℕ) → IsTable book k m t → ⊥))
    nine_exactly = nine book book-sound k m octets room

    pub nine-at_exactly : (q : ℕ) → (call_verdict book k m octets room ≡ refused_at 9 invalid_length q 0 0) ↔ (Passed book k m × ((t : List ℕ) × IsCut book k m t q))
    nine-at_exactly = nine-place book book-sound k m octets room

    -- 13 exactly where there is one and the copy has no room
    pub thirteen_exactly : ((call_verdict book k m octets room).code ≡ 13) ↔ ((octets < length m) × (Passed book k m × ((t : List ℕ) × IsTable book k m t)))
    thirteen_exactly = thirteen book book-sound k m octets room

    -- 10 exactly where the copy has and the table has none
    pub ten_exactly : ((call_verdict book k m octets room).code ≡ 10) ↔ ((length m ≤ octets) × (Passed book k m × ((t : List ℕ) × IsTable book k m t × (room < used (rows t)))))
    ten_exactly = ten book book-sound k m octets room

    -- 11 exactly where both have room and a row is short whose pair is mandatory at its level; the first such row is named
    pub mandatory-short : ((call_verdict book k m octets room).code ≡ 11)
        ↔ ((length m ≤ octets) × (Passed book k m × ((t : List ℕ) × IsTable book k m t × (used (rows t) ≤ room) × ((r : ℕ) × ShortRow book k (body_level book m) t r))))
    mandatory-short = eleven book book-sound k m octets room

    pub mandatory-short-at : (q y i : ℕ) → (call_verdict book k m octets room ≡ refused_at 11 invalid_length q y i)
        ↔ ((length m ≤ octets) × (Passed book k m × ((t : List ℕ) × IsTable book k m t × (used (rows t) ≤ room) × NamesShort book k (body_level book m) t q y i)))
    mandatory-short-at = eleven-place book book-sound k m octets room

    -- 12 exactly where none is, and some level lacks a kept row of a pair that is mandatory there; the first level and its first such pair are named
    pub mandatory-missing : ((call_verdict book k m octets room).code ≡ 12)
        ↔ ((length m ≤ octets)
        × (Passed book k m
        × ((t : List ℕ) × IsTable book k m t × (used (rows t) ≤ room) × ((r : ℕ) → ShortRow book k (body_level book m) t r → ⊥)
        × ((p : ℕ) × (j : ℕ) × Lacks book k (body_level book m) t p j))))
    mandatory-missing = twelve book book-sound k m octets room

    pub mandatory-missing-at : (q y i : ℕ) → (call_verdict book k m octets room ≡ refused_at 12 mandatory_missing q y i)
        ↔ ((length m ≤ octets)
        × (Passed book k m
        × ((t : List ℕ) × IsTable book k m t × (used (rows t) ≤ room) × ((r : ℕ) → ShortRow book k (body_level book m) t r → ⊥)
        × NamesLack book k (body_level book m) t q y i)))
    mandatory-missing-at = twelve-place book book-sound k m octets room

    -- a copy is written, which the numbers 0, 11 and 12 tell, exactly where there is a table and both have room, whatever is short or missing
    pub copies_exactly : Copies (call_verdict book k m octets room) ↔ ((length m ≤ octets) × (Passed book k m × ((t : List ℕ) × IsTable book k m t × (used (rows t) ≤ room))))
    copies_exactly = copies_iff book book-sound k m octets room

  -- ---- the rows of a table of the message, by their six numbers

  module _ (t : List ℕ) (x : IsTable book k m t) where
    -- a row, header and value, lies in its parent's value, or in the body; siblings do not overlap
    pub row-within-parent : (r : ℕ) → r < rows t → Inside m t r
    row-within-parent = x.right.inside

    pub row_in_message : (r : ℕ) → r < rows t → row_end t r ≤ length m
    row_in_message = in_message book k m t x.right

    pub siblings-apart : (x y : ℕ) → x < y → y < rows t → row_parent t x ≡ row_parent t y → row_end t x ≤ row_start t y
    siblings-apart = x.right.apart

    -- rows stand in octet order, depth first: what stands between a row and its parent's row is inside that parent
    pub octet-order : (x y : ℕ) → x < y → y < rows t → row_place t x < row_place t y
    octet-order = x.right.order

    pub depth-first-order : (q s r : ℕ) → q < s → s ≤ r → r < rows t → row_parent t r ≡ suc q
        → (suc q ≤ row_parent t s) × (row_place t q ≤ row_start t s) × (row_start t s < row_end t q)
    depth-first-order = between book k m t x.right

    -- a parent is the message or a kept group's row, and stands before; each kept group's inside is listed, and no other
    pub parents-kept : (r : ℕ) → r < rows t → IsLevel t (row_parent t r)
    parents-kept = x.right.parents

    pub parents-before : (r : ℕ) → r < rows t → row_parent t r ≤ r
    parents-before = backward book k m t x.right

    pub entered_exactly : (r : ℕ) → r < rows t → (0 < level_of book k (body_level book m) t (suc r)) ↔ KeptGroup t r
    entered_exactly r l = (
      level-group book book-sound k (body_level book m) t r l (parents-before r l),
      λ g. group-level book book-sound k (body_level book m) t r l (parents-before r l) (kept-listed book k m t r (x.right.standing r l) g.stand) g,
    )

    -- a row says what the four octets before its value say
    pub rows-faithful : (r : ℕ) → r < rows t → Faithful m t r
    rows-faithful = x.right.faithful

    -- the rows of the message, and of each kept group, tile its value: no octet is skipped, and none stands in two
    pub rows_tile : (p : ℕ) → IsLevel t p → Tiles m t p
    rows_tile = tiles book k m t x

    -- the header: kept rows, place of the first row, numbers used; and there are never more rows than the body has room for headers
    pub kept-counted : kept_count t ≡ kept_among t (rows t)
    kept-counted = x.right.kept-rows

    pub first-row-at : first_row t ≡ header_numbers
    first-row-at = x.right.first-row

    pub used-counted : numbers_used t ≡ used (rows t)
    used-counted = x.right.numbers-used

    pub rows-fit-body : header_length m + element_header * rows t ≤ length m
    rows-fit-body = few book book-sound k m t x

    pub at-most_1022 : length m ≤ largest_message → rows t ≤ most_rows
    at-most_1022 l = omega (arith, l, rows-fit-body, header-least m)

    -- a pair is listed where some line of its level lists it for this kind.
    -- Standing 1 exactly where the pair is not listed at the row's level for this kind; 2 where it is, is not marked *, and an earlier row has that parent and
    -- pair; 3 where neither and the value is below the least length; 4 where none of these and it holds more of a pair than its line lets stand; 0 otherwise
    pub listed_exactly : (r : ℕ) → Listed book k m t r
        ↔ ((j : ℕ) × (j < length (its_listing book k m t r)) × (lists k (row_type t r) (row_instance t r) (get_or (its_listing book k m t r) j empty_line) ≡ true))
    listed_exactly = listed_iff book k m t

    module _ (r : ℕ) (l : r < rows t) where
      pub one_exactly : (row_standing t r ≡ unexpected) ↔ (Listed book k m t r → ⊥)
      one_exactly = unexpected_iff book k m t x.right r l

      pub two_exactly : (row_standing t r ≡ repeated) ↔ (Listed book k m t r × Again book k m t r)
      two_exactly = repeated_iff book k m t x.right r l

      pub three_exactly : (row_standing t r ≡ short) ↔ (Listed book k m t r × (Again book k m t r → ⊥) × Below book k m t r)
      three_exactly = short_iff book k m t x.right r l

      pub four_exactly : (row_standing t r ≡ void) ↔ (Listed book k m t r × (Again book k m t r → ⊥) × (Below book k m t r → ⊥) × Over book k m t r)
      four_exactly = void_iff book k m t x.right r l

      pub zero_exactly : (row_standing t r ≡ kept) ↔ (Listed book k m t r × (Again book k m t r → ⊥) × (Below book k m t r → ⊥) × (Over book k m t r → ⊥))
      zero_exactly = kept_iff book k m t x.right r l

  -- ---- CR 8: a void overload report

  module _ (p : Passed book k m) (t : List ℕ) (x : IsTable book k m t) (r : ℕ) (l : r < rows t) where
    -- a row has standing 4 exactly where it is a 180/0 at the level of a message 67 and more than ten elements 71/0 stand directly inside its value, short
    -- ones counted; any other such row is kept
    pub void_exactly : (row_standing t r ≡ void) ↔ (Report m t r × (10 < points m t r))
    void_exactly = report-void k m p t x r l

    pub kept_otherwise : Report m t r → points m t r ≤ 10 → row_standing t r ≡ kept
    kept_otherwise = report-kept k m p t x r l

    -- elements fill its value, kept or void: a fault of framing in it leaves the message no table, and that is 9
    pub report-is-filled : Report m t r → Filled (take (row_length t r) (drop (row_place t r) m)) (frames_in m t r)
    report-is-filled = report-filled k m p t x r l

    module _ (e : row_standing t r ≡ void) where
      -- no row has it for its parent, none begins inside it, and no pair is required there; so 11 and 12 name no place in it
      pub void-has_no_rows : (q : ℕ) → q < rows t → row_parent t q ≢ suc r
      void-has_no_rows = void_childless book book-sound k m t x r l e

      pub void-rows-apart : (q : ℕ) → q < rows t → q ≢ r → (row_start t q < row_start t r) ⊎ (row_end t r ≤ row_start t q)
      void-rows-apart = void-apart book book-sound k m t x r l e

      pub void_requires_nothing : (j : ℕ) → Lacks book k (body_level book m) t (suc r) j → ⊥
      void_requires_nothing = void-lacks book book-sound k m t x r l e

      pub void-not-named : (octets room : ℕ) → 11 ≤ (call_verdict book k m octets room).code
          → ((call_verdict book k m octets room).place < row_start t r) ⊎ (row_end t r ≤ (call_verdict book k m octets room).place)
      void-not-named = never-named book book-sound k m t x r l e p

      -- each element inside it is there as its header says
      pub void-inner-there : (c : ℕ) (f : Frame) → Inner (frames_in m t r) c f → Says (drop c (take (row_length t r) (drop (row_place t r) m))) f
      void-inner-there = inner-says book book-sound k m p t x r l e

      -- of its value just the value octets of those elements are covered; each octet of such a value is, and no octet of such a header (nor one
      -- of the row's own: `element-header-not-covered`)
      pub void-covers : (j : ℕ) → row_place t r ≤ j → j < row_end t r → covered book k m j ≡ hides (frames_in m t r) (j - row_place t r)
      void-covers = covers-void book book-sound k m p t x r l e

      pub void-value-covered : (c : ℕ) (f : Frame) → Inner (frames_in m t r) c f
          → (j : ℕ) → row_place t r + c + element_header ≤ j → j < row_place t r + c + element_header + f.len → covered book k m j ≡ true
      void-value-covered = inner-value-covered book book-sound k m p t x r l e

      pub void-header-not-covered : (c : ℕ) (f : Frame) → Inner (frames_in m t r) c f
          → (j : ℕ) → row_place t r + c ≤ j → j < row_place t r + c + element_header → covered book k m j ≡ false
      void-header-not-covered = inner-header_open book book-sound k m p t x r l e

  -- ======== Demand 3: a message that differs in covered octets at most is judged, tabled and masked alike.

  -- an octet is covered exactly where 1 to 9 pass and a row of the message's table covers it
  pub covered_exactly : (j : ℕ) → (covered book k m j ≡ true) ↔ (Passed book k m × ((t : List ℕ) × IsTable book k m t × ((r : ℕ) × ValueOver t j r × Covers m t j r)))
  covered_exactly = covered_iff book book-sound k m

  module _ (n : List ℕ) (s : SameOpen book k m n) where
    pub both-verdict : (octets room : ℕ) → call_verdict book k n octets room ≡ call_verdict book k m octets room
    both-verdict = call_same book book-sound k m n s

    pub both-table : (octets : ℕ) (t : List ℕ) → call_table book k n octets t ≡ call_table book k m octets t
    both-table = call_table-same book book-sound k m n s

    pub both-copy : (room : ℕ) (c : List ℕ) → call_copy book k n room c ≡ call_copy book k m room c
    both-copy = call_copy-same book book-sound k m n s

  -- a copy that is made is zero in each covered octet and the message's own elsewhere; handed to the call with any buffers, those first lent among them, it gets the
  -- message's own verdict, table and copy
  module _ (t c : List ℕ) (made : Copies (call_verdict book k m (length c) (length t))) where
    abbrev copy : List ℕ
    copy = call_copy book k m (length t) c

    framing : refuses (first (framing_checks book k m)) ≡ false
    framing = copied-framed book book-sound k m (length t) c made

    written : call_copy book k m (length t) c ≡ laid (masked book k m) c
    written = copied book book-sound k m (length t) c made

    agrees : SameOpen book k m (take (length m) copy)
    agrees = copy_open book book-sound k m framing c written

    pub copy_holds : (j : ℕ) → j < length m → get_or (call_copy book k m (length t) c) j 0 ≡ cond (covered book k m j) 0 (get_or m j 0)
    copy_holds = copy-octet book book-sound k m framing c written

    pub copy-stays : (j : ℕ) → length m ≤ j → get_or (call_copy book k m (length t) c) j 0 ≡ get_or c j 0
    copy-stays = copy-past book book-sound k m framing c written

    pub copy-judged : (octets room : ℕ) → call_verdict book k (take (length m) (call_copy book k m (length t) c)) octets room ≡ call_verdict book k m octets room
    copy-judged = both-verdict (take (length m) copy) agrees

    pub copy-tabled : (octets : ℕ) (u : List ℕ) → call_table book k (take (length m) (call_copy book k m (length t) c)) octets u ≡ call_table book k m octets u
    copy-tabled = both-table (take (length m) copy) agrees

    pub copy-copied : (room : ℕ) (d : List ℕ) → call_copy book k (take (length m) (call_copy book k m (length t) c)) room d ≡ call_copy book k m room d
    copy-copied = both-copy (take (length m) copy) agrees

    -- and so, whatever the call says of it, is its table: the same rows are void
    pub copy-has-table : Passed book k m → (u : List ℕ) → IsTable book k m u → IsTable book k (take (length m) (call_copy book k m (length t) c)) u
    copy-has-table = copy-is-table book book-sound k m framing c written

  -- ======== What a reader expects besides.

  -- the judge program lends a copy buffer and a table that are large enough: its text is that of checks 1 to 12 with no copy asked for, and 10 is never among them
  pub program_says : text_of book k m
      ≡ cond (refuses (judge_verdict book k m (used most_rows))) (refuse_word ++ blanked (five (judge_verdict book k m (used most_rows))))
      (accept_word ++ (blanked (length (items book k m) ∷ kept_rows (items book k m) ∷ []) ++ row_lines (items book k m)))
  unfolding text_of
  program_says = rw (ample book book-sound k m (used most_rows))

  pub program_has-room : (judge_verdict book k m (used most_rows)).code ≡ 10 → ⊥
  program_has-room e =
      let w = (ten_exactly largest_message (used most_rows)).0 (rw (ample book book-sound k m (used most_rows)) e) in
      omega (arith, w.1.1.2, at-most_1022 w.1.1.0 w.1.1.1 w.1.0.most)

  pub mask-twice : refuses (first (framing_checks book k m)) ≡ false → masked book k (masked book k m) ≡ masked book k m
  mask-twice = masked-twice book book-sound k m

  pub header-not-covered : (j : ℕ) → j < header_length m → covered book k m j ≡ false
  header-not-covered = header_open book k m

  pub element-header-not-covered : (t : List ℕ) → IsTable book k m t → (r : ℕ) → r < rows t → (j : ℕ) → row_start t r ≤ j → j < row_place t r → covered book k m j ≡ false
  element-header-not-covered = element-header_open book book-sound k m

-- without the right, what the desk's lookup answers does not depend on a covered octet
pub desk-blind : (k : ℕ) (copy table : List ℕ) (row : ℕ) (m n m_copy n_copy m_part n_part : Bor (List ℕ))
    → AtDesk book k copy table row m m_copy m_part → AtDesk book k copy table row n n_copy n_part → SameOpen book k m.now n.now → n_part.now ≡ m_part.now
desk-blind k copy table row m n m_copy n_copy m_part n_part a c s = desk-part book book-sound k copy table row a c s

-- ======== The same on the contracts of the public functions: of any answers that they allow.

-- a front part is no longer than it was asked for
front-room : (n : ℕ) (xs : List ℕ) {r : ℕ} → n ≤ r → length (take n xs) ≤ r
front-room n xs l = omega (arith, l, length-take n xs)

-- ---- the one call

module _ {k : ℕ} {m t c : List ℕ} {v : Verdict} {t' c' : List ℕ} (x : Called k m t c v t' c') where
  pub called_in_its_case : (j : ℕ) → j < length call_numbers → (v.code ≡ get_or call_numbers j 0) ↔ OwnWords (call_conditions book k m (length c) (length t)) j
  called_in_its_case j l = rw x.answers (call_in_its_case k m (length c) (length t) j l)

  pub called-one-of : OneOf call_numbers v
  called-one-of = rw x.answers (call_one-of k m (length c) (length t))

  pub called-refused : refuses v ≡ true → t' ≡ t
  called-refused e = x.table_left ∙ refusal-leaves-table k m (length c) t (rw x.answers at e)

  pub called-copy-stays : (Copies v → ⊥) → c' ≡ c
  called-copy-stays off = x.copy_left ∙ refusal-leaves-copy k m (length t) c (λ z. off (rw x.answers z))

  -- it accepts exactly where the copy has room and what is left is a table of the message with nothing mandatory short or missing, and all else as it was lent
  pub called_exactly : (v ≡ accepted) ↔ ((length m ≤ length c) × Leaves book k m t t')
  called_exactly = (
    λ a. (accepts_exactly k m (length c) t t').0 (sym x.answers ∙ a, sym x.table_left),
    λ y. x.answers ∙ ((accepts_exactly k m (length c) t t').1 y).0,
  )

  -- so all that is said of the rows of a table holds of what is left
  pub called-table : v ≡ accepted → IsTable book k m t'
  called-table a = (called_exactly.0 a).1.accepts.table

  -- and its standing 4 is as CR 8 says
  pub called-void : v ≡ accepted → (r : ℕ) → r < rows t' → (row_standing t' r ≡ void) ↔ (Report m t' r × (10 < points m t' r))
  called-void a = void_exactly k m (called_exactly.0 a).1.accepts.header t' (called-table a)

  -- with room for the copy it is what cleaner, builder and the form in parts are held to
  called-judged : length m ≤ length c → Judged k m t v t'
  called-judged l = record { answers = x.answers ∙ with_room k m (length c) (length t) l; table_left = x.table_left ∙ with_room-table k m (length c) t l }

  accepted-judged : v ≡ accepted → Judged k m t v t'
  accepted-judged a = called-judged (called_exactly.0 a).0

  -- where a copy is made
  module _ (made : Copies v) where
    copies : Copies (call_verdict book k m (length c) (length t))
    copies = rw x.answers at made

    pub called-holds : (j : ℕ) → j < length m → get_or c' j 0 ≡ cond (covered book k m j) 0 (get_or m j 0)
    called-holds j l = rw x.copy_left (copy_holds k m t c copies j l)

    pub called-stays : (j : ℕ) → length m ≤ j → get_or c' j 0 ≡ get_or c j 0
    called-stays j l = rw x.copy_left (copy-stays k m t c copies j l)

    called-front : take (length m) c' ≡ masked book k m
    called-front = copy-front book book-sound k m (framing k m t c copies) c (x.copy_left ∙ copy_writes k m (length t) c copies)

    -- the copy handed to the call gets the message's own answers: those above with the buffers that were first lent, and so with any others
    pub called-again : {w : Verdict} {u d : List ℕ} → Called k (take (length m) c') t c w u d → (w ≡ v) × (u ≡ t') × (d ≡ c')
    called-again = two-called (called_open k m (length t) c copies x.copy_left) x

    -- so table and copy are of one message: the table is the copy's own
    pub called-one-message : v ≡ accepted → IsTable book k (take (length m) c') t'
    called-one-message a = rw x.copy_left (copy-has-table k m t c copies (called_exactly.0 a).1.accepts.header t' (called-table a))

    pub called-again_with : {t₂ c₂ : List ℕ} {a w : Verdict} {l u e d : List ℕ} → Called k m t₂ c₂ a l e → Called k (take (length m) c') t₂ c₂ w u d → (w ≡ a) × (u ≡ l) × (d ≡ e)
    called-again_with = two-called (called_open k m (length t) c copies x.copy_left)

-- ---- the cleaner

module _ {k : ℕ} {m lent : List ℕ} {s : Sent} {left : List ℕ} (c : Cleans k m lent s left) where
  -- each of its numbers is given exactly where that check of rule 11.3 applies and none before it does
  pub cleaned_in_its_case : (j : ℕ) → j < length clean_numbers → (s.verdict.code ≡ get_or clean_numbers j 0) ↔ OwnCase (clean_checks book k m (length lent)) j
  cleaned_in_its_case j l = rw c.verdict_is (clean_case book k m (length lent) j l)

  pub cleaned-one-of : OneOf clean_numbers s.verdict
  cleaned-one-of = rw c.verdict_is (clean_codes book book-sound k m (length lent))

  -- a refusal writes nothing, and its length is 0
  pub cleaned-refused : refuses s.verdict ≡ true → (left ≡ lent) × (s.length ≡ 0)
  cleaned-refused = left_alone c

  -- it refuses as the call does with room for the copy and for any table, all five numbers alike; then 13 exactly where the buffer is shorter than the cleaned copy
  module _ {t₁ c₁ : List ℕ} {v : Verdict} {t₂ c₂ : List ℕ} (j : Called k m t₁ c₁ v t₂ c₂) (copy : length m ≤ length c₁) (room : used most_rows ≤ length t₁) where
    pub cleaned_as_judged : refuses v ≡ true → s.verdict ≡ v
    cleaned_as_judged = refused_as_judged c (called-judged j copy) room

    pub cleaned_exactly : (s.verdict ≡ accepted) ↔ ((v ≡ accepted) × (length (cleaned book k m) ≤ length lent))
    cleaned_exactly = accepted_exactly c (called-judged j copy) room

    pub cleaned-thirteen : (s.verdict ≡ refused 13 0) ↔ ((v ≡ accepted) × (length lent < length (cleaned book k m)))
    cleaned-thirteen = thirteen-by-room c (called-judged j copy) room

  module _ (a : s.verdict ≡ accepted) where
    -- the copy stands at the start of the buffer, with the length that is answered; what is past it stays
    pub cleaned-holds : take s.length left ≡ cleaned book k m
    cleaned-holds = is-copy c a

    pub cleaned-answers : s.length ≡ length (cleaned book k m)
    cleaned-answers = made c a

    pub cleaned-stays : drop s.length left ≡ drop s.length lent
    cleaned-stays = past-stays c a

    pub cleaned_shorter : s.length ≤ length m
    cleaned_shorter = no_longer c a

    -- the copy is accepted on the same kind where the message is, with a table no shorter and room for its own copy, every row kept: the message's kept rows in
    -- their order, with their types, instances and values, parents numbered anew
    pub cleaned-rows : {t₁ c₁ : List ℕ} {v : Verdict} {t d : List ℕ} → Called k m t₁ c₁ v t d → v ≡ accepted
        → {t₂ c₂ : List ℕ} {w : Verdict} {u e : List ℕ} → Called k (take s.length left) t₂ c₂ w u e → length t₁ ≤ length t₂ → s.length ≤ length c₂
        → (w ≡ accepted) × CleanRows m t (take s.length left) u
    cleaned-rows x z y l r = clean-judged_as c a (accepted-judged x z) z (called-judged y (front-room s.length left r)) l

    -- cleaned again it is itself; and so is a message with every row kept
    pub cleaned-twice : {lent₂ : List ℕ} {s₂ : Sent} {left₂ : List ℕ} → Cleans k (take s.length left) lent₂ s₂ left₂ → s.length ≤ length lent₂
        → (s₂.verdict ≡ accepted) × (s₂.length ≡ s.length) × (take s₂.length left₂ ≡ take s.length left)
    cleaned-twice = clean-once c a

    pub cleaned-same : Octets m → {t₁ c₁ : List ℕ} {v : Verdict} {t d : List ℕ} → Called k m t₁ c₁ v t d → v ≡ accepted → kept_count t ≡ rows t → take s.length left ≡ m
    cleaned-same o x z = whole_same c a o (accepted-judged x z) z

    -- the header is as it came, but for its length
    pub cleaned-header : (j : ℕ) → j < header_length m → j ≢ 2 → j ≢ 3 → octet left j ≡ octet m j
    cleaned-header = header-kept c a

    -- cleaned and masked, either first, with room: both are made, and are the same
    pub clean-and-mask : Octets m → {t₂ c₂ : List ℕ} {v₂ : Verdict} {u₂ d₂ : List ℕ} → Called k m t₂ c₂ v₂ u₂ d₂ → Copies v₂
        → {lent₃ : List ℕ} {s₃ : Sent} {left₃ : List ℕ} → Cleans k (take (length m) d₂) lent₃ s₃ left₃ → s.length ≤ length lent₃
        → {t₄ c₄ : List ℕ} {v₄ : Verdict} {u₄ d₄ : List ℕ} → Called k (take s.length left) t₄ c₄ v₄ u₄ d₄ → length t₂ ≤ length t₄ → s.length ≤ length c₄
        → (s₃.verdict ≡ accepted) × (v₄ ≡ accepted) × (s₃.length ≡ s.length) × (take s₃.length left₃ ≡ take s.length d₄)
    clean-and-mask o {t₂} {c₂} {v₂} {u₂} {d₂} x e {lent₃} {s₃} {left₃} y l {t₄} {c₄} {v₄} {u₄} {d₄} z h r =
        let w = (copies_exactly k m (length c₂) (length t₂)).0 (rw x.answers at e) in
        let fit : used (length (items book k m)) ≤ length t₂ = omega (arith, fits book book-sound k m (length c₂) (length t₂) w.1.1.0 w.1.1.1, w.1.1.2) in
        let f : v₄ ≡ accepted = (cleaned-rows x ((called-judged x w.0).answers ∙ accepted_too c a (length t₂) fit) z h r).0 in
        let z' : Called k (cleaned book k m) t₄ c₄ v₄ u₄ d₄ = rw cleaned-holds at z in
        let back : take s.length d₄ ≡ masked book k (cleaned book k m) = rw cleaned-answers (called-front z' (rw f)) in
        let g = commutes c a o d₂ (called-front x e) y l d₄ back in
        (g.0, f, g.1, g.2)

-- ---- the count of rows

module _ {k : ℕ} {m : List ℕ} {s : Count} (n : Counted k m s) where
  -- it refuses by 1 to 9 and 21 as the call does, whatever that is lent, and by nothing else; a refusal tells no rows
  pub counted-refused : refuses s.verdict ≡ true → s.rows ≡ 0
  counted-refused e = n.rows_is ∙ count_none book book-sound k m (rw n.verdict_is at e)

  pub counted-accepted : refuses s.verdict ≡ false → s.verdict ≡ accepted
  counted-accepted e = n.verdict_is ∙ count-accepted book book-sound k m (rw n.verdict_is at e)

  pub counted_as_called : {t c : List ℕ} {v : Verdict} {t' c' : List ℕ} → Called k m t c v t' c'
      → (refuses s.verdict ≡ true → v ≡ s.verdict) × (among v.code framing_numbers ≡ true → s.verdict ≡ v)
  counted_as_called {t} {c} x = (
    λ e. x.answers ∙ count-alike book book-sound k m (length c) (length t) (rw n.verdict_is at e) ∙ sym n.verdict_is,
    λ e. n.verdict_is ∙ count-only book book-sound k m (length c) (length t) (rw x.answers at e) ∙ sym x.answers,
  )

  pub counted-one-of : OneOf framing_numbers s.verdict
  counted-one-of = rw n.verdict_is (framing_codes book k m)

  -- where it does not, the message has a table, and its rows are those counted: so they are where the call accepts
  pub counted-has-table : refuses s.verdict ≡ false → Passed book k m × ((t : List ℕ) × IsTable book k m t)
  counted-has-table e = count-refuses book book-sound k m (rw n.verdict_is at e)

  pub counted-table : Passed book k m → (t : List ℕ) → IsTable book k m t → (s.verdict ≡ accepted) × (s.rows ≡ rows t)
  counted-table p t x = let w = count-table book book-sound k m p t x in (n.verdict_is ∙ w.0, n.rows_is ∙ w.1)

  pub counted_as_accepted : {t c : List ℕ} {v : Verdict} {t' c' : List ℕ} → Called k m t c v t' c' → v ≡ accepted → (s.verdict ≡ accepted) × (s.rows ≡ rows t')
  counted_as_accepted {t' = t'} x a = counted-table ((called_exactly x).0 a).1.accepts.header t' (called-table x a)

  -- nor does it refuse where the call does by 11 or 12: a copy is made there, too
  pub counted-late : {t c : List ℕ} {v : Verdict} {t' c' : List ℕ} → Called k m t c v t' c' → Copies v → s.verdict ≡ accepted
  counted-late {t} {c} x made =
      let w = (copies_exactly k m (length c) (length t)).0 (rw x.answers at made) in
      (counted-table w.1.0 w.1.1.0 w.1.1.1).0

  -- a table for so many rows is never met by 10, and one number less is where nothing else refuses before
  pub counted_suffices : {t c : List ℕ} {v : Verdict} {t' c' : List ℕ} → Called k m t c v t' c' → used s.rows ≤ length t → v.code ≡ 10 → ⊥
  counted_suffices {t} {c} x l e = count_room book book-sound k m (length c) (length t) (omega (arith, l, n.rows_is)) (rw x.answers at e)

  pub counted_needed : {t c : List ℕ} {v : Verdict} {t' c' : List ℕ} → Called k m t c v t' c' → refuses s.verdict ≡ false → length m ≤ length c → length t < used s.rows → v.code ≡ 10
  counted_needed {t} {c} x e l h =
      let w = counted-has-table e in
      ap (λ (u : Verdict). u.code) x.answers ∙ (ten_exactly k m (length c) (length t)).1 (l, (w.0, (w.1.0, w.1.1, omega (arith, h, (counted-table w.0 w.1.0 w.1.1).1))))

  pub counted-most : s.rows ≤ quarter_of (length m)
  counted-most = omega (arith, n.rows_is, count_most book book-sound k m)

  -- messages that differ in covered octets alone are counted alike, and so is a message's own copy
  pub both-counted : {m₂ : List ℕ} {s₂ : Count} → Counted k m₂ s₂ → SameOpen book k m m₂ → (s₂.verdict ≡ s.verdict) × (s₂.rows ≡ s.rows)
  both-counted {m₂} y o = let w = count_same book book-sound k m m₂ o in (y.verdict_is ∙ w.0 ∙ sym n.verdict_is, y.rows_is ∙ w.1 ∙ sym n.rows_is)

  pub counted-again : {t c : List ℕ} {v : Verdict} {t' c' : List ℕ} → Called k m t c v t' c' → Copies v → {s₂ : Count} → Counted k (take (length m) c') s₂ → (s₂.verdict ≡ s.verdict) × (s₂.rows ≡ s.rows)
  counted-again {t} {c} x made y = both-counted y (called_open k m (length t) c (rw x.answers at made) x.copy_left)

-- a table for the quarter of the octets after eight is never met by 10, and nothing need be asked
pub quarter_suffices : {k : ℕ} {m t c : List ℕ} {v : Verdict} {t' c' : List ℕ} → Called k m t c v t' c' → used (quarter_of (length m)) ≤ length t → v.code ≡ 10 → ⊥
quarter_suffices {k} {m} {t} {c} x l e = count_room book book-sound k m (length c) (length t) (omega (arith, l, count_most book book-sound k m)) (rw x.answers at e)

-- ---- the builder

module _ {teid sequence : ℕ} {t values lent : List ℕ} {s : Sent} {left : List ℕ} (c : Builds teid sequence t values lent s left) where
  -- a table too short for a header is 14 before all else
  pub built-short-table : length t < header_numbers → s.verdict ≡ refused 14 0
  built-short-table l = c.verdict_is ∙ short-table teid sequence t values (length lent) l

  -- of any other each of 1, 7, 21, 14, 15 and 16 is given exactly where its check applies and none before it does; nothing else is
  pub built_in_its_case : header_numbers ≤ length t → (j : ℕ) → j < length build_numbers
      → (s.verdict.code ≡ get_or build_numbers j 0) ↔ OwnCase (build_checks book (table_kind t) (table_type t) teid sequence t values (length lent)) j
  built_in_its_case h j l =
      rw (c.verdict_is, long-table teid sequence t values (length lent) h) (build_case book (table_kind t) (table_type t) teid sequence t values (length lent) j l)

  pub built-one-of : OneOf build_numbers s.verdict
  built-one-of = rw c.verdict_is (build_codes book teid sequence t values (length lent))

  -- and names nothing: cause, place, type and instance are 0
  pub built-alone : NumberAlone s.verdict
  built-alone = build-alone c

  -- a refusal writes nothing, and its length is 0
  pub built-refused : refuses s.verdict ≡ true → (left ≡ lent) × (s.length ≡ 0)
  built-refused = build-left-alone c

  module _ (a : s.verdict ≡ accepted) where
    -- the message stands at the start of the room, with the length that is answered; what is past it stays
    pub built-holds : take s.length left ≡ built_by book teid sequence t values
    built-holds = is-built c a

    pub built-stays : drop s.length left ≡ drop s.length lent
    built-stays = build-past-stays c a

    -- the call accepts it on the table's kind with every row kept, and its rows are those given: parents, types, instances, and the values that are no group's
    pub built-rows : {t₂ c₂ : List ℕ} {w : Verdict} {u d : List ℕ} → Called (table_kind t) (take s.length left) t₂ c₂ w u d → used (rows t) ≤ length t₂ → s.length ≤ length c₂
        → (w ≡ accepted) × SameRows t values (take s.length left) u
    built-rows x l r = built-judged c a (called-judged x (front-room s.length left r)) l

    -- it has the table's type, the TEID and the sequence number that were given; and no bit is set that nothing reads, in its header or in an element's
    pub built-header : HasHead (table_type t) teid sequence (take s.length left)
    built-header = built-head c a

    pub built_bits : {t₂ c₂ : List ℕ} {w : Verdict} {u d : List ℕ} → Called (table_kind t) (take s.length left) t₂ c₂ w u d → used (rows t) ≤ length t₂ → s.length ≤ length c₂
        → ZeroBits (take s.length left) u
    built_bits x l r = built-zero c a (called-judged x (front-room s.length left r)) l

-- a message that lost no row and has no bit set that nothing reads is what the builder makes of the call's table of it, its own octets lent as
-- the values and its header's numbers given again, where there is room
pub comes_back : {k : ℕ} {m t₁ c₁ : List ℕ} {v : Verdict} {t d : List ℕ} → Called k m t₁ c₁ v t d → v ≡ accepted → kept_count t ≡ rows t → Octets m → ZeroBits m t
    → {lent : List ℕ} {s : Sent} {left : List ℕ} → Builds (teid_of m) (sequence_of m) t m lent s left → length m ≤ length lent
    → (s.verdict ≡ accepted) × (s.length ≡ length m) × (take s.length left ≡ m)
comes_back x a = rebuilt-same (accepted-judged x a) a

-- ---- the exports: what the C receiver reads, two octets a number

-- a table lent as octets: the call is the one on the numbers read in them, so all that is said of the call holds of what is read
module _ {k : ℕ} {m t c : List ℕ} {v : Verdict} {t' c' : List ℕ} (x : CalledStored k m t c v t' c') where
  pub stored-called : Called k m (numbers_in t) c v (numbers_in t') c'
  stored-called = stored_as_called x

  -- it accepts exactly where the copy has room and a table is read that is accepted, in octets of the same length, and past those used they are as they were; on
  -- any other verdict all are
  pub stored_exactly : (v ≡ accepted) ↔ ((length m ≤ length c) × LeavesOctets book k m t t')
  stored_exactly = (stored-leaves x, leaves-stored x)

  pub stored_refused : refuses v ≡ true → t' ≡ t
  stored_refused = stored-stays x

  pub stored-again : Copies v → {w : Verdict} {u d : List ℕ} → CalledStored k (take (length m) c') t c w u d → (w ≡ v) × (u ≡ t') × (d ≡ c')
  stored-again made = two-stored (called_open k m (table_room t) c (rw x.answers at made) x.copy_left) x

-- the export to C
module _ {k : ℕ} {m t c f : List ℕ} {code : ℕ} {t' c' f' : List ℕ} (x : CalledOctets k m t c f code t' c' f') where
  abbrev verdict : Verdict
  verdict = call_verdict book k m (length c) (table_room t)

  stored : CalledStored k m t c verdict t' c'
  stored = octets-stored x

  is-accepted : code ≡ 0 → verdict ≡ accepted
  is-accepted e = zero-accepted call_numbers refl verdict (call_one-of k m (length c) (table_room t)) (sym x.answers ∙ e)

  pub octets_in_its_case : (j : ℕ) → j < length call_numbers → (code ≡ get_or call_numbers j 0) ↔ OwnWords (call_conditions book k m (length c) (table_room t)) j
  octets_in_its_case j l = rw x.answers (call_in_its_case k m (length c) (table_room t) j l)

  pub octets-one-of : (code ≡ 0) ⊎ (among code call_numbers ≡ true)
  octets-one-of = rw x.answers (code_of call_numbers verdict (call_one-of k m (length c) (table_room t)))

  -- the export leaves what the call leaves: the code is its verdict's, the copy is equal, and the table's numbers are those
  pub octets-called : {v : Verdict} {u d : List ℕ} → Called k m (numbers_in t) c v u d → (code ≡ v.code) × (numbers_in t' ≡ u) × (c' ≡ d)
  octets-called y =
      let z = stored-called stored in
      (x.answers ∙ ap (λ (w : Verdict). w.code) (z.answers ∙ sym y.answers), z.table_left ∙ sym y.table_left, z.copy_left ∙ sym y.copy_left)

  -- the code is 0 exactly where the copy has room and a table is read that is accepted, in octets of the same length, and past those used they are as they were
  pub octets_exactly : (code ≡ 0) ↔ ((length m ≤ length c) × LeavesOctets book k m t t')
  octets_exactly = (λ e. (stored_exactly stored).0 (is-accepted e), λ y. x.answers ∙ ap (λ (w : Verdict). w.code) ((stored_exactly stored).1 y))

  -- on any other the table's octets stay, and so does the copy unless it is 11 or 12
  pub octets-refused : 0 < code → t' ≡ t
  octets-refused l = stored_refused stored (lt-ltb 0 verdict.code (rw x.answers at l))

  pub octets-copy-stays : (among code copying_numbers ≡ true → ⊥) → c' ≡ c
  octets-copy-stays off = called-copy-stays (stored-called stored) (λ z. off (rw x.answers z))

  -- the five numbers that are read are the verdict's, the code first, if there is room for them; else nothing is written
  pub octets-five : five_octets ≤ length f → take 5 (numbers_in f') ≡ five (call_verdict book k m (length c) (table_room t))
  octets-five = five-read f f' verdict x.five_left

  pub octets-five-short : length f < five_octets → f' ≡ f
  octets-five-short = five-short f f' verdict x.five_left

  -- octets past the ten stay
  pub octets-five-stay : (i : ℕ) → five_octets ≤ i → get_or f' i 0 ≡ get_or f i 0
  octets-five-stay = five-stays f f' verdict x.five_left

  -- a copy that is made
  module _ (made : among code copying_numbers ≡ true) where
    copies_too : Copies verdict
    copies_too = rw x.answers at made

    pub octets-holds : (j : ℕ) → j < length m → get_or c' j 0 ≡ cond (covered book k m j) 0 (get_or m j 0)
    octets-holds = called-holds (stored-called stored) copies_too

    pub octets-stays : (j : ℕ) → length m ≤ j → get_or c' j 0 ≡ get_or c j 0
    octets-stays = called-stays (stored-called stored) copies_too

    -- handed to the export it gets the message's own code, table octets, copy and five numbers: those above with the buffers that were first lent, and so with
    -- any others
    pub octets-again : {d : ℕ} {u e g : List ℕ} → CalledOctets k (take (length m) c') t c f d u e g → (d ≡ code) × (u ≡ t') × (e ≡ c') × (g ≡ f')
    octets-again = two-octets (called_open k m (table_room t) c copies_too x.copy_left) x

    pub octets-again_with : {t₂ c₂ f₂ : List ℕ} {a d : ℕ} {l u o e h g : List ℕ} → CalledOctets k m t₂ c₂ f₂ a l o h → CalledOctets k (take (length m) c') t₂ c₂ f₂ d u e g
        → (d ≡ a) × (u ≡ l) × (e ≡ o) × (g ≡ h)
    octets-again_with = two-octets (called_open k m (table_room t) c copies_too x.copy_left)

module _ {k : ℕ} {m lent lent_answer : List ℕ} {code : ℕ} {left left_answer : List ℕ} (c : CleanedOctets k m lent lent_answer code left left_answer) where
  -- the cleaner's export leaves the copy that the cleaner leaves
  pub clean-octets-cleaned : (s : Sent) (copy : List ℕ) → Cleans k m lent s copy → (code ≡ s.verdict.code) × (left ≡ copy)
  clean-octets-cleaned s copy x = (c.answers ∙ sym (ap (λ (w : Verdict). w.code) x.verdict_is), c.clean_left ∙ sym x.out_left)

  -- and its six numbers, if there is room for them; else nothing is written
  pub clean-octets-six : (s : Sent) (copy : List ℕ) → Cleans k m lent s copy → answer_octets ≤ length lent_answer → take 6 (numbers_in left_answer) ≡ six s.verdict s.length
  clean-octets-six s copy x l =
      rw (x.verdict_is, x.length_is) (answer-read lent_answer left_answer (clean_verdict book k m (length lent)) (clean_length book k m (length lent)) c.answer_left l)

  pub clean-octets-one-of : (code ≡ 0) ⊎ (among code clean_numbers ≡ true)
  clean-octets-one-of = rw c.answers (code_of clean_numbers (clean_verdict book k m (length lent)) (clean_codes book book-sound k m (length lent)))

  -- octets past the twelve stay
  pub clean-octets-stay : (i : ℕ) → answer_octets ≤ i → get_or left_answer i 0 ≡ get_or lent_answer i 0
  clean-octets-stay = answer-stays lent_answer left_answer (clean_verdict book k m (length lent)) (clean_length book k m (length lent)) c.answer_left

  pub clean-octets-short : length lent_answer < answer_octets → left_answer ≡ lent_answer
  clean-octets-short = answer-short lent_answer left_answer (clean_verdict book k m (length lent)) (clean_length book k m (length lent)) c.answer_left

module _ {k : ℕ} {m lent_answer : List ℕ} {code : ℕ} {left_answer : List ℕ} (c : CountedOctets k m lent_answer code left_answer) where
  -- the count's export says what the count says, in six numbers if there is room for them; else nothing is written
  pub count-octets-counted : (s : Count) → Counted k m s → code ≡ s.verdict.code
  count-octets-counted s x = c.answers ∙ sym (ap (λ (w : Verdict). w.code) x.verdict_is)

  pub count-octets-six : (s : Count) → Counted k m s → answer_octets ≤ length lent_answer → take 6 (numbers_in left_answer) ≡ six s.verdict s.rows
  count-octets-six s x l = rw (x.verdict_is, x.rows_is) (answer-read lent_answer left_answer (count_verdict book k m) (count_rows book k m) c.answer_left l)

  pub count-octets-one-of : (code ≡ 0) ⊎ (among code framing_numbers ≡ true)
  count-octets-one-of = rw c.answers (code_of framing_numbers (count_verdict book k m) (framing_codes book k m))

  -- with two octets for each number of a table for so many rows, the call's export never gives 10
  pub count-octets_suffice : (s : Count) → Counted k m s → {t d f : List ℕ} {e : ℕ} {t' d' f' : List ℕ} → CalledOctets k m t d f e t' d' f' → 2 * used s.rows ≤ length t → e ≡ 10 → ⊥
  count-octets_suffice s x {t} {d} y l e = count_room book book-sound k m (length d) (table_room t) (omega (arith, l, x.rows_is)) (sym y.answers ∙ e)

  -- octets past the twelve stay
  pub count-octets-stay : (i : ℕ) → answer_octets ≤ i → get_or left_answer i 0 ≡ get_or lent_answer i 0
  count-octets-stay = answer-stays lent_answer left_answer (count_verdict book k m) (count_rows book k m) c.answer_left

  pub count-octets-short : length lent_answer < answer_octets → left_answer ≡ lent_answer
  count-octets-short = answer-short lent_answer left_answer (count_verdict book k m) (count_rows book k m) c.answer_left

module _ {teid sequence : ℕ} {t values lent lent_answer : List ℕ} {code : ℕ} {left left_answer : List ℕ} (c : BuiltOctets teid sequence t values lent lent_answer code left left_answer) where
  -- the builder's export leaves the message that the builder leaves, from the numbers that the table's octets are read as
  pub build-octets-built : (s : Sent) (room : List ℕ) → Builds teid sequence (numbers_in t) values lent s room → (code ≡ s.verdict.code) × (left ≡ room)
  build-octets-built s room x = (c.answers ∙ sym (ap (λ (w : Verdict). w.code) x.verdict_is), c.room_left ∙ sym x.room_left)

  -- and its six numbers, if there is room for them; else nothing is written
  pub build-octets-six : (s : Sent) (room : List ℕ) → Builds teid sequence (numbers_in t) values lent s room → answer_octets ≤ length lent_answer
      → take 6 (numbers_in left_answer) ≡ six s.verdict s.length
  build-octets-six s room x l =
      rw (x.verdict_is, x.length_is)
      (answer-read lent_answer left_answer (build_verdict book teid sequence (numbers_in t) values (length lent)) (build_length book teid sequence (numbers_in t) values (length lent)) c.answer_left l)

  pub build-octets-one-of : (code ≡ 0) ⊎ (among code build_numbers ≡ true)
  build-octets-one-of =
      rw c.answers (code_of build_numbers (build_verdict book teid sequence (numbers_in t) values (length lent)) (build_codes book teid sequence (numbers_in t) values (length lent)))

  -- octets past those of the six numbers stay, and so do all of a buffer that is too short
  pub build-octets-stay : (i : ℕ) → answer_octets ≤ i → get_or left_answer i 0 ≡ get_or lent_answer i 0
  build-octets-stay =
      answer-stays lent_answer left_answer (build_verdict book teid sequence (numbers_in t) values (length lent)) (build_length book teid sequence (numbers_in t) values (length lent)) c.answer_left

  pub build-octets-short : length lent_answer < answer_octets → left_answer ≡ lent_answer
  build-octets-short =
      answer-short lent_answer left_answer (build_verdict book teid sequence (numbers_in t) values (length lent)) (build_length book teid sequence (numbers_in t) values (length lent)) c.answer_left

-- ---- two messages of one length that differ in covered octets alone, and equal buffers

module _ {k : ℕ} {m n : List ℕ} (s : SameOpen book k m n) where
  pub both-called : {t c : List ℕ} {v w : Verdict} {t₁ t₂ c₁ c₂ : List ℕ} → Called k m t c v t₁ c₁ → Called k n t c w t₂ c₂ → (w ≡ v) × (t₂ ≡ t₁) × (c₂ ≡ c₁)
  both-called = two-called s

  pub both_stored : {t c : List ℕ} {v w : Verdict} {t₁ t₂ c₁ c₂ : List ℕ} → CalledStored k m t c v t₁ c₁ → CalledStored k n t c w t₂ c₂ → (w ≡ v) × (t₂ ≡ t₁) × (c₂ ≡ c₁)
  both_stored = two-stored s

  pub both-octets : {t c f : List ℕ} {d e : ℕ} {t₁ t₂ c₁ c₂ f₁ f₂ : List ℕ} → CalledOctets k m t c f d t₁ c₁ f₁ → CalledOctets k n t c f e t₂ c₂ f₂
      → (e ≡ d) × (t₂ ≡ t₁) × (c₂ ≡ c₁) × (f₂ ≡ f₁)
  both-octets = two-octets s

-- ---- the lookups, on a table that the call wrote

module _ {k : ℕ} {t₁ c₁ : List ℕ} {v : Verdict} {left c₂ : List ℕ} (message : Bor (List ℕ)) (c : Called k message.now t₁ c₁ v left c₂) (a : v ≡ accepted) where
  -- the desk's, with a copy of the message's length and either right: it finds each row below the count and no other, and answers where its value stands
  module _ (copy : Bor (List ℕ)) (same : length copy.now ≡ length message.now) (right : Bool) (r : ℕ) where
    pub desk_finds : (answer : Bool) → DeskFound k r right message.now copy.now left answer → (answer ≡ true) ↔ (r < rows left)
    desk_finds answer e = rw e (desk-found book k message.now left (called-table c a) (length copy.now) same r)

    pub desk-answers : r < rows left → (part : Bor (List ℕ)) → Desk k r right message copy left part → Stands (cond right message copy) (value_of left r) part
    desk-answers l part d = rw (desk-span book k message.now left (called-table c a) (length copy.now) same r l) at d

  -- the plain one: it finds a pair exactly where a kept row with parent 0 has it, and answers where the first such row's value stands
  pub plain_finds : (y i : ℕ) (answer : Bool) → PlainFound k y i message.now left answer → (answer ≡ true) ↔ ((r : ℕ) × TopRow left y i r)
  plain_finds y i answer e = rw e (plain-found book k message.now left (called-table c a) y i)

  pub plain-answers : (y i r : ℕ) → FirstTopRow left y i r → (part : Bor (List ℕ)) → Plain k y i message left part → Stands message (value_of left r) part
  plain-answers y i r f part d = rw (plain-span book k message.now left (called-table c a) y i r f) at d

  -- the table agrees with itself, and names the message's type and the kind
  pub called-agrees : (is_of k message.now left ≡ true) × (table_type left ≡ message_type message.now) × (table_kind left ≡ k)
  called-agrees = let t = called-table c a in (is-of book k message.now left t, t.right.of.of_type, t.right.of.of_kind)

  -- and such a part lies in the message
  pub found_in_message : (r : ℕ) → r < rows left → row_end left r ≤ length message.now
  found_in_message = row_in_message k message.now left (called-table c a)

-- ---- the lookups, on a table of something else: its header disagrees with itself, or names another kind or another type than the message's, or the
-- message has none. Neither finds anything, and the part answered is the empty one at the start.

not-of : (k : ℕ) (m t : List ℕ) → SomethingElse k m t → is_of k m t ≡ false
not-of k m t x = go x.is
  where
    go : (reads_as_cut t || disagrees t ≡ true) ⊎ ((table_kind t ≢ k) ⊎ ((table_type t ≢ message_type m) ⊎ (length m ≤ 1))) → is_of k m t ≡ false
    go (inl e) = other-header k m t e
    go (inr (inl n)) = other-kind k m t n
    go (inr (inr (inl n))) = other_type k m t n
    go (inr (inr (inr l))) = no_type k m t l

module _ (k : ℕ) (message : Bor (List ℕ)) (t : List ℕ) (x : SomethingElse k message.now t) where
  pub plain_other : (y i : ℕ) (answer : Bool) → PlainFound k y i message.now t answer → answer ≡ false
  plain_other y i answer e = e ∙ ap (λ (s : Span). s.there) (plain-nowhere k message.now t (not-of k message.now t x) y i)

  pub plain-other-part : (y i : ℕ) (part : Bor (List ℕ)) → Plain k y i message t part → Stands message nowhere part
  plain-other-part y i part d = rw (plain-nowhere k message.now t (not-of k message.now t x) y i) at d

  pub desk-other : (r : ℕ) (right : Bool) (copy : List ℕ) (answer : Bool) → DeskFound k r right message.now copy t answer → answer ≡ false
  desk-other r right copy answer e = e ∙ ap (λ (s : Span). s.there) (desk-nowhere k message.now t (not-of k message.now t x) r (length copy))

  pub desk-other-part : (r : ℕ) (right : Bool) (copy part : Bor (List ℕ)) → Desk k r right message copy t part → Stands (cond right message copy) nowhere part
  desk-other-part r right copy part d = rw (desk-nowhere k message.now t (not-of k message.now t x) r (length copy.now)) at d
