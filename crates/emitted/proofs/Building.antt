-- The builder, by any listings that pass the test `sound`: what is built is accepted with every row kept, and its rows are the rows given. Assumes nothing.
--     build-accepted   16 says so                       build-rows    parents, types, last header octets and values
--     build-length     the length that 15 measures      instances     a row's instance is the low four bits of its last header octet
use mathlib.Core.Path.{◌≡◌, refl, sym, ap, ◌∙◌}
use mathlib.Core.Bool.{Bool, true, false, cond, not}
use mathlib.Core.List.{List, [], ◌∷◌}
use Prim.Native.Nat.{ℕ, zero, suc, ◌+◌, ◌/◌, ◌%◌, ◌≤◌, ◌<◌}
use native.Mathlib.Omega.{arith}
use borrow.Author.Tests.{eq-eqb, ltb-false, not-false}
use lib.Dec.{eqb, ltb}
use lib.ListN.{length, drop}
use Rattle.rules.specs.Sizes.{largest_message}
use Rattle.rules.specs.Framing.{octet, flag_t, header_length}
use Rattle.rules.specs.Listings.{Book}
use Rattle.rules.specs.Standing.{Item, fresh, kept, item_of}
use Rattle.rules.specs.Taking.{body_level}
use Rattle.rules.specs.Values.{row_count, table_type, table_kind, row_standing}
use Rattle.rules.specs.Verdicts.{refused, check, refuses, items}
use Rattle.rules.specs.Met.{Met, ends, alone, group}
use Rattle.rules.specs.Sound.{sound}
use Rattle.rules.specs.declared.Verdict.{Verdict}
use Rattle.rules.proofs.Rows.{Every, every_append, body-met}
use Rattle.rules.proofs.Checks.{AllPass, all_pass, check-off}
use Rattle.rules.specs.Emitting.{Piece, sizes, emitted, remaining, written, accepted_whole}
use Rattle.rules.specs.Cleaned.{pieces}
use Rattle.rules.specs.Built.{headed_checks, build_verdict, built_by, first_of, rest_of, given, givens, given_rows, depth_first, has_teid, rest_given, built_length, too_large, built, build_checks, late_verdict, build_length}
use Rattle.rules.proofs.Reasons.{neither, NoReason, no_reason}
use Rattle.emitted.proofs.Forests.{grown, grows, grown-size}
use Rattle.emitted.proofs.Again.{Here, Counts, again, remaining_in, remaining_nil}
use Rattle.emitted.proofs.Runs.{inst-is, value-here, rest-here}
use Rattle.emitted.proofs.Wholes.{Wholly, accepted-wholly}
use Rattle.emitted.proofs.Cleaning.{here-from}
use Rattle.emitted.proofs.Written.{written-body, written-octets}
use Rattle.emitted.proofs.Parsing.{AllSit, Whole, parsed}

-- ---- instances

pub instances : {b : Book} {k v : ℕ} {m : List ℕ} {p n at : ℕ} {xs : List ℕ} {es : List Item} → Met b k v m p n at xs es → (w : List ℕ) → Here w at xs
    → Every (λ i. i.inst ≡ octet w (i.place + 3) % 16) es
unfolding Every item_of
instances ends w h = tt
instances (alone {at = at} {xs = xs} d a e t) w h = (sym (inst-is w at xs d a h), instances t w (rest-here w at xs d a h))
instances (group {at = at} {xs = xs} {is = is} {es = es} d g a e i t) w h = (
  sym (inst-is w at xs d a h),
  every_append (λ i. i.inst ≡ octet w (i.place + 3) % 16) is es (instances i w (value-here w at xs d a h)) (instances t w (rest-here w at xs d a h)),
)

-- ---- rows that all stay keep their numbers

pub counts_all : (n : ℕ) (ps : List Piece) → AllSit ps → Counts (λ r. r) n ps
unfolding AllSit Counts
counts_all n [] a = tt
counts_all n (x ∷ ps) a = (rw a.0.stay, counts_all (n + 1) ps a.1)

pub remaining-all : (ps : List Piece) → AllSit ps → remaining (λ r. r) ps ≡ ps
unfolding AllSit
remaining-all [] a = remaining_nil (λ r. r)
remaining-all (x ∷ ps) a = remaining_in (λ r. r) x ps a.0.stay ∙ ap (λ (qs : List Piece). x ∷ qs) (remaining-all ps a.1)

-- ---- the rows given

sit_given : (t values : List ℕ) (r n : ℕ) → ((j : ℕ) → r ≤ j → j < r + n → row_standing t j ≡ kept) → AllSit (givens t values r n)
unfolding AllSit givens given
sit_given t values r zero f = tt
sit_given t values r (suc n) f =
    (record { stay = eq-eqb (row_standing t r) kept (f r (omega arith) (omega arith)); empty = λ g. rw g }, sit_given t values (suc r) n (λ j l c. f j (omega arith) (omega arith)))

off : (a : Bool) (v : Verdict) → refuses v ≡ true → refuses (check a v) ≡ false → a ≡ false
off a v r e = sym (check-off a v r) ∙ e

module _ (b : Book) (fine : sound b ≡ true) (k typ teid sequence : ℕ) (t values : List ℕ) where
  abbrev made : List ℕ
  made = built b k typ teid sequence t values

  abbrev given-rows : List Piece
  given-rows = given_rows t values

  abbrev front : List ℕ
  front = rest_given b k typ teid sequence t values

  abbrev opening : ℕ
  opening = first_of (has_teid b k typ teid sequence t values)

  module _ (s : AllSit given-rows) (deep : depth_first (0 ∷ []) 0 given-rows ≡ true) where
    tree : Whole given-rows
    tree = parsed given-rows s deep

    grows-given : emitted 0 given-rows ≡ grown tree.forest
    grows-given = ap (emitted 0) (sym tree.rows_are) ∙ grows tree.forest (omega arith)

    made-is : made ≡ written opening typ front (grown tree.forest)
    unfolding built
    made-is = rw grows-given

    pub made-length : length made ≡ built_length b k typ teid sequence t values
    made-length =
        omega (arith, ap length made-is, written-octets opening typ front (grown tree.forest), grown-size tree.forest, ap sizes tree.rows_are)

    header-by : (c : Bool) (xs : List ℕ) → cond (eqb (octet (first_of c ∷ xs) 0 / 8 % 2) 1) 12 8 ≡ 4 + length (rest_of c teid sequence)
    header-by true xs = refl
    header-by false xs = refl

    made-header : header_length made ≡ 4 + length front
    unfolding header_length flag_t
    made-header =
        rw made-is (header-by (has_teid b k typ teid sequence t values) (drop 1 (written opening typ front (grown tree.forest))))

    made-body : drop (header_length made) made ≡ grown tree.forest
    made-body = rw (made-header, made-is) (written-body opening typ front (grown tree.forest))

    pub made-rows : (es : List Item) → Wholly b k made es → pieces made es ≡ given-rows
    made-rows es a =
        let d : Met b k (body_level b made) fresh 0 0 (header_length made) (drop (header_length made) made) es = body-met b k made es a.taken_whole in
        let fs : AllSit tree.rows = rw tree.rows_are s in
        let here : Here made (header_length made) (grown tree.forest) = rw made-body at (here-from made (header_length made)) in
        again b fine k made (λ r. r) tree.forest (body_level b made) (header_length made) fresh es (rw made-body at d) a.all_kept (counts_all 0 tree.rows fs) here
        ∙ remaining-all tree.rows fs
        ∙ tree.rows_are

  module _ (room : ℕ) (ok : refuses (late_verdict b k typ teid sequence t values room) ≡ false) where
    passes : AllPass (build_checks b k typ teid sequence t values room)
    passes = (all_pass (build_checks b k typ teid sequence t values room)).0 ok

    pub right : NoReason sequence t values
    unfolding build_checks AllPass
    right = no_reason sequence t values (off _ (refused 14 0) refl passes.1.1.1.0)

    sit_ok : AllSit given-rows
    sit_ok = sit_given t values 0 (row_count t) (λ j l c. (right.each j (omega arith)).stand)

    room-ok : (ltb largest_message (built_length b k typ teid sequence t values) ≡ false) × (ltb room (built_length b k typ teid sequence t values) ≡ false)
    unfolding build_checks AllPass
    room-ok =
        neither (ltb largest_message (built_length b k typ teid sequence t values)) (ltb room (built_length b k typ teid sequence t values))
        (off (too_large b k typ teid sequence t values room) (refused 15 0) refl passes.1.1.1.1.0)

    -- it is accepted with every row kept
    pub build-accepted : accepted_whole b k made ≡ true
    unfolding build_checks AllPass
    build-accepted = not-false (accepted_whole b k made) (off (not (accepted_whole b k made)) (refused 16 0) refl passes.1.1.1.1.1.0)

    -- and its rows are the rows given: parents, types, last header octets, and the values of those that are no group
    pub build-rows : pieces made (items b k made) ≡ given-rows
    build-rows =
        let r = accepted-wholly b k made build-accepted in
        rw r.1.taken_whole (made-rows sit_ok right.deep r.0 r.1)

    -- it has the length that 15 measures, and lies in the room
    pub build-length : length made ≡ built_length b k typ teid sequence t values
    build-length = made-length sit_ok right.deep

    pub build-fits : (length made ≤ largest_message) × (length made ≤ room)
    build-fits = (
      omega (arith, build-length, ltb-false largest_message (built_length b k typ teid sequence t values) room-ok.0),
      omega (arith, build-length, ltb-false room (built_length b k typ teid sequence t values) room-ok.1),
    )

-- where nothing refuses, the type and the kind are those of the header, and the checks after the first pass
module _ (b : Book) (fine : sound b ≡ true) (teid sequence : ℕ) (t values : List ℕ) where
  pub headed-pass : (room : ℕ) → refuses (build_verdict b teid sequence t values room) ≡ false → refuses (late_verdict b (table_kind t) (table_type t) teid sequence t values room) ≡ false
  unfolding headed_checks AllPass
  headed-pass room ok =
      let a = (all_pass (headed_checks b teid sequence t values room)).0 ok in
      (all_pass (build_checks b (table_kind t) (table_type t) teid sequence t values room)).1 a.1

  -- the length that is answered
  pub build-most : (room : ℕ) → build_length b teid sequence t values room ≤ largest_message
  unfolding build_length
  build-most room = go (refuses (build_verdict b teid sequence t values room)) refl
    where
      go : (c : Bool) → refuses (build_verdict b teid sequence t values room) ≡ c → cond c 0 (length (built_by b teid sequence t values)) ≤ largest_message
      go true e = (omega arith)
      go false e = (build-fits b fine (table_kind t) (table_type t) teid sequence t values room (headed-pass room e)).0
