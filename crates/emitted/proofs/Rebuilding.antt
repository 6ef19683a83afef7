-- An accepted message with every row kept and ignored bits zero, rebuilt from itself, comes back octet for octet. Assumes nothing.
--     rebuilt           it comes back              rebuilt-accepted   where the room holds it, no check applies
use mathlib.Core.Path.{◌≡◌, refl, sym, ap, ◌∙◌}
use mathlib.Core.Bool.{Bool, true, false}
use mathlib.Core.List.{List, [], ◌∷◌, ◌++◌}
use Prim.Native.Nat.{ℕ, zero, suc, ◌+◌, ◌-◌, ◌*◌, ◌/◌, ◌%◌, ◌≤◌, ◌<◌}
use native.Mathlib.Omega.{arith}
use native.Mathlib.Decide.{ℕ_discrete}
use borrow.Author.Tests.{eqb-true, eqb-false, eq-eqb, le-ltb}
use lib.Dec.{eqb}
use lib.ListN.{length, take, drop, get_or, length-append, length-drop, get_or-append}
use lib.Seq.{get_or-append-add, drop-cons, take-length}
use Rattle.rules.specs.Sizes.{largest_message, header_numbers, row_numbers, used}
use Rattle.rules.specs.Framing.{octet, version, flag_p, flag_t, message_type, header_length}
use Rattle.rules.specs.Listings.{Book, message_of}
use Rattle.rules.specs.Standing.{Item, fresh, kept}
use Rattle.rules.specs.Taking.{whole, taken, body_level}
use Rattle.rules.specs.Table.{row, rows_of, kept_rows, header, table_of, no_item, nth}
use Rattle.rules.specs.Values.{row_count, cell, row_place}
use Rattle.rules.specs.Verdicts.{refused, check, refuses}
use Rattle.rules.specs.Met.{Met}
use Rattle.rules.specs.Sound.{sound}
use Rattle.rules.specs.declared.Verdict.{Verdict}
use Rattle.rules.proofs.Rows.{Every, every-at, body-met, header-least, in_rows, rows-length, Octets, octets-drop, Fits, all_fit}
use Rattle.rules.proofs.Header.{Passed}
use Rattle.rules.proofs.Checks.{AllPass, all_pass, check-off}
use Rattle.rules.specs.Emitting.{Piece, emitted, accepted_whole}
use Rattle.rules.specs.Cleaned.{received, pieces}
use Rattle.rules.specs.Built.{first_of, rest_of, teid_of, sequence_of, ZeroBits, given, givens, given_rows, depth_first, built_length, built, build_checks, late_verdict, headed_checks, build_verdict, built_by}
use Rattle.rules.proofs.Reasons.{RowRight, NoReason, none-holds}
use Rattle.emitted.proofs.Forests.{grows}
use Rattle.emitted.proofs.Again.{Kept}
use Rattle.emitted.proofs.Same.{Same, same-run}
use Rattle.emitted.proofs.Wholes.{Wholly, accepted-wholly, all-kept-rows}
use Rattle.emitted.proofs.Cleaning.{here-from, written-own, front-body}
use Rattle.emitted.proofs.Parsing.{AllSit, depth-first}
use Rattle.emitted.proofs.Building.{instances, made-length}

-- ---- the numbers of a table

module _ (typ k : ℕ) (es : List Item) (extra : List ℕ) where
  abbrev lent : List ℕ
  lent = table_of typ k es ++ extra

  pub table-length : length (table_of typ k es) ≡ used (length es)
  unfolding table_of header
  table-length = omega (arith, rows-length es, length-append (length es ∷ kept_rows es ∷ header_numbers ∷ used (length es) ∷ typ ∷ k ∷ []) (rows_of es))

  pub cell-is : (r c : ℕ) → r < length es → c < row_numbers → cell (table_of typ k es ++ extra) r c ≡ get_or (row (nth es r)) c 0
  unfolding table_of header
  cell-is r c l h =
      let a : used r + c < length (table_of typ k es) = omega (arith, table-length) in
      let e : used r + c ≡ length (length es ∷ kept_rows es ∷ header_numbers ∷ used (length es) ∷ typ ∷ k ∷ []) + (row_numbers * r + c) = omega arith in
      get_or-append (table_of typ k es) extra 0 (used r + c) a
      ∙ rw e (get_or-append-add (length es ∷ kept_rows es ∷ header_numbers ∷ used (length es) ∷ typ ∷ k ∷ []) (rows_of es) (row_numbers * r + c) 0)
      ∙ in_rows es r c l h

  pub count_is : row_count (table_of typ k es ++ extra) ≡ length es
  unfolding table_of header
  count_is = refl

  -- a row of the table as a row of the message
  module _ (m : List ℕ) (ins : Every (λ i. i.inst ≡ octet m (i.place + 3) % 16) es) (zero_bits : (r : ℕ) → r < length es → octet m ((nth es r).place + 3) < 16) where
    same-piece : (p p' t t' f f' s s' : ℕ) (u u' : List ℕ) → p ≡ p' → t ≡ t' → f ≡ f' → s ≡ s' → u ≡ u'
        → ◌≡◌ {A = Piece} (record { parent = p; typ = t; fourth = f; stand = s; value = u }) (record { parent = p'; typ = t'; fourth = f'; stand = s'; value = u' })
    same-piece p p' t t' f f' s s' u u' a c d e g = rw (a, c, d, e, g)

    row-given : (r : ℕ) → r < length es → given (table_of typ k es ++ extra) m r ≡ received m (nth es r)
    unfolding given received
    row-given r l =
        let i = nth es r in
        let a = every-at (λ (i : Item). i.inst ≡ octet m (i.place + 3) % 16) es ins r l in
        let z = zero_bits r l in
        same-piece _ _ _ _ _ _ _ _ _ _ (cell-is r 0 l (omega arith)) (cell-is r 1 l (omega arith)) (cell-is r 2 l (omega arith) ∙ omega (arith, a, z)) (cell-is r 5 l (omega arith))
        (rw (cell-is r 1 l (omega arith), cell-is r 3 l (omega arith), cell-is r 4 l (omega arith)))

    rows-given : (n r : ℕ) → r + n ≤ length es → givens (table_of typ k es ++ extra) m r n ≡ pieces m (take n (drop r es))
    unfolding givens pieces
    rows-given zero r l = refl
    rows-given (suc n) r l = rw (row-given r (omega arith), rows-given n (suc r) (omega arith), drop-cons es r no_item (omega arith))

    pub all-given : givens (table_of typ k es ++ extra) m 0 (length es) ≡ pieces m es
    all-given = rows-given (length es) 0 (omega arith) ∙ ap (pieces m) (take-length es)

sits-all : (m : List ℕ) (es : List Item) → Every Kept es → AllSit (pieces m es)
unfolding Every AllSit pieces received
sits-all m [] a = tt
sits-all m (i ∷ es) a = (record { stay = eq-eqb i.stand kept a.0; empty = λ g. rw g }, sits-all m es a.1)

-- ---- the header

-- n octets from `at` on, one by one
octets_from : List ℕ → ℕ → ℕ → List ℕ
octets_from m at zero = []
octets_from m at (suc n) = octet m at ∷ octets_from m (suc at) n

octets-from : (m : List ℕ) (n at : ℕ) → at + n ≤ length m → take n (drop at m) ≡ octets_from m at n
unfolding octets_from
octets-from m zero at l = refl
octets-from m (suc n) at l = rw (drop-cons m at 0 (omega arith), octets-from m n (suc at) (omega arith))

sixteenth : (x : ℕ) → x / 32 ≡ 2 → x / 16 % 2 ≡ 0 → x / 16 ≡ 4
sixteenth x v u = omega arith

even_eight : (w : ℕ) → 8 ≤ w → w ≤ 9 → w % 2 ≡ 0 → Dec (w ≡ 9) → w ≡ 8
even_eight w a c e (yes z) = let q : 9 % 2 ≡ 0 = rw z at e in absurd (omega arith)
even_eight w a c e (no z) = omega arith

module _ (m : List ℕ) (o : Octets m) where
  four-octets : (a c d e : ℕ) → a < 256 → c < 256 → d < 256 → e < 256 → (t : ℕ) → t ≡ a * 16777216 + c * 65536 + d * 256 + e
      → (t / 16777216 ≡ a) × (t / 65536 % 256 ≡ c) × (t / 256 % 256 ≡ d) × (t % 256 ≡ e)
  four-octets a c d e la lc ld le t q = (omega arith, omega arith, omega arith, omega arith)

  three-octets : (a c d : ℕ) → a < 256 → c < 256 → d < 256 → (s : ℕ) → s ≡ a * 65536 + c * 256 + d → (s / 65536 ≡ a) × (s / 256 % 256 ≡ c) × (s % 256 ≡ d)
  three-octets a c d la lc ld s q = (omega arith, omega arith, omega arith)

  -- what follows the length, of a header with a TEID and of one without
  rest_with : 12 ≤ length m → octet m 11 ≡ 0 → (s : ℕ) → s ≡ octet m 8 * 65536 + octet m 9 * 256 + octet m 10 → rest_of true (teid_of m) s ≡ take 8 (drop 4 m)
  unfolding teid_of octets_from
  rest_with l z s e =
      let t = four-octets (octet m 4) (octet m 5) (octet m 6) (octet m 7) (o 4) (o 5) (o 6) (o 7) (teid_of m) refl in
      let q = three-octets (octet m 8) (octet m 9) (octet m 10) (o 8) (o 9) (o 10) s e in
      rw (t.0, t.1, t.2, t.3, q.0, q.1, q.2, octets-from m 8 4 (omega arith), z)

  rest-without : 8 ≤ length m → octet m 7 ≡ 0 → (t s : ℕ) → s ≡ octet m 4 * 65536 + octet m 5 * 256 + octet m 6 → rest_of false t s ≡ take 4 (drop 4 m)
  unfolding octets_from
  rest-without l z t s e =
      let q = three-octets (octet m 4) (octet m 5) (octet m 6) (o 4) (o 5) (o 6) s e in
      rw (q.0, q.1, q.2, octets-from m 4 4 (omega arith), z)

  rest-by : (c : Bool) → flag_t m ≡ c → header_length m ≤ length m → octet m (header_length m - 1) ≡ 0 → rest_of c (teid_of m) (sequence_of m) ≡ take (header_length m - 4) (drop 4 m)
  unfolding header_length sequence_of
  rest-by true e l z = rw e (rest_with (rw e at l) (rw e at z) _ refl)
  rest-by false e l z = rw e (rest-without (rw e at l) (rw e at z) (teid_of m) _ refl)

  sequence-most : sequence_of m ≤ 16777215
  unfolding sequence_of
  sequence-most = omega (arith, o (header_length m - 4), o (header_length m - 3), o (header_length m - 2))

  first_by : (x : ℕ) → x / 32 ≡ 2 → eqb (x / 16 % 2) 1 ≡ false → x % 8 ≡ 0 → (c : Bool) → eqb (x / 8 % 2) 1 ≡ c → first_of c ≡ x
  first_by x v p z true e =
      let a : x / 8 % 2 ≡ 1 = eqb-true (x / 8 % 2) 1 e in
      let n = eqb-false (x / 16 % 2) 1 p in
      let u : x / 16 % 2 ≡ 0 = omega (arith, n) in
      let h : x / 16 ≡ 4 = sixteenth x v u in
      let w : x / 8 ≡ 9 = omega arith in
      omega arith
  first_by x v p z false e =
      let a = eqb-false (x / 8 % 2) 1 e in
      let n = eqb-false (x / 16 % 2) 1 p in
      let u : x / 16 % 2 ≡ 0 = omega (arith, n) in
      let d : x / 8 % 2 ≡ 0 = omega (arith, a) in
      let h : x / 16 ≡ 4 = sixteenth x v u in
      let w : x / 8 ≡ 8 = even_eight (x / 8) (omega arith) (omega arith) d (ℕ_discrete (x / 8) 9) in
      omega arith

-- ---- the theorem

module _ (b : Book) (fine : sound b ≡ true) (k : ℕ) (m : List ℕ) (o : Octets m) (ok : accepted_whole b k m ≡ true) (es : List Item) (taking : taken b k m ≡ whole es)
    (extra : List ℕ) (bits : ZeroBits m (table_of (message_type m) k es ++ extra)) where
  abbrev table : List ℕ
  table = table_of (message_type m) k es ++ extra

  own : Wholly b k m es
  own =
      let r = accepted-wholly b k m ok in
      let c : whole r.0 ≡ whole es = sym r.1.taken_whole ∙ taking in
      let e : r.0 ≡ es = cc in
      rw e at r.1

  passed : Passed b k m
  passed = own.passed

  met : Met b k (body_level b m) fresh 0 0 (header_length m) (drop (header_length m) m) es
  met = body-met b k m es taking

  low_bits : (r : ℕ) → r < length es → octet m ((nth es r).place + 3) < 16
  low_bits r l =
      let e : row_place table r - 1 ≡ (nth es r).place + 3 = omega (arith, cell-is (message_type m) k es extra r 3 l (omega arith)) in
      rw e at (bits.elements r (omega (arith, count_is (message_type m) k es extra)))

  rows_are : given_rows table m ≡ pieces m es
  rows_are = ap (givens table m 0) (count_is (message_type m) k es extra) ∙ all-given (message_type m) k es extra m (instances met m (here-from m (header_length m))) low_bits

  self : Same b fine k m 0 0 (drop (header_length m) m) es
  self = same-run b fine k m met own.all_kept (octets-drop (header_length m) m o) (here-from m (header_length m))

  emits : emitted 0 (pieces m es) ≡ drop (header_length m) m
  emits = ap (emitted 0) (sym self.rows_are) ∙ grows self.forest (omega arith) ∙ self.grows_it

  flag : flag_t m ≡ (message_of b (message_type m)).teid
  flag = passed.t_right

  pub rebuilt : built b k (message_type m) (teid_of m) (sequence_of m) table m ≡ m
  unfolding built version flag_p flag_t message_type
  rebuilt =
      let f : first_of (message_of b (message_type m)).teid ≡ octet m 0 = first_by m o (octet m 0) passed.version_2 passed.no_p bits.flags (message_of b (message_type m)).teid flag in
      let r : rest_of (message_of b (message_type m)).teid (teid_of m) (sequence_of m) ≡ take (header_length m - 4) (drop 4 m) =
      rest-by m o (message_of b (message_type m)).teid flag passed.has_header bits.spare in
      rw (f, r, rows_are, emits)
      (written-own m (take (header_length m - 4) (drop 4 m)) (drop (header_length m) m) (omega (arith, header-least m, passed.has_header)) passed.length_right o
      (front-body m (header_length m) (omega (arith, header-least m))))

  -- every row fits: its type, its instance, and where its value ends
  fit : (r : ℕ) → r < length es → Fits (0 + length es) (header_length m + length (drop (header_length m) m)) (nth es r)
  fit r l = every-at (Fits (0 + length es) (header_length m + length (drop (header_length m) m))) es (all_fit met (octets-drop (header_length m) m o) (omega arith)) r l

  all_sit : AllSit (pieces m es)
  all_sit = sits-all m es own.all_kept

  deep : depth_first (0 ∷ []) 0 (given_rows table m) ≡ true
  deep = rw (rows_are, ← self.rows_are) (depth-first self.forest (rw self.rows_are all_sit))

  row-right : (r : ℕ) → r < length es → RowRight table m r
  row-right r l =
      let c = cell-is (message_type m) k es extra r in
      record {
        stand = c 5 l (omega arith) ∙ every-at Kept es own.all_kept r l;
        typ = omega (arith, c 1 l (omega arith), (fit r l).typ);
        inst = omega (arith, c 2 l (omega arith), (fit r l).inst);
        there = λ g. omega (arith, c 3 l (omega arith), c 4 l (omega arith), (fit r l).ends, length-drop (header_length m) m, passed.has_header);
      }

  -- its own table is right for it
  own-right : NoReason (sequence_of m) table m
  unfolding table_of header
  own-right = record {
    long = omega (arith, table-length (message_type m) k es extra, length-append (table_of (message_type m) k es) extra);
    all_there = omega (arith, table-length (message_type m) k es extra, length-append (table_of (message_type m) k es) extra);
    kept_is = all-kept-rows es own.all_kept;
    place_is = refl;
    used_is = refl;
    deep = deep;
    each = row-right;
    low = sequence-most m o;
  }

  built-length : built_length b k (message_type m) (teid_of m) (sequence_of m) table m ≡ length m
  built-length =
      sym (made-length b fine k (message_type m) (teid_of m) (sequence_of m) table m (rw rows_are all_sit) deep) ∙ ap length rebuilt

  passing : (a : Bool) (v : Verdict) → refuses v ≡ true → a ≡ false → refuses (check a v) ≡ false
  passing a v r e = check-off a v r ∙ e

  -- where the room holds it, no check applies
  late-accepted : (room : ℕ) → length m ≤ room → refuses (late_verdict b k (message_type m) (teid_of m) (sequence_of m) table m room) ≡ false
  unfolding build_checks AllPass
  late-accepted room l =
      (all_pass (build_checks b k (message_type m) (teid_of m) (sequence_of m) table m room)).1 (
        passing _ (refused 1 0) refl (rw passed.kind),
        (
          passing _ (refused 7 0) refl (rw passed.listed),
          (
            passing _ (refused 21 0) refl (rw passed.on_kind),
            (
              passing _ (refused 14 0) refl (none-holds (sequence_of m) table m own-right),
              (
                passing _ (refused 15 0) refl (rw (built-length, le-ltb largest_message (length m) passed.most) (le-ltb room (length m) l)),
                (passing _ (refused 16 0) refl (rw (rebuilt, ok)), tt),
              ),
            ),
          ),
        ),
      )

  -- its table says its type and kind itself
  pub rebuilt-itself : built_by b (teid_of m) (sequence_of m) table m ≡ m
  unfolding table_of header
  rebuilt-itself = rebuilt

  pub rebuilt-accepted : (room : ℕ) → length m ≤ room → refuses (build_verdict b (teid_of m) (sequence_of m) table m room) ≡ false
  unfolding headed_checks table_of header AllPass
  rebuilt-accepted room l =
      (all_pass (headed_checks b (teid_of m) (sequence_of m) table m room)).1 (
        passing _ (refused 14 0) refl (le-ltb (length table) header_numbers own-right.long),
        (all_pass (build_checks b k (message_type m) (teid_of m) (sequence_of m) table m room)).0 (late-accepted room l),
      )
