-- The cleaned copy, of any listings that pass the test `sound`. Assumes nothing.
--     clean-accepted   given room for its table, the judge takes it under the message's kind, and sets no row aside
--     clean-rows       its rows are the message's kept rows, in order, parents numbered anew: types, last header octets, values
--     clean_shorter    it is no longer than the message           clean-first, clean_second, clean-front   its header is the message's, but for the length
--     clean-twice      cleaning it again changes nothing          clean-same   nor does cleaning a message with every row kept
use mathlib.Core.Path.{◌≡◌, refl, sym, ap, ◌∙◌}
use mathlib.Core.Bool.{Bool, true, false, cond}
use mathlib.Core.List.{List, [], ◌∷◌, ◌++◌, append-nil}
use Prim.Native.Nat.{ℕ, suc, ◌+◌, ◌-◌, ◌*◌, ◌/◌, ◌%◌, ◌≤◌, ◌<◌}
use native.Mathlib.Omega.{arith}
use lib.Dec.{eqb}
use lib.ListN.{length, take, drop, length-append, length-take, length-drop, take-append-drop}
use lib.Seq.{take_at, append_snoc, drop-drop}
use Rattle.rules.specs.Framing.{octet, element_header, version, flag_p, flag_t, message_type, length_field, header_length}
use Rattle.rules.specs.Types.{is_group}
use Rattle.rules.specs.Listings.{Book}
use Rattle.rules.specs.Standing.{Item, fresh, kept, item_of}
use Rattle.rules.specs.Taking.{whole, taken, body_level}
use Rattle.rules.specs.Table.{kept_rows}
use Rattle.rules.specs.Verdicts.{refuses, lack_checks, items}
use Rattle.rules.specs.Met.{Met, ends, alone, group}
use Rattle.rules.specs.Sound.{sound}
use Rattle.rules.proofs.Heads.{fits, rest-length, value-length}
use Rattle.rules.proofs.Mets.{met-whole}
use Rattle.rules.proofs.Covers.{group_type}
use Rattle.rules.proofs.Rows.{body-met, header-least, Octets, octets-drop}
use Rattle.rules.proofs.Checks.{AllPass}
use Rattle.rules.proofs.Header.{Passed}
use Rattle.rules.specs.Emitting.{Piece, stays, size_of, sizes, emitted, remaining, written, amply, accepted_whole}
use Rattle.rules.specs.Cleaned.{received, pieces, cleaned, renumbered}
use Rattle.emitted.proofs.Forests.{grown, grows, grown-size, sizes_append}
use Rattle.emitted.proofs.Again.{Here, Counts, again, pieces_append}
use Rattle.emitted.proofs.Runs.{Run, Kin, clean_run, fresh-size}
use Rattle.emitted.proofs.Same.{same-run}
use Rattle.emitted.proofs.Lacking.{lacks_too}
use Rattle.emitted.proofs.Wholes.{Amply, amply-accepted, Wholly, wholly-accepted, accepted-wholly}
use Rattle.emitted.proofs.Written.{written-length, written-body, written-octets, Renumbered, renumber}

-- ---- the numbers of the kept rows

kept_append : (is js : List Item) → kept_rows (is ++ js) ≡ kept_rows is + kept_rows js
unfolding kept_rows
kept_append [] js = omega arith
kept_append (i ∷ is) js = rw (kept_append is js) (go (eqb i.stand kept))
  where
    go : (c : Bool) → cond c (suc (kept_rows is + kept_rows js)) (kept_rows is + kept_rows js) ≡ cond c (suc (kept_rows is)) (kept_rows is) + kept_rows js
    go true = omega arith
    go false = refl

kept-one : (i : Item) → kept_rows (i ∷ []) ≡ cond (eqb i.stand kept) 1 0
unfolding kept_rows
kept-one i = refl

one_more : (pre es : List Item) (i : Item) → kept_rows (take (length pre + 1) (pre ++ i ∷ es)) ≡ kept_rows (take (length pre) (pre ++ i ∷ es)) + cond (eqb i.stand kept) 1 0
one_more pre es i =
    let a : take (length pre) (pre ++ i ∷ es) ≡ pre = take_at pre (i ∷ es) (length pre) refl in
    let c : take (length pre + 1) (pre ++ (i ∷ []) ++ es) ≡ pre ++ (i ∷ []) = take_at (pre ++ (i ∷ [])) es (length pre + 1) (length-append pre (i ∷ [])) in
    rw (a, ← append_snoc pre i es, c, kept_append pre (i ∷ []), kept-one i)

pub counts-from : (w : List ℕ) (pre es : List Item) → Counts (renumbered (pre ++ es)) (length pre) (pieces w es)
unfolding Counts pieces received
counts-from w pre [] = tt
counts-from w pre (i ∷ es) =
    (one_more pre es i, rw (append_snoc pre i es, length-append pre (i ∷ [])) at (counts-from w (pre ++ (i ∷ [])) es))

pub none_before : (es : List Item) → renumbered es 0 ≡ 0
unfolding kept_rows
none_before es = refl

-- ---- sizes

sizes-more : (x : Piece) (ps : List Piece) → sizes (x ∷ ps) ≡ size_of x + sizes ps
unfolding sizes
sizes-more x ps = refl

size-most : (x : Piece) (n : ℕ) → length x.value ≤ n → size_of x ≤ element_header + n
unfolding size_of
size-most x n l = go (stays x)
  where
    go : (c : Bool) → cond c (element_header + length x.value) 0 ≤ element_header + n
    go true = omega arith
    go false = (omega arith)

value-most : (c : Bool) (n : ℕ) (ys : List ℕ) → length (cond c [] (take n ys)) ≤ n
value-most true n ys = (omega arith)
value-most false n ys = simp length-take (omega arith)

pub sizes-fit : (b : Book) (fine : sound b ≡ true) (k : ℕ) (w : List ℕ) {v : ℕ} {m : List ℕ} {p n at : ℕ} {xs : List ℕ} {es : List Item}
    → Met b k v m p n at xs es → sizes (pieces w es) ≤ length xs
unfolding sizes pieces received item_of
sizes-fit b fine k w ends = (omega arith)
sizes-fit b fine k w (alone {v = v} {m = m} {p = p} {at = at} {xs = xs} {es = es} h a e t) =
    omega (
      arith,
      fits a,
      rest-length xs h.len (fits a),
      size-most (received w (item_of b k v m p at h)) h.len (value-most (is_group h.typ) h.len (drop (at + element_header) w)),
      sizes-fit b fine k w t,
    )
sizes-fit b fine k w (group {v = v} {m = m} {p = p} {at = at} {xs = xs} {is = is} {es = es} h g a e d t) =
    let none : length (received w (item_of b k v m p at h)).value ≤ 0 = rw (group_type b fine k v m h g e) (omega arith) in
    omega (
      arith,
      fits a,
      rest-length xs h.len (fits a),
      value-length xs h.len (fits a),
      size-most (received w (item_of b k v m p at h)) 0 none,
      ap sizes (pieces_append w is es),
      sizes_append (pieces w is) (pieces w es),
      sizes-fit b fine k w d,
      sizes-fit b fine k w t,
    )

pub here-from : (w : List ℕ) (at : ℕ) → Here w at (drop at w)
here-from w at = record { rest = []; stands = sym (append-nil (drop at w)) }

-- ---- the copy

module _ (b : Book) (fine : sound b ≡ true) (k : ℕ) (m : List ℕ) (p : Passed b k m) (es : List Item) (e : taken b k m ≡ whole es) where
  abbrev anew : ℕ → ℕ
  anew = renumbered es

  pub run : Run b fine k m (renumbered es) (body_level b m) fresh 0 0 (header_length m) es
  run =
      clean_run b fine k m (renumbered es) (body-met b k m es e) (here-from m (header_length m)) (fresh-size b fine k m (renumbered es)) fresh (λ s q. q) (header_length m)
      (counts-from m [] es)

  abbrev front : List ℕ
  front = take (header_length m - 4) (drop 4 m)

  abbrev copy : List ℕ
  copy = written (octet m 0) (octet m 1) (take (header_length m - 4) (drop 4 m)) (grown run.forest)

  grows-rows : emitted 0 (pieces m es) ≡ grown run.forest
  grows-rows = rw (← run.rows_are) (grows run.forest (omega arith))

  pub is-cleaned : cleaned b k m ≡ copy
  unfolding cleaned
  is-cleaned = rw (e, grows-rows)

  front_length : 4 + length front ≡ header_length m
  front_length = simp (length-take, length-drop) (omega (arith, header-least m, p.has_header))

  copy_body : drop (header_length m) copy ≡ grown run.forest
  copy_body = rw front_length at (written-body (octet m 0) (octet m 1) front (grown run.forest))

  copy-taken : taken b k copy ≡ whole run.items
  unfolding taken body_level message_type header_length flag_t
  copy-taken = met-whole b k (body_level b m) (header_length m) (drop (header_length m) copy) (rw copy_body (rw (none_before es) at run.met))

  copy-length : length copy ≡ header_length m + sizes (pieces m es)
  copy-length =
      omega (arith, front_length, written-octets (octet m 0) (octet m 1) front (grown run.forest), grown-size run.forest, ap sizes run.rows_are)

  copy_shorter : length copy ≤ length m
  copy_shorter = omega (arith, copy-length, sizes-fit b fine k m (body-met b k m es e), length-drop (header_length m) m, p.has_header)

  copy_passed : Passed b k copy
  unfolding version flag_p flag_t message_type header_length
  copy_passed = record {
    kind = p.kind;
    some = omega (arith, copy-length, header-least m);
    most = omega (arith, copy_shorter, p.most);
    version_2 = p.version_2;
    has_header = omega (arith, copy-length);
    no_p = p.no_p;
    length_right = written-length (octet m 0) (octet m 1) front (grown run.forest);
    listed = p.listed;
    on_kind = p.on_kind;
    t_right = p.t_right;
  }

  copy-wholly : AllPass (lack_checks b k (body_level b m) es) → Wholly b k copy run.items
  unfolding body_level message_type
  copy-wholly a =
      record { passed = copy_passed; taken_whole = copy-taken; all_kept = run.all_kept; none_lacks = lacks_too b k (body_level b m) (renumbered es) es run.items (none_before es) run.kin a }

  copy-here : Here copy (header_length m) (grown run.forest)
  copy-here = rw copy_body at (here-from copy (header_length m))

  rows-counted : Counts (renumbered es) 0 run.rows
  rows-counted = rw run.rows_are (counts-from m [] es)

  copy-rows : pieces copy run.items ≡ remaining (renumbered es) (pieces m es)
  copy-rows =
      again b fine k copy (renumbered es) run.forest (body_level b m) (header_length m) fresh run.items run.met run.all_kept rows-counted copy-here
      ∙ ap (remaining (renumbered es)) run.rows_are

  -- ---- cleaned again

  renum : Renumbered (renumbered es) 0 0 run.rows (grown run.forest)
  renum = renumber (renumbered es) run.forest rows-counted

  emitted-again : emitted 0 (remaining (renumbered es) (pieces m es)) ≡ grown run.forest
  emitted-again =
      let a : remaining (renumbered es) run.rows ≡ remaining (renumbered es) (pieces m es) = ap (remaining (renumbered es)) run.rows_are in
      let c : emitted (renumbered es 0) renum.rows ≡ grown renum.forest = grows renum.forest (omega arith) in
      ap (emitted 0) (sym a ∙ sym renum.rows_are) ∙ ap (λ (n : ℕ). emitted n renum.rows) (sym (none_before es)) ∙ c ∙ renum.grows_it

  copy-again : cleaned b k copy ≡ copy
  unfolding cleaned header_length flag_t
  copy-again =
      let f : take (header_length m - 4) (drop 4 copy) ≡ front = take_at front (grown run.forest) (header_length m - 4) (omega (arith, front_length)) in
      rw (copy-taken, copy-rows, emitted-again, f)

-- ---- the theorems

pub clean-first : (b : Book) (k : ℕ) (m : List ℕ) → octet (cleaned b k m) 0 ≡ octet m 0
unfolding cleaned
clean-first b k m = refl

pub clean_second : (b : Book) (k : ℕ) (m : List ℕ) → octet (cleaned b k m) 1 ≡ octet m 1
unfolding cleaned
clean_second b k m = refl

-- a message that says its own length is its first octets, its own length, and the rest
pub written-own : (m rest body : List ℕ) → 4 ≤ length m → length_field m + 4 ≡ length m → Octets m → rest ++ body ≡ drop 4 m → written (octet m 0) (octet m 1) rest body ≡ m
unfolding length_field
written-own [] rest body l e o c = absurd (omega arith)
written-own (x ∷ []) rest body l e o c = absurd (omega arith)
written-own (x ∷ y ∷ []) rest body l e o c = absurd (omega arith)
written-own (x ∷ y ∷ z ∷ []) rest body l e o c = absurd (omega arith)
written-own (x ∷ y ∷ z ∷ u ∷ xs) rest body l e o c =
    let d : rest ++ body ≡ xs = c in
    let f : u < 256 = o 3 in
    let n : length rest + length body ≡ z * 256 + u = omega (arith, length-append rest body, ap length d) in
    let p : (length rest + length body) / 256 ≡ z = omega arith in
    let q : (length rest + length body) % 256 ≡ u = omega arith in
    rw (p, q, d)

-- the front of the header and the body are all that follows the length
pub front-body : (m : List ℕ) (n : ℕ) → 4 ≤ n → take (n - 4) (drop 4 m) ++ drop n m ≡ drop 4 m
front-body m n l =
    let e : 4 + (n - 4) ≡ n = omega arith in
    ap (λ (ys : List ℕ). take (n - 4) (drop 4 m) ++ ys) (rw e at (sym (drop-drop (n - 4) 4 m))) ∙ take-append-drop (n - 4) (drop 4 m)

module _ (b : Book) (fine : sound b ≡ true) (k : ℕ) (m : List ℕ) (ok : refuses (amply b k m) ≡ false) where
  rows : List Item
  rows = (amply-accepted b k m ok).0

  facts : Amply b k m rows
  unfolding rows
  facts = (amply-accepted b k m ok).1

  same_copy : cleaned b k m ≡ copy b fine k m facts.passed rows facts.taken_whole
  same_copy = is-cleaned b fine k m facts.passed rows facts.taken_whole

  pub clean-accepted : accepted_whole b k (cleaned b k m) ≡ true
  clean-accepted =
      rw same_copy (wholly-accepted b k (copy b fine k m facts.passed rows facts.taken_whole) _ (copy-wholly b fine k m facts.passed rows facts.taken_whole facts.none_lacks))

  pub clean-rows : pieces (cleaned b k m) (items b k (cleaned b k m)) ≡ remaining (renumbered (items b k m)) (pieces m (items b k m))
  clean-rows =
      rw (same_copy, copy-taken b fine k m facts.passed rows facts.taken_whole, facts.taken_whole) (copy-rows b fine k m facts.passed rows facts.taken_whole)

  pub clean-kin : Kin (renumbered (items b k m)) 0 (items b k m) (items b k (cleaned b k m))
  clean-kin =
      rw (same_copy, copy-taken b fine k m facts.passed rows facts.taken_whole, facts.taken_whole) (run b fine k m facts.passed rows facts.taken_whole).kin

  pub clean_shorter : length (cleaned b k m) ≤ length m
  clean_shorter = rw same_copy (copy_shorter b fine k m facts.passed rows facts.taken_whole)

  -- its header is the message's, but for the length
  pub clean-front : take (header_length (cleaned b k m) - 4) (drop 4 (cleaned b k m)) ≡ take (header_length m - 4) (drop 4 m)
  unfolding cleaned header_length flag_t
  clean-front =
      take_at (take (header_length m - 4) (drop 4 m)) (emitted 0 (pieces m (items b k m))) (header_length m - 4)
      (simp (length-take, length-drop) (omega (arith, header-least m, facts.passed.has_header)))

  pub clean-twice : cleaned b k (cleaned b k m) ≡ cleaned b k m
  clean-twice = rw same_copy (copy-again b fine k m facts.passed rows facts.taken_whole)

pub clean-same : (b : Book) (fine : sound b ≡ true) (k : ℕ) (m : List ℕ) → Octets m → accepted_whole b k m ≡ true → cleaned b k m ≡ m
unfolding cleaned
clean-same b fine k m o ok =
    let r = accepted-wholly b k m ok in
    let p = r.1.passed in
    let s = same-run b fine k m (body-met b k m r.0 r.1.taken_whole) r.1.all_kept (octets-drop (header_length m) m o) (here-from m (header_length m)) in
    let e : emitted 0 (pieces m r.0) ≡ drop (header_length m) m = ap (emitted 0) (sym s.rows_are) ∙ grows s.forest (omega arith) ∙ s.grows_it in
    rw (r.1.taken_whole, e)
    (written-own m (take (header_length m - 4) (drop 4 m)) (drop (header_length m) m) (omega (arith, header-least m, p.has_header)) p.length_right o
    (front-body m (header_length m) (omega (arith, header-least m))))
