-- What is settled by a reading, and a scratch with room for the rows that it counted, is the answer of `clean`. Assumes nothing.
use mathlib.Core.Path.{◌≡◌, refl, sym, ap, ◌∙◌}
use mathlib.Core.Bool.{Bool, true, false, cond}
use mathlib.Core.List.{List, [], ◌∷◌, ◌++◌}
use Prim.Native.Nat.{ℕ, ◌+◌, ◌-◌, ◌*◌, ◌≤◌, ◌<◌}
use native.Mathlib.Omega.{arith}
use borrow.Author.Tests.{ltb-false}
use lib.Dec.{ltb}
use lib.ListN.{length, get_or, take, drop, length-append, length-take, length-drop}
use Rattle.rules.specs.Sizes.{most_rows, row_numbers}
use Rattle.rules.specs.Framing.{header_length}
use Rattle.rules.specs.Listings.{book}
use Rattle.rules.specs.Standing.{Item, value_end}
use Rattle.rules.specs.Taking.{whole, taken, body_level}
use Rattle.rules.specs.Table.{row, rows_of, laid, nth}
use Rattle.rules.specs.Verdicts.{refused, check, refuses, first, framing_checks, items, short_verdict, lack_verdict}
use Rattle.rules.specs.Answers.{Read, reading_of, Cleans}
use Rattle.rules.specs.declared.Verdict.{Verdict}
use Rattle.rules.specs.declared.Reading.{Reading}
use Rattle.rules.proofs.Book.{book-sound}
use Rattle.rules.proofs.Checks.{first_append, both-pass, check-off, AllPass, all_pass}
use Rattle.rules.proofs.Header.{Passed, framed}
use Rattle.rules.proofs.Readings.{few, refusal_is, count_is, all_laid}
use Rattle.rules.proofs.Rows.{Octets, octets-drop, Every, every-at, Fits, all_fit, body-met, rows-length, header-least}
use Rattle.rules.specs.Emitting.{sizes, emitted}
use Rattle.rules.specs.Cleaned.{pieces, cleaned, clean_checks, clean_verdict, clean_length, clean_copy}
use Rattle.emitted.proofs.Cleaning.{sizes-fit}
use Rattle.emitting.specs.Emits.{number, sizes_in, RowFit, parts_in, over}
use Rattle.cleaning.specs.Cleaning.{Settles, Settled, size, front_octets, copy_of, room_check}
use Rattle.rules.specs.declared.Sent.{Sent}
use Rattle.cleaning.proofs.Bridge.{number_is, agreeing}
use Rattle.cleaning.proofs.Fronts.{front-laid}
use Rattle.emitting.proofs.Bridge.{Agreeing, emitted-size, sizes_are, parts_are, length-low}
use Rattle.emitted.proofs.Again.{pieces-length}

pub most-rows : (k : ℕ) (m : List ℕ) {rows rows' : List ℕ} {r : Reading} → Read k m rows r rows' → r.rows ≤ most_rows
most-rows k m read = rw read.answers (few book k m)

module _ (k : ℕ) (m : List ℕ) {rows rows' : List ℕ} {r : Reading} (read : Read k m rows r rows') (octets : Octets m) (held : row_numbers * r.rows ≤ length rows) where
  abbrev framing : Verdict
  framing = first (framing_checks book k m)

  refusal-by : r.refusal ≡ framing
  refusal-by = ap (λ (x : Reading). x.refusal) read.answers ∙ refusal_is book k m

  module _ (pass : refuses framing ≡ false) where
    all : Passed book k m × ((is : List Item) × (taken book k m ≡ whole is))
    all = framed book k m pass

    abbrev is : List Item
    is = all.1.0

    rows_is : r.rows ≡ length is
    rows_is = ap (λ (x : Reading). x.rows) read.answers ∙ count_is book k m pass ∙ rw all.1.1

    scratch_is : rows' ≡ laid (rows_of is) rows
    scratch_is = read.rows_left ∙ all_laid book k m pass rows (rw read.answers at held) ∙ rw all.1.1

    fit : Every (Fits (0 + length is) (header_length m + length (drop (header_length m) m))) is
    fit = all_fit (body-met book k m is all.1.1) (octets-drop (header_length m) m octets) (omega arith)

    ends : (n : ℕ) → n < length is → value_end (nth is n) ≤ length m
    ends n l =
        omega (arith, (every-at (Fits (0 + length is) (header_length m + length (drop (header_length m) m))) is fit n l).ends, length-drop (header_length m) m, all.0.has_header)

    agree : Agreeing rows' m true 0 (pieces m is)
    agree = agreeing is rows rows' m scratch_is ends

    sizes-is : sizes_in rows' 0 r.rows ≡ sizes (pieces m is)
    sizes-is = ap (sizes_in rows' 0) (rows_is ∙ sym (pieces-length m is)) ∙ sizes_are rows' m true (pieces m is) agree

    size-most : header_length m + sizes_in rows' 0 r.rows ≤ length m
    size-most = omega (arith, sizes-is, sizes-fit book book-sound k m (body-met book k m is all.1.1), length-drop (header_length m) m, all.0.has_header)

    parts_is : parts_in rows' r.rows m true 0 r.rows ≡ emitted 0 (pieces m is)
    parts_is = ap (λ (n : ℕ). parts_in rows' n m true 0 n) (rows_is ∙ sym (pieces-length m is)) ∙ parts_are rows' m true (pieces m is) agree

    pub parts-size : length (parts_in rows' r.rows m true 0 r.rows) ≡ sizes_in rows' 0 r.rows
    parts-size = ap length parts_is ∙ emitted-size 0 (pieces m is) ∙ sym sizes-is

    length-same : length rows' ≡ length rows
    unfolding laid
    length-same =
        omega (arith, ap length scratch_is, length-append (rows_of is) (drop (length (rows_of is)) rows), length-drop (length (rows_of is)) rows, rows-length is, rows_is, held)

    short-is : r.short ≡ short_verdict (items book k m)
    unfolding reading_of
    short-is = ap (λ (x : Reading). x.short) read.answers ∙ rw pass

    lack_is : r.lack ≡ lack_verdict book k (body_level book m) (items book k m)
    unfolding reading_of
    lack_is = ap (λ (x : Reading). x.lack) read.answers ∙ rw pass

    -- the size is the length of the cleaned copy
    cleaned-length : size r.rows rows' m ≡ length (cleaned book k m)
    unfolding cleaned
    cleaned-length =
        rw all.1.1
        (omega (arith, sizes-is, emitted-size 0 (pieces m is), length-append (take (header_length m - 4) (drop 4 m)) (emitted 0 (pieces m is)), front_length))
      where
        front_length : 4 + length (take (header_length m - 4) (drop 4 m)) ≡ header_length m
        front_length = simp (length-take, length-drop) (omega (arith, header-least m, all.0.has_header))

    -- the copy, laid over the buffer
    copy-laid : (out : List ℕ) → size r.rows rows' m ≤ length out
        → copy_of r.rows rows' m out ≡ laid (cleaned book k m) out
    unfolding cleaned
    copy-laid out l =
        ap (over (front_octets m (header_length m) (size r.rows rows' m) out) (header_length m)) parts_is
        ∙ front-laid m out (header_length m) (size r.rows rows' m) (emitted 0 (pieces m is)) (omega (arith, header-least m)) all.0.has_header (omega arith)
        (omega (arith, sizes-is, emitted-size 0 (pieces m is)))
        ∙ rw all.1.1

module _ (k : ℕ) (m : List ℕ) {rows rows' : List ℕ} {r : Reading} (read : Read k m rows r rows') (octets : Octets m) (held : row_numbers * r.rows ≤ length rows) where
  module _ (pass : refuses (first (framing_checks book k m)) ≡ false) where
    abbrev es : List Item
    es = (all k m read octets held pass).1.0

    num : (n c : ℕ) → n < length (all k m read octets held pass).1.0 → c < row_numbers → number rows' n c ≡ get_or (row (nth (all k m read octets held pass).1.0 n)) c 0
    num = number_is es rows rows' m (scratch_is k m read octets held pass) (ends k m read octets held pass)

    row-fit : (n : ℕ) → n < r.rows → RowFit rows' n r.rows m true
    row-fit n l =
        let h : n < length es = omega (arith, rows_is k m read octets held pass) in
        let f = every-at (Fits (0 + length es) (header_length m + length (drop (header_length m) m))) es (fit k m read octets held pass) n h in
        let q = ends k m read octets held pass n h in
        let t = num n 1 h (omega arith) in
        let p = num n 3 h (omega arith) in
        let s = num n 4 h (omega arith) in
        record {
          typ = omega (arith, t, f.typ);
          len = length-low rows' n r.rows l (omega (arith, size-most k m read octets held pass, (all k m read octets held pass).0.most));
          least = λ c. omega (arith, p);
          most = λ c. omega (arith, p, q);
          there = λ c. omega (arith, p, s, q);
        }

  pub settles : Settles r rows' m
  settles c =
      let p : refuses (first (framing_checks book k m)) ≡ false = rw (← refusal-by k m read octets held, c) in
      record {
        has = record { long = omega (arith, length-same k m read octets held p, held); few = omega (arith, most-rows k m read) };
        fits = row-fit p;
        some = (all k m read octets held p).0.has_header;
        size = omega (arith, size-most k m read octets held p, (all k m read octets held p).0.most);
        octets = parts-size k m read octets held p;
      }

  module _ (out : List ℕ) where
    later_same : (pass : refuses (first (framing_checks book k m)) ≡ false)
        → first (r.short ∷ r.lack ∷ room_check r.rows rows' m out ∷ [])
        ≡ first (short_verdict (items book k m) ∷ lack_verdict book k (body_level book m) (items book k m) ∷ check (ltb (length out) (length (cleaned book k m))) (refused 13 0) ∷ [])
    later_same pass = lists _ _ _ _ _ _ (short-is k m read octets held pass) (lack_is k m read octets held pass) (cleaned-length k m read octets held pass)
      where
        lists : (a a' c c' : Verdict) (x x' : ℕ) → a ≡ a' → c ≡ c' → x ≡ x'
            → first (a ∷ c ∷ check (ltb (length out) x) (refused 13 0) ∷ []) ≡ first (a' ∷ c' ∷ check (ltb (length out) x') (refused 13 0) ∷ [])
        lists a a' c c' x x' e f g = rw (e, f, g)

    verdict-same : first (r.refusal ∷ r.short ∷ r.lack ∷ room_check r.rows rows' m out ∷ []) ≡ clean_verdict book k m (length out)
    unfolding clean_checks first
    verdict-same = go (refuses (first (framing_checks book k m))) refl
      where
        vs : List Verdict
        vs = short_verdict (items book k m) ∷ lack_verdict book k (body_level book m) (items book k m) ∷ check (ltb (length out) (length (cleaned book k m))) (refused 13 0) ∷ []

        go : (c : Bool) → refuses (first (framing_checks book k m)) ≡ c
            → cond (refuses r.refusal) r.refusal (first (r.short ∷ r.lack ∷ room_check r.rows rows' m out ∷ []))
            ≡ first (framing_checks book k m ++ (short_verdict (items book k m) ∷ lack_verdict book k (body_level book m) (items book k m) ∷ check (ltb (length out) (length (cleaned book k m))) (refused 13 0) ∷ []))
        go true e = rw (refusal-by k m read octets held, e) (sym (first_append (framing_checks book k m) _ ∙ rw e))
        go false e = rw (refusal-by k m read octets held, e) (later_same e ∙ sym (first_append (framing_checks book k m) _ ∙ rw e))

    room_of : refuses (clean_verdict book k m (length out)) ≡ false → (pass : refuses (first (framing_checks book k m)) ≡ false) → size r.rows rows' m ≤ length out
    unfolding clean_checks AllPass
    room_of z pass =
        let a = (all_pass (short_verdict (items book k m) ∷ lack_verdict book k (body_level book m) (items book k m) ∷ check (ltb (length out) (length (cleaned book k m))) (refused 13 0) ∷ [])).0
        (both-pass (framing_checks book k m) _ z).1 in
        omega (arith, cleaned-length k m read octets held pass, ltb-false (length out) (length (cleaned book k m)) (sym (check-off (ltb (length out) (length (cleaned book k m))) (refused 13 0) refl) ∙ a.1.1.0))

    framing-passes : refuses (clean_verdict book k m (length out)) ≡ false → refuses (first (framing_checks book k m)) ≡ false
    unfolding clean_checks
    framing-passes z = (both-pass (framing_checks book k m) _ z).0

    pub cleans : {s : Sent} {out' : List ℕ} → Settled r rows' m out s out' → Cleans k m out s out'
    unfolding clean_length clean_copy
    cleans {s} {out'} a = record {
      verdict_is = a.verdict_is ∙ verdict-same;
      length_is = a.length_is ∙ ap (λ (x : Verdict). cond (refuses x) 0 (size r.rows rows' m)) verdict-same ∙ lengths (refuses (clean_verdict book k m (length out))) refl;
      out_left = a.out_left ∙ ap (λ (x : Verdict). cond (refuses x) out (copy_of r.rows rows' m out)) verdict-same ∙ lefts (refuses (clean_verdict book k m (length out))) refl;
    }
      where
        lengths : (c : Bool) → refuses (clean_verdict book k m (length out)) ≡ c → cond c 0 (size r.rows rows' m) ≡ cond c 0 (length (cleaned book k m))
        lengths true e = refl
        lengths false e = cleaned-length k m read octets held (framing-passes e)

        lefts : (c : Bool) → refuses (clean_verdict book k m (length out)) ≡ c
            → cond c out (copy_of r.rows rows' m out) ≡ cond c out (laid (cleaned book k m) out)
        lefts true e = refl
        lefts false e = copy-laid k m read octets held (framing-passes e) out (room_of e (framing-passes e))
