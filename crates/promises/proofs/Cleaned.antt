-- The cleaner's contract: what was promised of the definitions holds of the octets at the start of the buffer, which are the cleaned copy. Assumes nothing.
--     made, is-copy, past-stays    what is answered and left where nothing refuses          left_alone   and where something does
--     refused_as_judged, accepted_exactly, thirteen-by-room    when
--     clean-judged_as              the copy's table                   clean-once   cleaned again
--     whole_same                   of a message with every row kept   commutes     cleaned and masked, either first
use mathlib.Core.Path.{◌≡◌, refl, sym, ap, ◌∙◌}
use mathlib.Core.Logic.{◌↔◌, ◌≢◌}
use mathlib.Core.Bool.{Bool, true, false, cond, not}
use mathlib.Core.List.{List, [], ◌∷◌}
use Prim.Native.Nat.{ℕ, zero, suc, ◌+◌, ◌-◌, ◌≤◌, ◌<◌}
use native.Mathlib.Omega.{arith}
use native.Mathlib.Decide.{dec_lt}
use borrow.Author.Tests.{eqb-true, eq-eqb, lt-ltb, le-ltb}
use lib.Dec.{eqb, ltb}
use lib.ListN.{length, take, drop, length-take, length-drop, get_or-append}
use lib.Seq.{get_or-take, get_or-drop, length-take-le}
use Rattle.rules.specs.Sizes.{most_rows, used}
use Rattle.rules.specs.Framing.{message_type, octet, header_length}
use Rattle.rules.specs.Listings.{book}
use Rattle.rules.specs.Standing.{Item, kept, value_place}
use Rattle.rules.specs.Table.{kept_rows, laid, no_item, nth}
use Rattle.rules.specs.Values.{row_standing}
use Rattle.rules.specs.Verdicts.{accepted, refused, refuses, check, first, items, judge_checks, judge_verdict}
use Rattle.rules.specs.Covered.{masked}
use Rattle.rules.specs.Emitting.{emitted, amply}
use Rattle.rules.specs.Cleaned.{pieces, cleaned, is_too_short, clean_verdict, clean_length, clean_copy}
use Rattle.rules.specs.Answers.{Cleans}
use Rattle.rules.specs.declared.Verdict.{Verdict}
use Rattle.rules.specs.declared.Sent.{Sent}
use Rattle.rules.proofs.Book.{book-sound}
use Rattle.rules.proofs.Checks.{all_pass, first-pass}
use Rattle.rules.proofs.Lines.{and_right}
use Rattle.rules.proofs.Walked.{met-walked}
use Rattle.rules.proofs.Rows.{Octets, kept-most, body-met, header-least}
use Rattle.tables.specs.Words.{rows, kept_count, kept_among}
use Rattle.tables.proofs.Placed.{Backward, backward, backward-at}
use Rattle.tables.proofs.Rowed.{Begins, laid-begins, row_of, count_of, kept_of, kept_from}
use Rattle.verdicts.proofs.Laying.{laid-take, laid-drop, laid_in, enough-room, accepted-table}
use Rattle.emitted.proofs.Refusals.{as_judged, clean-judged, clean-fits, judged-clean, clean-amply, amply_largely, amply-roomy}
use Rattle.emitted.proofs.Wholes.{amply-accepted}
use Rattle.verdicts.proofs.Calling.{never_13}
use Rattle.emitted.proofs.Cleaning.{clean-accepted, clean_shorter, clean-twice, clean-same}
use Rattle.emitted.proofs.Written.{written-octets}
use Rattle.emitted.proofs.KeptRows.{KeptAs, clean-count, row-kept_as}
use Rattle.promises.specs.Judged.{Judged}
use Rattle.promises.specs.Cleaning.{KeptRow, CleanRows}
use Rattle.promises.proofs.Clearing.{masked-length}
use Rattle.promises.proofs.Commuting.{framed, amply-whole, still_amply, clean-masked}

-- ---- the numbers of two tables

-- a table of rows counts the kept ones among the first n as the rows do
among_first : (t : List ℕ) (es : List Item) → Begins t es → (n : ℕ) → n ≤ length es → kept_among t n ≡ kept_rows (take n es)
unfolding kept_among
among_first t es x n l =
    let e : length (take n es) ≡ n = length-take-le n es l in
    let z : 0 + n ≡ n = omega arith in
    omega (arith, rw (e, z) at (kept_from t 0 (take n es) each), none)
  where
    none : kept_among t 0 ≡ 0
    none = refl

    each : (j : ℕ) → j < length (take n es) → row_standing t (0 + j) ≡ (nth (take n es) j).stand
    each j h =
        let e : length (take n es) ≡ n = length-take-le n es l in
        let z : 0 + j ≡ j = omega arith in
        rw z (row_of t es x j 5 (omega (arith, h, e)) (omega arith) ∙ ap (λ (i : Item). i.stand) (sym (get_or-take n es j no_item (omega (arith, h, e)))))

-- the octet before a value is the header's last
last-octet : (m c : List ℕ) (i j : Item) {x y : ℕ} → x ≡ value_place i → y ≡ value_place j → octet c (i.place + 3) ≡ octet m (j.place + 3) → octet c (x - 1) ≡ octet m (y - 1)
last-octet m c i j e f o =
    let a : value_place i - 1 ≡ i.place + 3 = omega arith in
    let d : value_place j - 1 ≡ j.place + 3 = omega arith in
    rw (e, f, a, d) o

module _ (m c : List ℕ) (es fs : List Item) (t u : List ℕ) (x : Begins t es) (y : Begins u fs) where
  row-numbers : (r q : ℕ) → r < length es → (nth es r).parent ≤ length es → KeptAs m es c fs r q → KeptRow m t c u r q
  row-numbers r q l p a =
      let f = row_of t es x r in
      let g = row_of u fs y q in
      record {
        there = omega (arith, a.there, count_of u fs y);
        stand = g 5 a.there (omega arith) ∙ a.stand;
        parent = g 0 a.there (omega arith) ∙ a.parent ∙ sym (ap (kept_among t) (f 0 l (omega arith)) ∙ among_first t es x (nth es r).parent p);
        typ = g 1 a.there (omega arith) ∙ a.typ ∙ sym (f 1 l (omega arith));
        inst = g 2 a.there (omega arith) ∙ a.inst ∙ sym (f 2 l (omega arith));
        last = last-octet m c (nth fs q) (nth es r) (g 3 a.there (omega arith)) (f 3 l (omega arith)) a.fourth;
        value = λ z. rw (g 3 a.there (omega arith), g 4 a.there (omega arith), f 3 l (omega arith), f 4 l (omega arith)) (a.value (rw (f 1 l (omega arith)) at z));
      }

  -- all rows, where row r is found among the kept ones
  clean-rows-of : kept_rows fs ≡ length fs → length fs ≡ kept_rows es → Backward 0 es
      → ((r : ℕ) → r < length es → (nth es r).stand ≡ kept → KeptAs m es c fs r (kept_rows (take r es)))
      → CleanRows m t c u
  clean-rows-of all many back each = record {
    all_kept = kept_of u fs y ∙ all ∙ sym (count_of u fs y);
    as_many = count_of u fs y ∙ many ∙ sym (kept_of t es x);
    each = λ r l s.
        let h : r < length es = omega (arith, l, count_of t es x) in
        rw (among_first t es x r (omega arith))
        (row-numbers r (kept_rows (take r es)) h (omega (arith, backward-at 0 es back r h)) (each r h (sym (row_of t es x r 5 h (omega arith)) ∙ s)));
  }

-- ---- the header

front-size : (k : ℕ) (m : List ℕ) → refuses (amply book k m) ≡ false → 4 + length (take (header_length m - 4) (drop 4 m)) ≡ header_length m
front-size k m ok =
    simp (length-take, length-drop) (omega (arith, header-least m, (amply-accepted book k m ok).1.passed.has_header))

header-length : (k : ℕ) (m : List ℕ) → refuses (amply book k m) ≡ false → header_length m ≤ length (cleaned book k m)
unfolding cleaned
header-length k m ok =
    omega (
      arith,
      written-octets (octet m 0) (octet m 1) (take (header_length m - 4) (drop 4 m)) (emitted 0 (pieces m (items book k m))),
      front-size k m ok,
    )

same-header : (k : ℕ) (m : List ℕ) → refuses (amply book k m) ≡ false → (j : ℕ) → j < header_length m → j ≢ 2 → j ≢ 3 → octet (cleaned book k m) j ≡ octet m j
unfolding cleaned
same-header k m ok zero l u v = refl
same-header k m ok (suc zero) l u v = refl
same-header k m ok (suc (suc zero)) l u v = absurd (u refl)
same-header k m ok (suc (suc (suc zero))) l u v = absurd (v refl)
same-header k m ok (suc (suc (suc (suc j)))) l u v =
    let front = take (header_length m - 4) (drop 4 m) in
    let e : 4 + j ≡ suc (suc (suc (suc j))) = omega arith in
    get_or-append (take (header_length m - 4) (drop 4 m)) (emitted 0 (pieces m (items book k m))) 0 j (omega (arith, l, front-size k m ok))
    ∙ get_or-take (header_length m - 4) (drop 4 m) j 0 (omega (arith, l)) ∙ get_or-drop 4 m j 0 ∙ rw e

-- ---- the contract

pub not-refused : (v : Verdict) → v ≡ accepted → refuses v ≡ false
not-refused v e = rw e

-- what is not refused is accepted
pub judge_accepted : (k : ℕ) (m : List ℕ) (room : ℕ) → refuses (judge_verdict book k m room) ≡ false → judge_verdict book k m room ≡ accepted
judge_accepted k m room e = first-pass (judge_checks book k m room) ((all_pass (judge_checks book k m room)).0 e)

rows-backward : (k : ℕ) (m : List ℕ) → refuses (amply book k m) ≡ false → Backward 0 (items book k m)
rows-backward k m ok =
    let r = amply-accepted book k m ok in
    rw r.1.taken_whole (backward (met-walked (body-met book k m r.0 r.1.taken_whole)) (omega arith))

module _ {k : ℕ} {m lent : List ℕ} {s : Sent} {left : List ℕ} (c : Cleans k m lent s left) where
  pub left_alone : refuses s.verdict ≡ true → (left ≡ lent) × (s.length ≡ 0)
  unfolding clean_copy clean_length
  left_alone e = let z = rw c.verdict_is at e in (c.out_left ∙ rw z, c.length_is ∙ rw z)

  -- as the judge with room for any table, all five numbers
  module _ {T : List ℕ} {v : Verdict} {t : List ℕ} (j : Judged k m T v t) (l : used most_rows ≤ length T) where
    abbrev last : Verdict
    last = is_too_short book k m (length lent)

    verdict-by : s.verdict ≡ first (v ∷ last ∷ [])
    verdict-by = c.verdict_is ∙ as_judged book k m (length lent) (length T) l ∙ rw (← j.answers)

    pub refused_as_judged : refuses v ≡ true → s.verdict ≡ v
    unfolding first
    refused_as_judged e = verdict-by ∙ rw e

    by-room : v ≡ accepted → s.verdict ≡ cond (ltb (length lent) (length (cleaned book k m))) (refused 13 0) accepted
    unfolding first check
    by-room e = verdict-by ∙ rw e (go (ltb (length lent) (length (cleaned book k m))))
      where
        go : (x : Bool) → cond (refuses (cond x (refused 13 0) accepted)) (cond x (refused 13 0) accepted) accepted ≡ cond x (refused 13 0) accepted
        go true = refl
        go false = refl

    judged_too : s.verdict ≡ accepted → v ≡ accepted
    judged_too e =
        j.answers ∙ judge_accepted k m (length T) (clean-judged book k m (length lent) (length T) l (rw c.verdict_is at (not-refused s.verdict e)))

    -- and then by the room alone
    pub accepted_exactly : (s.verdict ≡ accepted) ↔ ((v ≡ accepted) × (length (cleaned book k m) ≤ length lent))
    accepted_exactly = (
      λ e. (judged_too e, clean-fits book k m (length lent) (rw c.verdict_is at (not-refused s.verdict e))),
      λ x. by-room x.0 ∙ rw (le-ltb (length lent) (length (cleaned book k m)) x.1),
    )

    pub thirteen-by-room : (s.verdict ≡ refused 13 0) ↔ ((v ≡ accepted) × (length lent < length (cleaned book k m)))
    thirteen-by-room = (
      λ e. go e (refuses v) refl (dec_lt (length lent) (length (cleaned book k m))),
      λ x. by-room x.0 ∙ rw (lt-ltb (length lent) (length (cleaned book k m)) x.1),
    )
      where
        go : s.verdict ≡ refused 13 0 → (r : Bool) → refuses v ≡ r → Dec (length lent < length (cleaned book k m)) → (v ≡ accepted) × (length lent < length (cleaned book k m))
        go e true f d = absurd (never_13 book book-sound k m (length T) (ap (λ (x : Verdict). x.code) (sym j.answers ∙ sym (refused_as_judged f) ∙ e)))
        go e false f (yes d) = (j.answers ∙ judge_accepted k m (length T) (rw j.answers at f), d)
        go e false f (no d) =
            let a : s.verdict ≡ accepted = by-room (j.answers ∙ judge_accepted k m (length T) (rw j.answers at f)) ∙ rw (le-ltb (length lent) (length (cleaned book k m)) (omega arith)) in
            absurd (omega (arith, ap (λ (x : Verdict). x.code) (sym a ∙ e)))

  -- ---- where nothing refuses

  module _ (a : s.verdict ≡ accepted) where
    open_verdict : refuses (clean_verdict book k m (length lent)) ≡ false
    open_verdict = rw c.verdict_is at (not-refused s.verdict a)

    pub amply-ok : refuses (amply book k m) ≡ false
    amply-ok = clean-amply book k m (length lent) open_verdict

    pub made : s.length ≡ length (cleaned book k m)
    unfolding clean_length
    made = c.length_is ∙ rw open_verdict

    left_is : left ≡ laid (cleaned book k m) lent
    unfolding clean_copy
    left_is = c.out_left ∙ rw open_verdict

    pub is-copy : take s.length left ≡ cleaned book k m
    is-copy = rw (made, left_is) (laid-take (cleaned book k m) lent)

    pub past-stays : drop s.length left ≡ drop s.length lent
    past-stays = rw (made, left_is) (laid-drop (cleaned book k m) lent)

    -- the header is as it came, but for its length
    pub header-kept : (j : ℕ) → j < header_length m → j ≢ 2 → j ≢ 3 → octet left j ≡ octet m j
    header-kept j l u v =
        let h = header-length k m amply-ok in
        rw left_is (laid_in (cleaned book k m) lent j (omega (arith, l, h)) ∙ same-header k m amply-ok j l u v)

    pub no_longer : s.length ≤ length m
    no_longer = omega (arith, made, clean_shorter book book-sound k m amply-ok)

    -- the copy is accepted where the message was, and its rows are the kept ones
    pub clean-judged_as : {T U : List ℕ} {v w : Verdict} {t u : List ℕ} → Judged k m T v t → v ≡ accepted → Judged k (take s.length left) U w u → length T ≤ length U
        → (w ≡ accepted) × CleanRows m t (take s.length left) u
    clean-judged_as {T} {U} {v} {w} {t} {u} x e y l =
        let copy = cleaned book k m in
        let q : Judged k (cleaned book k m) U w u = rw is-copy at y in
        let whole = clean-accepted book book-sound k m amply-ok in
        let ok : refuses (judge_verdict book k m (length T)) ≡ false = rw x.answers at (not-refused v e) in
        let room = enough-room book k m (length T) ok in
        let fewer = kept-most (items book k m) in
        let count = clean-count book book-sound k m amply-ok in
        let fits : used (length (items book k (cleaned book k m))) ≤ length U = omega (arith, room, l, fewer, count) in
        let ok' : refuses (judge_verdict book k (cleaned book k m) (length U)) ≡ false =
        rw (amply-roomy book k (cleaned book k m) (length U) fits) (amply-whole book k (cleaned book k m) whole) in
        let kept-all = and_right (not (refuses (amply book k (cleaned book k m)))) (eqb (kept_rows (items book k (cleaned book k m))) (length (items book k (cleaned book k m)))) whole in
        let bt : Begins t (items book k m) = rw (x.table_left ∙ accepted-table book k m T ok) (laid-begins (message_type m) k (items book k m) T) in
        let bu : Begins u (items book k (cleaned book k m)) = rw (q.table_left ∙ accepted-table book k (cleaned book k m) U ok') (laid-begins (message_type (cleaned book k m)) k (items book k (cleaned book k m)) U) in (
          q.answers ∙ judge_accepted k (cleaned book k m) (length U) ok',
          rw is-copy
              (clean-rows-of m (cleaned book k m) (items book k m) (items book k (cleaned book k m)) t u bt bu (eqb-true _ _ kept-all) count (rows-backward k m amply-ok)
              (row-kept_as book book-sound k m amply-ok)),
        )

    -- and so is the message, with room for its rows
    pub accepted_too : (room : ℕ) → used (length (items book k m)) ≤ room → judge_verdict book k m room ≡ accepted
    accepted_too room l = judge_accepted k m room (rw (amply-roomy book k m room l) amply-ok)

    -- a message with every row kept is its own copy
    pub whole_same : Octets m → {T : List ℕ} {v : Verdict} {t : List ℕ} → Judged k m T v t → v ≡ accepted → kept_count t ≡ rows t → take s.length left ≡ m
    whole_same o {T} {v} {t} x e z =
        let ok : refuses (judge_verdict book k m (length T)) ≡ false = rw x.answers at (not-refused v e) in
        let bt : Begins t (items book k m) = rw (x.table_left ∙ accepted-table book k m T ok) (laid-begins (message_type m) k (items book k m) T) in
        let all : kept_rows (items book k m) ≡ length (items book k m) = sym (kept_of t (items book k m) bt) ∙ z ∙ count_of t (items book k m) bt in
        is-copy ∙ clean-same book book-sound k m o (rw (amply-ok, all) (eq-eqb (length (items book k m)) (length (items book k m)) refl))

-- cleaned again the copy is itself
pub clean-once : {k : ℕ} {m lent : List ℕ} {s : Sent} {left : List ℕ} (c : Cleans k m lent s left) (a : s.verdict ≡ accepted) {lent₂ : List ℕ} {s₂ : Sent} {left₂ : List ℕ}
    → Cleans k (take s.length left) lent₂ s₂ left₂ → s.length ≤ length lent₂
    → (s₂.verdict ≡ accepted) × (s₂.length ≡ s.length) × (take s₂.length left₂ ≡ take s.length left)
clean-once {k} {m} {lent} {s} {left} c a {lent₂} {s₂} {left₂} d l =
    let copy : List ℕ = cleaned book k m in
    let e : Cleans k (cleaned book k m) lent₂ s₂ left₂ = rw (is-copy c a) at d in
    let twice = clean-twice book book-sound k m (amply-ok c a) in
    let ok : refuses (judge_verdict book k (cleaned book k m) (used most_rows)) ≡ false =
    rw (amply_largely book k (cleaned book k m) (used most_rows) (omega arith)) (amply-whole book k (cleaned book k m) (clean-accepted book book-sound k m (amply-ok c a))) in
    let yes-too : s₂.verdict ≡ accepted =
    e.verdict_is ∙ judged-clean book k (cleaned book k m) (length lent₂) (used most_rows) (omega arith) ok (omega (arith, l, made c a, ap length twice)) in
    (yes-too, made e yes-too ∙ ap length twice ∙ sym (made c a), is-copy e yes-too ∙ twice ∙ sym (is-copy c a))

-- cleaned after it was masked, or masked after it was cleaned, where `left₂` and `left₄` begin with the masked copies: with room the cleaned copy of the
-- masked one is made, and they are the same
pub commutes : {k : ℕ} {m lent : List ℕ} {s : Sent} {left : List ℕ} (c : Cleans k m lent s left) (a : s.verdict ≡ accepted) → Octets m
    → (left₂ : List ℕ) → take (length m) left₂ ≡ masked book k m
    → {lent₃ : List ℕ} {s₃ : Sent} {left₃ : List ℕ} → Cleans k (take (length m) left₂) lent₃ s₃ left₃ → s.length ≤ length lent₃
    → (left₄ : List ℕ) → take s.length left₄ ≡ masked book k (cleaned book k m)
    → (s₃.verdict ≡ accepted) × (s₃.length ≡ s.length) × (take s₃.length left₃ ≡ take s.length left₄)
commutes {k} {m} {lent} {s} {left} c a o left₂ front {lent₃} {s₃} {left₃} y yl left₄ back =
    let y' : Cleans k (masked book k m) lent₃ s₃ left₃ = rw front at y in
    let both = clean-masked book book-sound k m o (amply-ok c a) in
    let pass = framed book k (cleaned book k m) (amply-whole book k (cleaned book k m) (clean-accepted book book-sound k m (amply-ok c a))) in
    let size : length (masked book k (cleaned book k m)) ≡ length (cleaned book k m) = masked-length book book-sound k (cleaned book k m) pass in
    let largely : refuses (judge_verdict book k (masked book k m) (used most_rows)) ≡ false =
    rw (amply_largely book k (masked book k m) (used most_rows) (omega arith)) (still_amply book book-sound k m (amply-ok c a)) in
    let ya : s₃.verdict ≡ accepted =
    y'.verdict_is ∙ judged-clean book k (masked book k m) (length lent₃) (used most_rows) (omega arith) largely (omega (arith, yl, made c a, ap length both, size)) in
    (ya, made y' ya ∙ ap length both ∙ size ∙ sym (made c a), is-copy y' ya ∙ both ∙ sym back)
