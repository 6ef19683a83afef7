-- What is promised of the exports: however the octets of a message are cut, the end answers what `wok_judge_copy` answers on the joined message with a copy buffer large enough, and leaves in the
-- table's numbers what it leaves in a table of zeros. It holds since a state that is kept is read again as it was, so that a run from C is a run of the pieces form.
-- Assumes nothing.
use mathlib.Core.Path.{◌≡◌, refl, sym, ap, ◌∙◌}
use mathlib.Core.Logic.{◌≢◌}
use mathlib.Core.Bool.{Bool, true, false, cond}
use mathlib.Core.List.{List, [], ◌∷◌, ◌++◌, append-nil, append_assoc}
use Prim.Native.Nat.{ℕ, ◌*◌, ◌≤◌}
use native.Mathlib.Omega.{arith}
use borrow.Author.Tests.{le-ltb, ltb-false}
use lib.ListN.{length, take, drop, length-append, length-take, length-drop, length-replicate}
use lib.Seq.{drop_at}
use Rattle.rules.specs.Sizes.{used}
use Rattle.rules.specs.Framing.{message_type}
use Rattle.rules.specs.Table.{laid}
use Rattle.rules.specs.Listings.{book}
use Rattle.rules.specs.Octets.{octets_of, numbers_in, five_laid, table_room}
use Rattle.rules.specs.Verdicts.{accepted, refuses, judge_verdict, judge_table}
use Rattle.rules.specs.declared.Verdict.{Verdict}
use Rattle.rules.proofs.Rows.{Octets}
use Rattle.rules.proofs.Numbers.{numbers-length}
use Rattle.promises.proofs.Exports.{octets-length, read-numbers}
use Rattle.pieces.specs.declared.Pieces.{Pieces}
use Rattle.pieces.specs.declared.Told.{Told}
use Rattle.pieces.specs.Feeding.{zeros, joined_parts}
use Rattle.pieces.specs.Coded.{feed_all_by}
use Rattle.pieces.specs.Answers.{takes, out, start_of, part_told, part_table, end_told, end_table, reading_by, verdict_by, ended_by}
use Rattle.pieces.proofs.Accepting.{cond_yes, cond_no}
use Rattle.pieces.proofs.Main.{all-length, taken_is, after-end, other_length}
use Rattle.pieces.proofs.Promised as parts
use Rattle.pieces.proofs.Ends.{room-enough}
use Rattle.keeping.specs.Kept.{state_size, state_octets, kept_in, state_in}
use Rattle.keeping.proofs.Again.{kept_again}
use Rattle.keeping.proofs.Storing.{length-state, kept_is}
use Rattle.wokpieces.specs.Exports.{takes_in, table_laid, StartedOctets, PartedOctets, EndedOctets}
use Rattle.wokpieces.specs.Runs.{Runs, begins, goes}
use Rattle.wokpieces.proofs.Shapes.{Sane, sane-start, sane-part, sane-end, formed}

-- ---- tables and states as octets

few-read : (xs : List ℕ) → length xs ≤ 1 → numbers_in xs ≡ []
unfolding numbers_in
few-read [] l = refl
few-read (x ∷ []) l = refl
few-read (x ∷ y ∷ xs) l = absurd (omega arith)

module _ (xs table : List ℕ) (n : length xs ≡ table_room table) where
  octets_are : length (octets_of xs) ≡ 2 * table_room table
  octets_are = octets-length xs ∙ rw n

  laid-read : numbers_in (table_laid xs table) ≡ xs
  unfolding laid
  laid-read =
      let r = drop (length (octets_of xs)) table in
      let z : numbers_in r ≡ [] = few-read r (omega (arith, length-drop (length (octets_of xs)) table, octets_are)) in
      read-numbers xs r ∙ ap (λ (l : List ℕ). xs ++ l) z ∙ append-nil xs

  laid-long : length (table_laid xs table) ≡ length table
  unfolding laid
  laid-long = length-append (octets_of xs) (drop (length (octets_of xs)) table) ∙ omega (arith, length-drop (length (octets_of xs)) table, octets_are)

  laid_odd : drop (2 * table_room table) (table_laid xs table) ≡ drop (2 * table_room table) table
  unfolding laid
  laid_odd = drop_at (octets_of xs) (drop (length (octets_of xs)) table) (2 * table_room table) octets_are ∙ rw octets_are

kept-long : (p : Pieces) (state : List ℕ) → state_size ≤ length state → length (kept_in p state) ≡ length state
kept-long p state l = ap length (kept_is p state l) ∙ length-append (state_octets p) (drop state_size state) ∙ omega (arith, length-state p, length-drop state_size state)

-- ---- a run from C is a run of the pieces form

part-long : (p : Pieces) (part table : List ℕ) → length (part_table p part table) ≡ length table
unfolding part_table
part-long p part table = go (takes p (length table))
  where
    go : (c : Bool) → length (cond c (take 6 table ++ (feed_all_by p part (drop 6 table)).rows) table) ≡ length table
    go true = length-append (take 6 table) (feed_all_by p part (drop 6 table)).rows ∙ omega (arith, length-take 6 table, length-drop 6 table, all-length p part (drop 6 table))
    go false = refl

end-long : (p : Pieces) (table : List ℕ) → length (end_table p table) ≡ length table
unfolding end_table
end-long p table = go (takes p (length table)) (refuses (verdict_by p (length table))) refl
  where
    go : (c d : Bool) → refuses (verdict_by p (length table)) ≡ d → length (cond c (cond d (zeros (length table))
        ((p.going.counts.rows ∷ p.going.counts.kept ∷ 6 ∷ used p.going.counts.rows ∷ message_type p.head ∷ p.kind ∷ []) ++ drop 6 table)) table) ≡ length table
    go true true e = length-replicate {A = ℕ} (length table) 0
    go true false e =
        let z : (verdict_by p (length table)).code ≡ 0 = omega (arith, ltb-false 0 (verdict_by p (length table)).code e) in
        omega (arith, length-drop 6 table, room-enough (reading_by p) (length table) z)
    go false d e = refl

-- whether it is taken is seen alike
takes_same : (state table : List ℕ) → state_size ≤ length state → takes_in state table ≡ takes (state_in state) (length (numbers_in table))
unfolding takes_in
takes_same state table l = cond_no _ _ _ (le-ltb (length state) state_size l) ∙ ap (takes (state_in state)) (sym (numbers-length table))

-- the state and the table of a run hold, as octets, a run of the pieces form
record Holds (k room : ℕ) (ps : List (List ℕ)) (state table : List ℕ) : Type 0 where
  run : parts.Runs k room ps (state_in state) (numbers_in table)
  room_is : table_room table ≡ room
  long : state_size ≤ length state
  sane : Sane (state_in state)

begins-holds : {k : ℕ} {state table state' table' : List ℕ} {code : ℕ} → state_size ≤ length state → StartedOctets k state table code state' table' → Holds k (table_room table) [] state' table'
begins-holds {k} {state} {table} {state'} {table'} l s =
    let n = table_room table in
    let z : length (zeros n) ≡ n = length-replicate {A = ℕ} n 0 in
    let t : table' ≡ table_laid (zeros n) table = s.table_left ∙ cond_no _ _ _ (le-ltb (length state) state_size l) in
    let p : state_in state' ≡ start_of k n = ap state_in s.state_left ∙ kept_again (start_of k n) (formed (sane-start k n)) state l in
    record {
      run = parts.begins {lent = zeros n} z (record { answers = p ∙ ap (start_of k) (sym z); table_left = ap numbers_in t ∙ laid-read (zeros n) table z ∙ ap (λ (j : ℕ). zeros j) (sym z) });
      room_is = omega (arith, ap length t ∙ laid-long (zeros n) table z);
      long = omega (arith, ap length s.state_left ∙ kept-long (start_of k n) state l);
      sane = rw p (sane-start k n);
    }

module _ {k room : ℕ} {ps : List (List ℕ)} {state table : List ℕ} (h : Holds k room ps state table) where
  abbrev p : Pieces
  p = state_in state

  abbrev t : List ℕ
  t = numbers_in table

  -- in a run each part, and the end, are taken
  taken_here : takes_in state table ≡ true
  taken_here = takes_same state table h.long ∙ taken_is k room (parts.lent_of p t) (joined_parts ps) (parts.run-right h.run)

  goes-holds : {part five state' table' five' : List ℕ} {code : ℕ} → PartedOctets state part table five code state' table' five' → Holds k room (ps ++ (part ∷ [])) state' table'
  goes-holds {part} {five} {state'} {table'} s =
      let q = sane-part p part t h.sane in
      let m : length (part_table p part t) ≡ table_room table = part-long p part t ∙ numbers-length table in
      let a : state' ≡ kept_in (part_told p part t).state state = s.state_left ∙ cond_yes _ _ _ taken_here in
      let b : table' ≡ table_laid (part_table p part t) table = s.table_left ∙ cond_yes _ _ _ taken_here in
      let x : state_in state' ≡ (part_told p part t).state = ap state_in a ∙ kept_again (part_told p part t).state (formed q) state h.long in
      let y : numbers_in table' ≡ part_table p part t = ap numbers_in b ∙ laid-read (part_table p part t) table m in
      record {
        run = rw (x, y) (parts.goes_on {part = part} {t' = part_table p part t} {r = part_told p part t} h.run (record { answers = refl; table_left = refl }));
        room_is = omega (arith, h.room_is, ap length b ∙ laid-long (part_table p part t) table m);
        long = omega (arith, h.long, ap length a ∙ kept-long (part_told p part t).state state h.long);
        sane = rw x q;
      }

runs_hold : {k : ℕ} {ps : List (List ℕ)} {state table : List ℕ} → Runs k ps state table → (room : ℕ) × Holds k room ps state table
runs_hold (begins l s) = (_, begins-holds l s)
runs_hold (goes r s) = let x = runs_hold r in (x.0, goes-holds x.1 s)

-- ---- what is promised

-- a start with a whole state answers 0
pub start-zero : {k : ℕ} {state table state' table' : List ℕ} {code : ℕ} → state_size ≤ length state → StartedOctets k state table code state' table' → code ≡ 0
start-zero {k} {state} l s = s.answers ∙ cond_no _ _ _ (le-ltb (length state) state_size l)

-- there is a run over any parts, from any state that is whole and any table
further : {k : ℕ} {ps : List (List ℕ)} {state table : List ℕ} (qs : List (List ℕ)) → Runs k ps state table → (state' : List ℕ) × (table' : List ℕ) × Runs k (ps ++ qs) state' table'
further {k} {ps} {state} {table} [] run = (state, table, rw (append-nil ps) run)
further {k} {ps} {state} {table} (q ∷ qs) run =
    let e : (ps ++ (q ∷ [])) ++ qs ≡ ps ++ (q ∷ qs) = append_assoc ps (q ∷ []) qs in
    rw e at (further {ps = ps ++ (q ∷ [])} qs (goes {part = q} {five = []} run (record { answers = refl; state_left = refl; table_left = refl; five_left = refl })))

pub some-run : (k : ℕ) (state table : List ℕ) → state_size ≤ length state → (ps : List (List ℕ)) → (state' : List ℕ) × (table' : List ℕ) × Runs k ps state' table'
some-run k state table l ps = further ps (begins {state = state} {table = table} l (record { answers = refl; state_left = refl; table_left = refl }))

pub record AsJudged (k : ℕ) (ps : List (List ℕ)) (table five : List ℕ) (code : ℕ) (table' five' : List ℕ) : Type 0 where
  -- the judge's verdict on the joined message, in the code and in the five numbers
  pub code_is : code ≡ (judge_verdict book k (joined_parts ps) (table_room table)).code
  pub five_is : five' ≡ five_laid (judge_verdict book k (joined_parts ps) (table_room table)) five
  -- what it leaves in a table of zeros: on a refusal all are zero
  pub numbers_are : numbers_in table' ≡ judge_table book k (joined_parts ps) (zeros (table_room table))
  -- an odd last octet stays
  pub odd_stays : drop (2 * table_room table) table' ≡ drop (2 * table_room table) table

-- 17, and state and table are as they were
pub record NotTaken (state table five : List ℕ) (code : ℕ) (state' table' five' : List ℕ) : Type 0 where
  pub code_is : code ≡ 17
  pub five_is : five' ≡ five_laid out five
  pub state_stays : state' ≡ state
  pub table_stays : table' ≡ table

part_out : {state part table five state' table' five' : List ℕ} {code : ℕ} → takes_in state table ≡ false → PartedOctets state part table five code state' table' five' → NotTaken state table five code state' table' five'
part_out {state} {part} {table} {five} e s = record {
  code_is = s.answers ∙ ap (λ (v : Verdict). v.code) (cond_no _ _ _ e);
  five_is = s.five_left ∙ ap (λ (v : Verdict). five_laid v five) (cond_no _ _ _ e);
  state_stays = s.state_left ∙ cond_no _ _ _ e;
  table_stays = s.table_left ∙ cond_no _ _ _ e;
}

end_out : {state table five state' table' five' : List ℕ} {code : ℕ} → takes_in state table ≡ false → EndedOctets state table five code state' table' five' → NotTaken state table five code state' table' five'
end_out {state} {table} {five} e s = record {
  code_is = s.answers ∙ ap (λ (v : Verdict). v.code) (cond_no _ _ _ e);
  five_is = s.five_left ∙ ap (λ (v : Verdict). five_laid v five) (cond_no _ _ _ e);
  state_stays = s.state_left ∙ cond_no _ _ _ e;
  table_stays = s.table_left ∙ cond_no _ _ _ e;
}

module _ {k : ℕ} {ps : List (List ℕ)} {state table : List ℕ} (r : Runs k ps state table) where
  -- no part of a run is answered early: the code is 0, and so are the five numbers
  pub part-zero : {part five state' table' five' : List ℕ} {code : ℕ} → PartedOctets state part table five code state' table' five' → (code ≡ 0) × (five' ≡ five_laid accepted five)
  part-zero {part} {five} s =
      let e = taken_here (runs_hold r).1 in
      (s.answers ∙ ap (λ (v : Verdict). v.code) (cond_yes _ _ _ e), s.five_left ∙ ap (λ (v : Verdict). five_laid v five) (cond_yes _ _ _ e))

  -- with a table of another length nothing is taken; the state and the table of the run are as they were, so that it goes on
  module _ (other : List ℕ) (n : table_room other ≢ table_room table) where
    not-here : takes_in state other ≡ false
    not-here =
        let h = (runs_hold r).1 in
        takes_same state other h.long
        ∙ other_length (state_in state) (length (numbers_in other)) (λ e. n (sym (numbers-length other) ∙ sym e ∙ (parts.run-right h.run).like.room_is ∙ sym h.room_is))

    pub other-part : {part five state' table' five' : List ℕ} {code : ℕ} → PartedOctets state part other five code state' table' five' → NotTaken state other five code state' table' five'
    other-part s = part_out not-here s

    pub other-end : {five state' table' five' : List ℕ} {code : ℕ} → EndedOctets state other five code state' table' five' → NotTaken state other five code state' table' five'
    other-end s = end_out not-here s

  module _ {five state' table' five' : List ℕ} {code : ℕ} (s : EndedOctets state table five code state' table' five') where
    -- the end: the judge's verdict on the joined parts, and its table in one of zeros
    pub promised : Octets (joined_parts ps) → AsJudged k ps table five code table' five'
    unfolding end_told
    promised oct =
        let x = runs_hold r in
        let h = x.1 in
        let e = taken_here h in
        let q = state_in state in
        let u = numbers_in table in
        let room : length u ≡ x.0 = numbers-length table ∙ h.room_is in
        let j = parts.promised h.run oct (end_told q u) (end_table q u) (record { answers = refl; table_left = refl }) in
        let m : length (end_table q u) ≡ table_room table = end-long q u ∙ numbers-length table in
        let told : verdict_by q (length u) ≡ (end_told q u).verdict = ap (λ (z : Told). z.verdict) (sym (cond_yes _ _ _ (sym (takes_same state table h.long) ∙ e))) in
        let v : cond (takes_in state table) (verdict_by q (table_room table)) out ≡ judge_verdict book k (joined_parts ps) (table_room table)
        = cond_yes _ _ _ e ∙ ap (verdict_by q) (sym (numbers-length table)) ∙ told ∙ j.0 ∙ ap (judge_verdict book k (joined_parts ps)) (sym h.room_is) in
        let b : table' ≡ table_laid (end_table q u) table = s.table_left ∙ cond_yes _ _ _ e in
        record {
          code_is = s.answers ∙ ap (λ (w : Verdict). w.code) v;
          five_is = s.five_left ∙ ap (λ (w : Verdict). five_laid w five) v;
          numbers_are = ap numbers_in b ∙ laid-read (end_table q u) table m ∙ j.1 ∙ ap (λ (n : ℕ). judge_table book k (joined_parts ps) (zeros n)) (sym h.room_is);
          odd_stays = ap (drop (2 * table_room table)) b ∙ laid_odd (end_table q u) table m;
        }

    -- and after it nothing is taken, whatever table is lent, until a start: 17, and nothing changes
    over : (any : List ℕ) → takes_in state' any ≡ false
    over any =
        let h = (runs_hold r).1 in
        let a : state' ≡ kept_in (ended_by (state_in state)) state = s.state_left ∙ cond_yes _ _ _ (taken_here h) in
        let x : state_in state' ≡ ended_by (state_in state) = ap state_in a ∙ kept_again (ended_by (state_in state)) (formed (sane-end (state_in state) h.sane)) state h.long in
        let l : state_size ≤ length state' = omega (arith, h.long, ap length a ∙ kept-long (ended_by (state_in state)) state h.long) in
        takes_same state' any l ∙ ap (λ (q : Pieces). takes q (length (numbers_in any))) x ∙ after-end (state_in state) (length (numbers_in any))

    pub over-part : {part any five₂ state'' table'' five₂' : List ℕ} {code₂ : ℕ} → PartedOctets state' part any five₂ code₂ state'' table'' five₂' → NotTaken state' any five₂ code₂ state'' table'' five₂'
    over-part {part} {any} c = part_out (over any) c

    pub over-end : {any five₂ state'' table'' five₂' : List ℕ} {code₂ : ℕ} → EndedOctets state' any five₂ code₂ state'' table'' five₂' → NotTaken state' any five₂ code₂ state'' table'' five₂'
    over-end {any} c = end_out (over any) c

-- ---- no contract allows two answers, or two of what is lent

pub one-start : {k : ℕ} {state table s s' t t' : List ℕ} {c c' : ℕ} → StartedOctets k state table c s t → StartedOctets k state table c' s' t' → (c ≡ c') × (s ≡ s') × (t ≡ t')
one-start x y = (x.answers ∙ sym y.answers, x.state_left ∙ sym y.state_left, x.table_left ∙ sym y.table_left)

pub one-part : {state part table five s s' t t' f f' : List ℕ} {c c' : ℕ} → PartedOctets state part table five c s t f → PartedOctets state part table five c' s' t' f'
    → (c ≡ c') × (s ≡ s') × (t ≡ t') × (f ≡ f')
one-part x y = (x.answers ∙ sym y.answers, x.state_left ∙ sym y.state_left, x.table_left ∙ sym y.table_left, x.five_left ∙ sym y.five_left)

pub one_end : {state table five s s' t t' f f' : List ℕ} {c c' : ℕ} → EndedOctets state table five c s t f → EndedOctets state table five c' s' t' f'
    → (c ≡ c') × (s ≡ s') × (t ≡ t') × (f ≡ f')
one_end x y = (x.answers ∙ sym y.answers, x.state_left ∙ sym y.state_left, x.table_left ∙ sym y.table_left, x.five_left ∙ sym y.five_left)
