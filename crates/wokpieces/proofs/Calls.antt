-- The ways out of the exports. Assumes nothing.
use mathlib.Core.Path.{◌≡◌, refl, sym, ap, ◌∙◌}
use mathlib.Core.Bool.{Bool, true, false, cond}
use Rattle.std.specs.Prelude.{Option, Some, None}
use borrow.Author.Rules.{rules}
use mathlib.Core.List.{List, ◌++◌}
use Prim.Native.Nat.{ℕ, ◌*◌, ◌≤◌, ◌<◌}
use native.Mathlib.Omega.{arith}
use borrow.Author.Tests.{lt-ltb, le-ltb}
use lib.ListN.{length, take, drop, replicate, length-take, length-replicate}
use lib.Seq.{take_all}
use Rattle.rules.specs.Octets.{numbers_in, table_room}
use Rattle.rules.specs.Verdicts.{accepted}
use Rattle.rules.specs.declared.Verdict.{Verdict}
use Rattle.rules.proofs.Rows.{Octets}
use Rattle.rules.proofs.Numbers.{numbers-length}
use Rattle.pieces.specs.declared.Pieces.{Pieces}
use Rattle.pieces.specs.Feeding.{zeros}
use Rattle.pieces.specs.Answers.{takes, out, start_of, part_told, part_table, ended_by, verdict_by}
use Rattle.pieces.specs.Agreements.{FitsAll}
use Rattle.pieces.proofs.Accepting.{cond_yes, cond_no, never}
use Rattle.keeping.specs.Kept.{state_size, kept_in, state_in}
use Rattle.wokpieces.specs.Exports.{takes_with, takes_in, Takes, Told, Finished, FedTable, StartedOctets, PartedOctets, EndedOctets}
use Rattle.pieces.proofs.Twos.{numbers-take, laid_by, zeros-read}

-- ---- the start

pub start_short : (kind : ℕ) (state table : List ℕ) → length state < state_size → StartedOctets kind state table 17 state table
unfolding kept_in
start_short kind state table l =
    let e = lt-ltb (length state) state_size l in
    record { answers = rw e; state_left = rw e; table_left = rw e }

pub start_done : (kind : ℕ) (state table : List ℕ) {p : Pieces} {state' t : List ℕ} → state_size ≤ length state → p ≡ start_of kind (table_room table) → state' ≡ kept_in p state
    → t ≡ replicate (length (take (2 * table_room table) table)) 0 → Octets (t ++ drop (2 * table_room table) table) → StartedOctets kind state table 0 state' (t ++ drop (2 * table_room table) table)
start_done kind state table {p} {state'} {t} l hp hs ht o =
    let e = le-ltb (length state) state_size l in
    let n = table_room table in
    let m : length (take (2 * n) table) ≡ 2 * n = omega (arith, length-take (2 * n) table) in
    let z : t ≡ replicate (2 * n) 0 = ht ∙ ap (λ (j : ℕ). replicate j 0) m in
    record {
      answers = rw e;
      state_left = hs ∙ ap (λ (q : Pieces). kept_in q state) hp;
      table_left = laid_by table t (zeros n) n o (ap length z ∙ length-replicate {A = ℕ} (2 * n) 0) (ap numbers_in z ∙ zeros-read n) ∙ sym (cond_no _ _ _ e);
    }

-- the whole numbers of a table are lent: as many as it has, two octets each
pub half_of : (table : List ℕ) → (table_room (take (2 * table_room table) table) ≡ table_room table) × (length (take (2 * table_room table) table) ≡ 2 * table_room table)
half_of table = (omega (arith, length-take (2 * table_room table) table), omega (arith, length-take (2 * table_room table) table))

-- ---- what is taken

module _ (state : List ℕ) (room : ℕ) where
  pub taken_short : length state < state_size → Takes state room None
  taken_short l = let e = lt-ltb (length state) state_size l in record { is = rw e; long = λ z. absurd (never (rw e at z)); fits = λ z. absurd (never (rw e at z)) }

  module _ {p : Pieces} {r : Bool} (l : state_size ≤ length state) (e : p ≡ state_in state) (t : r ≡ takes p room) where
    whole : takes_with state room ≡ r
    whole = rw (le-ltb (length state) state_size l) (sym (t ∙ ap (λ (q : Pieces). takes q room) e))

    pub taken_out : r ≡ false → Takes state room None
    taken_out n = let z = whole ∙ n in record { is = rw z; long = λ a. l; fits = λ a. absurd (never (sym z ∙ a)) }

    pub taken_by : r ≡ true → FitsAll p → Takes state room (Some p)
    taken_by y f = let z = whole ∙ y in record { is = rw z (ap Some e); long = λ a. l; fits = λ a. rw (← e) f }

some-of : {p q : Pieces} (c : Bool) → ◌≡◌ {A = Option Pieces} (Some p) (cond c (Some q) None) → (c ≡ true) × (p ≡ q)
some-of true e = (refl, cc)
some-of false e = absurd (search rules)

none-of : (q : Pieces) (c : Bool) → ◌≡◌ {A = Option Pieces} None (cond c (Some q) None) → c ≡ false
none-of q true e = absurd (search rules)
none-of q false e = refl

module _ {state : List ℕ} {room : ℕ} where
  -- it is what was kept
  pub kept-is : {p : Pieces} → Takes state room (Some p) → p ≡ state_in state
  kept-is t = (some-of (takes_with state room) t.is).1

  pub kept_fits : {p : Pieces} → Takes state room (Some p) → FitsAll p
  kept_fits {p} t = let s = some-of (takes_with state room) t.is in rw s.1 (t.fits s.0)

module _ (state table : List ℕ) where
  refused-in : Takes state (table_room table) None → takes_in state table ≡ false
  unfolding takes_in
  refused-in t = none-of (state_in state) (takes_with state (table_room table)) t.is

  accepted-in : {p : Pieces} → Takes state (table_room table) (Some p) → takes_in state table ≡ true
  unfolding takes_in
  accepted-in t = (some-of (takes_with state (table_room table)) t.is).0

  taken_in : {p : Pieces} → Takes state (table_room table) (Some p) → takes (state_in state) (table_room table) ≡ true
  taken_in t =
      let e = (some-of (takes_with state (table_room table)) t.is).0 in
      sym (cond_no _ _ _ (le-ltb (length state) state_size (t.long e))) ∙ e

  all-numbers : numbers_in (take (2 * table_room table) table) ≡ numbers_in table
  all-numbers = numbers-take (table_room table) table ∙ take_all (table_room table) (numbers_in table) (omega (arith, numbers-length table))

  module _ (part five : List ℕ) {v : Verdict} {code : ℕ} {five' : List ℕ} (w : Told v five code five') where
    pub part_refused : Takes state (table_room table) None → v ≡ out → PartedOctets state part table five code state table five'
    part_refused t e =
        let c = refused-in t in
        let h : v ≡ cond (takes_in state table) accepted out = e ∙ sym (cond_no _ _ _ c) in
        record {
          answers = w.answers ∙ ap (λ (u : Verdict). u.code) h;
          state_left = sym (cond_no _ _ _ c);
          table_left = sym (cond_no _ _ _ c);
          five_left = w.five_left ∙ rw h;
        }

    pub part_taken : {p q : Pieces} {t' state' : List ℕ} → Takes state (table_room table) (Some p) → FedTable p part (take (2 * table_room table) table) q t' → Octets (t' ++ drop (2 * table_room table) table) → state' ≡ kept_in q state → v ≡ accepted
        → PartedOctets state part table five code state' (t' ++ drop (2 * table_room table) table) five'
    unfolding part_told part_table
    part_taken {p} {q} {t'} {state'} t f o hs e =
        let c = accepted-in t in
        let k : takes (state_in state) (length (numbers_in table)) ≡ true = rw (numbers-length table) (taken_in t) in
        let h : v ≡ cond (takes_in state table) accepted out = e ∙ sym (cond_yes _ _ _ c) in
        let l : length t' ≡ 2 * table_room table = omega (arith, f.long, length-take (2 * table_room table) table) in
        let f' : FedTable (state_in state) part (take (2 * table_room table) table) q t' = rw (kept-is t) at f in
        record {
          answers = w.answers ∙ ap (λ (u : Verdict). u.code) h;
          state_left = hs ∙ ap (λ (z : Pieces). kept_in z state) (f'.state ∙ rw (all-numbers, k)) ∙ sym (cond_yes _ _ _ c);
          table_left = laid_by table t' _ (table_room table) o l (f'.numbers ∙ rw (all-numbers, k)) ∙ sym (cond_yes _ _ _ c);
          five_left = w.five_left ∙ rw h;
        }

  module _ (five : List ℕ) {v : Verdict} {code : ℕ} {five' : List ℕ} (w : Told v five code five') where
    pub end_refused : Takes state (table_room table) None → v ≡ out → EndedOctets state table five code state table five'
    end_refused t e =
        let c = refused-in t in
        let h : v ≡ cond (takes_in state table) (verdict_by (state_in state) (table_room table)) out = e ∙ sym (cond_no _ _ _ c) in
        record {
          answers = w.answers ∙ ap (λ (u : Verdict). u.code) h;
          state_left = sym (cond_no _ _ _ c);
          table_left = sym (cond_no _ _ _ c);
          five_left = w.five_left ∙ rw h;
        }

    pub end_taken : {p q : Pieces} {t' state' : List ℕ} → Takes state (table_room table) (Some p) → v ≡ verdict_by p (table_room table) → Finished p v (take (2 * table_room table) table) t'
        → Octets (t' ++ drop (2 * table_room table) table) → q ≡ ended_by p → state' ≡ kept_in q state
        → EndedOctets state table five code state' (t' ++ drop (2 * table_room table) table) five'
    end_taken {p} {q} {t'} {state'} t e f o hq hs =
        let c = accepted-in t in
        let hp = kept-is t in
        let h : v ≡ cond (takes_in state table) (verdict_by (state_in state) (table_room table)) out = e ∙ ap (λ (z : Pieces). verdict_by z (table_room table)) hp ∙ sym (cond_yes _ _ _ c) in
        let l : length t' ≡ 2 * table_room table = omega (arith, f.long, length-take (2 * table_room table) table) in
        let m : table_room (take (2 * table_room table) table) ≡ table_room table = omega (arith, length-take (2 * table_room table) table) in
        let k : takes p (table_room (take (2 * table_room table) table)) ≡ true = rw (m, hp) (taken_in t) in
        record {
          answers = w.answers ∙ ap (λ (u : Verdict). u.code) h;
          state_left = hs ∙ ap (λ (z : Pieces). kept_in z state) (hq ∙ ap ended_by hp) ∙ sym (cond_yes _ _ _ c);
          table_left = laid_by table t' _ (table_room table) o l (f.numbers k ∙ rw (all-numbers, hp)) ∙ sym (cond_yes _ _ _ c);
          five_left = w.five_left ∙ rw h;
        }
