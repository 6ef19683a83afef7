-- What taking one element leaves, put together from what its steps leave. Assumes nothing.
--     took_unlisted   the pair is not listed          took-kept   the element is kept          took-aside   it is not
use mathlib.Core.Path.{◌≡◌, refl, sym, ◌∙◌}
use mathlib.Core.Bool.{Bool, true, false, cond, not, ◌&&◌}
use mathlib.Core.List.{List, []}
use Prim.Native.Nat.{ℕ, ◌+◌, ◌≤◌, ◌<◌}
use native.Mathlib.Omega.{arith}
use borrow.Author.Tests.{lt-ltb, le-ltb, ne_eqb}
use lib.Dec.{eqb}
use lib.ListN.{length, get_or, set, get_or-eq_default}
use Rattle.rules.specs.Listings.{empty_line, book, seek, listing}
use Rattle.rules.specs.Standing.{Item, kept, mark_after, is_short, line_number, line_in, is_listed, is_over, standing, marked, entered, item_of}
use Rattle.rules.specs.Sound.{is_free}
use Rattle.rules.specs.Frames.{Frame, Element, element, exceeds}
use Rattle.rules.specs.declared.Head.{Head}
use Rattle.taking.specs.Lacks.{fault}
use Rattle.taking.specs.Held.{held, one, count, counted, short_of, put_numbers, put_row, Few, Took}
use Rattle.taking.specs.declared.Counts.{Counts}
use Rattle.taking.specs.declared.Inside.{Inside}
use Rattle.taking.specs.Lent.{level_of, limited_of}
use Rattle.std.specs.Prelude.{⊤, Option, None, MatchOption}

more-kept : (b : Bool) (k n : ℕ) → k ≤ n → cond b (k + 1) k ≤ n + 1
more-kept true k n h = omega arith
more-kept false k n h = omega arith

few-count : (c : Counts) (i : Item) (n : ℕ) → Few c n → Few (count c i) (n + 4)
unfolding count counted
few-count c i n f = record { kept = more-kept (eqb i.stand kept) c.kept c.rows f.kept; rows = omega (arith, f.rows) }

not-must : (a c : Bool) (x f : ℕ) → cond (a && false && c) x f ≡ f
not-must true c x f = refl
not-must false c x f = refl

no_short : (f s p t i : ℕ) → short_of f false s p t i ≡ f
unfolding short_of
no_short f s p t i = not-must (eqb f 0) (eqb s 3) (fault p t i) f

-- nor is a kept one
none_short : (f : ℕ) (must : Bool) (p t i : ℕ) → short_of f must 0 p t i ≡ f
unfolding short_of
none_short f must p t i = go (eqb f 0) must
  where
    go : (a c : Bool) → cond (a && c && false) (fault p t i) f ≡ f
    go true true = refl
    go true false = refl
    go false c = refl

-- whether an element is short does not hang on what stands inside it
pub same-short : (h : Head) (fs : List Frame) {z : Bool} → z ≡ is_short (element h []) → z ≡ is_short (element h fs)
unfolding is_short
same-short h fs e = e

module _ (k v : ℕ) (m : List ℕ) (p at : ℕ) (h : Element) (c : Counts) (rows : List ℕ) (few : Few c at) where
  i : Item
  i = item_of book k v m p at h

  -- the rows and the counts, from the standing and the first short element
  module _ (st f : ℕ) (c' : Counts) (rows' : List ℕ) (hs : st ≡ standing book k v m h) (hf : f ≡ short_of c.short (line_in book k v h).must st at h.typ h.inst)
      (hr : rows' ≡ put_numbers rows c.rows p h.typ h.inst (at + 4) h.len st) (hc : c' ≡ counted c st f) where
    counts_are : c' ≡ count c i
    unfolding count i item_of
    counts_are = rw (hc, hf, hs)

    holds : held c' rows' ≡ one (held c rows) (item_of book k v m p at h)
    unfolding one put_row i item_of
    holds = rw (counts_are, hr, hs)

    few_now : Few c' (at + 4)
    few_now = rw counts_are (few-count c i at few)

  stand_unlisted : is_listed book k v h ≡ false → 1 ≡ standing book k v m h
  unfolding standing
  stand_unlisted e = rw e

  stand-listed : is_listed book k v h ≡ true
      → cond (not (line_in book k v h).many && not (eqb (get_or m (line_number book k v h) 0) 0)) 2 (cond (is_short h) 3 (cond (is_over book k v h) 4 0)) ≡ standing book k v m h
  unfolding standing
  stand-listed e = rw e

  pub took_unlisted : (c' : Counts) (rows' : List ℕ) → length (listing book v) ≤ seek (listing book v) k h.typ h.inst
      → rows' ≡ put_numbers rows c.rows p h.typ h.inst (at + 4) h.len 1 → c' ≡ counted c 1 c.short
      → Took None m (held c' rows') k v m p at h (held c rows)
  unfolding marked entered
  took_unlisted c' rows' l hr hc =
      let off : is_listed book k v h ≡ false = le-ltb (seek (listing book v) k h.typ h.inst) (length (listing book v)) (omega arith) in
      let line : line_in book k v h ≡ empty_line = get_or-eq_default (listing book v) empty_line (omega arith) in
      let st : 1 ≡ standing book k v m h = stand_unlisted off in
      let f : c.short ≡ short_of c.short (line_in book k v h).must 1 at h.typ h.inst = rw line (sym (no_short c.short 1 at h.typ h.inst)) in record {
        holds = holds 1 c.short c' rows' st f hr hc;
        marks = rw off;
        level = rw (← st);
        limits = rw (← st);
        some = tt;
        few = few_now 1 c.short c' rows' st f hr hc;
      }

  -- what is said of a listed element; its line has number n
  module _ (n st mk : ℕ) (many short over : Bool) (rows' : List ℕ) (e : n ≡ seek (listing book v) k h.typ h.inst) (l : n < length (listing book v))
      (h₂ : many ≡ (get_or (listing book v) n empty_line).many) (h₄ : short ≡ is_short h) (h₅ : over ≡ exceeds (get_or (listing book v) n empty_line).limits h.within)
      (hs : st ≡ cond (not many && not (eqb (get_or m n 0) 0)) 2 (cond short 3 (cond over 4 0)))
      (hm : mk ≡ mark_after (get_or m n 0) st) (hr : rows' ≡ put_numbers rows c.rows p h.typ h.inst (at + 4) h.len st) where
    on : is_listed book k v h ≡ true
    on = lt-ltb (seek (listing book v) k h.typ h.inst) (length (listing book v)) (omega arith)

    stands : st ≡ standing book k v m h
    stands = hs ∙ rw (h₂, h₄, h₅, e) (stand-listed on)

    marks_are : set m n mk ≡ marked book k v m h
    unfolding marked
    marks_are = rw (on, hm, ← stands, e)

    pub took-kept : (enters : Option Inside) (c' : Counts) → st ≡ 0 → level_of enters ≡ (get_or (listing book v) n empty_line).inside
        → limited_of enters ≡ not (is_free (get_or (listing book v) n empty_line)) → MatchOption enters ⊤ (λ i. 0 < i.level) → c' ≡ counted c 0 c.short
        → Took enters (set m n mk) (held c' rows') k v m p at h (held c rows)
    unfolding entered
    took-kept enters c' z hi hl hs hc =
        let f : c.short ≡ short_of c.short (line_in book k v h).must st at h.typ h.inst = rw z (sym (none_short c.short (line_in book k v h).must at h.typ h.inst)) in
        let hc' : c' ≡ counted c st c.short = rw z hc in record {
          holds = holds st c.short c' rows' stands f hr hc';
          marks = marks_are;
          level = hi ∙ rw (← stands, z, e);
          limits = hl ∙ rw (← stands, z, e);
          some = hs;
          few = few_now st c.short c' rows' stands f hr hc';
        }

    pub took-aside : (f : ℕ) (must : Bool) (c' : Counts) → (st ≡ 0 → ⊥) → must ≡ (get_or (listing book v) n empty_line).must → f ≡ short_of c.short must st at h.typ h.inst → c' ≡ counted c st f
        → Took None (set m n mk) (held c' rows') k v m p at h (held c rows)
    unfolding entered
    took-aside f must c' z h₁ hf hc =
        let f' : f ≡ short_of c.short (line_in book k v h).must st at h.typ h.inst = hf ∙ rw (h₁, e) in record {
          holds = holds st f c' rows' stands f' hr hc;
          marks = marks_are;
          level = rw (← stands, ne_eqb st 0 z);
          limits = rw (← stands, ne_eqb st 0 z);
          some = tt;
          few = few_now st f c' rows' stands f' hr hc;
        }
