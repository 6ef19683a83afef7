-- The cleaned run: without the rows set aside, what the rows of a whole run emit is a whole run in which every row is kept. Assumes nothing.
--     Kin        the rows of one run are the kept rows of another
--     clean_run  the law
use mathlib.Core.Path.{◌≡◌, refl, sym, ap, ◌∙◌}
use mathlib.Core.Bool.{Bool, true, false, cond}
use mathlib.Core.List.{List, [], ◌∷◌, ◌++◌}
use Prim.Native.Nat.{ℕ, zero, suc, ◌+◌, ◌%◌, ◌≤◌}
use native.Mathlib.Omega.{arith}
use native.Mathlib.Nat.{add-zero}
use borrow.Author.Tests.{eqb-true, eq-eqb, ne_eqb}
use lib.Dec.{eqb}
use lib.ListN.{length, take, drop, get_or, length-replicate, take-append-drop, get_or-append}
use lib.Seq.{length-take-le, get_or-take, get_or-drop}
use Rattle.rules.specs.Framing.{octet, element_header, value_length, first_octet}
use Rattle.rules.specs.Types.{is_group}
use Rattle.rules.specs.Listings.{Book}
use Rattle.rules.specs.Standing.{Item, fresh, kept, most_lines, line_in, is_over, standing, marked, entered, item_of, value_place}
use Rattle.rules.specs.Met.{At, Met, ends, alone, group}
use Rattle.rules.specs.Sound.{sound}
use Rattle.rules.specs.Frames.{Frame, Element}
use Rattle.rules.specs.Late.{directs}
use Rattle.rules.proofs.Heads.{at_is, at_len, at-within, fits, value-length}
use Rattle.rules.proofs.Standings.{entered-kept, marked-length}
use Rattle.rules.proofs.Covers.{group_type, group-long}
use Rattle.rules.proofs.Frames.{Filled, none as no_frames, frame_in, frames-of, filled_more}
use Rattle.rules.proofs.Late.{met-directs}
use Rattle.rules.proofs.Rows.{Every, every_append}
use Rattle.rules.specs.Emitting.{Piece}
use Rattle.rules.specs.Cleaned.{received, pieces}
use Rattle.emitted.proofs.Forests.{Forest, none, aside, leaf, node, grown}
use Rattle.emitted.proofs.Elements.{head_with, element-at, element-rest, put_alone, put-group, kept-group}
use Rattle.emitted.proofs.Again.{Here, here-taken, here-front, here_back, here-octet, Counts, counts-split, pieces_append, pieces-length, Kept}
use Rattle.emitted.proofs.Fewer.{Fewer, Sparser, kept_too, entered_too, fewer-kept, fewer-aside, kept-within, sparser-under, sparser-none, sparser-aside, sparser-past, sparser-kept}

-- ---- an element as it was received

pub here-drop : (w : List ℕ) (at : ℕ) (xs : List ℕ) (n : ℕ) → n ≤ length xs → Here w at xs → Here w (at + n) (drop n xs)
here-drop w at xs n l h =
    let e : length (take n xs) ≡ n = length-take-le n xs l in
    rw e at (here_back w at (take n xs) (drop n xs) (rw (take-append-drop n xs) h))

pub here-take : (w : List ℕ) (at : ℕ) (xs : List ℕ) (n : ℕ) → Here w at xs → Here w at (take n xs)
here-take w at xs n h = here-front w at (take n xs) (drop n xs) (rw (take-append-drop n xs) h)

module _ (w : List ℕ) (at : ℕ) (xs : List ℕ) (h : Element) (a : At xs h) (here : Here w at xs) where
  pub value-here : Here w (at + element_header) (take h.len (drop element_header xs))
  value-here = here-take w (at + element_header) (drop element_header xs) h.len (here-drop w at xs element_header (omega (arith, fits a)) here)

  pub rest-here : Here w (at + element_header + h.len) (drop (element_header + h.len) xs)
  rest-here =
      let e : at + element_header + h.len ≡ at + (element_header + h.len) = omega arith in
      rw e (here-drop w at xs (element_header + h.len) (fits a) here)

  pub value-is : take h.len (drop (at + element_header) w) ≡ take h.len (drop element_header xs)
  value-is =
      let e : length (take h.len (drop element_header xs)) ≡ h.len = value-length xs h.len (fits a) in
      rw e at (here-taken w (at + element_header) (take h.len (drop element_header xs)) value-here)

  pub fourth-is : octet w (at + 3) ≡ octet xs 3
  fourth-is = here-octet w at xs here 3 ∙ get_or-append xs here.rest 0 3 (omega (arith, fits a))

  pub inst-is : octet w (at + 3) % 16 ≡ h.inst
  inst-is = ap (λ (x : ℕ). x % 16) fourth-is ∙ sym (ap (λ (x : Element). x.inst) (at_is a))

  first-is : (n : ℕ) → n ≡ h.len → get_or (take h.len (drop element_header xs)) 0 0 ≡ cond (eqb n 0) 0 (octet xs element_header)
  first-is zero e = let z : h.len ≡ 0 = sym e in rw z
  first-is (suc n) e =
      rw (ne_eqb (suc n) 0 (λ z. omega arith)) (get_or-take h.len (drop element_header xs) 0 0 (omega arith) ∙ get_or-drop element_header xs 0 0)

  abbrev read_as : ℕ → ℕ → ℕ → List Frame → Element
  read_as i n f fs = record { whole = true; typ = h.typ; inst = i; len = n; first = f; within = fs }

  heads : (i i' n n' f f' : ℕ) (fs fs' : List Frame) → i ≡ i' → n ≡ n' → f ≡ f' → fs ≡ fs' → read_as i n f fs ≡ read_as i' n' f' fs'
  heads i i' n n' f f' fs fs' x y z u = rw (x, y, z, u)

  -- read again with the value that it was received with, it is the same
  pub own-head : head_with h.typ (octet w (at + 3)) (take h.len (drop (at + element_header) w)) ≡ h
  own-head =
      let l : length (take h.len (drop element_header xs)) ≡ h.len = value-length xs h.len (fits a) in
      let f : h.first ≡ first_octet xs = ap (λ (x : Element). x.first) (at_is a) in
      rw value-is (heads _ h.inst _ h.len _ h.first _ h.within inst-is l (first-is (value_length xs) (sym (at_len a)) ∙ sym f) (sym (at-within a)) ∙ whole-element h a.whole)
    where
      whole-element : (g : Element) → g.whole ≡ true
          → ◌≡◌ {A = Element} (record { whole = true; typ = g.typ; inst = g.inst; len = g.len; first = g.first; within = g.within }) g
      whole-element g e =
          ap (λ (o : Bool). record { whole = o; typ = g.typ; inst = g.inst; len = g.len; first = g.first; within = g.within }) (sym e)

-- ---- the kept rows of a run

-- row j of the one stands for row i of the other
pub record Stands (anew : ℕ → ℕ) (i j : Item) : Type 0 where
  pub kept_i : i.stand ≡ kept
  pub kept_j : j.stand ≡ kept
  pub parent : j.parent ≡ anew i.parent
  pub typ : j.typ ≡ i.typ
  pub inst : j.inst ≡ i.inst
  pub inside : j.inside ≡ i.inside

pub data Kin (anew : ℕ → ℕ) : ℕ → List Item → List Item → Type 0 where
  nobody : {n : ℕ} → Kin anew n [] []
  gone : {n : ℕ} {es fs : List Item} (i : Item) → eqb i.stand kept ≡ false → anew (n + 1) ≡ anew n → Kin anew (n + 1) es fs → Kin anew n (i ∷ es) fs
  both : {n : ℕ} {es fs : List Item} (i j : Item) → Stands anew i j → anew (n + 1) ≡ anew n + 1 → Kin anew (n + 1) es fs → Kin anew n (i ∷ es) (j ∷ fs)

kin_append : {anew : ℕ → ℕ} {n : ℕ} {is is' : List Item} (es es' : List Item) → Kin anew n is is' → Kin anew (n + length is) es es' → Kin anew n (is ++ es) (is' ++ es')
kin_append {anew} {n} es es' nobody k = let e : n + 0 ≡ n = add-zero n in rw e at k
kin_append {anew} {n} es es' (gone {es = is} i s c d) k = let e : n + suc (length is) ≡ n + 1 + length is = omega arith in gone i s c (kin_append es es' d (rw e at k))
kin_append {anew} {n} es es' (both {es = is} i j s c d) k = let e : n + suc (length is) ≡ n + 1 + length is = omega arith in both i j s c (kin_append es es' d (rw e at k))

pub kin-count : {anew : ℕ → ℕ} {n : ℕ} {es fs : List Item} → Kin anew n es fs → anew (n + length es) ≡ anew n + length fs
kin-count {anew} {n} nobody = let e : n + 0 ≡ n = add-zero n in rw e (sym (add-zero (anew n)))
kin-count {anew} {n} (gone {es = es} i s c d) = let e : n + suc (length es) ≡ n + 1 + length es = omega arith in rw e (omega (arith, kin-count d))
kin-count {anew} {n} (both {es = es} i j s c d) = let e : n + suc (length es) ≡ n + 1 + length es = omega arith in rw e (omega (arith, kin-count d))

pub both-rows : (x : Piece) (is is' es es' : List Piece) → is ≡ is' → es ≡ es' → x ∷ (is ++ es) ≡ x ∷ (is' ++ es')
both-rows x is is' es es' a c = rw (a, c)

module _ (b : Book) (fine : sound b ≡ true) (k : ℕ) (w : List ℕ) (anew : ℕ → ℕ) where
  -- level, marks, parent, rows before, place; rows of the run as it was received
  pub record Run (v : ℕ) (mc : List ℕ) (p n at : ℕ) (es : List Item) : Type 0 where
    pub rows : List Piece
    pub rows_are : rows ≡ pieces w es
    pub forest : Forest p n rows
    pub items : List Item
    pub met : Met b k v mc (anew p) (anew n) at (grown forest) items
    pub all_kept : Every Kept items
    pub kin : Kin anew n es items
    -- what it is filled with, by headers alone: no more of a pair than was received
    pub frames : List Frame
    pub filled : Filled (grown forest) frames
    pub sparser : Sparser frames (directs p es)

  run_ends : (v : ℕ) (mc : List ℕ) (p n at : ℕ) → Run v mc p n at []
  unfolding pieces grown Every
  run_ends v mc p n at = record { rows = []; rows_are = refl; forest = none; items = []; met = ends; all_kept = tt; kin = nobody; frames = []; filled = no_frames; sparser = sparser-none p }

  run-aside : (i : Item) (es : List Item) (v : ℕ) (mc : List ℕ) (p n at : ℕ) → i.parent ≡ p → eqb i.stand kept ≡ false
      → Counts anew n (pieces w (i ∷ es)) → Run v mc p (n + 1) at es → Run v mc p n at (i ∷ es)
  unfolding pieces received grown Counts
  run-aside i es v mc p n at e s c r =
      let same : anew (n + 1) ≡ anew n = c.0 ∙ rw s (add-zero (anew n)) in
      record {
        rows = received w i ∷ r.rows;
        rows_are = rw r.rows_are;
        forest = aside (received w i) s e r.forest;
        items = r.items;
        met = rw same at r.met;
        all_kept = r.all_kept;
        kin = gone i s same r.kin;
        frames = r.frames;
        filled = r.filled;
        sparser = sparser-aside p i r.frames es r.sparser;
      }

  module _ (i : Item) (v : ℕ) (mc : List ℕ) (p n at : ℕ) (ys : List ℕ) (e : i.parent ≡ p) (s : i.stand ≡ kept)
      (z : standing b k v mc (head_with i.typ (octet w (i.place + 3)) ys) ≡ kept) (q : octet w (i.place + 3) % 16 ≡ i.inst)
      (g : entered b k v mc (head_with i.typ (octet w (i.place + 3)) ys) ≡ i.inside) where
    abbrev in_head : Element
    in_head = head_with i.typ (octet w (i.place + 3)) ys

    abbrev in_item : Item
    in_item = item_of b k v mc (anew p) at (head_with i.typ (octet w (i.place + 3)) ys)

    stands : Stands anew i (item_of b k v mc (anew p) at (head_with i.typ (octet w (i.place + 3)) ys))
    unfolding item_of
    stands = record { kept_i = s; kept_j = z; parent = ap anew (sym e); typ = refl; inst = q; inside = g }

    is-kept : Kept (item_of b k v mc (anew p) at (head_with i.typ (octet w (i.place + 3)) ys))
    unfolding item_of
    is-kept = z

  run-leaf : (i : Item) (es : List Item) (v : ℕ) (mc : List ℕ) (p n at : ℕ) → i.parent ≡ p → i.stand ≡ kept → is_group i.typ ≡ false
      → standing b k v mc (head_with i.typ (octet w (i.place + 3)) (take i.len (drop (value_place i) w))) ≡ kept → octet w (i.place + 3) % 16 ≡ i.inst
      → entered b k v mc (head_with i.typ (octet w (i.place + 3)) (take i.len (drop (value_place i) w))) ≡ 0 → i.inside ≡ 0
      → Counts anew n (pieces w (i ∷ es))
      → ((at' : ℕ) → Run v (marked b k v mc (head_with i.typ (octet w (i.place + 3)) (take i.len (drop (value_place i) w)))) p (n + 1) at' es)
      → Run v mc p n at (i ∷ es)
  unfolding pieces received grown Counts Every
  run-leaf i es v mc p n at e s g z q o u c rec =
      let ys : List ℕ = take i.len (drop (value_place i) w) in
      let next : anew (n + 1) ≡ anew n + 1 = c.0 ∙ rw (eq-eqb i.stand kept s) in
      let r = rec (at + element_header + length (take i.len (drop (value_place i) w))) in
      record {
        rows = received w i ∷ r.rows;
        rows_are = rw r.rows_are;
        forest = leaf (received w i) (eq-eqb i.stand kept s) e g r.forest;
        items = item_of b k v mc (anew p) at (head_with i.typ (octet w (i.place + 3)) (take i.len (drop (value_place i) w))) ∷ r.items;
        met = rw g (put_alone i.typ (octet w (i.place + 3)) (take i.len (drop (value_place i) w)) (grown r.forest) b k v mc (anew p) (anew n) at o (rw next at r.met));
        all_kept = (is-kept i v mc p n at (take i.len (drop (value_place i) w)) e s z q (o ∙ sym u), r.all_kept);
        kin = both i _ (stands i v mc p n at (take i.len (drop (value_place i) w)) e s z q (o ∙ sym u)) next r.kin;
        frames = frame_in (head_with i.typ (octet w (i.place + 3)) ys) ∷ r.frames;
        filled = rw g (filled_more (element-at i.typ (octet w (i.place + 3)) ys (grown r.forest)) (rw (element-rest i.typ (octet w (i.place + 3)) ys (grown r.forest)) r.filled));
        sparser = sparser-kept p i (frame_in (head_with i.typ (octet w (i.place + 3)) ys)) r.frames es e refl q r.sparser;
      }

  run-node : (i : Item) (is es : List Item) (v : ℕ) (mc : List ℕ) (p n at g : ℕ) → i.parent ≡ p → i.stand ≡ kept → is_group i.typ ≡ true
      → octet w (i.place + 3) % 16 ≡ i.inst → i.inside ≡ suc g → Counts anew n (pieces w (i ∷ (is ++ es)))
      → (inn : Run (suc g) fresh (n + 1) (n + 1) (at + element_header) is)
      → standing b k v mc (head_with i.typ (octet w (i.place + 3)) (grown inn.forest)) ≡ kept
      → entered b k v mc (head_with i.typ (octet w (i.place + 3)) (grown inn.forest)) ≡ suc g
      → ((ys : List ℕ) (at' : ℕ) → Run v (marked b k v mc (head_with i.typ (octet w (i.place + 3)) ys)) p (n + 1 + length is) at' es)
      → Run v mc p n at (i ∷ (is ++ es))
  unfolding pieces received grown Counts Every
  run-node i is es v mc p n at g e s t q u c inn z o rest =
      let next : anew (n + 1) ≡ anew n + 1 = c.0 ∙ rw (eq-eqb i.stand kept s) in
      let size : length inn.rows ≡ length is = ap length inn.rows_are ∙ pieces-length w is in
      let r : Run v (marked b k v mc (head_with i.typ (octet w (i.place + 3)) (grown inn.forest))) p (n + 1 + length inn.rows) (at + element_header + length (grown inn.forest)) es =
      rw size (rest (grown inn.forest) (at + element_header + length (grown inn.forest))) in
      let count : anew (n + 1 + length inn.rows) ≡ anew n + 1 + length inn.items = rw size (omega (arith, kin-count inn.kin)) in
      record {
        rows = received w i ∷ (inn.rows ++ r.rows);
        rows_are = both-rows (received w i) inn.rows (pieces w is) r.rows (pieces w es) inn.rows_are r.rows_are ∙ rw (pieces_append w is es);
        forest = node (received w i) (eq-eqb i.stand kept s) e t (rw t) inn.forest r.forest;
        items = item_of b k v mc (anew p) at (head_with i.typ (octet w (i.place + 3)) (grown inn.forest)) ∷ (inn.items ++ r.items);
        met = put-group i.typ (octet w (i.place + 3)) (grown inn.forest) (grown r.forest) b k v mc (anew p) (anew n) at g o
            (rw next at inn.met) (rw count at r.met);
        all_kept = (is-kept i v mc p n at (grown inn.forest) e s z q (o ∙ sym u), every_append Kept inn.items r.items inn.all_kept r.all_kept);
        kin = both i _ (stands i v mc p n at (grown inn.forest) e s z q (o ∙ sym u)) next
            (kin_append es r.items inn.kin (rw size at r.kin));
        frames = frame_in (head_with i.typ (octet w (i.place + 3)) (grown inn.forest)) ∷ r.frames;
        filled = filled_more (element-at i.typ (octet w (i.place + 3)) (grown inn.forest) (grown r.forest))
            (rw (element-rest i.typ (octet w (i.place + 3)) (grown inn.forest) (grown r.forest)) r.filled);
        sparser = sparser-kept p i (frame_in (head_with i.typ (octet w (i.place + 3)) (grown inn.forest))) r.frames (is ++ es) e refl q (sparser-past p is r.frames es r.sparser);
      }

  -- ---- the law

  pub no_group : (v : ℕ) (m : List ℕ) (h : Element) → standing b k v m h ≡ kept → entered b k v m h ≡ 0 → (c : Bool) → is_group h.typ ≡ c → is_group h.typ ≡ false
  no_group v m h s e false g = g
  no_group v m h s e true g = let r = kept-group b fine k v m h s g in absurd (omega (arith, r.1))

  -- one element that is not entered
  module _ (v : ℕ) (m : List ℕ) (p n at : ℕ) (xs : List ℕ) (es : List Item) (h : Element) (a : At xs h) (e : entered b k v m h ≡ 0) (here : Here w at xs)
      (size : length m ≡ most_lines) (mc : List ℕ) (f : Fewer m mc) (at' : ℕ) (c : Counts anew n (pieces w (item_of b k v m p at h ∷ es)))
      (rec : (md : List ℕ) → Fewer (marked b k v m h) md → (to : ℕ) → Run v md p (n + 1) to es) where
    clean-alone : (y : Bool) → eqb (standing b k v m h) kept ≡ y → Run v mc p n at' (item_of b k v m p at h ∷ es)
    unfolding item_of
    clean-alone false s = run-aside (item_of b k v m p at h) es v mc p n at' refl s c (rec mc (fewer-aside b k v m mc f h) at')
    clean-alone true s =
        let z : standing b k v m h ≡ kept = eqb-true _ _ s in
        let own = own-head w at xs h a here in
        let l = kept-within b k v m h z in
        let y : standing b k v mc h ≡ kept = kept_too b k v m mc f h h refl refl z l.0 l.1 in
        run-leaf (item_of b k v m p at h) es v mc p n at' refl z (no_group v m h z e (is_group h.typ) refl) (rw own y) (inst-is w at xs h a here)
        (rw own (entered_too b k v m mc f h h refl refl z y ∙ e)) e c
        (λ to. rec (marked b k v mc (head_with h.typ (octet w (at + 3)) (take h.len (drop (at + element_header) w)))) (rw own (fewer-kept b k v m mc f h h refl refl z fine size)) to)

  -- one that is
  module _ (v : ℕ) (m : List ℕ) (p n at : ℕ) (xs : List ℕ) (is es : List Item) (h : Element) (g : ℕ) (a : At xs h) (e : entered b k v m h ≡ suc g) (here : Here w at xs)
      (size : length m ≡ most_lines) (mc : List ℕ) (f : Fewer m mc) (at' : ℕ) (c : Counts anew n (pieces w (item_of b k v m p at h ∷ (is ++ es))))
      (inside : Filled (take h.len (drop element_header xs)) (directs (n + 1) is)) (inn : Run (suc g) fresh (n + 1) (n + 1) (at' + element_header) is)
      (rec : (md : List ℕ) → Fewer (marked b k v m h) md → (to : ℕ) → Run v md p (n + 1 + length is) to es) where
    z : standing b k v m h ≡ kept
    z = entered-kept b k v m h (omega arith)

    abbrev anew_head : Element
    anew_head = head_with h.typ (octet w (at + 3)) (grown inn.forest)

    same_line : line_in b k v anew_head ≡ line_in b k v h
    same_line = rw (inst-is w at xs h a here)

    -- it holds no more of a pair than the group as it came, which was not over
    under : is_over b k v anew_head ≡ false
    under =
        rw (same_line, frames-of inn.filled)
        (sparser-under (line_in b k v h).limits inn.frames (directs (n + 1) is) inn.sparser (rw (at-within a, frames-of inside) at (kept-within b k v m h z).1))

    y : standing b k v mc anew_head ≡ kept
    y =
        kept_too b k v m mc f h anew_head refl (inst-is w at xs h a here) z
        (group-long anew_head (group_type b fine k v m h g e)) under

    clean-group : Run v mc p n at' (item_of b k v m p at h ∷ (is ++ es))
    unfolding item_of
    clean-group =
        run-node (item_of b k v m p at h) is es v mc p n at' g refl z (group_type b fine k v m h g e) (inst-is w at xs h a here) e c inn y
        (entered_too b k v m mc f h anew_head refl (inst-is w at xs h a here) z y ∙ e)
        (λ ys to. rec (marked b k v mc (head_with h.typ (octet w (at + 3)) ys))
        (fewer-kept b k v m mc f h (head_with h.typ (octet w (at + 3)) ys) refl (inst-is w at xs h a here) z fine size) to)

  pub fresh-size : length fresh ≡ most_lines
  fresh-size = length-replicate {A = ℕ} most_lines 0

  pub clean_run : {v : ℕ} {m : List ℕ} {p n at : ℕ} {xs : List ℕ} {es : List Item} → Met b k v m p n at xs es → Here w at xs → length m ≡ most_lines
      → (mc : List ℕ) → Fewer m mc → (at' : ℕ) → Counts anew n (pieces w es) → Run v mc p n at' es
  unfolding pieces Counts
  clean_run (ends {v = v} {p = p} {n = n}) here size mc f at' c = run_ends v mc p n at'
  clean_run (alone {v = v} {m = m} {p = p} {n = n} {at = at} {xs = xs} {es = es} h a e t) here size mc f at' c =
      clean-alone v m p n at xs es h a e here size mc f at' c
      (λ md fd to. clean_run t (rest-here w at xs h a here) (marked-length b k v m h ∙ size) md fd to c.1) (eqb (standing b k v m h) kept) refl
  clean_run (group {v = v} {m = m} {p = p} {n = n} {at = at} {xs = xs} {is = is} {es = es} h g a e d t) here size mc f at' c =
      let cs = counts-split anew (n + 1) (pieces w is) (pieces w es) (rw (pieces_append w is es) at c.1) in
      let ct : Counts anew (n + 1 + length is) (pieces w es) = rw (pieces-length w is) at cs.1 in
      clean-group v m p n at xs is es h g a e here size mc f at' c (met-directs d (omega arith))
      (clean_run d (value-here w at xs h a here) fresh-size fresh (λ s q. q) (at' + element_header) cs.0)
      (λ md fd to. clean_run t (rest-here w at xs h a here) (marked-length b k v m h ∙ size) md fd to ct)
