-- The steps as the code takes them: the open levels are in an array and a count, the header's octets too. Assumes nothing.
use Rattle.std.specs.Prelude.{ℕ, zero, suc, ◌+◌, ◌-◌, ◌%◌, Bool, true, false, cond, Option, Some, None, List, [], ◌∷◌, eqb, ltb, get_or, set, replicate}
use Rattle.rules.specs.Sizes.{largest_message}
use Rattle.rules.specs.Framing.{octet, element_header, value_length, length_field, header_length}
use Rattle.rules.specs.Listings.{book}
use Rattle.rules.specs.Standing.{fresh, item_of, entered}
use Rattle.rules.specs.Taking.{body_level}
use Rattle.rules.specs.Verdicts.{opening_checks, refuses, first}
use Rattle.rules.specs.Frames.{Element, element}
use Rattle.rules.specs.declared.Head.{Head}
use Rattle.taking.specs.Lacks.{lack_of}
use Rattle.taking.specs.Held.{Held, held, one, no_counts, closed, put_numbers}
use Rattle.taking.specs.declared.Counts.{Counts}
use Rattle.pieces.specs.declared.Open.{Open}
use Rattle.pieces.specs.declared.Going.{Going}
use Rattle.pieces.specs.declared.Pieces.{Pieces}
use Rattle.pieces.specs.Depth.{deepest}
use Rattle.taking.specs.Frames.{apns_of}
use Rattle.pieces.specs.Drafts.{limited_level, back_to, Draft, draft, back_by, is_crowded}
use Rattle.pieces.specs.Steps.{onward, opened}
use Rattle.pieces.specs.Feeding.{count_on}

-- what stands past the array's end, and no answer hangs on that
abbrev pub no_open : Open
no_open = record { level = 0; marks = []; parent = 0; home = 0; left = 0 }

-- a slot that no level was opened in
abbrev pub blank_open : Open
blank_open = record { level = 0; marks = fresh; parent = 0; home = 0; left = 0 }

-- the innermost level
abbrev pub top_of : Going → Open
top_of w = get_or w.levels (w.depth - 1) no_open

-- ---- closing levels

unfoldable pub with_depth : Going → ℕ → Counts → Going
with_depth w n c = record { stopped = w.stopped; depth = n; levels = w.levels; place = w.place; have = w.have; some = w.some; pass = w.pass; counts = c; limited = false; apns = 0; back = no_counts }

unfoldable pub with_have : Going → ℕ → Going
with_have w n = record { stopped = w.stopped; depth = w.depth; levels = w.levels; place = w.place; have = n; some = w.some; pass = w.pass; counts = w.counts; limited = w.limited; apns = w.apns; back = w.back }

unfoldable pub stop : Going → Going
stop w = record { stopped = true; depth = w.depth; levels = w.levels; place = w.place; have = w.have; some = w.some; pass = w.pass; counts = w.counts; limited = w.limited; apns = w.apns; back = w.back }

-- the counts at its end, or those before the group if it held too much
abbrev pub closed_by : ℕ → Going → Counts
closed_by k w = cond (is_crowded w.limited w.apns) w.back (closed w.counts (lack_of book k (top_of w).level (top_of w).marks (top_of w).home))

-- the innermost level is closed if it has nothing left
unfoldable pub close_top : ℕ → Going → Going
close_top k w =
    cond (eqb w.depth 0) w
    (cond (eqb (top_of w).left 0)
    (with_depth w (w.depth - 1) (closed_by k w))
    w)

unfoldable pub close_tops : ℕ → ℕ → Going → Going
close_tops zero k w = w
close_tops (suc n) k w = close_tops n k (close_top k w)

-- and one with 1 to 3 octets left is cut
unfoldable pub check_top : Going → Going
check_top w = cond (eqb w.depth 0) (with_have w 0) (cond (ltb (top_of w).left element_header) (stop w) w)

unfoldable pub settle_top : ℕ → Going → Going
settle_top k w = check_top (close_tops deepest k w)

-- ---- one element

abbrev pub head_by : List ℕ → ℕ → Head
head_by some x = record { whole = true; typ = octet some 0; inst = octet some 3 % 16; len = value_length some; first = x }

unfoldable pub beyond : Going → Open → ℕ → ℕ → Counts → Going
beyond w on len came c = record {
  stopped = false;
  depth = w.depth;
  levels = set w.levels (w.depth - 1) on;
  place = w.place + element_header + len;
  have = 0;
  some = w.some;
  pass = len - came;
  counts = c;
  limited = w.limited;
  apns = w.apns;
  back = w.back;
}

unfoldable pub into : Going → Open → ℕ → ℕ → ℕ → ℕ → Counts → Going
into w on inner len x came c = record {
  stopped = false;
  depth = w.depth + 1;
  levels = set (set w.levels (w.depth - 1) on) w.depth (opened inner c.rows w.place len);
  place = w.place + element_header;
  have = came;
  some = set w.some 0 x;
  pass = 0;
  counts = c;
  limited = w.limited;
  apns = w.apns;
  back = w.back;
}

-- beyond an element or into it: as deep as the listings go, and no deeper
abbrev pub placed_by : Going → Open → ℕ → ℕ → ℕ → ℕ → Counts → Going
placed_by w on inner len x came c =
    cond (eqb inner 0) (beyond w on len came c)
    (cond (ltb w.depth deepest) (into w on inner len x came c) (beyond w on len came c))

unfoldable pub with_watch : Going → Bool → ℕ → Counts → Going
with_watch w limited n back = record {
  stopped = w.stopped;
  depth = w.depth;
  levels = w.levels;
  place = w.place;
  have = w.have;
  some = w.some;
  pass = w.pass;
  counts = w.counts;
  limited = limited;
  apns = n;
  back = back;
}

-- an element that is entered is watched or not; of another, n is 1 if it is an APN
unfoldable pub watched_by : Going → ℕ → Bool → ℕ → Counts → Going
watched_by w inner limited n c =
    cond (eqb inner 0) (with_watch w w.limited (w.apns + n) w.back) (with_watch w limited 0 (back_by w.counts c))

-- counts that an element is counted from by itself, and the counts with those of one element
abbrev pub alone_by : Counts → Counts
alone_by c = record { rows = 0; kept = 0; short = c.short; gap = c.gap }

abbrev pub joined_by : Counts → Counts → Counts
joined_by c e = record { rows = c.rows + e.rows; kept = c.kept + e.kept; short = e.short; gap = e.gap }

-- a row's six numbers at row n, if there is room for it
abbrev pub row_laid : List ℕ → ℕ → List ℕ → List ℕ
row_laid rows n row = put_numbers rows n (get_or row 0 0) (get_or row 1 0) (get_or row 2 0) (get_or row 3 0) (get_or row 4 0) (get_or row 5 0)

-- ---- steps that take no element

unfoldable pub gather_by : Going → ℕ → Going
gather_by w x = record {
  stopped = w.stopped;
  depth = w.depth;
  levels = w.levels;
  place = w.place;
  have = w.have + 1;
  some = set w.some w.have x;
  pass = w.pass;
  counts = w.counts;
  limited = w.limited;
  apns = w.apns;
  back = w.back;
}

-- four at once
unfoldable pub gather_four : Going → List ℕ → Going
gather_four w four = record {
  stopped = w.stopped;
  depth = w.depth;
  levels = w.levels;
  place = w.place;
  have = 4;
  some = four;
  pass = w.pass;
  counts = w.counts;
  limited = w.limited;
  apns = w.apns;
  back = w.back;
}

-- so many octets of a value are passed over
unfoldable pub pass_by : Going → ℕ → Going
pass_by w n = record { stopped = w.stopped; depth = w.depth; levels = w.levels; place = w.place; have = w.have; some = w.some; pass = w.pass - n; counts = w.counts; limited = w.limited; apns = w.apns; back = w.back }

unfoldable pub pass_one : Going → Going
pass_one w = record { stopped = w.stopped; depth = w.depth; levels = w.levels; place = w.place; have = w.have; some = w.some; pass = w.pass - 1; counts = w.counts; limited = w.limited; apns = w.apns; back = w.back }

unfoldable pub idle_by : Counts → Going
idle_by c = record { stopped = false; depth = 0; levels = replicate deepest blank_open; place = 0; have = 0; some = replicate 4 0; pass = 0; counts = c; limited = false; apns = 0; back = no_counts }

-- a body that begins, before its levels are looked at
unfoldable pub entry_by : List ℕ → Going
entry_by h = record {
  stopped = false;
  depth = 1;
  levels = set (replicate deepest blank_open) 0 (opened (body_level book h) 0 0 (length_field h + 4 - header_length h));
  place = header_length h;
  have = 0;
  some = replicate 4 0;
  pass = 0;
  counts = no_counts;
  limited = false;
  apns = 0;
  back = no_counts;
}

-- where an element was taken its row is put at n, and what goes back with it is taken back: m rows there are then
abbrev pub row_if : List ℕ → ℕ → Option (List ℕ) → ℕ → List ℕ
row_if rows n None m = rows
row_if rows n (Some row) m = back_to m (n + 1) (row_laid rows n row)

-- what is held of the elements, and the lent rows
pub record Fed : Type 0 where
  pub going : Going
  pub rows : List ℕ

abbrev pub fed_with : Going → List ℕ → Fed
fed_with w rows = record { going = w; rows = rows }

-- what is held, with the lent rows
abbrev pub draft_by : Going → List ℕ → Draft
draft_by w rows = draft w.counts rows w.limited w.apns w.back

module _ (k : ℕ) where
  -- what is made of the element h at the innermost level, before what stands inside it has come
  abbrev pub next_held : Going → Element → List ℕ → Held
  next_held w h rows = one (held w.counts rows) (item_of book k (top_of w).level (top_of w).marks (top_of w).parent w.place h)

  abbrev pub enters : Going → Element → ℕ
  enters w h = entered book k (top_of w).level (top_of w).marks h

  abbrev pub next_open : Going → Element → Open
  next_open w h = onward book k (top_of w) h

  abbrev pub watched : Going → Element → Counts → Going
  watched w h c = watched_by w (enters w h) (limited_level (enters w h)) (apns_of h.typ h.inst) c

  -- its first value octet x has come, or none of it
  unfoldable pub placed : Going → Element → ℕ → ℕ → Counts → Going
  placed w h x came c = placed_by (watched w h c) (next_open w h) (enters w h) h.len x came c

  abbrev pub head_on : Going → ℕ → Element
  head_on w x = element (head_by w.some x) []

  unfoldable pub taken_by : Going → ℕ → ℕ → Counts → Going
  taken_by w x came c = settle_top k (placed w (head_on w x) x came c)

  unfoldable pub take_by : Going → ℕ → ℕ → List ℕ → Fed
  take_by w x came rows =
      fed_with (taken_by w x came (next_held w (head_on w x) rows).counts)
      (back_to (taken_by w x came (next_held w (head_on w x) rows).counts).counts.rows (next_held w (head_on w x) rows).counts.rows (next_held w (head_on w x) rows).rows)

  -- ---- one octet

  unfoldable pub headed_by : Going → List ℕ → Fed
  headed_by w rows =
      cond (ltb (top_of w).left (element_header + value_length w.some)) (fed_with (stop w) rows)
      (cond (eqb (value_length w.some) 0) (take_by w 0 0 rows) (fed_with w rows))

  unfoldable pub eat_by : Going → ℕ → List ℕ → Fed
  eat_by w x rows =
      cond w.stopped (fed_with w rows)
      (cond (ltb 0 w.pass) (fed_with (pass_one w) rows)
      (cond (eqb w.depth 0) (fed_with w rows)
      (cond (ltb w.have 3) (fed_with (gather_by w x) rows)
      (cond (eqb w.have 3) (headed_by (gather_by w x) rows)
      (take_by w x 1 rows)))))

  unfoldable pub eat_all_by : Going → List ℕ → List ℕ → Fed
  eat_all_by w [] rows = fed_with w rows
  eat_all_by w (x ∷ xs) rows = eat_all_by (eat_by w x rows).going xs (eat_by w x rows).rows

  -- ---- the message

  unfoldable pub body_by : List ℕ → Going
  body_by h = cond (refuses (first (opening_checks book k h (length_field h + 4)))) (idle_by no_counts) (settle_top k (entry_by h))

-- so many octets more, and the count stays at the first number that is too large
unfoldable pub count_by : ℕ → ℕ → ℕ
count_by c n = cond (ltb largest_message (c + n)) 4097 (c + n)

abbrev pub with_going : Pieces → ℕ → List ℕ → Going → Pieces
with_going p n h g = record { kind = p.kind; room = p.room; ended = p.ended; count = n; head = h; going = g }

unfoldable pub head_after : List ℕ → ℕ → ℕ → List ℕ
head_after h n x = cond (ltb n 4) (set h n x) h

unfoldable pub in_header_by : Pieces → ℕ → Pieces
in_header_by p x =
    with_going p (p.count + 1) (head_after p.head p.count x)
    (cond (eqb (p.count + 1) (header_length (head_after p.head p.count x))) (body_by p.kind (head_after p.head p.count x)) p.going)

pub record FedPieces : Type 0 where
  pub state : Pieces
  pub rows : List ℕ

unfoldable pub feed_by : Pieces → ℕ → List ℕ → FedPieces
feed_by p x rows =
    cond (ltb p.count (header_length p.head)) (record { state = in_header_by p x; rows = rows })
    (record {
      state = with_going p (count_on p.count) p.head (eat_by p.kind p.going x rows).going;
      rows = (eat_by p.kind p.going x rows).rows;
    })

unfoldable pub feed_all_by : Pieces → List ℕ → List ℕ → FedPieces
feed_all_by p [] rows = record { state = p; rows = rows }
feed_all_by p (x ∷ xs) rows = feed_all_by (feed_by p x rows).state xs (feed_by p x rows).rows
