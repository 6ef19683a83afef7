-- The proof of the cycle of calls {enter_group, read_run}. `read_run` lends `enter_group` a part that is shorter by four octets at least, and
-- `enter_group` hands the same part on: the measures are the part's length, and for `enter_group` one more. The loop's invariant is `Turning`. Assumes nothing.
use mathlib.Core.Path.{◌≡◌, refl, sym, ap, ◌∙◌}
use borrow.Author.Rules.{rules}
use Rattle.std.specs.Prelude.{Err}
use native.Mathlib.Omega.{arith}
use native.Mathlib.Nat.{add-zero}
use Rattle.rules.specs.Listings.{book}
use Rattle.rules.specs.declared.Head.{Head}
use Rattle.taking.specs.Lacks.{lack_of}
use Rattle.taking.specs.Held.{tallied}
use Rattle.reading.proofs.Runs.{ran_whole, ran_cut, ran_same, ran_is, ran_from, ends, breaks, some-group, group-within, group-length, inside-low, inside-some, passes, goes_on, stops, shut-is, few-closed}
use Rattle.reading.proofs.run.+enter_group_read_run.Goals as goal

-- ---- enter_group

pub enter_group-overflow_add-home : goal.enter_group-overflow_add-home
enter_group-overflow_add-home t c = omega (arith, c.requires.fine.ends)

pub enter_group-read_run-requires : goal.enter_group-read_run-requires
enter_group-read_run-requires t c =
    let r = c.requires.fine in (
      omega arith,
      record { there = r.there; home = r.home; few = r.few; ends = r.ends; parent = omega (arith, r.few.rows, r.ends) },
    )

pub enter_group-returns : goal.enter_group-returns
enter_group-returns t c =
    ran_same
    (sym (some-group c.args.kind c.args.inner c.args.home c.args.group.now (tallied c.args.tally.now) c.requires.some))
    c.read_run.ensures

-- ---- read_run

pub read_run-loop-at-init : goal.read_run-loop-at-init
read_run-loop-at-init t c = record { passed = (omega arith); few = rw add-zero c.requires.few; same = refl; goes = rw add-zero }

pub read_run-overflow_add-place : goal.read_run-overflow_add-place
read_run-overflow_add-place t c = omega (arith, c.requires.ends, c.loop-at.invariant.passed)

pub read_run-look-requires : goal.read_run-look-requires
read_run-look-requires t c = c.loop-at.invariant.passed

pub read_run-returns-in_default : goal.read_run-returns-in_default
read_run-returns-in_default t c =
    ran_same c.loop-at.invariant.goes
    (ran_cut c.loop-at.invariant.same
    (breaks c.args.kind c.args.level c.loop-at.seen c.args.parent c.args.home c.args.base c.args.part.now c.loop-at.at
    (tallied c.loop-at.tally) c.loop-at-test.true
    (ap (λ (h : Head). h.whole) (sym c.in_default.ensures.is))))

pub read_run-take_one-enters-requires : goal.read_run-take_one-enters-requires
read_run-take_one-enters-requires t c =
    record {
      lent = record { kind = c.requires.there.kind; level = c.requires.there.level; lines = c.of_level-lines.ensures };
      inst = c.in-Some.ensures.looked.inst;
      parent = c.requires.parent;
      few = c.loop-at.invariant.few;
      ends = omega (arith, c.requires.ends, (c.in-Some.ensures.looked.lies c.in-Some.ensures.whole));
      value = omega (arith, c.requires.ends, group-within c.args.part.now c.loop-at.at c.in-Some.h.len);
    }

pub read_run-overflow_add-value : goal.read_run-overflow_add-value
read_run-overflow_add-value t c = omega (arith, c.requires.ends, (c.in-Some.ensures.looked.lies c.in-Some.ensures.whole))

pub read_run-overflow_add-next : goal.read_run-overflow_add-next
read_run-overflow_add-next t c = omega (arith, c.requires.ends, (c.in-Some.ensures.looked.lies c.in-Some.ensures.whole))

pub read_run-slice_bounds-own-end : goal.read_run-slice_bounds-own-end
read_run-slice_bounds-own-end t c = (c.in-Some.ensures.looked.lies c.in-Some.ensures.whole)

pub read_run-loop-at-smaller : goal.read_run-loop-at-smaller
read_run-loop-at-smaller t c =
    omega (arith, (c.in-Some.ensures.looked.lies c.in-Some.ensures.whole), c.loop-at-test.true)

pub read_run-loop-at-preserved : goal.read_run-loop-at-preserved
read_run-loop-at-preserved t c =
    record {
      passed = (c.in-Some.ensures.looked.lies c.in-Some.ensures.whole);
      few = record { kept = c.take_one-enters.ensures.took.few.kept; rows = omega (arith, c.take_one-enters.ensures.took.few.rows) };
      same = c.take_one-enters.ensures.same ∙ c.loop-at.invariant.same;
      goes = sym (passes c.args.home c.args.base c.args.part.now c.loop-at.at c.loop-at-test.true c.in-Some.ensures.looked.is
          c.in-Some.ensures.whole (c.in-Some.ensures.looked.lies c.in-Some.ensures.whole) c.take_one-enters.ensures c.in_default-enters.is) ∙ c.loop-at.invariant.goes;
    }

pub read_run-enter_group-requires : goal.read_run-enter_group-requires
read_run-enter_group-requires t c =
    let lies = c.in-Some.ensures.looked.lies c.in-Some.ensures.whole in
    let n = group-length c.args.home c.args.base c.args.part.now c.loop-at.at c.loop-at-test.true c.in-Some.ensures.looked.is c.in-Some.ensures.whole lies c.take_one-enters.ensures in (
      omega (arith, n, lies),
      record {
        fine = record {
          there = record { kind = c.requires.there.kind; level = inside-low c.args.home c.args.base c.args.part.now c.loop-at.at c.loop-at-test.true c.in-Some.ensures.looked.is c.in-Some.ensures.whole lies c.take_one-enters.ensures c.in-Some-enters.is };
          home = omega (arith, c.requires.ends, lies);
          parent = omega arith;
          few = c.take_one-enters.ensures.took.few;
          ends = omega (arith, n, c.requires.ends, lies);
        };
        some = inside-some c.args.home c.args.base c.args.part.now c.loop-at.at c.loop-at-test.true c.in-Some.ensures.looked.is c.in-Some.ensures.whole lies c.take_one-enters.ensures c.in-Some-enters.is;
      },
    )

pub read_run-returns-in_err-enter_group : goal.read_run-returns-in_err-enter_group
read_run-returns-in_err-enter_group t c =
    let e : c.from_residual.result ≡ Err c.in_err-enter_group.field-0.0 = search rules in
    let stop = stops c.args.home c.args.base c.args.part.now c.loop-at.at c.loop-at-test.true c.in-Some.ensures.looked.is c.in-Some.ensures.whole (c.in-Some.ensures.looked.lies c.in-Some.ensures.whole) c.take_one-enters.ensures c.in-Some-enters.is c.in_err-enter_group.ensures in
    ran_is (sym e) (ran_same c.loop-at.invariant.goes (ran_from c.loop-at.invariant.same stop))

pub read_run-loop-at-smaller-in_ok-enter_group : goal.read_run-loop-at-smaller-in_ok-enter_group
read_run-loop-at-smaller-in_ok-enter_group t c =
    omega (arith, (c.in-Some.ensures.looked.lies c.in-Some.ensures.whole), c.loop-at-test.true)

pub read_run-loop-at-preserved-in_ok-enter_group : goal.read_run-loop-at-preserved-in_ok-enter_group
read_run-loop-at-preserved-in_ok-enter_group t c =
    let lies = c.in-Some.ensures.looked.lies c.in-Some.ensures.whole in
    let x = c.in_ok-enter_group.ensures in record {
      passed = lies;
      few = record { kept = x.few.kept; rows = omega (arith, group-length c.args.home c.args.base c.args.part.now c.loop-at.at c.loop-at-test.true c.in-Some.ensures.looked.is c.in-Some.ensures.whole lies c.take_one-enters.ensures, x.few.rows) };
      same = x.same ∙ c.take_one-enters.ensures.same ∙ c.loop-at.invariant.same;
      goes = sym (goes_on c.args.home c.args.base c.args.part.now c.loop-at.at c.loop-at-test.true c.in-Some.ensures.looked.is c.in-Some.ensures.whole lies c.take_one-enters.ensures c.in-Some-enters.is x) ∙ c.loop-at.invariant.goes;
    }

pub read_run-close_level-tally-requires : goal.read_run-close_level-tally-requires
read_run-close_level-tally-requires t c = record { lent = record { kind = c.requires.there.kind; level = c.requires.there.level; lines = c.of_level-lines.ensures }; home = c.requires.home }

pub read_run-returns : goal.read_run-returns
read_run-returns t c =
    ran_same c.loop-at.invariant.goes
    (ran_whole c.loop-at.invariant.same
    (ends c.args.kind c.args.level c.loop-at.seen c.args.parent c.args.home c.args.base c.args.part.now c.loop-at.at
    (tallied c.loop-at.tally) c.loop-at-test.false
    ∙ shut-is c.args.kind c.loop-at.tally.counts c.close_level-tally.result c.loop-at.tally.rows.now c.args.level c.loop-at.seen c.args.home c.close_level-tally.ensures)
    (few-closed c.loop-at.tally.counts c.close_level-tally.result (lack_of book c.args.kind c.args.level c.loop-at.seen c.args.home) c.close_level-tally.ensures c.loop-at.invariant.few (omega (arith, c.loop-at.invariant.passed))))
