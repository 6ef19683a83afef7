-- `element::take_one` judges one element by its line, writes its row, marks it and counts it. Assumes nothing.
use mathlib.Core.Path.{◌∙◌}
use Rattle.rules.specs.Frames.{element, frames_of}
use Rattle.taking.proofs.Lent.{line, must-at, many-at, inner_level, inner-limited, inner_some, limited-at, not-found, found_at, has_mark}
use Rattle.taking.proofs.Crowds.{over-is}
use Rattle.taking.proofs.Taking.{same-short, took_unlisted, took-kept, took-aside}
use Rattle.taking.proofs.element.take_one.Goals as goal

pub returns-in_default : goal.returns-in_default
returns-in_default c =
    record {
      same = c.add.ensures.same;
      took = took_unlisted c.args.kind c.args.level c.args.seen.now c.args.parent c.args.place (element c.args.h (frames_of c.args.value.now)) c.args.tally.now.counts c.args.tally.now.rows.now c.requires.few
          c.add.new.self.counts c.add.new.self.rows.now
          (not-found c.requires.lent c.args.h.typ c.args.h.inst c.requires.inst c.find.ensures c.in_default.is)
          c.add.ensures.rows c.add.ensures.counts;
    }

pub bounds-lines-n : goal.bounds-lines-n
bounds-lines-n c = (found_at c.requires.lent c.args.h.typ c.args.h.inst c.requires.inst c.find.ensures c.in-Some.is).1

pub bounds-seen-n : goal.bounds-seen-n
bounds-seen-n c = has_mark c.requires.lent c.args.h.typ c.args.h.inst c.requires.inst c.find.ensures c.in-Some.is

pub bounds-seen-n-2 : goal.bounds-seen-n-2
bounds-seen-n-2 c = has_mark c.requires.lent c.args.h.typ c.args.h.inst c.requires.inst c.find.ensures c.in-Some.is

pub bounds-seen-n-3 : goal.bounds-seen-n-3
bounds-seen-n-3 c = has_mark c.requires.lent c.args.h.typ c.args.h.inst c.requires.inst c.find.ensures c.in-Some.is

pub returns-then-stand-eq0 : goal.returns-then-stand-eq0
returns-then-stand-eq0 c =
    let s = c.requires.lent in
    let f = found_at s c.args.h.typ c.args.h.inst c.requires.inst c.find.ensures c.in-Some.is in
    record {
      same = c.add-then-stand-eq0.ensures.same;
      took = took-kept
          c.args.kind c.args.level c.args.seen.now c.args.parent c.args.place (element c.args.h (frames_of c.args.value.now)) c.args.tally.now.counts c.args.tally.now.rows.now c.requires.few
          c.in-Some.n c.listed_standing-stand.result c.mark_after.result c.many.result c.is_short-short.result c.is_over-over.result c.add-then-stand-eq0.new.self.rows.now
          f.0 (line s f.1) (c.many.ensures ∙ many-at s f.1) (same-short c.args.h (frames_of c.args.value.now) c.is_short-short.ensures)
          (c.is_over-over.ensures ∙ rw (limited-at s f.1) (over-is c.args.level c.in-Some.n (line s f.1) c.args.value.now))
          c.listed_standing-stand.ensures c.mark_after.ensures (rw (← c.if-stand-eq0.true) at c.add-then-stand-eq0.ensures.rows)
          c.inside.result c.add-then-stand-eq0.new.self.counts c.if-stand-eq0.true
          (inner_level s f.1 c.inside.result c.inside.ensures) (inner-limited s f.1 c.inside.result c.inside.ensures) (inner_some _ c.inside.result c.inside.ensures) c.add-then-stand-eq0.ensures.counts;
    }

pub returns : goal.returns
returns c =
    let s = c.requires.lent in
    let f = found_at s c.args.h.typ c.args.h.inst c.requires.inst c.find.ensures c.in-Some.is in
    record {
      same = c.add-2.ensures.same;
      took = took-aside
          c.args.kind c.args.level c.args.seen.now c.args.parent c.args.place (element c.args.h (frames_of c.args.value.now)) c.args.tally.now.counts c.args.tally.now.rows.now c.requires.few
          c.in-Some.n c.listed_standing-stand.result c.mark_after.result c.many.result c.is_short-short.result c.is_over-over.result c.add-2.new.self.rows.now
          f.0 (line s f.1) (c.many.ensures ∙ many-at s f.1) (same-short c.args.h (frames_of c.args.value.now) c.is_short-short.ensures)
          (c.is_over-over.ensures ∙ rw (limited-at s f.1) (over-is c.args.level c.in-Some.n (line s f.1) c.args.value.now))
          c.listed_standing-stand.ensures c.mark_after.ensures c.add-2.ensures.rows
          c.first_short-first.result c.must.result c.add-2.new.self.counts c.if-stand-eq0.false (c.must.ensures ∙ must-at s f.1) c.first_short-first.ensures c.add-2.ensures.counts;
    }
