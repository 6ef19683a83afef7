-- `take` judges, marks and counts one element by itself, and goes beyond it or into it; its row is left in the lent six numbers. Assumes nothing.
use mathlib.Core.Path.{refl}
use borrow.Author.Rules.{rules}
use mathlib.Core.List.{[]}
use Prim.Native.Nat.{◌-◌}
use native.Mathlib.Omega.{arith}
use Rattle.pieces.proofs.Fits.{slot_at, in_place}
use Rattle.pieces.proofs.Taken.{adds, watch-placing, took-sized, took-wrote}
use Rattle.pieces.proofs.step.take.Goals as goal

pub take_one-enters-requires : goal.take_one-enters-requires
take_one-enters-requires c =
    let p = c.requires in
    let s = slot_at c.args.w.levels (c.args.w.depth - 1) p.sized.each in
    record {
      lent = record { kind = p.sized.kind p.inside; level = s.level; lines = c.of_level-lines.ensures };
      inst = rw c.head_of-h.ensures (omega arith);
      parent = s.parent;
      few = record { kept = omega arith; rows = omega arith };
      ends = rw c.head_of-h.ensures (in_place c.args.kind c.args.w c.args.first c.args.came [] p.sized p.inside p.room);
      value = omega arith;
    }

pub joined-counts-requires : goal.joined-counts-requires
joined-counts-requires c = adds c.args.w refl c.take_one-enters.ensures.took c.requires.sized

pub place-next-requires : goal.place-next-requires
place-next-requires c =
    let p = c.requires in
    watch-placing c.args.w _ _ _ _ c.watch-seen.ensures (record {
      deep = p.sized.deep;
      inside = p.inside;
      came_of = rw c.head_of-h.ensures p.came_of;
      ends = rw c.head_of-h.ensures (in_place c.args.kind c.args.w c.args.first c.args.came [] p.sized p.inside p.room);
      group = c.take_one-enters.ensures.took.some;
    })

pub settle-requires : goal.settle-requires
settle-requires c =
    let p = c.requires in
    took-sized c.args.kind c.args.came c.args.first c.args.w _ c.head_of-h.ensures refl refl c.take_one-enters.ensures.took c.joined-counts.ensures refl
    c.apns-n.ensures c.watch-seen.ensures c.place-next.ensures p.sized p.inside p.room p.once

pub returns : goal.returns
returns c = record {
  taken = refl;
  wrote = took-wrote c.args.kind c.args.came c.args.first c.args.w _ c.head_of-h.ensures refl refl c.take_one-enters.ensures.took c.joined-counts.ensures refl
      c.apns-n.ensures c.watch-seen.ensures c.place-next.ensures (search rules) refl c.settle.ensures;
}
