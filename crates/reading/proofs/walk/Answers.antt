-- `walk` goes over the body of a message that passes 1 to 8, and says how that ended. Assumes nothing.
use mathlib.Core.Path.{◌≡◌, refl}
use mathlib.Core.List.{List}
use Prim.Native.Nat.{ℕ, ◌+◌, ◌≤◌}
use native.Mathlib.Omega.{arith}
use borrow.Author.Rules.{rules}
use lib.ListN.{length, drop, length-drop}
use Rattle.std.specs.Prelude.{Err}
use Rattle.rules.specs.Listings.{book}
use Rattle.rules.specs.Verdicts.{accepted, first, opening_checks, header_checks}
use Rattle.rules.proofs.Header.{Passed, passed}
use Rattle.taking.specs.Held.{no_counts}
use Rattle.heading.proofs.Messages.{passed-listed}
use Rattle.taking.proofs.Heads.{rest-is}
use Rattle.reading.proofs.Endings.{ends_refused, reads_cut, reads_whole}
use Rattle.reading.proofs.walk.Goals as goal

opened : {k : ℕ} {m : List ℕ} → accepted ≡ first (opening_checks book k m (length m)) → Passed book k m
unfolding header_checks
opened {k} {m} e = passed book k m (rw (← e))

pub returns-in_err-opening : goal.returns-in_err-opening
unfolding header_checks
returns-in_err-opening c =
    let e : c.from_residual.result ≡ Err c.in_err-opening.field-0.0 = search rules in
    rw e (ends_refused c.args.kind c.args.message.now c.args.rows.now c.in_err-opening.field-0.0 c.in_err-opening.ensures)

pub start-at-requires : goal.start-at-requires
start-at-requires c = (opened c.in_ok-opening.ensures).some

pub body-level-requires : goal.body-level-requires
body-level-requires c = passed-listed (opened c.in_ok-opening.ensures)

pub slice_bounds-read_run-count : goal.slice_bounds-read_run-count
slice_bounds-read_run-count c = rw c.start-at.ensures.is (opened c.in_ok-opening.ensures).has_header

pub slice_bounds-read_run-start : goal.slice_bounds-read_run-start
slice_bounds-read_run-start c = rw c.start-at.ensures.is (opened c.in_ok-opening.ensures).has_header

pub read_run-requires : goal.read_run-requires
read_run-requires c =
    let pass : Passed book c.args.kind c.args.message.now = opened c.in_ok-opening.ensures in
    let begins : c.start-at.result ≤ length c.args.message.now = rw c.start-at.ensures.is pass.has_header in
    let ends : c.start-at.result + length (drop c.start-at.result c.args.message.now) ≤ 4096 = omega (arith, begins, length-drop c.start-at.result c.args.message.now, pass.most) in
    let none : c.default.result ≡ no_counts = search rules in
    record {
      there = record { kind = pass.kind; level = c.body-level.ensures.level };
      home = omega arith;
      parent = omega arith;
      few = rw none (record { kept = omega arith; rows = omega arith });
      ends = rw (rest-is c.args.message.now c.start-at.result) ends;
    }

pub returns-in_err-read_run : goal.returns-in_err-read_run
unfolding header_checks
returns-in_err-read_run c =
    let none : c.default.result ≡ no_counts = search rules in
    let e : c.from_residual-in_err-read_run.result ≡ Err c.in_err-read_run.field-0.0 = search rules in
    reads_cut c.args.kind c.args.message.now c.args.rows.now (rw (← c.in_ok-opening.ensures)) c.body-level.ensures.is c.start-at.ensures.is (rest-is c.args.message.now c.start-at.result) none
    _ refl (search rules) e c.in_err-read_run.ensures

pub returns : goal.returns
unfolding header_checks
returns c =
    let none : c.default.result ≡ no_counts = search rules in
    reads_whole c.args.kind c.args.message.now c.args.rows.now (rw (← c.in_ok-opening.ensures)) c.body-level.ensures.is c.start-at.ensures.is (rest-is c.args.message.now c.start-at.result) none
    _ refl (search rules) c.in_ok-read_run.ensures c.body-level.ensures.octets
