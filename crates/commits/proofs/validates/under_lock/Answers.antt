use native.Mathlib.Omega.{arith}
use mathlib.Core.Path.{◌∙◌}
use Rattle.sets.specs.Reads.{read_in, reads_of, no_read}
use Rattle.sets.specs.SetLaws.{length_rows}
use Rattle.commits.specs.Searching.{search_on, search_hit, search_end, any_keys}
use Rattle.commits.specs.Validates.{locked_in, row_locked_lem}
use Rattle.std.proofs.Common.{true, false}
use Rattle.commits.proofs.validates.under_lock.Goals as goal

pub returns-then-locked_by_other : goal.returns-then-locked_by_other
returns-then-locked_by_other c =
    let h = c.loop-i-test.true in
    let e = length_rows read_in c.args.reads.now c.args.k in
    search_hit no_read (omega arith)
    (row_locked_lem c.args.slots.now c.args.w c.args.k h c.read_at-l.ensures c.locked_by_other.ensures c.if-locked_by_other.true)
    c.loop-i.invariant.1
    ∙ any_keys (locked_in c.args.slots.now c.args.w) (reads_of c.args.reads.now c.args.k)

pub loop-i-preserved : goal.loop-i-preserved
loop-i-preserved c =
    let h = c.loop-i-test.true in
    let e = length_rows read_in c.args.reads.now c.args.k in (
      omega arith,
      search_on no_read (omega arith)
          (row_locked_lem c.args.slots.now c.args.w c.args.k h c.read_at-l.ensures c.locked_by_other.ensures c.if-locked_by_other.false)
          c.loop-i.invariant.1,
    )

pub returns : goal.returns
returns c =
    let h = c.loop-i-test.false in
    let e = length_rows read_in c.args.reads.now c.args.k in
    search_end (omega arith) c.loop-i.invariant.1
    ∙ any_keys (locked_in c.args.slots.now c.args.w) (reads_of c.args.reads.now c.args.k)
