use native.Mathlib.Omega.{arith}
use Rattle.sets.specs.Reads.{read_in, no_read}
use Rattle.sets.specs.SetLaws.{length_rows}
use Rattle.commits.specs.Searching.{search_on, search_hit, search_end}
use Rattle.commits.specs.Validates.{row_changed}
use Rattle.commits.proofs.validates.changed.Goals as goal

pub returns-then-differs : goal.returns-then-differs
returns-then-differs c =
    let h = c.loop-i-test.true in
    let e = length_rows read_in c.args.reads.now c.args.k in
    search_hit no_read (omega arith)
    (row_changed c.args.k h c.read_at-l.ensures c.current_record-now.ensures c.differs.ensures c.if-differs.true)
    c.loop-i.invariant.1

pub loop-i-preserved : goal.loop-i-preserved
loop-i-preserved c =
    let h = c.loop-i-test.true in
    let e = length_rows read_in c.args.reads.now c.args.k in (
      omega arith,
      search_on no_read (omega arith)
          (row_changed c.args.k h c.read_at-l.ensures c.current_record-now.ensures c.differs.ensures c.if-differs.false)
          c.loop-i.invariant.1,
    )

pub returns : goal.returns
returns c =
    let h = c.loop-i-test.false in
    let e = length_rows read_in c.args.reads.now c.args.k in
    search_end (omega arith) c.loop-i.invariant.1
