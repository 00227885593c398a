use Rattle.ranges.specs.LogLaws.{rows_on, rows_end}
use Rattle.ranges.proofs.logs.log_rows.Goals as goal

pub loop-i-preserved : goal.loop-i-preserved
loop-i-preserved c = rows_on _ _ _ _ _ _ _ _ _ c.loop-i.invariant _ _ _ c.loop-i-test.true c.seen_at-s.ensures c.log_read-count.ensures

pub returns : goal.returns
returns c = rows_end _ _ _ _ _ _ _ _ _ c.loop-i.invariant c.loop-i-test.false
