use Rattle.guards.specs.PutLaws.{test_start, test_on, test_hit, test_end}
use Rattle.guards.proofs.lengths.unfit_put.Goals as goal

pub loop-i-init : goal.loop-i-init
loop-i-init c = test_start _ _ _

pub returns-then-unfit_write : goal.returns-then-unfit_write
returns-then-unfit_write c = test_hit c.loop-i.invariant c.loop-i-test.true c.write_at-e.ensures c.unfit_write.ensures c.if-unfit_write.true

pub loop-i-preserved : goal.loop-i-preserved
loop-i-preserved c = test_on c.loop-i.invariant c.loop-i-test.true c.write_at-e.ensures c.unfit_write.ensures c.if-unfit_write.false

pub returns : goal.returns
returns c = test_end c.loop-i.invariant c.loop-i-test.false
