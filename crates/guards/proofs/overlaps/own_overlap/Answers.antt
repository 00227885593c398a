use Rattle.guards.specs.PutLaws.{test_start, test_on, test_hit, test_end}
use Rattle.guards.proofs.overlaps.own_overlap.Goals as goal

pub loop-i-init : goal.loop-i-init
loop-i-init c = test_start _ _ _

pub returns-then-write_overlaps : goal.returns-then-write_overlaps
returns-then-write_overlaps c = test_hit c.loop-i.invariant c.loop-i-test.true c.write_at-e.ensures c.write_overlaps.ensures c.if-write_overlaps.true

pub loop-i-preserved : goal.loop-i-preserved
loop-i-preserved c = test_on c.loop-i.invariant c.loop-i-test.true c.write_at-e.ensures c.write_overlaps.ensures c.if-write_overlaps.false

pub returns : goal.returns
returns c = test_end c.loop-i.invariant c.loop-i-test.false
