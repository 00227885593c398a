use Rattle.spec.specs.Guards.{unfit}
use Rattle.guards.specs.PutLaws.{test_start, test_on, test_hit, test_end, no_put}
use Rattle.guards.proofs.scans.uncovered_put.Goals as goal

pub loop-i-init : goal.loop-i-init
loop-i-init c = test_start _ _ _

pub uncovered_write-requires-clause-e_value : goal.uncovered_write-requires-clause-e_value
uncovered_write-requires-clause-e_value c =
    let p = c.requires in
    no_put unfit p.n_value c.loop-i-test.true c.write_at-e.ensures

pub returns-then-uncovered_write : goal.returns-then-uncovered_write
returns-then-uncovered_write c = test_hit c.loop-i.invariant c.loop-i-test.true c.write_at-e.ensures c.uncovered_write.ensures c.if-uncovered_write.true

pub loop-i-preserved : goal.loop-i-preserved
loop-i-preserved c = test_on c.loop-i.invariant c.loop-i-test.true c.write_at-e.ensures c.uncovered_write.ensures c.if-uncovered_write.false

pub returns : goal.returns
returns c = test_end c.loop-i.invariant c.loop-i-test.false
