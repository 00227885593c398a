use Rattle.spec.specs.Guards.{unfit}
use Rattle.guards.specs.PutLaws.{test_start, test_on, test_hit, test_end, no_put}
use Rattle.guards.proofs.overlaps.overlapped_put.Goals as goal

pub loop-i-init : goal.loop-i-init
loop-i-init c = test_start _ _ _

pub overlapped_write-requires-clause-e_value : goal.overlapped_write-requires-clause-e_value
overlapped_write-requires-clause-e_value c =
    let p = c.requires in
    no_put unfit p.n_value c.loop-i-test.true c.write_at-e.ensures

pub returns-then-overlapped_write : goal.returns-then-overlapped_write
returns-then-overlapped_write c = test_hit c.loop-i.invariant c.loop-i-test.true c.write_at-e.ensures c.overlapped_write.ensures c.if-overlapped_write.true

pub loop-i-preserved : goal.loop-i-preserved
loop-i-preserved c = test_on c.loop-i.invariant c.loop-i-test.true c.write_at-e.ensures c.overlapped_write.ensures c.if-overlapped_write.false

pub returns : goal.returns
returns c = test_end c.loop-i.invariant c.loop-i-test.false
