use Rattle.guards.specs.ScanLaws.{decide_past, decide_on, decide_hit, decide_end}
use Rattle.guards.proofs.scans.deciding.Goals as goal

pub returns-then-covers : goal.returns-then-covers
returns-then-covers c = decide_hit c.loop-i.invariant c.loop-i-test.true c.in-Some.ensures c.covers.ensures c.if-covers.true

pub loop-i-preserved-else-covers : goal.loop-i-preserved-else-covers
loop-i-preserved-else-covers c = decide_on c.loop-i.invariant c.loop-i-test.true c.in-Some.ensures c.covers.ensures c.if-covers.false

pub loop-i-preserved : goal.loop-i-preserved
loop-i-preserved c = decide_past c.loop-i.invariant c.loop-i-test.true c.in_default.ensures

pub returns : goal.returns
returns c = decide_end c.loop-i.invariant c.loop-i-test.false
