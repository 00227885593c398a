use Rattle.ranges.specs.LogLaws.{leaves_on, leaves_end}
use Rattle.ranges.proofs.logs.log_leaves.Goals as goal

pub loop-i-preserved : goal.loop-i-preserved
loop-i-preserved c = leaves_on _ _ _ _ _ _ _ _ _ c.loop-i.invariant _ _ _ c.loop-i-test.true c.leaf-leaf.ensures c.log_leaf-count.ensures

pub returns : goal.returns
returns c = leaves_end _ _ _ _ _ _ _ _ _ c.loop-i.invariant c.loop-i-test.false
