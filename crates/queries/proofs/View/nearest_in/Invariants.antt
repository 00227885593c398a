-- `View::nearest_in` meets its contract. The invariant: no slot before, or whose bit is taken off, has a nearer entry.
use Rattle.queries.specs.NextViews.{Walking}
use Rattle.queries.proofs.View.nearest_in.Given as goal

abbrev pub invariant-loop-w : goal.invariant-loop-w
invariant-loop-w l = Walking l.self.slots.now l.from l.next l.nearest l.w

abbrev pub decreases-loop-w : goal.decreases-loop-w
decreases-loop-w l = l.w
