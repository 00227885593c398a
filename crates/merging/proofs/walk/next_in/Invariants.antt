-- Bits are passed while the walk does not stop at their slots.
use Rattle.indexlet.specs.Bitmaps.{Unseen}
use Rattle.merging.specs.SlotWalks.{Unmet}
use Rattle.merging.proofs.walk.next_in.Given as goal

abbrev pub invariant-loop-w : goal.invariant-loop-w
invariant-loop-w g l = Unseen (Unmet l.slots (goal.F-post g l.stops)) l.from l.w

abbrev pub decreases-loop-w : goal.decreases-loop-w
decreases-loop-w g l = l.w
