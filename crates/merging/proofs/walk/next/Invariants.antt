-- Words of bits are passed while the walk stops at none of their slots.
use Rattle.std.proofs.Common.{◌-◌}
use Rattle.spec.specs.Slots.{slot_count}
use Rattle.merging.specs.SlotWalks.{Passed}
use Rattle.merging.proofs.walk.next.Given as goal

abbrev pub invariant-loop-next : goal.invariant-loop-next
invariant-loop-next g l = Passed l.slots (goal.F-post g l.stops) l.from l.next

abbrev pub decreases-loop-next : goal.decreases-loop-next
decreases-loop-next g l = slot_count - l.next
