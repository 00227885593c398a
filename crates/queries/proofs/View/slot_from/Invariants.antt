-- `View::slot_from` meets its contract. The invariant: no entry of the slots passed is nearer.
use Prim.Native.Nat.{◌-◌}
use Rattle.spec.specs.Slots.{slot_count}
use Rattle.queries.specs.NextViews.{Walked}
use Rattle.queries.proofs.View.slot_from.Given as goal

abbrev pub invariant-loop-next : goal.invariant-loop-next
invariant-loop-next l = Walked l.self.slots.now l.from l.next l.best

abbrev pub decreases-loop-next : goal.decreases-loop-next
decreases-loop-next l = slot_count - l.next
