-- `merging::oldest::oldest_waiting` meets its contract: the oldest of the slots walked over and of the rest stays the same.
use Prim.Native.Nat.{◌-◌}
use Rattle.spec.specs.Slots.{slot_count}
use Rattle.indexlet.specs.Words.{slots_of}
use Rattle.merging.specs.OldestWalks.{Walking}
use Rattle.merging.proofs.oldest.oldest_waiting.Given as goal

abbrev pub invariant-loop-j : goal.invariant-loop-j
invariant-loop-j l = Walking (slots_of l.slots) l.j l.o

abbrev pub decreases-loop-j : goal.decreases-loop-j
decreases-loop-j l = slot_count - l.j
