-- `indexlet::passed_by_new` meets its contract. The invariant: the slots passed have entries.
use Prim.Native.Nat.{◌-◌, ◌*◌}
use Rattle.spec.specs.Slots.{slot_count}
use Rattle.indexlet.specs.Words.{slots_of}
use Rattle.indexlet.specs.WalkLaws.{Filled}
use Rattle.indexlet.proofs.passed_by_new.Given as goal

abbrev pub invariant-loop-d : goal.invariant-loop-d
invariant-loop-d l = Filled (slots_of l.t) l.h l.d

abbrev pub decreases-loop-d : goal.decreases-loop-d
decreases-loop-d l = 2 * slot_count - l.d
