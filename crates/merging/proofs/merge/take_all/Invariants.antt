-- `merging::merge::take_all` meets its contract: what is left to take in, from the walk's place on, is what there was.
use Prim.Native.Nat.{◌-◌}
use Rattle.indexlet.specs.Words.{slots_of}
use Rattle.index.specs.Views.{records_of}
use Rattle.spec.specs.Slots.{slot_count}
use Rattle.index.specs.LeafColumns.{lows_of}
use Rattle.phantomlet.specs.LeafTests.{placed}
use Rattle.merging.specs.MergeWalks.{Walking, Clear, Stays}
use Rattle.merging.proofs.merge.take_all.Given as goal

abbrev pub invariant-loop-j : goal.invariant-loop-j
invariant-loop-j l =
    (Walking (placed (lows_of l.leaves) l.m l.i) l.out (records_of l.initial.rows l.n) (slots_of l.initial.slots) l.rows l.slots l.w l.j) × (Clear (placed (lows_of l.leaves) l.m l.i) l.slots l.w.left l.j)
    × (Stays (placed (lows_of l.leaves) l.m l.i) l.initial.rows l.initial.slots l.n l.rows l.slots l.w.records)

abbrev pub decreases-loop-j : goal.decreases-loop-j
decreases-loop-j l = slot_count - l.j
