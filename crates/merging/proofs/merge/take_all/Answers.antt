use Rattle.indexlet.specs.Words.{slots_of}
use Rattle.index.specs.Views.{records_of}
use Rattle.merging.specs.MergeWalks.{stays_same, stays_on, walk_start, clear_start, clear_on}
use Rattle.merging.specs.MergeShortcuts.{skips_walk, skips_clear}
use Rattle.merging.proofs.merge.take_all.Goals as goal

pub loop-j-init : goal.loop-j-init
loop-j-init c = (walk_start c.requires.starting_first, clear_start, stays_same)

pub take_slot-w-requires-clause-underway : goal.take_slot-w-requires-clause-underway
take_slot-w-requires-clause-underway c = record { records = records_of c.args.rows.now c.args.n; begun = slots_of c.args.slots.now; first = c.args.out; walking = skips_walk c.requires.one_leaf c.next_reached-j.ensures c.loop-j.invariant.0; behind = c.requires.starting_first.behind; outer = c.requires.starting_first.outer; bound = c.requires.starting_first.bound }

pub loop-j-preserved-then-j-lt-SLOTS : goal.loop-j-preserved-then-j-lt-SLOTS
loop-j-preserved-then-j-lt-SLOTS c = (
  c.take_slot-w.ensures.on (skips_walk c.requires.one_leaf c.next_reached-j.ensures c.loop-j.invariant.0),
  clear_on c.take_slot-w.ensures c.if-j-lt-SLOTS.true (skips_clear c.requires.one_leaf c.next_reached-j.ensures c.loop-j.invariant.1),
  stays_on c.loop-j.invariant.2 c.take_slot-w.ensures.space,
)

pub loop-j-preserved : goal.loop-j-preserved
loop-j-preserved c = (skips_walk c.requires.one_leaf c.next_reached-j.ensures c.loop-j.invariant.0, skips_clear c.requires.one_leaf c.next_reached-j.ensures c.loop-j.invariant.1, c.loop-j.invariant.2)
