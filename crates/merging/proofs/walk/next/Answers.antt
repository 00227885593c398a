use Rattle.merging.specs.SlotWalks.{passed_none, passed_join}
use Rattle.merging.proofs.walk.next.Goals as goal

pub loop-next-init : goal.loop-next-init
loop-next-init g c = passed_none c.requires.from_le_slot_count

pub returns-then-j-word_end : goal.returns-then-j-word_end
returns-then-j-word_end g c = passed_join c.loop-next.invariant c.next_in-j.ensures

pub loop-next-preserved : goal.loop-next-preserved
loop-next-preserved g c = passed_join c.loop-next.invariant c.next_in-j.ensures

pub returns : goal.returns
returns g c = c.loop-next.invariant
