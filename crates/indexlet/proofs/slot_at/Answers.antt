use Rattle.indexlet.specs.EnterLaws.{reads_row}
use Rattle.indexlet.proofs.slot_at.Goals as goal

pub returns : goal.returns
returns c = reads_row _ _ _ c.requires.slots_held c.requires.i_lt_slot_count c.get.ensures
