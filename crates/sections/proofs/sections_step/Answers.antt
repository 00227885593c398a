-- `sections_step` meets its contract: `steps::step` between globals loaded and globals stored.
use Rattle.sections.specs.EntryLaws.{step_entry}
use Rattle.sections.proofs.sections_step.Goals as goal

pub returns : goal.returns
returns c = step_entry _ _ _ _ _ _ c.step-told.result c.load-after.ensures c.code_in-k.ensures c.requires c.step-told.ensures
    c.store.ensures c.put_answer.ensures
