-- `sections_portion` meets its contract: `exports::portion` between an export loaded and an export stored.
use Rattle.sections.specs.EntryLaws.{export_entry}
use Rattle.sections.proofs.sections_portion.Goals as goal

pub returns : goal.returns
returns c = λ contents bs. export_entry c.load_export-x.ensures (c.portion-told.ensures contents bs) c.put_done.ensures
