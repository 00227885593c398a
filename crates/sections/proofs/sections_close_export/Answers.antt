-- `sections_close_export` meets its contract: `exports::close_export` between an export loaded and an export stored.
use Rattle.sections.specs.EntryLaws.{export_entry}
use Rattle.sections.proofs.sections_close_export.Goals as goal

pub returns : goal.returns
returns c = λ contents rows s. export_entry c.load_export-x.ensures (c.close_export-told.ensures contents rows s) c.put_done.ensures
