-- `sections_file` meets its contract: `exports::file` between an export loaded and an export stored.
use Rattle.sections.specs.EntryLaws.{export_entry}
use Rattle.sections.proofs.sections_file.Goals as goal

pub returns : goal.returns
returns c = λ contents b. export_entry c.load_export-x.ensures (c.file-told.ensures contents b) c.put_done.ensures
