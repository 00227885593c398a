-- `ops::perform_export` meets its contract: by what the step is.
use Rattle.exports.specs.FirstLaws.{stepped_as}
use Rattle.exports.proofs.ops.perform_export.Goals as goal

pub returns-in-Open : goal.returns-in-Open
returns-in-Open c = stepped_as _ c.in-Open.is (c.open_export.ensures _)

pub returns-in-Portion : goal.returns-in-Portion
returns-in-Portion c = stepped_as _ c.in-Portion.is (c.portion_first.ensures _ _)

pub returns-in-File : goal.returns-in-File
returns-in-File c = stepped_as _ c.in-File.is (c.file_first.ensures _ _)

pub returns-in-Close : goal.returns-in-Close
returns-in-Close c = stepped_as _ c.in-Close.is (c.close_export.ensures _ _ _)
