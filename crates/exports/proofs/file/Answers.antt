-- `file` meets its contract.
use Rattle.exports.specs.StepLaws.{no_file, file_short, files}
use Rattle.exports.proofs.file.Goals as goal

pub returns-in_default : goal.returns-in_default
returns-in_default c = λ contents b. no_file contents _ _ c.requires _ c.in_default.is

pub returns-then-bytes-open : goal.returns-then-bytes-open
returns-then-bytes-open c = λ contents b. file_short contents _ c.in-Some.is _ _ c.requires c.if-bytes-open.true

pub returns : goal.returns
returns c = λ contents b. files contents _ c.in-Some.is b c.requires c.if-bytes-open.false c.put_file-n.ensures
