-- `no_export` meets its contract.
use Rattle.exports.specs.StepLaws.{none_held}
use Rattle.exports.proofs.no_export.Goals as goal

pub returns : goal.returns
returns c = none_held
