-- `ops::file_first` meets its contract: the part comes back, and the rest is as it was.
use Rattle.exports.specs.FirstLaws.{file_part}
use Rattle.exports.proofs.ops.file_first.Goals as goal

pub returns : goal.returns
returns c = λ contents b. file_part _ _ c.requires.n_in_bounds (c.file.ensures contents b)
