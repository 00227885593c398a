-- `ops::portion_first` meets its contract: the parts come back, and the rest is as it was.
use Rattle.exports.specs.FirstLaws.{portion_part}
use Rattle.exports.proofs.ops.portion_first.Goals as goal

pub returns : goal.returns
returns c = λ contents bs. portion_part _ _ c.requires.lends (c.portion.ensures contents bs)
