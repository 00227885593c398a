-- `answers::put_small` meets its contract: one digit or two.
use Rattle.answers.specs.OutputLaws.{wrote_one, wrote_pair}
use Rattle.answers.proofs.put_small.Goals as goal

pub returns-else-n-lt10 : goal.returns-else-n-lt10
returns-else-n-lt10 c = wrote_pair _ c.if-n-lt10.false c.requires.0 c.put_pair.ensures

pub returns-then-n-lt10 : goal.returns-then-n-lt10
returns-then-n-lt10 c = wrote_one _ c.if-n-lt10.true c.put_byte.ensures
