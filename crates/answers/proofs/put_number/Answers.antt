-- `answers::put_number` meets its contract: a number of one digit, of at most eight, or longer.
use Rattle.answers.specs.OutputLaws.{wrote_one}
use Rattle.answers.proofs.put_number.Goals as goal

pub returns-then-n-lt10 : goal.returns-then-n-lt10
returns-then-n-lt10 c = wrote_one _ c.if-n-lt10.true c.put_byte.ensures
