-- `answers::put_field` meets its contract: a byte and a number.
use Rattle.lists.specs.TextLaws.{wrote_join}
use Rattle.answers.specs.Output.{field}
use Rattle.answers.proofs.put_field.Goals as goal

pub returns : goal.returns
unfolding field
returns c = wrote_join c.put_byte-next.ensures c.put_number.ensures
