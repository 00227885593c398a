-- `answers::put_pair` meets its contract: two bytes.
use Rattle.lists.specs.TextLaws.{wrote_join}
use Rattle.answers.specs.OutputLaws.{pair}
use Rattle.answers.proofs.put_pair.Goals as goal

pub returns : goal.returns
unfolding pair
returns c = wrote_join c.put_byte-next.ensures c.put_byte.ensures
