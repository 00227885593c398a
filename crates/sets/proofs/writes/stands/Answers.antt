-- `writes::stands` meets its contract.
use Rattle.sets.specs.WriteLaws.{stands_past, stands_at}
use Rattle.sets.proofs.writes.stands.Goals as goal

pub returns-then-p-n : goal.returns-then-p-n
returns-then-p-n c = stands_at c.requires.write_set_ordered c.requires.place_of c.get.result c.get.ensures c.if-p-n.true

pub returns-else-p-n : goal.returns-else-p-n
returns-else-p-n c = stands_past c.requires.write_set_ordered c.requires.place_of c.if-p-n.false
