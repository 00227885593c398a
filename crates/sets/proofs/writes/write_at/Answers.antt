-- `writes::write_at` meets its contract.
use Rattle.sets.specs.WriteLaws.{write_given}
use Rattle.sets.proofs.writes.write_at.Goals as goal

pub returns : goal.returns
returns c = write_given c.get-r.result c.get-r.ensures c.write.result c.write.ensures
