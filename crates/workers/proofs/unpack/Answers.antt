use Rattle.workers.specs.WordLaws.{unpack_is}
use Rattle.workers.proofs.unpack.Goals as goal

pub returns : goal.returns
returns c = unpack_is _ c.stage_at.ensures
