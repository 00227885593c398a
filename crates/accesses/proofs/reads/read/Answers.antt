-- `reads::read` meets its contract: it is `tell`, whatever the other arrays hold.
use Rattle.accesses.specs.ReadSteps.{ready_readable}
use Rattle.accesses.proofs.reads.read.Goals as goal

pub tell-requires : goal.tell-requires
tell-requires c = ready_readable c.requires
