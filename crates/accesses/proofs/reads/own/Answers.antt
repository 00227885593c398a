-- `reads::own` meets its contract.
use Rattle.accesses.specs.ReadSteps.{own_put, own_deletion}
use Rattle.accesses.proofs.reads.own.Goals as goal

pub returns-in-Put : goal.returns-in-Put
returns-in-Put c = rw (c.into.ensures, c.in-Put.is) (own_put _)

pub returns-in-Deletion : goal.returns-in-Deletion
returns-in-Deletion c = rw c.in-Deletion.is own_deletion
