-- `lengths::unfit_write` meets its contract.
use Rattle.guards.specs.PutLaws.{entry_put, entry_deletion}
use Rattle.guards.proofs.lengths.unfit_write.Goals as goal

pub returns-in-Put : goal.returns-in-Put
returns-in-Put c = entry_put _ _ c.in-Put.is c.unfit.ensures

pub returns-in-Deletion : goal.returns-in-Deletion
returns-in-Deletion c = entry_deletion _ _ c.in-Deletion.is
