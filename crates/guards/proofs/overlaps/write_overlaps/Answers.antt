-- `overlaps::write_overlaps` meets its contract.
use Rattle.guards.specs.PutLaws.{entry_put, entry_deletion}
use Rattle.guards.proofs.overlaps.write_overlaps.Goals as goal

pub returns-in-Put : goal.returns-in-Put
returns-in-Put c = entry_put _ _ c.in-Put.is c.overlaps.ensures

pub returns-in-Deletion : goal.returns-in-Deletion
returns-in-Deletion c = entry_deletion _ _ c.in-Deletion.is
