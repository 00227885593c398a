use Rattle.transactions.specs.MergeSteps.{version_room, merge_refines}
use Rattle.transactions.proofs.merges.merge_at.Goals as goal

pub merge-r-requires-clause-standard_bound : goal.merge-r-requires-clause-standard_bound
merge-r-requires-clause-standard_bound c = version_room c.requires

pub returns : goal.returns
returns c = merge_refines c.requires c.merge-r.ensures
