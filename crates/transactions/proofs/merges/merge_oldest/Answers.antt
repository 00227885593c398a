-- `merges::merge_oldest` meets its contract: it is a merge at the address of the oldest.
use Rattle.spec.specs.Maps.{oldest}
use Rattle.transactions.specs.MergeSteps.{oldest_refines}
use Rattle.transactions.proofs.merges.merge_oldest.Goals as goal

pub returns : goal.returns
unfolding oldest
returns c = oldest_refines c.oldest_waiting-a.result c.merge_at.result c.oldest_waiting-a.ensures c.merge_at.ensures
