use Rattle.workers.specs.WordLaws.{workers_put}
use Rattle.workers.proofs.put_worker.Goals as goal

pub returns : goal.returns
returns c = workers_put _ _ _ c.pack.ensures.result_value
