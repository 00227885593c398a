use mathlib.Core.Path.{◌∙◌}
use Rattle.workers.specs.WordLaws.{worker_of_lem, workers_length}
use Rattle.workers.proofs.worker_at.Goals as goal

pub returns-clause-value : goal.returns-clause-value
returns-clause-value c = c.unpack.ensures ∙ worker_of_lem _ _

pub returns-clause-workers_len : goal.returns-clause-workers_len
returns-clause-workers_len c = workers_length _ ∙ c.told-workers
