-- `reads::shown` meets its contract.
use Rattle.accesses.specs.ReadSteps.{shown_there, shown_none}
use Rattle.accesses.proofs.reads.shown.Goals as goal

pub returns-in-Some : goal.returns-in-Some
returns-in-Some c = rw c.into.ensures (shown_there _ _ c.in-Some.is)

pub returns-in-None : goal.returns-in-None
returns-in-None c = shown_none _ c.in-None.is
