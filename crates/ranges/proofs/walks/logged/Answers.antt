-- `walks::logged` meets its contract.
use Rattle.ranges.specs.LoggedWalks.{stands_logged}
use Rattle.ranges.proofs.walks.logged.Goals as goal

pub returns-then-i-to : goal.returns-then-i-to
returns-then-i-to c = stands_logged _ _ c.read_at.ensures
