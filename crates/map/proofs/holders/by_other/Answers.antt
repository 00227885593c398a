-- `map::holders::by_other` meets its contract: by whether somebody has the lock.
use Rattle.map.specs.LockLaws.{other_lock, no_lock}
use Rattle.map.proofs.holders.by_other.Goals as goal

pub returns-in-Some : goal.returns-in-Some
returns-in-Some c = other_lock _ _ c.in-Some.ensures

pub returns-in-None : goal.returns-in-None
returns-in-None c = no_lock _ _ c.in-None.ensures
