-- `map::locks::by_own` meets its contract: by who has the lock.
use Rattle.map.specs.LockLaws.{own_lock}
use Rattle.map.proofs.locks.by_own.Goals as goal

pub returns : goal.returns
returns c = own_lock _ _ _ c.holder.ensures c.eq.ensures
