-- `map::locks::with_lock` meets its contract: only the lock differs.
use Rattle.map.specs.LockLaws.{holding_words}
use Rattle.map.proofs.locks.with_lock.Goals as goal

pub returns : goal.returns
returns c = holding_words c.args.c c.args.lock c.args.kind
