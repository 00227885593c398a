-- `map::merge::locked` meets its contract: lock 0 is no lock.
use Rattle.merging.specs.MergeWalks.{lock_none, lock_some}
use Rattle.merging.proofs.merge.locked.Goals as goal

pub returns-then-c-eq0 : goal.returns-then-c-eq0
returns-then-c-eq0 c = lock_none c.args.c c.if-c-eq0.true

pub returns-else-c-eq0 : goal.returns-else-c-eq0
returns-else-c-eq0 c = lock_some c.args.c c.if-c-eq0.false
