-- `locks::guard` meets its contract: the guard's tests in a guarded map, else none.
use Rattle.commits.specs.Locks.{guard_unguarded, guard_judged}
use Rattle.std.proofs.Common.{true, false}
use Rattle.commits.proofs.locks.guard.Goals as goal

pub returns-then-guarded : goal.returns-then-guarded
returns-then-guarded c = guard_judged _ _ _ _ _ c.if-guarded.true c.judge.ensures.first

pub returns : goal.returns
returns c = guard_unguarded _ _ _ _ c.if-guarded.false
