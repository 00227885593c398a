-- `locks::lock_open` meets its contract: refused by 9, 10 or 11, or the write set is locked.
use Rattle.std.proofs.lemmas.Result.{err_from_is_err_and}
use Rattle.map.specs.AddressCounts.{counted}
use Rattle.commits.specs.Commits.{set_of}
use Rattle.commits.specs.Locks.{tested_can, locks_refused, locks_granted}
use Rattle.commits.proofs.locks.lock_open.Goals as goal

pub lock_tests-requires-clause-counted : goal.lock_tests-requires-clause-counted
lock_tests-requires-clause-counted c =
    let p = c.requires in
    counted p.map_held.tables

pub lock_all-c-requires-clause-lockable : goal.lock_all-c-requires-clause-lockable
lock_all-c-requires-clause-lockable c =
    let p = c.requires in
    let o = set_of c.worker_at-x.ensures.value p.write_set_ordered in
    tested_can _ _ _ _ _ _ _ _ c.in_ok-lock_tests.ensures o.rising

pub returns-in_err-lock_tests : goal.returns-in_err-lock_tests
returns-in_err-lock_tests c =
    let p = err_from_is_err_and c.from_residual.result c.from_residual.ensures.1 in
    rw (p.1, p.2) (locks_refused _ _ _ _ _ _ c.worker_at-x.ensures.value c.in_err-lock_tests.ensures)

pub returns : goal.returns
returns c = locks_granted _ _ _ _ _ _ _ _ _
    c.requires.w_lt_workers
    c.worker_at-x.ensures.value
    c.in_ok-lock_tests.ensures
    c.lock-locked.ensures c.lock_all-c.ensures c.put_worker.ensures
