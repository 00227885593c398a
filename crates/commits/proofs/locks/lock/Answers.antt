-- `locks::lock` meets its contract: refused by 1, 2 or 4, by the guard, or what comes of an open worker's lock.
use Rattle.std.proofs.lemmas.Result.{err_from_is_err_and}
use Rattle.transactions.specs.CoreLaws.{ready_writable}
use Rattle.commits.specs.Locks.{lock_refused, guardable, lock_barred, lock_refines}
use Rattle.commits.proofs.locks.lock.Goals as goal

pub guard-requires-clause-guardable : goal.guard-requires-clause-guardable
guard-requires-clause-guardable c = guardable _ c.requires _ c.in_ok-x.ensures

pub lock_open-requires-clause-write_set_ordered : goal.lock_open-requires-clause-write_set_ordered
lock_open-requires-clause-write_set_ordered c =
    let k = c.requires in
    (ready_writable k).set _ c.in_ok-x.ensures.inside

pub returns-in_err-x : goal.returns-in_err-x
returns-in_err-x c =
    let p = err_from_is_err_and c.from_residual.result c.from_residual.ensures.1 in
    rw (p.1, p.2) (lock_refused _ c.requires _ c.in_err-x.ensures)

pub returns-in_err-guard : goal.returns-in_err-guard
returns-in_err-guard c =
    let p = err_from_is_err_and c.from_residual-in_err-guard.result c.from_residual-in_err-guard.ensures.1 in
    rw (p.1, p.2) (lock_barred _ c.requires _ c.in_ok-x.ensures _ c.in_err-guard.ensures)

pub returns : goal.returns
returns c = lock_refines _ c.requires _ c.in_ok-x.ensures c.in_ok-guard.ensures _ c.lock_open.ensures
