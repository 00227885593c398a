-- `aborts::abort` meets its contract: refused by 1 or 2, or the transaction is dropped.
use Rattle.std.proofs.lemmas.Result.{err_from_is_err_and}
use Rattle.transactions.specs.CoreLaws.{ready_writable}
use Rattle.commits.specs.Finishes.{abort_refused, abort_granted}
use Rattle.commits.proofs.aborts.abort.Goals as goal

pub drop_transaction-requires-clause-write_set_ordered : goal.drop_transaction-requires-clause-write_set_ordered
drop_transaction-requires-clause-write_set_ordered c =
    let k = c.requires in
    (ready_writable k).set _ c.in_ok-busy.ensures.inside

pub returns-in_err-busy : goal.returns-in_err-busy
returns-in_err-busy c =
    let p = err_from_is_err_and c.from_residual.result c.from_residual.ensures.1 in
    rw (p.1, p.2) (abort_refused _ c.requires _ c.in_err-busy.ensures)

pub returns : goal.returns
returns c = abort_granted _ c.requires _ c.in_ok-busy.ensures c.drop_transaction.ensures
