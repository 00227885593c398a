-- `reads::tell` meets its contract: by the tests, and by the worker's own write.
use Rattle.std.proofs.lemmas.Result.{err_from_is_err_and}
use Rattle.accesses.specs.ReadSteps.{read_refused, read_written, read_nothing}
use Rattle.accesses.proofs.reads.tell.Goals as goal

pub returns-in_err-x : goal.returns-in_err-x
returns-in_err-x c =
    let p = err_from_is_err_and c.from_residual.result c.from_residual.ensures.1 in
    rw (p.1, p.2) (read_refused c.in_err-x.ensures)

pub returns-in-Some : goal.returns-in-Some
returns-in-Some c = read_written c.in_ok-x.ensures c.in-Some.is c.find_write.ensures c.own.ensures

pub returns-in-None : goal.returns-in-None
returns-in-None c = read_nothing c.in-None.is c.find_write.ensures c.read_current.ensures
