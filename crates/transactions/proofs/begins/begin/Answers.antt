use Rattle.std.proofs.lemmas.Result.{err_from_is_err_and}
use Rattle.transactions.specs.BeginLaws.{begin_refused, begin_granted}
use Rattle.transactions.specs.ViewLaws.{core_put}
use Rattle.transactions.proofs.begins.begin.Goals as goal

pub returns-in_err-x : goal.returns-in_err-x
returns-in_err-x c = λ k.
    let p = err_from_is_err_and c.from_residual.result c.from_residual.ensures.1 in
    rw (p.1, p.2) (begin_refused _ _ _ c.in_err-x.ensures)

pub returns : goal.returns
returns c = λ k. begin_granted _ _ _ _ c.in_ok-x.ensures c.begin-open.ensures (core_put _ k c.put_worker.ensures)
