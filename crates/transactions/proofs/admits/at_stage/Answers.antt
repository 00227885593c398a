use Rattle.std.proofs.Common.{sym, ap, ◌∙◌, not}
use Rattle.std.proofs.lemmas.Result.{err_from_is_err_and}
use Rattle.workers.specs.WordLaws.{workers_length}
use Rattle.transactions.specs.Admits.{stage_ne, turned_first, turned_wrong, admitted}
use Rattle.transactions.proofs.admits.at_stage.Goals as goal

pub returns-in_err-x : goal.returns-in_err-x
returns-in_err-x c =
    let p = err_from_is_err_and c.from_residual.result c.from_residual.ensures.1 in
    rw (p.1, p.2) (turned_first _ c.in_err-x.ensures)

pub returns-then-ne : goal.returns-then-ne
returns-then-ne c = turned_wrong _ (workers_length _ ∙ c.told-workers) c.in_ok-x.ensures (sym (stage_ne _ c.args.right c.ne.ensures) ∙ ap not c.if-ne.true)

pub returns : goal.returns
returns c = admitted _ (workers_length _ ∙ c.told-workers) c.in_ok-x.ensures (sym (stage_ne _ c.args.right c.ne.ensures) ∙ ap not c.if-ne.false)
