-- `validates::validate` meets its contract: by the stage, then the log, then the numbers left.
use Rattle.std.proofs.lemmas.Result.{err_from_is_err_and}
use Rattle.std.proofs.Common.{ap, sym, ◌∙◌}
use Rattle.guards.specs.Judging.{refusal_in}
use Rattle.transactions.specs.CoreLaws.{ready_writable}
use Rattle.commits.specs.Verdicts.{examinable, validate_refused, validate_ended, validate_passed}
use Rattle.commits.proofs.validates.validate.Goals as goal

pub judge-said-requires : goal.judge-said-requires
judge-said-requires c = examinable _ c.requires _ c.in_ok-x.ensures

pub drop_transaction-requires-clause-write_set_ordered : goal.drop_transaction-requires-clause-write_set_ordered
drop_transaction-requires-clause-write_set_ordered c =
    let k = c.requires in
    (ready_writable k).set _ c.in_ok-x.ensures.inside

pub returns-in_err-x : goal.returns-in_err-x
returns-in_err-x c =
    let p = err_from_is_err_and c.from_residual.result c.from_residual.ensures.1 in
    rw (p.1, p.2) (validate_refused _ c.requires _ c.in_err-x.ensures)

pub returns-in-Err : goal.returns-in-Err
returns-in-Err c = validate_ended _ c.requires _ c.in_ok-x.ensures _
    (sym (ap refusal_in c.in-Err.is) ∙ c.judge-said.ensures) c.drop_transaction.ensures

pub returns : goal.returns
returns c = validate_passed _ c.requires _ c.in_ok-x.ensures _
    (sym (ap refusal_in c.in_default.is) ∙ c.judge-said.ensures) c.take_number.ensures
