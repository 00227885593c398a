-- `edits::edit` meets its contract: by the tests, in their order.
use Rattle.std.proofs.lemmas.Result.{err_from_is_err_and}
use Rattle.transactions.specs.ViewLaws.{core_put}
use Rattle.accesses.specs.Edits.{room_here, edit_refused, edit_full, edit_granted}
use Rattle.std.proofs.Common.{true, false}
use Rattle.accesses.proofs.edits.edit.Goals as goal

pub returns-in_err-x : goal.returns-in_err-x
returns-in_err-x c = λ k.
    let p = err_from_is_err_and c.from_residual.result c.from_residual.ensures.1 in
    rw (p.1, p.2) (edit_refused c.in_err-x.ensures)

pub returns-then-full : goal.returns-then-full
returns-then-full c = λ k. edit_full c.in_ok-x.ensures c.full.ensures c.if-full.true

pub put_write-count-requires-clause-fact : goal.put_write-count-requires-clause-fact
put_write-count-requires-clause-fact c = room_here _ _ _ _ c.full.ensures c.if-full.false

pub returns : goal.returns
returns c = λ k. edit_granted c.in_ok-x.ensures c.full.ensures c.if-full.false c.put_write-count.ensures
    (core_put _ k c.put_worker.ensures)
