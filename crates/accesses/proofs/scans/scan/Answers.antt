-- `scans::scan` meets its contract: refused for the worker, refused by the tests, or carried out.
use Rattle.std.proofs.lemmas.Result.{err_from_is_err_and}
use Rattle.transactions.specs.ViewLaws.{core_put}
use Rattle.accesses.specs.ScanCauses.{planning}
use Rattle.accesses.specs.ScanLaws.{scans_turned, scans_declined, scans_granted}
use Rattle.accesses.proofs.scans.scan.Goals as goal

pub measure-requires : goal.measure-requires
measure-requires c = planning c.requires c.in_ok-x.ensures

pub carry_out-done-requires-clause-planning : goal.carry_out-done-requires-clause-planning
carry_out-done-requires-clause-planning c = planning c.requires c.in_ok-x.ensures

pub returns-in_err-x : goal.returns-in_err-x
returns-in_err-x c =
    let p = err_from_is_err_and c.from_residual.result c.from_residual.ensures.1 in
    rw (p.1, p.2) (scans_turned _ _ _ c.requires c.in_err-x.ensures)

pub returns-in_err-t : goal.returns-in_err-t
returns-in_err-t c =
    let p = err_from_is_err_and c.from_residual-in_err-t.result c.from_residual-in_err-t.ensures.1 in
    rw (p.1, p.2) (scans_declined _ _ _ c.requires c.in_ok-x.ensures c.in_err-t.ensures)

pub returns : goal.returns
returns c = scans_granted _ _ _ c.requires c.in_ok-x.ensures c.in_ok-t.ensures c.carry_out-done.ensures
    (core_put _ _ c.put_worker.ensures)
