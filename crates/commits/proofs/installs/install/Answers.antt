-- `installs::install` meets its contract: refused by 1, 2 or 4, or the writes are installed.
use Rattle.std.proofs.lemmas.Result.{err_from_is_err_and}
use Rattle.transactions.specs.CoreLaws.{ready_writable}
use Rattle.commits.specs.Finishes.{install_refused, install_can, install_fits, install_granted}
use Rattle.commits.proofs.installs.install.Goals as goal

pub install_transaction-requires-clause-write_set_ordered : goal.install_transaction-requires-clause-write_set_ordered
install_transaction-requires-clause-write_set_ordered c =
    let k = c.requires in
    (ready_writable k).set _ c.in_ok-checked.ensures.inside

pub install_transaction-requires-clause-installable : goal.install_transaction-requires-clause-installable
install_transaction-requires-clause-installable c = install_can _ c.requires _ c.in_ok-checked.ensures

pub install_transaction-requires-clause-installs_bound : goal.install_transaction-requires-clause-installs_bound
install_transaction-requires-clause-installs_bound c = install_fits c.requires

pub returns-in_err-checked : goal.returns-in_err-checked
returns-in_err-checked c =
    let p = err_from_is_err_and c.from_residual.result c.from_residual.ensures.1 in
    rw (p.1, p.2) (install_refused _ c.requires _ c.in_err-checked.ensures)

pub returns : goal.returns
returns c = install_granted _ c.requires _ c.in_ok-checked.ensures c.install_transaction.ensures
