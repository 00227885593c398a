-- `installs::install_transaction` meets its contract: the writes are pending, the worker is free, and the install is counted.
use Rattle.commits.specs.Commits.{installs}
use Rattle.commits.proofs.installs.install_transaction.Goals as goal

pub returns : goal.returns
returns c = installs _ _ _ _ _ _ _ _ _
    c.requires.w_lt_workers
    c.worker_at-x.ensures.value
    c.free-free.ensures
    c.count_install-counted.ensures
    c.install_all-c.ensures c.put_worker.ensures
