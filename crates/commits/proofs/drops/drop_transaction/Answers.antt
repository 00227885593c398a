-- `drops::drop_transaction` meets its contract: the locks of the write set go, and the worker is free.
use Rattle.commits.specs.Commits.{drops}
use Rattle.commits.proofs.drops.drop_transaction.Goals as goal

pub returns : goal.returns
returns c = drops _ _ _ _ _ _ _ _
    c.requires.w_lt_workers
    c.worker_at-x.ensures.value
    c.free-free.ensures c.unlock_all-c.ensures c.put_worker.ensures
