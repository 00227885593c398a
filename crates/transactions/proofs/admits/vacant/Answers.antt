use Rattle.std.proofs.Common.{sym, ap, ◌∙◌, not}
use Rattle.spec.specs.declared.Stage.TheVariants.{Free}
use Rattle.transactions.specs.Admits.{stage_ne, barred_none, barred_taken, vacant_free}
use Rattle.transactions.proofs.admits.vacant.Goals as goal

pub returns-then-i-ge-WORKERS : goal.returns-then-i-ge-WORKERS
returns-then-i-ge-WORKERS c = barred_none _ _ c.if-i-ge-WORKERS.true

pub returns-then-ne : goal.returns-then-ne
returns-then-ne c = barred_taken _ c.worker_at-x.ensures.workers_len c.if-i-ge-WORKERS.false c.worker_at-x.ensures.value
    (sym (stage_ne _ Free c.ne.ensures) ∙ ap not c.if-ne.true)

pub returns : goal.returns
returns c = vacant_free _ c.worker_at-x.ensures.workers_len c.if-i-ge-WORKERS.false c.worker_at-x.ensures.value
    (sym (stage_ne _ Free c.ne.ensures) ∙ ap not c.if-ne.false)
