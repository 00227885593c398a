use Rattle.std.proofs.Common.{sym, ◌∙◌}
use Rattle.spec.specs.declared.Stage.TheVariants.{Free}
use Rattle.transactions.specs.Admits.{any_stage, stage_eq, turned_none, turned_free, entered}
use Rattle.transactions.proofs.admits.busy.Goals as goal

pub returns-then-i-ge-WORKERS : goal.returns-then-i-ge-WORKERS
returns-then-i-ge-WORKERS c = turned_none any_stage _ _ c.if-i-ge-WORKERS.true

pub returns-then-eq : goal.returns-then-eq
returns-then-eq c = turned_free _ c.worker_at-x.ensures.workers_len c.if-i-ge-WORKERS.false c.worker_at-x.ensures.value any_stage
    (sym (stage_eq _ Free c.eq.ensures) ∙ c.if-eq.true)

pub returns : goal.returns
returns c = entered _ c.worker_at-x.ensures.workers_len c.if-i-ge-WORKERS.false c.worker_at-x.ensures.value
    (sym (stage_eq _ Free c.eq.ensures) ∙ c.if-eq.false)
