-- `phantomlet::recount::hides_some` meets its contract: by the kind of the pending write, and by the lock.
use Rattle.std.proofs.Common.{not, ap, eq-eqb, ◌∙◌}
use Rattle.phantomlet.specs.MergeCounts.{hides_pending, hides_free, hides_locked}
use Rattle.phantomlet.proofs.recount.hides_some.Goals as goal

pub returns-then-c-eq1 : goal.returns-then-c-eq1
returns-then-c-eq1 c = eq-eqb _ 1 c.if-c-eq1.true ∙ hides_pending c.args.c c.if-c-eq1.true

pub returns-then-c-ne0 : goal.returns-then-c-ne0
returns-then-c-ne0 c = hides_locked _ c.if-c-eq1.false c.if-c-ne0.true

pub returns-else-c-ne0 : goal.returns-else-c-ne0
returns-else-c-ne0 c = ap not (eq-eqb _ 0 c.if-c-ne0.false) ∙ hides_free c.args.c c.if-c-eq1.false c.if-c-ne0.false
