-- `phantomlet::recount::waits` meets its contract: kind 0 is no pending write.
use Rattle.phantomlet.specs.MergeCounts.{waits_none, waits_some}
use Rattle.phantomlet.proofs.recount.waits.Goals as goal

pub returns-then-c-eq0 : goal.returns-then-c-eq0
returns-then-c-eq0 c = waits_none c.args.c c.if-c-eq0.true

pub returns-else-c-eq0 : goal.returns-else-c-eq0
returns-else-c-eq0 c = waits_some c.args.c c.if-c-eq0.false
