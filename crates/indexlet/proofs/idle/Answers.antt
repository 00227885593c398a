use Rattle.std.proofs.Common.{sym, ◌∙◌}
use Rattle.std.proofs.lemmas.Bool.{ne_eqb}
use Rattle.indexlet.specs.WordLaws.{idle_waiting, idle_lock}
use Rattle.indexlet.proofs.idle.Goals as goal

pub returns-then-c-eq0 : goal.returns-then-c-eq0
returns-then-c-eq0 c = sym (idle_lock c.args.c c.if-c-eq0.true)

pub returns-else-c-eq0 : goal.returns-else-c-eq0
returns-else-c-eq0 c = ne_eqb _ 0 c.if-c-eq0.false ∙ sym (idle_waiting c.args.c c.if-c-eq0.false)
