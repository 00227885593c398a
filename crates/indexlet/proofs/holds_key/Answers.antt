use Rattle.std.proofs.Common.{not, sym, ap, ◌∙◌}
use Rattle.std.proofs.lemmas.Bool.{ne_eqb}
use Rattle.indexlet.specs.WordLaws.{holds_other, holds_same}
use Rattle.indexlet.proofs.holds_key.Goals as goal

pub returns-then-s-a : goal.returns-then-s-a
returns-then-s-a c = ap not c.idle.ensures ∙ sym (holds_same c.args.a c.args.s c.if-s-a.true)

pub returns-else-s-a : goal.returns-else-s-a
returns-else-s-a c = ne_eqb _ _ c.if-s-a.false ∙ sym (holds_other c.args.a c.args.s c.if-s-a.false)
