-- `close_export` meets its contract.
use Rattle.std.specs.Prelude.{not}
use Rattle.std.proofs.Common.{ap, ◌∙◌}
use Rattle.exports.specs.StepLaws.{none_by, some_by, no_close, closes}
use Rattle.exports.proofs.close_export.Goals as goal

pub returns-then-is_none : goal.returns-then-is_none
returns-then-is_none c = λ contents rows s. no_close contents rows s c.requires (none_by _ (c.is_none.ensures ∙ ap not c.if-is_none.true))

pub returns : goal.returns
returns c = λ contents rows s. closes contents rows (some_by _ (c.is_none.ensures ∙ ap not c.if-is_none.false)).1 s
