-- `open_export` meets its contract.
use Rattle.std.proofs.Common.{sym, ◌∙◌}
use Rattle.exports.specs.StepLaws.{none_by, some_by, open_already, opens}
use Rattle.exports.proofs.open_export.Goals as goal

pub returns-then-is_some : goal.returns-then-is_some
returns-then-is_some c = λ s. open_already _ _ s c.requires.slots_len_bound.1 (some_by _ (sym c.is_some.ensures ∙ c.if-is_some.true)).1

pub returns : goal.returns
returns c = λ s. opens _ _ s (none_by _ (sym c.is_some.ensures ∙ c.if-is_some.false)) c.requires.slots_len_bound.0 c.copy_contents-count.ensures
