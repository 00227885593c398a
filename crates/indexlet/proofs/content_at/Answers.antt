-- `indexlet::content_at` meets its contract: by whether the slot is one.
use mathlib.Core.Path.{◌∙◌}
use Rattle.indexlet.specs.EnterLaws.{content_there, content_nowhere}
use Rattle.indexlet.proofs.content_at.Goals as goal

pub returns-then-at-lt-SLOTS : goal.returns-then-at-lt-SLOTS
returns-then-at-lt-SLOTS c = content_there _ _ _ c.if-at-lt-SLOTS.true c.get.ensures

pub returns-else-at-lt-SLOTS : goal.returns-else-at-lt-SLOTS
returns-else-at-lt-SLOTS c = c.nothing.ensures ∙ content_nowhere _ _ c.if-at-lt-SLOTS.false
