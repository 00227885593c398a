-- `map::entries::still` meets its contract: by the two tests.
use Rattle.std.proofs.Common.{◌∙◌}
use Rattle.map.specs.EntryLaws.{still_same, still_not}
use Rattle.map.proofs.entries.still.Goals as goal

pub returns-then-idle : goal.returns-then-idle
returns-then-idle c = still_same _ _ c.idle.ensures c.idle-2.ensures
    c.hides_some.ensures c.hides_some-then-idle.ensures c.if-idle.true

pub returns-else-idle : goal.returns-else-idle
returns-else-idle c = c.if-idle.false ∙ still_not _ _ c.idle.ensures c.idle-2.ensures c.if-idle.false
