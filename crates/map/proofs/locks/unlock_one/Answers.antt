-- `map::locks::unlock_one` meets its contract: what is said is the content without the lock, where w has it.
use mathlib.Core.Path.{sym, ◌∙◌}
use Rattle.spec.specs.Slots.{idle}
use Rattle.indexlet.specs.EnterLaws.{said_at}
use Rattle.map.specs.LockLaws.{said_as, said_nothing, unlock_said, unlock_other, unlock_room}
use Rattle.map.proofs.locks.unlock_one.Goals as goal

pub set_content-requires-clause-entry_room : goal.set_content-requires-clause-entry_room
set_content-requires-clause-entry_room c = unlock_room _ _ _ _ _ c.key_at-a.ensures (said_at c.find-at.ensures c.content_at-old.ensures) c.requires.tables.words.good c.with_lock-c.ensures

pub returns-then-by_own : goal.returns-then-by_own
returns-then-by_own c = said_as c.set_content.ensures
    (unlock_said _ _ _ _ _ c.key_at-a.ensures (said_at c.find-at.ensures c.content_at-old.ensures) c.args.w
    (sym c.if-by_own.true ∙ c.by_own.ensures) c.with_lock-c.ensures)

pub returns : goal.returns
returns c = said_nothing c.requires.tables _ (unlock_other _ _ _ _ idle c.key_at-a.ensures (said_at c.find-at.ensures c.content_at-old.ensures) c.args.w
    (sym c.if-by_own.false ∙ c.by_own.ensures))
