-- `map::locks::lock_one` meets its contract: what is said is the content with the lock, for the write of the row.
use Rattle.indexlet.specs.Words.{content_in}
use Rattle.indexlet.specs.EnterLaws.{said_at}
use Rattle.map.specs.WriteWalks.{given}
use Rattle.std.proofs.Common.{ℕ, ◌+◌, ap, ◌∙◌}
use Rattle.map.specs.LockLaws.{holding, said_as, lock_said}
use Rattle.map.proofs.locks.lock_one.Goals as goal

pub returns : goal.returns
returns c = said_as c.set_content.ensures
    (lock_said _ c.args.w _ c.write_at-row.result (content_in c.content_at-old.result) _
    (given c.write_at-row.ensures c.requires.i_lt_n.0) (said_at c.find-at.ensures c.content_at-old.ensures) (c.with_lock-c.ensures ∙ ap (λ (k : ℕ). holding (c.args.w + 1) k (content_in c.content_at-old.result)) c.kind.ensures))
