-- `validates::judge` meets its contract: by the three tests, in their order.
use Rattle.commits.specs.Verdicts.{judge_changed, judge_locked, judge_phantom, judge_passed}
use Rattle.std.proofs.Common.{true, false}
use Rattle.commits.proofs.validates.judge.Goals as goal

pub returns-then-changed : goal.returns-then-changed
returns-then-changed c = judge_changed _ _ _ _ _ _ _ c.changed.ensures c.if-changed.true

pub returns-then-under_lock : goal.returns-then-under_lock
returns-then-under_lock c = judge_locked _ _ _ _ _ _ _ _ c.changed.ensures c.if-changed.false c.under_lock.ensures c.if-under_lock.true

pub returns-then-phantoms : goal.returns-then-phantoms
returns-then-phantoms c = judge_phantom _ _ _ _ _ _ _ _ _ c.changed.ensures c.if-changed.false
    c.under_lock.ensures c.if-under_lock.false c.phantoms.ensures c.if-phantoms.true

pub returns : goal.returns
returns c = judge_passed _ _ _ _ _ _ _ _ _ c.changed.ensures c.if-changed.false
    c.under_lock.ensures c.if-under_lock.false c.phantoms.ensures c.if-phantoms.false
