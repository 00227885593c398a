-- `session::can_go_on` meets its contract, test by test.
use native.Mathlib.Omega.{arith}
use Rattle.console.specs.SessionLaws.{goes_stopped, goes_used, goes_full, goes_yes}
use Rattle.std.proofs.Common.{true, false}
use Rattle.console.proofs.session.can_go_on.Goals as goal

pub returns-then-stopped : goal.returns-then-stopped
returns-then-stopped c = goes_stopped _ _ _ _ _ c.if-stopped.true

pub returns-then-size-next : goal.returns-then-size-next
returns-then-size-next c = goes_used _ _ _ _ _ c.if-size-next.true

pub returns-then-room-lt-LONGEST_LINE : goal.returns-then-room-lt-LONGEST_LINE
returns-then-room-lt-LONGEST_LINE c = goes_full _ _ _ _ _ (omega arith)

pub returns-then-room-at : goal.returns-then-room-at
returns-then-room-at c = goes_full _ _ _ _ _ (omega arith)

pub returns : goal.returns
returns c = goes_yes _ _ _ _ _ c.if-stopped.false (omega arith) (omega arith)
