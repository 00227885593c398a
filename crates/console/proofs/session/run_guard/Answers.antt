-- `session::run_guard` meets its contract, by whether the line is the first.
use Rattle.console.specs.SessionLaws.{guard_misplaced}
use Rattle.std.proofs.Common.{false}
use Rattle.console.proofs.session.run_guard.Goals as goal

pub returns-else-x : goal.returns-else-x
returns-else-x c = λ ws. guard_misplaced c.if-x.false (c.end_malformed.ensures ws)
