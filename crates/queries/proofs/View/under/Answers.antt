-- `View::under` meets its contract: by what is said of the address.
use native.Mathlib.Omega.{arith}
use Rattle.queries.specs.CurrentLaws.{sees_indexed, sees_put, sees_deletion}
use Rattle.queries.proofs.View.under.Goals as goal

pub returns-in-0 : goal.returns-in-0
returns-in-0 c = record { sees = λ slots said. sees_indexed _ _ slots _ c.args.c said _ c.in-0.is c.find.ensures }

pub returns-in-1 : goal.returns-in-1
returns-in-1 c = record { sees = λ slots said. sees_put _ _ slots _ c.args.c said c.in-1.is }

pub returns-in_default : goal.returns-in_default
returns-in_default c = record { sees = λ slots said. sees_deletion _ _ slots _ c.args.c said (λ e. omega arith) (λ e. omega arith) }
