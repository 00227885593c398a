use native.Mathlib.Omega.{arith}
use mathlib.Core.Path.{refl}
use Rattle.lists.specs.Tests.{same}
use Rattle.workers.specs.Workers.{stage_at}
use Rattle.workers.specs.WordLaws.{stage_is, stage_checked}
use Rattle.workers.proofs.stage_at.Goals as goal

pub returns-in-0 : goal.returns-in-0
unfolding stage_at same
returns-in-0 c = stage_is c.in-0.is refl

pub returns-in-1 : goal.returns-in-1
unfolding stage_at same
returns-in-1 c = stage_is c.in-1.is refl

pub returns-in-2 : goal.returns-in-2
unfolding stage_at same
returns-in-2 c = stage_is c.in-2.is refl

pub returns-in_default : goal.returns-in_default
returns-in_default c = stage_checked (λ e. omega arith) (λ e. omega arith) (λ e. omega arith)
