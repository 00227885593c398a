-- `runs::last_stop` meets its contract: by the words left over.
use mathlib.Core.Path.{sym, ap}
use mathlib.Core.Bool.{Bool}
use Rattle.lists.specs.Tests.{pick}
use Rattle.lists.specs.TestLaws.{same_yes, same_no}
use Rattle.replay.specs.declared.stops.Stop.TheVariants as stop
use Rattle.replay.proofs.runs.last_stop.Goals as goal

pub returns-then-steps-eq0 : goal.returns-then-steps-eq0
returns-then-steps-eq0 c = ap (λ (b : Bool). pick b stop.Complete stop.Meaningless) (sym (same_yes c.if-steps-eq0.true))

pub returns : goal.returns
returns c = ap (λ (b : Bool). pick b stop.Complete stop.Meaningless) (sym (same_no c.if-steps-eq0.false))
