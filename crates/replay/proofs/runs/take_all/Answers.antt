use native.Mathlib.Omega.{arith}
use Rattle.replay.specs.LoopLaws.{replaying_start, replaying_on, takes_as, replays_halt, replays_end}
use Rattle.replay.proofs.runs.take_all.Goals as goal

pub loop-i-init : goal.loop-i-init
loop-i-init c = replaying_start _ _ _ _ c.requires (c.no_export-export.ensures.0 _, c.no_export-export.ensures.1)

pub loop-i-preserved : goal.loop-i-preserved
loop-i-preserved c = replaying_on c.loop-i.invariant (takes_as c.take_code-t.ensures c.code_at-k.ensures.value) (omega (arith, c.loop-i-test.true)) c.in-Complete.is

pub returns-in-Meaningless : goal.returns-in-Meaningless
returns-in-Meaningless c = replays_halt c.loop-i.invariant (takes_as c.take_code-t.ensures c.code_at-k.ensures.value) (omega (arith, c.loop-i-test.true)) c.in-Meaningless.is

pub returns : goal.returns
returns c = replays_end _ c.loop-i.invariant c.loop-i-test.false c.last_stop.ensures
