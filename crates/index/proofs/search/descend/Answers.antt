use Rattle.std.proofs.Common.{arith}
use Rattle.index.specs.Nearing.{near_on, near_end}
use Rattle.index.proofs.search.descend.Goals as goal

pub loop-step-preserved : goal.loop-step-preserved
loop-step-preserved g c = record {
  room = omega (arith, c.probe_two-base.ensures.within, c.loop-step.invariant.room);
  near = λ p s n. c.probe_two-base.ensures.near p s (c.loop-step.invariant.near p s n);
}

pub returns-then-step-eq1 : goal.returns-then-step-eq1
returns-then-step-eq1 g c =
    λ p s n. near_end (near_on (omega (arith, c.if-step-eq1.true)) (c.loop-step.invariant.near p s n) (c.probe.ensures.took p s)) (omega (arith, c.if-step-eq1.true))

pub returns-else-step-eq1 : goal.returns-else-step-eq1
returns-else-step-eq1 g c =
    λ p s n. near_end (c.loop-step.invariant.near p s n) (omega (arith, c.loop-step-test.false, c.if-step-eq1.false))
