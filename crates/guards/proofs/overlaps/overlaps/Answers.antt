-- `overlaps::overlaps` meets its contract.
use native.Mathlib.Omega.{arith}
use Rattle.guards.specs.OverlapLaws.{overlaps_same, overlaps_below, overlaps_above}
use Rattle.guards.proofs.overlaps.overlaps.Goals as goal

pub returns-then-j-a : goal.returns-then-j-a
returns-then-j-a c = overlaps_same _ _ _ _ c.if-j-a.true

pub returns-then-j-a-2 : goal.returns-then-j-a-2
returns-then-j-a-2 c = overlaps_below _ _ _ _ c.if-j-a-2.true

pub returns-else-j-a-2 : goal.returns-else-j-a-2
returns-else-j-a-2 c = overlaps_above _ _ _ _ (omega (arith, c.if-j-a.false))
