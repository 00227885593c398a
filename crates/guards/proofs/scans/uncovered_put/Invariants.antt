-- `scans::uncovered_put` meets its contract: the first put that no scan covers, or all are covered.
use Rattle.spec.specs.Guards.{uncovered}
use Rattle.sets.specs.Leaves.{scans_of}
use Rattle.guards.specs.PutLaws.{Testing}
use Rattle.guards.proofs.scans.uncovered_put.Given as goal

abbrev pub invariant-loop-i : goal.invariant-loop-i
invariant-loop-i l = Testing (uncovered (scans_of l.leafset l.m)) l.writes l.n l.i
