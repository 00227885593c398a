-- `lengths::unfit_put` meets its contract: the first unfit put, or none is.
use Rattle.spec.specs.Guards.{unfit}
use Rattle.guards.specs.PutLaws.{Testing}
use Rattle.guards.proofs.lengths.unfit_put.Given as goal

abbrev pub invariant-loop-i : goal.invariant-loop-i
invariant-loop-i l = Testing unfit l.writes l.n l.i
