-- `phantomlet::recount::clear` meets its contract: the places passed are 0.
use Rattle.std.proofs.Common.{◌≤◌}
use Rattle.phantomlet.specs.LeafWrites.{Cleared}
use Rattle.phantomlet.proofs.recount.clear.Given as goal

abbrev pub invariant-loop-x : goal.invariant-loop-x
invariant-loop-x l = Cleared l.initial.leaves l.leaves l.from l.x × (l.from ≤ l.x) × (l.x ≤ l.to)
