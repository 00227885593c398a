-- `phantomlet::recount::tally_all` meets its contract.
use Rattle.phantomlet.specs.MergeCounts.{Tallied}
use Rattle.phantomlet.proofs.recount.tally_all.Given as goal

abbrev pub invariant-loop-j : goal.invariant-loop-j
invariant-loop-j l = Tallied l.rows l.initial.leaves l.slots l.n l.m l.r l.j l.leaves
