use Rattle.index.specs.SettleRows.{MadeRuns}
use Rattle.index.proofs.settles.make_all.Given as goal

abbrev pub invariant-loop-x : goal.invariant-loop-x
invariant-loop-x l = MadeRuns l.rows l.i l.v l.x l.made
