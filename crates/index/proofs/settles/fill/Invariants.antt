use Rattle.lists.specs.Shifts.{Filling}
use Rattle.index.specs.SettleRows.{made_row}
use Rattle.index.proofs.settles.fill.Given as goal

abbrev pub invariant-loop-x : goal.invariant-loop-x
invariant-loop-x l = Filling l.initial.leaves l.leaves l.at (made_row l.made) l.n l.x
