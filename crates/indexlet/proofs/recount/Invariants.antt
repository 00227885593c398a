-- `indexlet::recount` meets its contract. The invariant: the counts of the first d slots are changed.
use Rattle.indexlet.specs.Promises.{Going, shifted}
use Rattle.indexlet.proofs.recount.Given as goal

abbrev pub invariant-loop-d : goal.invariant-loop-d
invariant-loop-d l = Going (shifted l.up l.down) l.initial.t l.from l.t l.d
