-- `indexlet::seek` meets its contract. The invariant: what is left of the search is the whole search.
use Rattle.indexlet.specs.SeekLaws.{Seeking}
use Rattle.indexlet.proofs.seek.Given as goal

abbrev pub invariant-loop-d : goal.invariant-loop-d
invariant-loop-d l = Seeking l.t l.a l.h l.d
