-- `map::locks::install_all` meets its contract: the map with the rows that are left installed stays the same.
use Rattle.spec.specs.Maps.{install_all}
use Rattle.map.specs.Views.{lent, map_of}
use Rattle.sets.specs.Writes.{writes_of}
use Rattle.map.specs.LockLaws.{Installing}
use Rattle.map.proofs.locks.install_all.Given as goal

abbrev pub invariant-loop-i : goal.invariant-loop-i
invariant-loop-i l =
    Installing l.number l.t (lent l.rows l.leaves l.slots) l.placed.sizes l.k.version l.ws l.i l.n (install_all l.number l.t (map_of (lent l.rows l.initial.leaves l.initial.slots) l.initial.placed.sizes) (writes_of l.ws l.n))
