-- `map::locks::lock_all` meets its contract: the map with the rows that are left locked stays the same.
use Rattle.spec.specs.Maps.{lock_all}
use Rattle.map.specs.Views.{lent, map_of}
use Rattle.sets.specs.Writes.{writes_of}
use Rattle.map.specs.LockLaws.{Locking}
use Rattle.map.proofs.locks.lock_all.Given as goal

abbrev pub invariant-loop-i : goal.invariant-loop-i
invariant-loop-i l =
    Locking l.w (lent l.rows l.leaves l.slots) l.placed.sizes l.k.version l.ws l.i l.n (lock_all l.w (map_of (lent l.rows l.initial.leaves l.initial.slots) l.initial.placed.sizes) (writes_of l.ws l.n))
