-- `map::locks::unlock_all` meets its contract: the map with the rows that are left unlocked stays the same.
use Rattle.lists.specs.Rows.{keys}
use Rattle.spec.specs.Maps.{unlock_all}
use Rattle.map.specs.Views.{lent, map_of}
use Rattle.sets.specs.Writes.{writes_of}
use Rattle.map.specs.LockLaws.{Unlocking}
use Rattle.map.proofs.locks.unlock_all.Given as goal

abbrev pub invariant-loop-i : goal.invariant-loop-i
invariant-loop-i l =
    Unlocking l.w (lent l.rows l.leaves l.slots) l.placed.sizes l.k.version l.ws l.i l.n (unlock_all l.w (map_of (lent l.rows l.initial.leaves l.initial.slots) l.initial.placed.sizes) (keys (writes_of l.ws l.n)))
