-- `map::locks::held` meets its contract: the rows that are left say what all rows say.
use mathlib.Core.Path.{◌≡◌}
use Rattle.lists.specs.Rows.{any, keys}
use Rattle.sets.specs.Writes.{writes_of}
use Rattle.map.specs.WriteWalks.{rest_keys}
use Rattle.map.specs.LockLaws.{foreign}
use Rattle.map.proofs.locks.held.Given as goal

abbrev pub invariant-loop-i : goal.invariant-loop-i
invariant-loop-i l = (any (foreign l.slots l.w) (rest_keys l.ws l.i l.n) ≡ any (foreign l.slots l.w) (keys (writes_of l.ws l.n)))
