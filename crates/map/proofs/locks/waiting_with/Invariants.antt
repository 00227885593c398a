-- `map::locks::waiting_with` meets its contract: the sum and what the rows that are left add stay the same.
use Prim.Native.Nat.{◌+◌}
use lib.ListN.{length}
use Rattle.lists.specs.Rows.{keys, filter}
use Rattle.sets.specs.Writes.{writes_of}
use Rattle.map.specs.AddressCounts.{entryless, Counting}
use Rattle.map.proofs.locks.waiting_with.Given as goal

abbrev pub invariant-loop-i : goal.invariant-loop-i
invariant-loop-i l = Counting (entryless l.slots) l.ws l.n l.i l.sum (l.initial.sum + length (filter (entryless l.slots) (keys (writes_of l.ws l.n))))
