-- `writes::writes_below` meets its contract. The invariant: the address has no place before i.
use Prim.Native.Nat.{◌≤◌}
use Rattle.lists.specs.Places.{place}
use Rattle.sets.specs.Writes.{writes_of}
use Rattle.sets.proofs.writes.writes_below.Given as goal

abbrev pub invariant-loop-i : goal.invariant-loop-i
invariant-loop-i l = l.i ≤ place l.a (writes_of l.writes l.n)
