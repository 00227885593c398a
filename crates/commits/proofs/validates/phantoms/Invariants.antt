-- `validates::phantoms` meets its contract: the first leaf that is gone or hides a key, or none does.
use Prim.Native.Nat.{◌-◌, ◌≤◌}
use Rattle.spec.specs.Maps.{phantom_in}
use Rattle.map.specs.Views.{lent, map_of}
use Rattle.sets.specs.Leaves.{versions_of}
use Rattle.commits.specs.Searching.{Searching}
use Rattle.commits.proofs.validates.phantoms.Given as goal

abbrev pub invariant-loop-i : goal.invariant-loop-i
invariant-loop-i l =
    (l.i ≤ l.k) × Searching (phantom_in (map_of (lent l.rows l.leaves l.slots) l.z) l.w) (versions_of l.leafset l.k) l.i
