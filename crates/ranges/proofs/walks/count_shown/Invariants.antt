-- `walks::count_shown` meets its contract. The invariant: those counted and those left are all.
use Prim.Native.Nat.{◌+◌, ◌-◌}
use Rattle.ranges.specs.Scanning.{seen_by}
use Rattle.ranges.specs.Walks.{ground, Counting}
use Rattle.ranges.proofs.walks.count_shown.Given as goal

abbrev pub invariant-loop-i : goal.invariant-loop-i
invariant-loop-i l = Counting (ground (seen_by l.view) l.writes l.b) l.from l.start l.i l.j l.count

abbrev pub decreases-loop-i : goal.decreases-loop-i
decreases-loop-i l = l.b.to + l.b.end - (l.i + l.j)
