-- `walks::fill` meets its contract. The invariant: those written and those left are all.
use Prim.Native.Nat.{◌+◌, ◌-◌}
use Rattle.buffers.specs.Buffers.{buffers}
use Rattle.ranges.specs.Walks.{ground, log_row, Filling}
use Rattle.ranges.proofs.walks.fill.Given as goal

abbrev pub invariant-loop-i : goal.invariant-loop-i
invariant-loop-i l =
    Filling (ground (log_row l.reads l.first) l.writes l.b) 0 l.start (buffers l.initial.addresses l.initial.values l.initial.owners) (buffers l.addresses l.values l.owners) l.i l.j l.at

abbrev pub decreases-loop-i : goal.decreases-loop-i
decreases-loop-i l = l.b.to + l.b.end - (l.i + l.j)
