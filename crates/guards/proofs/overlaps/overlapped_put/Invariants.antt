-- `overlaps::overlapped_put` meets its contract: the first put that something overlaps, or none is.
use Rattle.spec.specs.Guards.{overlapped}
use Rattle.sets.specs.Reads.{reads_of}
use Rattle.sets.specs.Leaves.{scans_of}
use Rattle.sets.specs.Writes.{writes_of}
use Rattle.guards.specs.PutLaws.{Testing}
use Rattle.guards.proofs.overlaps.overlapped_put.Given as goal

abbrev pub invariant-loop-i : goal.invariant-loop-i
invariant-loop-i l = Testing (overlapped (reads_of l.reads l.k) (scans_of l.leafset l.m) (writes_of l.writes l.n)) l.writes l.n l.i
