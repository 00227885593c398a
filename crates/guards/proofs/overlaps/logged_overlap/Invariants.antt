-- `overlaps::logged_overlap` meets its contract: the first logged row that overlaps the section, or none does.
use lib.ListN.{take, drop}
use Rattle.sets.specs.Reads.{reads_of}
use Rattle.sets.specs.Writes.{writes_of}
use Rattle.guards.specs.Promises.{overlaps_logged}
use Rattle.guards.specs.SearchLaws.{Searching}
use Rattle.guards.proofs.overlaps.logged_overlap.Given as goal

abbrev pub invariant-loop-i : goal.invariant-loop-i
invariant-loop-i l =
    Searching (overlaps_logged (writes_of l.writes l.n) l.a l.len) (take l.count (drop l.from (reads_of l.reads l.k))) l.count l.i
