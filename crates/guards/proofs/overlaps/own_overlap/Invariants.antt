-- `overlaps::own_overlap` meets its contract: the first own put that overlaps the section, or none does.
use Rattle.guards.specs.Promises.{overlaps_at}
use Rattle.guards.specs.PutLaws.{Testing}
use Rattle.guards.proofs.overlaps.own_overlap.Given as goal

abbrev pub invariant-loop-i : goal.invariant-loop-i
invariant-loop-i l = Testing (overlaps_at l.a l.len) l.writes l.n l.i
