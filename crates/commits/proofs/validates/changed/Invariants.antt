-- `validates::changed` meets its contract: the first row that differs, or none does.
use Prim.Native.Nat.{◌≤◌}
use Rattle.sets.specs.Reads.{reads_of}
use Rattle.commits.specs.Searching.{Searching}
use Rattle.commits.specs.Validates.{changed_in}
use Rattle.commits.proofs.validates.changed.Given as goal

abbrev pub invariant-loop-i : goal.invariant-loop-i
invariant-loop-i l = (l.i ≤ l.k) × Searching (changed_in l.view.rows.now l.view.records l.view.slots.now) (reads_of l.reads l.k) l.i
