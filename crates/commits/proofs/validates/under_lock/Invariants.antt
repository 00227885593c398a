-- `validates::under_lock` meets its contract: the first row whose address is locked, or none is.
use Prim.Native.Nat.{◌-◌, ◌≤◌}
use Rattle.sets.specs.Reads.{reads_of}
use Rattle.commits.specs.Searching.{Searching}
use Rattle.commits.specs.Validates.{row_locked}
use Rattle.commits.proofs.validates.under_lock.Given as goal

abbrev pub invariant-loop-i : goal.invariant-loop-i
invariant-loop-i l = (l.i ≤ l.k) × Searching (row_locked l.slots l.w) (reads_of l.reads l.k) l.i
