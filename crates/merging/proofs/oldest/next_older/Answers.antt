-- `merging::oldest::next_older` meets its contract: the walk passes what has waited less.
use Rattle.std.proofs.Common.{rules}
use Rattle.merging.specs.OldestWalks.{passes_passed}
use Rattle.merging.proofs.oldest.next_older.Goals as goal

pub returns-in-Some : goal.returns-in-Some
returns-in-Some c = rw c.in-Some.is (passes_passed (rw c.in-Some.is at c.requires.from_le_slot_count.1) (λ s q. search rules) c.next.ensures)
