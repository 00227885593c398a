-- `merging::merge::next_reached` meets its contract: the walk passes what lies elsewhere.
use Rattle.std.proofs.Common.{rules}
use Rattle.merging.specs.MergeShortcuts.{skips_passed}
use Rattle.merging.proofs.merge.next_reached.Goals as goal

pub returns : goal.returns
returns c = skips_passed (λ s q. search rules) c.next.ensures
