-- `phantomlet::recount::reaches` meets its contract: one comparison does.
use Rattle.phantomlet.specs.LeafCounts.{one_comparison}
use Rattle.std.proofs.Common.{rules}
use Rattle.phantomlet.proofs.recount.reaches.Goals as goal

pub returns : goal.returns
returns c = one_comparison _ _ _ c.requires c.wrapping_sub_u64.ensures.value (search rules)
