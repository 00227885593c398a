-- `edits::full` meets its contract: there is room, or the write is looked up.
use Rattle.std.proofs.Common.{◌∙◌}
use Rattle.lists.specs.Tests.{at_most}
use Rattle.lists.specs.TestLaws.{at_most_no}
use Rattle.accesses.specs.Edits.{full_room, full_told}
use Rattle.accesses.proofs.edits.full.Goals as goal

pub returns-then-n-ge-WRITE_LIMIT : goal.returns-then-n-ge-WRITE_LIMIT
returns-then-n-ge-WRITE_LIMIT c = full_told _ _ _ _ c.find_write.ensures c.if-n-ge-WRITE_LIMIT.true c.is_none.ensures

pub returns-else-n-ge-WRITE_LIMIT : goal.returns-else-n-ge-WRITE_LIMIT
unfolding at_most
returns-else-n-ge-WRITE_LIMIT c = at_most_no c.if-n-ge-WRITE_LIMIT.false ∙ full_room _ _ _ c.if-n-ge-WRITE_LIMIT.false
