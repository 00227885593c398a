-- `phantomlet::recount::bare` meets its contract: by the two comparisons.
use Rattle.std.proofs.Common.{arith}
use Rattle.lists.specs.Tests.{same, at_most}
use Rattle.phantomlet.proofs.recount.bare.Goals as goal

pub returns-then-left-eq0 : goal.returns-then-left-eq0
unfolding same at_most
returns-then-left-eq0 c = grind arith

pub returns-else-left-eq0 : goal.returns-else-left-eq0
unfolding same at_most
returns-else-left-eq0 c = grind arith
