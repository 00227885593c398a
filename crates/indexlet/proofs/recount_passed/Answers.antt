-- `indexlet::recount_passed` meets its contract: the slots up to the last, and then those from the first on.
use native.Mathlib.Omega.{arith}
use Rattle.indexlet.specs.Promises.{shifted}
use Rattle.indexlet.specs.WalkLaws.{countable_after, going_join}
use Rattle.indexlet.proofs.recount_passed.Goals as goal

pub recount-requires-else-h-n-le-SLOTS-2-clause-countable : goal.recount-requires-else-h-n-le-SLOTS-2-clause-countable
recount-requires-else-h-n-le-SLOTS-2-clause-countable c = countable_after (shifted c.args.up c.args.down) c.args.h _ c.requires.sized.1 (omega (arith, c.requires.sized.1)) (omega (arith, c.if-h-n-le-SLOTS.false)) c.requires.sized.2 c.recount-else-h-n-le-SLOTS.ensures c.requires.countable

pub returns-else-h-n-le-SLOTS : goal.returns-else-h-n-le-SLOTS
returns-else-h-n-le-SLOTS c = going_join (shifted c.args.up c.args.down) c.args.h _ _ _ c.requires.sized.1 (omega (arith, c.requires.sized.1)) (omega (arith, c.requires.sized.2)) (omega (arith, c.if-h-n-le-SLOTS.false)) c.recount-else-h-n-le-SLOTS.ensures c.recount-else-h-n-le-SLOTS-2.ensures
