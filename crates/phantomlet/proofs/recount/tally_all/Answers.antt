use Rattle.phantomlet.specs.MergeCounts.{tallied_end}
use Rattle.phantomlet.proofs.recount.tally_all.Goals as goal

pub returns : goal.returns
returns c = tallied_end c.loop-j.invariant c.loop-j-test.false
