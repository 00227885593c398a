use Rattle.merging.specs.OldestWalks.{oldest_end}
use Rattle.merging.proofs.oldest.oldest_waiting.Goals as goal

pub returns-in-None : goal.returns-in-None
returns-in-None c = rw c.in-None.is at (oldest_end c.args.slots.now c.loop-j-test.false c.loop-j.invariant)

pub returns-in-Some : goal.returns-in-Some
returns-in-Some c = rw c.in-Some.is at (oldest_end c.args.slots.now c.loop-j-test.false c.loop-j.invariant)
