-- `merging::oldest::is_older` meets its contract: a tie that the address decides, or the install.
use Rattle.merging.specs.OldestWalks.{elder_tie, elder_time}
use Rattle.merging.proofs.oldest.is_older.Goals as goal

pub returns-then-since-o : goal.returns-then-since-o
returns-then-since-o c = elder_tie c.args.o c.args.key c.args.since c.if-since-o.true

pub returns : goal.returns
returns c = elder_time c.args.o c.args.key c.args.since c.if-since-o.false
