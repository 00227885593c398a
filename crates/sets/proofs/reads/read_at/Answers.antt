-- `reads::read_at` meets its contract: a stored address fits, and the row is what the words say.
use Rattle.sets.specs.ReadLaws.{read_absent, read_present}
use Rattle.sets.proofs.reads.read_at.Goals as goal

pub returns-then-row-ne1 : goal.returns-then-row-ne1
returns-then-row-ne1 c = read_absent c.args.reads.now c.args.i _ c.if-row-ne1.true

pub returns : goal.returns
returns c = read_present c.args.reads.now c.args.i _ c.if-row-ne1.false
