-- `leaves::note_at` meets its contract.
use Rattle.sets.specs.LeafLaws.{note_none, note_some}
use Rattle.sets.proofs.leaves.note_at.Goals as goal

pub returns-then-row-ne1 : goal.returns-then-row-ne1
returns-then-row-ne1 c = note_none c.args.leaves.now c.args.i c.if-row-ne1.true

pub returns : goal.returns
returns c = note_some c.args.leaves.now c.args.i c.if-row-ne1.false
