use Rattle.exports.specs.CopyLaws.{gives_none, gives_room, gives_on}
use Rattle.exports.proofs.copies.give.Goals as goal

pub loop-i-init : goal.loop-i-init
loop-i-init c = gives_none _ _ _

pub loop-i-preserved : goal.loop-i-preserved
loop-i-preserved c = gives_on _ _ _ (gives_room _ _ _ c.requires c.loop-i-test.true c.loop-i.invariant) c.get-r.ensures c.loop-i.invariant
