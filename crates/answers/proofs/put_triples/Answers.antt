use Rattle.std.proofs.Common.{arith}
use Rattle.answers.specs.OutputLaws.{listing_none, listing_on}
use Rattle.answers.proofs.put_triples.Goals as goal

pub loop-i-init : goal.loop-i-init
loop-i-init c = listing_none _ _ _ _ _ (omega (arith, c.requires))

pub loop-i-preserved : goal.loop-i-preserved
loop-i-preserved c =
    let l = c.loop-i in
    listing_on l.i l.invariant (omega arith) (omega arith) (omega arith)
    (omega (arith, c.type_inv.addresses l.i)) (omega (arith, c.type_inv.values l.i)) (omega (arith, c.type_inv.owners l.i))
    c.put_triple-next.ensures
