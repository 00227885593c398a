use Rattle.std.proofs.Common.{arith}
use Rattle.console.specs.Closings.{triples_none, triples_on}
use Rattle.console.proofs.closing.put_records.Goals as goal

pub loop-i-init : goal.loop-i-init
loop-i-init c = triples_none _ _ _ (omega (arith, c.requires.1))

pub loop-i-preserved : goal.loop-i-preserved
loop-i-preserved c = triples_on c.get-r.result c.loop-i.invariant c.get-r.ensures (omega arith) (omega arith) (omega arith) c.put_triple-place.ensures
