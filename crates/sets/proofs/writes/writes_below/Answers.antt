use native.Mathlib.Omega.{arith}
use mathlib.Core.Path.{ap}
use Rattle.sets.specs.declared.writes.WriteRow.{WriteRow}
use Rattle.sets.specs.WriteLaws.{below_on, below_stop, below_end}
use Rattle.std.proofs.Common.{le_refl}
use Rattle.sets.proofs.writes.writes_below.Goals as goal

pub returns-then-key-get : goal.returns-then-key-get
returns-then-key-get c = below_stop c.args.a c.requires c.loop-i.i c.loop-i-test.true c.loop-i.invariant (omega (arith, ap (λ (r : WriteRow). r.address) c.get.ensures))

pub loop-i-preserved : goal.loop-i-preserved
loop-i-preserved c = below_on c.args.a c.requires c.loop-i.i c.loop-i-test.true (omega (arith, ap (λ (r : WriteRow). r.address) c.get.ensures))

pub returns : goal.returns
returns c = below_end c.args.a c.requires c.args.n (le_refl _) (omega (arith, c.loop-i-test.false, c.loop-i.invariant))
