-- `answers::put_eight` meets its contract: four digits and four more.
use Prim.Native.Nat.{◌/◌}
use native.Mathlib.Omega.{arith}
use Rattle.lists.specs.TextLaws.{wrote_join}
use Rattle.answers.specs.OutputLaws.{eight, length_four}
use Rattle.answers.proofs.put_eight.Goals as goal

pub put_four-requires : goal.put_four-requires
put_four-requires c = (omega arith, omega (arith, c.put_four-next.ensures, length_four (c.args.n / 10000)))

pub returns : goal.returns
unfolding eight
returns c = wrote_join c.put_four-next.ensures c.put_four.ensures
