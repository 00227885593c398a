-- `answers::put_four` meets its contract: two digits and two more.
use Prim.Native.Nat.{◌/◌}
use native.Mathlib.Omega.{arith}
use Rattle.lists.specs.TextLaws.{wrote_join}
use Rattle.answers.specs.OutputLaws.{four, length_pair}
use Rattle.answers.proofs.put_four.Goals as goal

pub put_pair-requires : goal.put_pair-requires
put_pair-requires c = (omega arith, omega (arith, c.put_pair-next.ensures, length_pair (c.args.n / 100)))

pub returns : goal.returns
unfolding four
returns c = wrote_join c.put_pair-next.ensures c.put_pair.ensures
