-- `answers::put_short` meets its contract: its last two digits, after the one or two before them.
use Prim.Native.Nat.{◌/◌}
use native.Mathlib.Omega.{arith}
use Rattle.answers.specs.OutputLaws.{decimal_most, wrote_two}
use Rattle.answers.proofs.put_short.Goals as goal

pub put_pair-requires : goal.put_pair-requires
put_pair-requires c =
    let n = c.args.n in
    (omega arith, omega (arith, c.put_small-next.ensures, decimal_most 1 (n / 100) (omega arith)))

pub returns-else-n-lt100 : goal.returns-else-n-lt100
returns-else-n-lt100 c = wrote_two _ c.if-n-lt100.false c.put_small-next.ensures c.put_pair.ensures
