-- `answers::put_middle` meets its contract: its last four digits, after those before them.
use Prim.Native.Nat.{◌/◌}
use native.Mathlib.Omega.{arith}
use Rattle.answers.specs.OutputLaws.{decimal_most, wrote_four}
use Rattle.answers.proofs.put_middle.Goals as goal

pub put_four-requires : goal.put_four-requires
put_four-requires c =
    let n = c.args.n in
    (omega arith, omega (arith, c.put_short-next.ensures, decimal_most 3 (n / 10000) (omega arith)))

pub returns-else-n-lt10000 : goal.returns-else-n-lt10000
returns-else-n-lt10000 c = wrote_four _ c.if-n-lt10000.false c.put_short-next.ensures c.put_four.ensures
