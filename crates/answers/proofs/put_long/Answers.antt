-- `answers::put_long` meets its contract: its last eight digits, after those before them.
use Prim.Native.Nat.{◌/◌, ◌%◌}
use native.Mathlib.Omega.{arith}
use Rattle.answers.specs.OutputLaws.{decimal_most, length_eight, wrote_eight}
use Rattle.answers.proofs.put_long.Goals as goal

pub put_eight-requires : goal.put_eight-requires
put_eight-requires c =
    let n = c.args.n in
    (omega arith, omega (arith, c.put_middle-next.ensures, decimal_most 7 (n / 100000000) (omega arith)))

pub returns-then-high-lt100000000 : goal.returns-then-high-lt100000000
returns-then-high-lt100000000 c = wrote_eight _ c.requires.0 c.put_middle-next.ensures c.put_eight.ensures

pub put_eight-last-requires : goal.put_eight-last-requires
put_eight-last-requires c =
    let n = c.args.n in
    (omega arith, omega (arith, c.put_short-next.ensures, decimal_most 3 (n / 100000000 / 100000000) (omega arith)))

pub put_eight-requires-else-high-lt100000000 : goal.put_eight-requires-else-high-lt100000000
put_eight-requires-else-high-lt100000000 c =
    let n = c.args.n in
    (omega arith, omega (arith, c.put_short-next.ensures, c.put_eight-last.ensures, decimal_most 3 (n / 100000000 / 100000000) (omega arith), length_eight (n / 100000000 % 100000000)))

pub returns-else-high-lt100000000 : goal.returns-else-high-lt100000000
returns-else-high-lt100000000 c = wrote_eight _ c.requires.0 (wrote_eight _ c.if-high-lt100000000.false c.put_short-next.ensures c.put_eight-last.ensures) c.put_eight-else-high-lt100000000.ensures
