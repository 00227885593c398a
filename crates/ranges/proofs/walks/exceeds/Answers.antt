-- `walks::exceeds` meets its contract: there are few places, or the records are counted.
use Prim.Native.Nat.{ℕ}
use native.Mathlib.Nat.{le_trans}
use mathlib.Core.Path.{sym, ap}
use Rattle.lists.specs.Tests.{less}
use Rattle.lists.specs.TestLaws.{less_no}
use Rattle.ranges.specs.WalkLaws.{rest_few}
use Rattle.ranges.proofs.walks.exceeds.Goals as goal

pub returns-then-b-from : goal.returns-then-b-from
returns-then-b-from c = sym (less_no (le_trans (rest_few _ c.requires.walks _ _) c.if-b-from.true))

pub returns : goal.returns
unfolding less
returns c = ap (λ (m : ℕ). less c.args.most m) c.count_shown.ensures
