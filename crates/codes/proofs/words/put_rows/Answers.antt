use native.Mathlib.Omega.{arith}
use Rattle.spec.specs.Steps.{shortest}
use Rattle.codes.specs.WordLaws.{putting_none, putting_on}
use Rattle.codes.proofs.words.put_rows.Goals as goal

pub loop-i-init : goal.loop-i-init
loop-i-init c = putting_none _ _ _ (omega (arith, c.requires))

pub bounds-addresses-i : goal.bounds-addresses-i
unfolding shortest
bounds-addresses-i c = omega arith

pub bounds-values-i : goal.bounds-values-i
unfolding shortest
bounds-values-i c = omega arith

pub bounds-owners-i : goal.bounds-owners-i
unfolding shortest
bounds-owners-i c = omega arith

pub loop-i-preserved : goal.loop-i-preserved
loop-i-preserved c = putting_on c.loop-i.i c.loop-i.invariant c.put_three-next.ensures
