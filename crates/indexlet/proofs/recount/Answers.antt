use native.Mathlib.Omega.{arith}
use Rattle.indexlet.specs.WalkLaws.{going_start, count_read, count_on}
use Rattle.indexlet.proofs.recount.Goals as goal

pub loop-d-init : goal.loop-d-init
loop-d-init c = going_start _ _ _ c.requires.sized.0

pub overflow_add-other : goal.overflow_add-other
overflow_add-other c = omega (arith, count_read _ _ _ _ c.loop-d.d c.loop-d.invariant (omega (arith, c.requires.sized.2)) _ c.get-s.ensures, c.requires.countable.fits c.loop-d.d c.loop-d-test.true)

pub overflow_sub-other : goal.overflow_sub-other
overflow_sub-other c = omega (arith, count_read _ _ _ _ c.loop-d.d c.loop-d.invariant (omega (arith, c.requires.sized.2)) _ c.get-s.ensures, c.requires.countable.enough c.loop-d.d c.loop-d-test.true)

pub loop-d-preserved : goal.loop-d-preserved
loop-d-preserved c = count_on _ _ _ _ c.loop-d.d c.loop-d.invariant (omega (arith, c.requires.sized.2)) _ c.get-s.ensures _ c.put.ensures
