use native.Mathlib.Omega.{arith}
use Rattle.indexlet.specs.WalkLaws.{filled_on, filled_first, filled_less, filled_never, first_less}
use Rattle.indexlet.proofs.passed_by_new.Goals as goal

pub returns-then-w-ne0 : goal.returns-then-w-ne0
returns-then-w-ne0 c = first_less c.loop-d.d
    (filled_first _ c.args.h c.loop-d.d c.free_from-w.result c.loop-d.invariant c.loop-d-test.true c.free_from-w.ensures (omega arith) (omega arith))
    (filled_less _ c.args.h c.loop-d.d c.free_from-w.result c.loop-d.invariant c.loop-d-test.true c.free_from-w.ensures (omega arith) (omega arith))
    c.lowest_bit.ensures

pub loop-d-preserved : goal.loop-d-preserved
loop-d-preserved c = filled_on _ c.args.h c.loop-d.d c.free_from-w.result c.loop-d.invariant c.loop-d-test.true c.free_from-w.ensures _ (omega arith) c.word_end.ensures

pub returns : goal.returns
returns c = filled_never _ _ _ c.loop-d.invariant c.requires.h_lt_slot_count.0 c.loop-d-test.false c.requires.h_lt_slot_count.1
