use Prim.Native.Nat.{◌+◌}
use native.Mathlib.Omega.{arith}
use Rattle.indexlet.specs.BitmapLaws.{unseen_inside}
use Rattle.queries.specs.NextLaws.{walking_start, walking_narrow, walking_on, walking_end}
use Rattle.queries.proofs.View.nearest_in.Goals as goal

pub loop-w-init : goal.loop-w-init
loop-w-init c = walking_start _ _ _ _ _ c.requires.2 c.requires.1 c.requires.0 (omega arith)

pub slot_at-s-requires-clause-i_lt_slot_count : goal.slot_at-s-requires-clause-i_lt_slot_count
slot_at-s-requires-clause-i_lt_slot_count c = omega (arith, unseen_inside c.loop-w.w (omega arith) c.loop-w.invariant.left, c.lowest_bit.ensures)

pub overflow_cast-key : goal.overflow_cast-key
overflow_cast-key c = record { fits = walking_narrow _ _ _ _ _ c.slot_at-s.result c.loop-w.invariant (omega arith) (c.args.next + c.lowest_bit.result) (omega (arith, c.lowest_bit.ensures)) c.slot_at-s.ensures }

pub loop-w-preserved : goal.loop-w-preserved
loop-w-preserved c = walking_on _ _ _ _ _ c.slot_at-s.result c.loop-w.invariant (omega arith) _ c.nearer-nearest.ensures _ (c.args.next + c.lowest_bit.result)
    c.other_bits-w.ensures (omega (arith, c.lowest_bit.ensures)) c.slot_at-s.ensures

pub returns : goal.returns
returns c = walking_end _ _ _ _ _ (omega arith) c.loop-w.invariant
