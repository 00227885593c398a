use Rattle.std.proofs.Common.{arith, inl, inr}
use Rattle.indexlet.specs.BitmapLaws.{unseen_start, unseen_end, unseen_inside, unseen_before, unseen_on}
use Rattle.merging.proofs.walk.next_in.Goals as goal

pub loop-w-init : goal.loop-w-init
loop-w-init g c = unseen_start _ c.requires.from_lt_slot_count.1 c.requires.from_lt_slot_count.0 (omega arith) (λ i h t. inl t)

pub slot_at-s-requires-clause-i_lt_slot_count : goal.slot_at-s-requires-clause-i_lt_slot_count
slot_at-s-requires-clause-i_lt_slot_count g c = omega (arith, unseen_inside c.loop-w.w (omega arith) c.loop-w.invariant, c.lowest_bit.ensures)

pub returns-then-stops : goal.returns-then-stops
returns-then-stops g c = record {
  forth = omega arith;
  there = omega (arith, unseen_inside c.loop-w.w (omega arith) c.loop-w.invariant, c.lowest_bit.ensures);
  unmet = λ i a b. unseen_before c.loop-w.w (omega arith) c.loop-w.invariant i a (omega (arith, c.lowest_bit.ensures));
}

pub loop-w-preserved : goal.loop-w-preserved
loop-w-preserved g c = unseen_on c.loop-w.w (omega arith) c.loop-w.invariant _ _ c.other_bits-w.ensures (omega (arith, c.lowest_bit.ensures))
    (inr (c.slot_at-s.result, c.slot_at-s.ensures, c.if-stops.ensures))

pub returns : goal.returns
returns g c = record {
  forth = omega (arith, c.word_end.ensures);
  there = omega (arith, c.word_end.ensures, c.requires.from_lt_slot_count.0);
  unmet = λ i a b. unseen_end c.loop-w.w (omega arith) c.loop-w.invariant i a (omega (arith, c.word_end.ensures));
}
