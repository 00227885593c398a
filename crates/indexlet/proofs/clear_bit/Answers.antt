-- `indexlet::clear_bit` meets its contract: one bit of the slot's word is cleared.
use Prim.Native.Nat.{◌%◌}
use native.Mathlib.Omega.{arith}
use Rattle.indexlet.specs.Bits.{clear_fits}
use Rattle.indexlet.specs.Bitmaps.{word_bits}
use Rattle.indexlet.proofs.clear_bit.Goals as goal

pub overflow_sub-w : goal.overflow_sub-w
overflow_sub-w c = omega (arith, clear_fits (c.args.i % word_bits) _ c.requires.1, c.word-w.ensures, c.bit_of-m.ensures)
