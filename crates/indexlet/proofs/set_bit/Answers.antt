-- `indexlet::set_bit` meets its contract: one bit of the slot's word is set.
use Prim.Native.Nat.{◌%◌}
use native.Mathlib.Omega.{arith}
use Rattle.indexlet.specs.Bits.{set_fits}
use Rattle.indexlet.specs.Bitmaps.{word_bits}
use Rattle.indexlet.proofs.set_bit.Goals as goal

pub overflow_add-w : goal.overflow_add-w
overflow_add-w c = omega (arith, set_fits 64 (c.args.i % word_bits) _ (omega arith) (omega (arith, c.word-w.ensures)) c.requires.1, c.word-w.ensures, c.bit_of-m.ensures)
