-- `indexlet::bits_from` meets its contract: the bits below the slot's own are shifted out.
use native.Mathlib.Omega.{arith}
use mathlib.Core.Path.{refl}
use Rattle.indexlet.specs.BitmapLaws.{bits_told}
use Rattle.indexlet.proofs.bits_from.Goals as goal

pub returns : goal.returns
returns c = bits_told c.args.from _ _ c.requires.slots_held.occupied c.requires.from_lt_slot_count c.word-w.ensures (omega arith) refl
