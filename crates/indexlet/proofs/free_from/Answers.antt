-- `indexlet::free_from` meets its contract: the complement's bits below the slot's own are shifted out.
use native.Mathlib.Omega.{arith}
use mathlib.Core.Path.{refl}
use Rattle.indexlet.specs.BitmapLaws.{free_told}
use Rattle.indexlet.proofs.free_from.Goals as goal

pub returns : goal.returns
returns c = free_told c.args.from _ _ c.requires.slots_held.occupied c.requires.from_lt_slot_count c.word-w.ensures (omega arith) refl
