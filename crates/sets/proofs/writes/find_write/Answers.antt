-- `writes::find_write` meets its contract: what stands at the place of the address, if that is its own.
use native.Mathlib.Omega.{arith}
use Rattle.std.proofs.Common.{sym}
use Rattle.sets.specs.WriteLaws.{inside, found_here, found_none}
use Rattle.sets.proofs.writes.find_write.Goals as goal

pub get-requires : goal.get-requires
get-requires c = omega (arith, c.requires.room, inside c.requires c.writes_below-p.ensures (c.stands.ensures.present c.if-stands.true))

pub returns-then-stands : goal.returns-then-stands
returns-then-stands c = found_here c.requires c.writes_below-p.ensures c.get.result c.get.ensures (c.stands.ensures.present c.if-stands.true) _ (sym c.write.ensures)

pub returns-else-stands : goal.returns-else-stands
returns-else-stands c = found_none c.requires c.writes_below-p.ensures (c.stands.ensures.absent c.if-stands.false)
