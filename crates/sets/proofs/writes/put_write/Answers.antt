-- `writes::put_write` meets its contract: over the write that stands at the place, or before it.
use native.Mathlib.Omega.{arith}
use Rattle.sets.specs.WriteLaws.{inside, put_room, put_over, put_new}
use Rattle.sets.proofs.writes.put_write.Goals as goal

pub store-requires : goal.store-requires
store-requires c = omega (arith, c.requires.write_set_ordered.room, inside c.requires.write_set_ordered c.writes_below-p.ensures (c.stands.ensures.present c.if-stands.true))

pub returns-then-stands : goal.returns-then-stands
returns-then-stands c =
    put_over c.requires.write_set_ordered c.writes_below-p.ensures c.args.write (c.stands.ensures.present c.if-stands.true) c.ranges.a.fits (rw c.of-line.ensures at c.store.ensures)

pub insert-requires-clause-p_le_n : goal.insert-requires-clause-p_le_n
insert-requires-clause-p_le_n c = (
  c.writes_below-p.ensures.within,
  put_room c.requires.write_set_ordered c.writes_below-p.ensures (c.stands.ensures.absent c.if-stands.false) c.requires.fact,
  rw c.of-line.ensures c.ranges.a.fits,
)

pub returns : goal.returns
returns c =
    let n = c.stands.ensures.absent c.if-stands.false in
    put_new c.requires.write_set_ordered c.writes_below-p.ensures c.args.write n (put_room c.requires.write_set_ordered c.writes_below-p.ensures n c.requires.fact) (rw c.of-line.ensures at c.insert.ensures)
