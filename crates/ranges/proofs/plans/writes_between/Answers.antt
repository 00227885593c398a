-- `plans::writes_between` meets its contract: by whether the worker has a write at hi.
use Rattle.ranges.specs.LogLaws.{own_past, own_other, own_last}
use Rattle.ranges.proofs.plans.writes_between.Goals as goal

pub returns-then-n-to : goal.returns-then-n-to
returns-then-n-to c = own_past c.requires.write_set_ordered c.requires.lo_le_hi c.writes_below-from.ensures c.writes_below-to.ensures c.if-n-to.true

pub returns-then-e-hi : goal.returns-then-e-hi
returns-then-e-hi c = own_last c.requires.write_set_ordered c.requires.lo_le_hi c.writes_below-from.ensures c.writes_below-to.ensures c.if-n-to.false c.write_at-e.ensures c.if-e-hi.true

pub returns : goal.returns
returns c = own_other c.requires.write_set_ordered c.requires.lo_le_hi c.writes_below-from.ensures c.writes_below-to.ensures c.if-n-to.false c.write_at-e.ensures c.if-e-hi.false
