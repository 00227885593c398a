-- `merging::merge::move_down` meets its contract: the rows move, or are there already.
use native.Mathlib.Omega.{arith}
use Rattle.merging.specs.MergeSpans.{lowered_rows, lowered_none}
use Rattle.merging.proofs.merge.move_down.Goals as goal

pub returns-then-to-from : goal.returns-then-to-from
returns-then-to-from c = lowered_rows c.args.rows.now c.move_rows.new.rows c.args.from c.args.to c.args.n c.told-rows c.requires.n_bound (omega (arith, c.requires.to_le_from, c.requires.n_bound)) c.move_rows.ensures

pub returns-else-to-from : goal.returns-else-to-from
returns-else-to-from c = lowered_none c.args.rows.now c.args.from c.args.to c.args.n (omega (arith, c.requires.to_le_from, c.if-to-from.false))
