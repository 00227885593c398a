-- `merging::merge::move_up` meets its contract: the rows move, or are there already.
use native.Mathlib.Omega.{arith}
use Rattle.merging.specs.MergeSpans.{raised_rows}
use Rattle.merging.proofs.merge.move_up.Goals as goal

pub returns-then-from-to : goal.returns-then-from-to
returns-then-from-to c = raised_rows c.args.rows.now c.move_rows.new.rows c.args.from c.args.to c.args.n c.told-rows (omega (arith, c.requires.from_le_to, c.requires.n_bound)) c.requires.n_bound c.move_rows.ensures c.requires.from_le_to
