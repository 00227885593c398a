-- `writes::raise` meets its contract: what std's `copy_within` leaves is the list with those rows moved.
use Rattle.sets.specs.WriteLaws.{lifted}
use Rattle.sets.proofs.writes.raise.Goals as goal

pub returns : goal.returns
returns c = lifted c.args.n c.args.p c.requires.write_set_held c.requires.p_le_n.0 c.requires.p_le_n.1 c.copy_within.ensures.after c.copy_within.ensures.by_index
