-- `table::entry` meets its contract: the 256 numbers are the rule's.
use Rattle.lists.specs.Tabulation.{tab_from, tab}
use Rattle.spec.specs.Slots.{table_entry}
use Rattle.table.specs.Table.{table_at}
use Rattle.table.proofs.entry.Goals as goal

pub returns : goal.returns
unfolding tab tab_from table_entry
returns c = table_at c.args.i c.ranges.i.fits
