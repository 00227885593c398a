-- `table_entry` meets its contract: it computes by the table's rule.
use mathlib.Core.Path.{refl}
use Rattle.spec.specs.Slots.{table_entry}
use Rattle.homes.proofs.table_entry.Goals as goal

pub returns : goal.returns
unfolding table_entry
returns c = refl
