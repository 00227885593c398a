-- `sections_fresh` meets its contract: the fresh globals and no export, in the words.
use Rattle.sections.specs.EntryLaws.{none_saved}
use Rattle.sections.proofs.sections_fresh.Goals as goal

pub returns-clause-none_in : goal.returns-clause-none_in
returns-clause-none_in c = none_saved c.no_export.result _ c.no_export.ensures c.store_export.ensures
