-- `map::entries::set_content` meets its contract: the counts change by the address's own terms.
use Rattle.map.specs.EntryLaws.{pending_adjusts, hidden_adjusts, outside_moves, said_rows, content_set}
use Rattle.map.proofs.entries.set_content.Goals as goal

pub adjust-requires-clause-adjustable : goal.adjust-requires-clause-adjustable
adjust-requires-clause-adjustable c = pending_adjusts _ c.args.z _ c.requires.tables _ _ c.requires.entry_room _ c.requires.terms

pub adjust-requires-clause-adjustable_2 : goal.adjust-requires-clause-adjustable_2
adjust-requires-clause-adjustable_2 c = hidden_adjusts _ c.args.z _ c.requires.tables _ _ c.requires.entry_room _ c.requires.terms

pub overflow_add-sizes : goal.overflow_add-sizes
overflow_add-sizes c = record { fits = (outside_moves _ c.args.z _ c.requires.tables _ _ c.requires.entry_room _ c.requires.terms).0 }

pub overflow_sub-sizes : goal.overflow_sub-sizes
overflow_sub-sizes c = (outside_moves _ c.args.z _ c.requires.tables _ _ c.requires.entry_room _ c.requires.terms).1

pub returns : goal.returns
returns c = said_rows c.adjust.ensures.same
    (content_set _ c.args.z _ c.requires.tables _ _ c.requires.entry_room _ c.requires.terms _ _ _ _ c.adjust.ensures.hidden c.adjust.ensures.pending
    c.enter-entries.ensures.held c.enter-entries.ensures.view c.enter-entries.ensures.number)
