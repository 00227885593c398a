-- `sections_open_export` meets its contract: `exports::open_export`, of the contents of the map.
use Rattle.queries.specs.ContentsLaws.{records_fit}
use Rattle.sections.specs.EntryLaws.{ready_loaded, held_loaded, export_entry, contents_entry}
use Rattle.sections.proofs.sections_open_export.Goals as goal

pub open_export-told-requires-clause-slots_len_bound : goal.open_export-told-requires-clause-slots_len_bound
open_export-told-requires-clause-slots_len_bound c =
    let h = ready_loaded _ _ c.load-c.ensures c.requires.ready in
    let t = h.stored.map.tables in
    (records_fit h.stored.map, held_loaded _ c.load_export-x.ensures c.requires.export_held)

pub returns : goal.returns
returns c = λ s. contents_entry _ _ _ _ c.load-c.ensures (export_entry c.load_export-x.ensures (c.open_export-told.ensures s) c.put_done.ensures)
