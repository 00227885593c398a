-- `sections_next` meets its contract: no address, the first record, or none.
use mathlib.Core.Path.{refl}
use Rattle.queries.specs.NextLaws.{passed_start, follows_done}
use Rattle.sections.specs.EntryLaws.{ready_loaded, next_record_none}
use Rattle.map.specs.Parts.{records_held, slots_held}
use Rattle.sections.proofs.sections_next.Goals as goal

pub returns-then-from-ge-ADDRESSES : goal.returns-then-from-ge-ADDRESSES
returns-then-from-ge-ADDRESSES c =
    let t = (ready_loaded _ _ c.load-c.ensures c.requires).stored.map.tables in
    next_record_none _ _ c.load-c.ensures (follows_done _ _ _ (records_held t) (slots_held t) _ _ (passed_start _ _ _ _) c.if-from-ge-ADDRESSES.true) refl
