-- `sections_replay` meets its contract: `runs::replay`, its outcome in the words.
use Rattle.sections.specs.EntryLaws.{replayed}
use Rattle.sections.proofs.sections_replay.Goals as goal

pub returns : goal.returns
returns c = replayed _ _ _ _ _ c.replay-p.result c.replay-p.ensures c.store.ensures
    c.store_export.ensures c.put_counts.ensures c.stop_number.ensures
