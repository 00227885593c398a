-- `runs::take_code` meets its contract: by the number of its kind.
use Rattle.queries.specs.ContentsLaws.{contents_of, records_fit}
use Rattle.replay.proofs.runs.take_code.Goals as goal

pub take_export-requires-clause-slots_len_bound : goal.take_export-requires-clause-slots_len_bound
take_export-requires-clause-slots_len_bound c = let t = c.requires.ready.stored.map.tables in (records_fit c.requires.ready.stored.map, c.requires.at_in_bounds.1)

pub returns : goal.returns
returns c = c.take_export.ensures _ _ _ c.requires.ready (contents_of c.requires.ready.stored.map)
