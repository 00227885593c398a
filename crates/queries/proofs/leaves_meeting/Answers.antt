-- `queries::leaves_meeting` meets its contract.
use Rattle.index.specs.LeafColumns.{lows_of}
use Rattle.index.specs.LeafColumnLaws.{column_places}
use Rattle.queries.specs.ScanLaws.{meets}
use Rattle.queries.proofs.leaves_meeting.Goals as goal

pub returns : goal.returns
returns c =
    let ls = c.args.leaves.now in
    meets (lows_of ls) _ _ _ _ _ c.requires.leaves_listed.listed.room (column_places 0 ls c.told-leaves) c.requires.lo_le_hi c.find_leaf-from.ensures c.find_leaf-last.ensures
