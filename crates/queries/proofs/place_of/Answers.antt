-- `queries::place_of` meets its contract.
use Rattle.index.specs.LeafColumns.{lows_of}
use Rattle.index.specs.LeafColumnLaws.{column_places}
use Rattle.queries.specs.ScanLaws.{leaf_at_lem}
use Rattle.queries.proofs.place_of.Goals as goal

pub returns : goal.returns
returns c =
    let ls = c.args.leaves.now in
    leaf_at_lem (lows_of ls) _ _ _ c.requires.room (column_places 0 ls c.told-leaves) c.find_leaf.ensures
