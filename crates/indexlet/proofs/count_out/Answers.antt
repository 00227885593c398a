-- `indexlet::count_out` meets its contract: the cell of the address's bucket changes.
use Rattle.indexlet.specs.FilterLaws.{bucket_inside}
use Rattle.indexlet.proofs.count_out.Goals as goal

pub cell-w-requires : goal.cell-w-requires
cell-w-requires c = bucket_inside _ _ c.bucket-b.ensures

pub put_cell-requires : goal.put_cell-requires
put_cell-requires c = bucket_inside _ _ c.bucket-b.ensures
