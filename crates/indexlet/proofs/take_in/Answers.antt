-- `indexlet::take_in` meets its contract: a slot is taken, its bit is set, and it is counted in.
use Rattle.indexlet.specs.BitmapLaws.{put_cells}
use Rattle.indexlet.specs.EnterLaws.{load_small}
use Rattle.indexlet.proofs.take_in.Goals as goal

pub count_in-requires : goal.count_in-requires
count_in-requires c = (c.take-i.ensures.slots_become.1, load_small c.requires.slots_held (put_cells c.take-i.ensures.slots_become.0.stays c.take-i.ensures.slots_become.0.sized.size _ _ c.set_bit.ensures) c.args.a)
