-- `indexlet::take_out` meets its contract: the slot is given back, its bit is cleared, and it is counted out.
use Rattle.indexlet.specs.BitmapLaws.{put_cells, bit_is}
use Rattle.indexlet.specs.WalkLaws.{home_inside}
use Rattle.indexlet.specs.EnterLaws.{stands_at, release_turns, loaded_still}
use Rattle.indexlet.proofs.take_out.Goals as goal

pub passed-n-requires : goal.passed-n-requires
passed-n-requires c = (home_inside c.args.a _ c.home-h.ensures, c.requires.at_lt_slot_count.0)

pub release-requires-clause-stands : goal.release-requires-clause-stands
release-requires-clause-stands c = stands_at c.args.a _ c.args.at _ c.requires.slots_held c.requires.at_lt_slot_count.0 c.requires.at_lt_slot_count.1 c.home-h.ensures c.passed-n.ensures

pub clear_bit-requires : goal.clear_bit-requires
clear_bit-requires c = (c.requires.at_lt_slot_count.0, bit_is _ c.requires.slots_held.occupied c.release.ensures.stays c.requires.at_lt_slot_count.0 (release_turns c.args.a _ c.requires.slots_held c.requires.at_lt_slot_count.0 c.requires.at_lt_slot_count.1))

pub count_out-requires : goal.count_out-requires
count_out-requires c = loaded_still c.args.a c.args.at c.requires.slots_held c.requires.at_lt_slot_count.0 c.requires.at_lt_slot_count.1 (put_cells c.release.ensures.stays c.release.ensures.sized.size _ _ c.clear_bit.ensures)
