-- `phantomlet::recount::recount` meets its contract: 0 is right, or the numbers are counted.
use Rattle.std.proofs.Common.{refl}
use Rattle.phantomlet.specs.LeafWrites.{same_leaves}
use Rattle.phantomlet.specs.MergeCounts.{carried, tally_start}
use Rattle.phantomlet.proofs.recount.recount.Goals as goal

pub returns-then-bare : goal.returns-then-bare
returns-then-bare c = record {
  same = same_leaves c.args.leaves.now;
  numbers = carried _ c.requires c.told-leaves c.bare.ensures c.if-bare.true;
}

pub tally_all-requires : goal.tally_all-requires
tally_all-requires c =
    let r = c.addresses_of-r in
    tally_start r.result c.requires c.told-leaves r.ensures.0 r.ensures.1
    c.saturating_sub-from.ensures r.ensures.2 refl c.clear.ensures
