use Prim.Native.Nat.{◌+◌, ◌≤◌}
use mathlib.Core.Path.{ap, ◌∙◌}
use lib.ListN.{length}
use Rattle.lists.specs.Shifts.{filling_start, filling_on}
use Rattle.index.specs.LeafColumns.{leaf_put}
use Rattle.index.specs.SettleRows.{made_row}
use Rattle.index.proofs.settles.fill.Goals as goal

pub loop-x-init : goal.loop-x-init
loop-x-init c = filling_start c.args.leaves.now c.args.at (made_row c.args.made.now) c.args.n

pub loop-x-preserved : goal.loop-x-preserved
loop-x-preserved c =
    let f : c.args.at + c.args.n ≤ length c.args.leaves.now = rw c.told-leaves c.requires.n_bound in
    filling_on _ f c.loop-x-test.true c.loop-x.invariant
    (c.put_leaf.ensures
    ∙ ap (leaf_put c.loop-x.leaves (c.args.at + c.loop-x.x)) c.made_leaf.ensures)
