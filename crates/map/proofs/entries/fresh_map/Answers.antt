-- `map::entries::fresh_map` meets its contract: every part is empty.
use mathlib.Core.Path.{refl}
use Rattle.map.specs.FreshLaws.{fresh_becomes, emptied}
use Rattle.map.proofs.entries.fresh_map.Goals as goal

pub returns : goal.returns
returns c =
    let l = c.told-leaves in
    let p = c.put_leaf.ensures in
    fresh_becomes _ _ _ _ _ _ (emptied c.args.leaves.now _ 0 l p refl) (emptied c.args.leaves.now _ 1 l p refl) (emptied c.args.leaves.now _ 2 l p refl) (emptied c.args.leaves.now _ 3 l p refl) c.fresh_slots.ensures
