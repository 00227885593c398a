-- `leaves::logged_leaf_at` meets its contract: a stored low fits, and the row is what the words say.
use mathlib.Core.Path.{refl}
use Rattle.sets.specs.LeafLaws.{leaf_given}
use Rattle.sets.proofs.leaves.logged_leaf_at.Goals as goal

pub returns : goal.returns
returns c = leaf_given c.args.leaves.now c.args.i _ refl refl
