-- `leaves::log_leaf` meets its contract.
use native.Mathlib.Omega.{arith}
use Rattle.sets.specs.LeafLaws.{leaf_appended}
use Rattle.sets.proofs.leaves.log_leaf.Goals as goal

pub returns : goal.returns
returns c = leaf_appended c.args.leaves.now c.args.n c.args.leaf c.args.first c.args.s c.requires.leaf_set_held c.requires.n_lt_leaf_set_limit (omega arith)
