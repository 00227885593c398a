-- `queries::leaf` meets its contract.
use Prim.Native.Nat.{ℕ, ◌<◌}
use mathlib.Core.Path.{sym, subst}
use Rattle.spec.specs.Widths.{addresses}
use Rattle.phantomlet.specs.LeafCounts.{low_of}
use Rattle.queries.specs.ScanLaws.{logged_at}
use Rattle.queries.proofs.leaf.Goals as goal

pub overflow_cast-result : goal.overflow_cast-result
overflow_cast-result c = record { fits = subst (λ (x : ℕ). x < addresses) (sym (low_of c.args.leaves.now c.args.i c.leaf_at-l.ensures)) c.requires.narrow }

pub returns : goal.returns
returns c =
    let ls = c.args.leaves.now in
    logged_at ls _ _ c.told-leaves c.leaf_at-l.ensures
