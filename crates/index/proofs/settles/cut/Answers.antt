use Prim.Native.Nat.{◌+◌, ◌-◌}
use mathlib.Core.Path.{refl, ap, ◌∙◌}
use Rattle.lists.specs.Tabulation.{tab}
use Rattle.lists.specs.Shifts.{over}
use Rattle.index.specs.declared.leaves.LeafWords.{LeafWords}
use Rattle.index.specs.LeafColumns.{LeafRows, leaf_at, leaf_put}
use Rattle.index.specs.SettleRows.{made_leaf, run_row, made_rows}
use Rattle.index.proofs.settles.cut.Goals as goal

pub returns : goal.returns
returns c =
    let f = c.fill in (
      refl,
      refl,
      c.put_leaf.ensures
          ∙ ap (leaf_put f.new.leaves c.args.p) c.made_leaf.ensures
          ∙ ap (λ (l : LeafWords). leaf_put f.new.leaves c.args.p (made_leaf l.low (c.args.v + 1))) c.leaf_at-own.ensures
          ∙ ap (λ (ls : LeafRows). leaf_put ls c.args.p (made_leaf (leaf_at c.args.leaves.now c.args.p).low (c.args.v + 1)))
          (f.ensures
          ∙ ap (over c.move_rows.new.rows (c.args.p + 1)) (made_rows c.make_all-made.ensures)
          ∙ ap (λ (ls : LeafRows). over ls (c.args.p + 1) (tab (run_row c.args.rows.now c.args.i (c.args.v + 1)) (c.args.t - 1))) c.move_rows.ensures),
    )
