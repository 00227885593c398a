use Rattle.std.proofs.Common.{◌≡◌, ◌≤◌, length, ap, ◌∙◌, arith}
use Rattle.index.specs.declared.leaves.LeafWords.{LeafWords}
use Rattle.index.specs.Views.{leaf_places}
use Rattle.index.specs.LeafColumns.{leaf_put}
use Rattle.phantomlet.specs.LeafWrites.{cleared_on}
use Rattle.phantomlet.proofs.recount.clear.Goals as goal

pub loop-x-preserved : goal.loop-x-preserved
loop-x-preserved c =
    let l = c.loop-x in
    let a : length c.args.leaves.now ≡ leaf_places = c.told-leaves in
    let b : c.args.to ≤ leaf_places = c.requires.1 in
    let t = c.loop-x-test.true in (
      cleared_on _ l.invariant.0 l.invariant.1 (omega arith)
          (c.put_leaf.ensures ∙ ap (λ (x : LeafWords). leaf_put l.leaves l.x (record { low = x.low; version = x.version; hidden = 0; pending = 0 })) c.leaf_at.ensures),
      omega arith,
      omega arith,
    )
