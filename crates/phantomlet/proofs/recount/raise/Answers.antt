-- `phantomlet::recount::raise` meets its contract.
use Rattle.std.proofs.Common.{◌≡◌, ◌+◌, get_or, sym, ap, ◌∙◌, arith}
use Rattle.index.specs.declared.leaves.LeafWords.{LeafWords}
use Rattle.index.specs.LeafColumns.{hidden_of, pending_of, leaf_put}
use Rattle.index.specs.LeafColumnLaws.{column_get_or}
use Rattle.phantomlet.specs.LeafWrites.{raised}
use Rattle.phantomlet.proofs.recount.raise.Goals as goal

pub overflow_add-more : goal.overflow_add-more
overflow_add-more c =
    let e : c.leaf_at-l.result.hidden ≡ get_or (hidden_of c.args.leaves.now) c.args.at 0
    = ap (λ (l : LeafWords). l.hidden) c.leaf_at-l.ensures ∙ sym (column_get_or 2 c.args.leaves.now c.args.at) in
    omega (arith, e, c.requires.x_bound.0)

pub overflow_add-more-2 : goal.overflow_add-more-2
overflow_add-more-2 c =
    let e : c.leaf_at-l.result.pending ≡ get_or (pending_of c.args.leaves.now) c.args.at 0
    = ap (λ (l : LeafWords). l.pending) c.leaf_at-l.ensures ∙ sym (column_get_or 3 c.args.leaves.now c.args.at) in
    omega (arith, e, c.requires.x_bound.1)

pub returns : goal.returns
returns c = raised
    (c.put_leaf.ensures
    ∙ ap (λ (l : LeafWords). leaf_put c.args.leaves.now c.args.at (record { low = l.low; version = l.version; hidden = l.hidden + c.args.x; pending = l.pending + c.args.w }))
    c.leaf_at-l.ensures)
