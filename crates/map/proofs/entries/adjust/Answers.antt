-- `map::entries::adjust` meets its contract: one leaf's numbers change.
use Prim.Native.Nat.{◌+◌, ◌-◌}
use native.Mathlib.Omega.{arith}
use mathlib.Core.Path.{◌≡◌, sym, ap, ◌∙◌}
use lib.ListN.{get_or}
use Rattle.index.specs.declared.leaves.LeafWords.{LeafWords}
use Rattle.index.specs.LeafColumns.{hidden_of, pending_of, leaf_put}
use Rattle.index.specs.LeafColumnLaws.{column_get_or}
use Rattle.map.specs.EntryLaws.{adjusts}
use Rattle.map.proofs.entries.adjust.Goals as goal

pub overflow_add-changed : goal.overflow_add-changed
overflow_add-changed c =
    let e : c.leaf_at-l.result.hidden ≡ get_or (hidden_of c.args.leaves.now) c.args.t.at 0
    = ap (λ (l : LeafWords). l.hidden) c.leaf_at-l.ensures ∙ sym (column_get_or 2 c.args.leaves.now c.args.t.at) in
    omega (arith, e, c.requires.adjustable_2.fits)

pub overflow_sub-changed : goal.overflow_sub-changed
overflow_sub-changed c =
    let e : c.leaf_at-l.result.hidden ≡ get_or (hidden_of c.args.leaves.now) c.args.t.at 0
    = ap (λ (l : LeafWords). l.hidden) c.leaf_at-l.ensures ∙ sym (column_get_or 2 c.args.leaves.now c.args.t.at) in
    omega (arith, e, c.requires.adjustable_2.enough)

pub overflow_add-changed-2 : goal.overflow_add-changed-2
overflow_add-changed-2 c =
    let e : c.leaf_at-l.result.pending ≡ get_or (pending_of c.args.leaves.now) c.args.t.at 0
    = ap (λ (l : LeafWords). l.pending) c.leaf_at-l.ensures ∙ sym (column_get_or 3 c.args.leaves.now c.args.t.at) in
    omega (arith, e, c.requires.adjustable.fits)

pub overflow_sub-changed-2 : goal.overflow_sub-changed-2
overflow_sub-changed-2 c =
    let e : c.leaf_at-l.result.pending ≡ get_or (pending_of c.args.leaves.now) c.args.t.at 0
    = ap (λ (l : LeafWords). l.pending) c.leaf_at-l.ensures ∙ sym (column_get_or 3 c.args.leaves.now c.args.t.at) in
    omega (arith, e, c.requires.adjustable.enough)

pub returns : goal.returns
returns c = adjusts c.args.leaves.now c.args.t _
    (c.put_leaf.ensures
    ∙ ap (λ (l : LeafWords). leaf_put c.args.leaves.now c.args.t.at (record { low = l.low; version = l.version; hidden = l.hidden + c.args.t.hide - c.args.t.unhide; pending = l.pending + c.args.t.pend - c.args.t.unpend }))
    c.leaf_at-l.ensures)
