-- `map::merge::merge` meets its contract: nothing is pending, or the walk, the settling and the count come together.
use mathlib.Core.Path.{◌∙◌, refl}
use Rattle.merging.specs.Merges.{merges_nothing, starting, numbered, lows_held, ranging, resettling, recounting, merges_some}
use Rattle.merging.specs.MergeSettles.{pending_of_lem, pending_some, settling, resettled}
use Rattle.merging.specs.MergeSpans.{span_rows, rows_fit, span_after}
use Rattle.merging.proofs.merge.merge.Goals as goal

pub returns-then-own-eq0 : goal.returns-then-own-eq0
returns-then-own-eq0 c =
    let i = c.find_leaf-i in
    merges_nothing c.args.k c.requires.map_held c.args.a i.result i.ensures (pending_of_lem _ _ c.leaf_at-own.ensures ∙ c.if-own-eq0.true)

pub addresses_of-r-requires : goal.addresses_of-r-requires
addresses_of-r-requires c = let i = c.find_leaf-i in ranging c.args.k c.requires.map_held c.args.a i.result i.ensures

pub leaf_rows-span-requires-clause-lows : goal.leaf_rows-span-requires-clause-lows
leaf_rows-span-requires-clause-lows c =
    let i = c.find_leaf-i in
    lows_held c.args.k c.requires.map_held c.args.a i.result i.ensures

pub take_leaf-w-requires-clause-starting : goal.take_leaf-w-requires-clause-starting
take_leaf-w-requires-clause-starting c =
    let i = c.find_leaf-i in
    let r = c.addresses_of-r.ensures in starting c.args.k c.requires.map_held c.args.a i.result i.ensures

pub take_leaf-w-requires-clause-numbered : goal.take_leaf-w-requires-clause-numbered
take_leaf-w-requires-clause-numbered c =
    let i = c.find_leaf-i in
    let r = c.addresses_of-r.ensures in numbered c.args.k c.requires.map_held c.args.a i.result i.ensures c.args.leaves.now refl refl refl

pub overflow_sub-to : goal.overflow_sub-to
overflow_sub-to c = rows_fit c.leaf_rows-span.ensures c.requires.map_held.tables.rows c.take_leaf-w.ensures

pub settle-s-requires : goal.settle-s-requires
settle-s-requires c =
    let i = c.find_leaf-i in
    let w = c.take_leaf-w in
    settling
    (resettling c.args.k c.requires.map_held c.args.a i.result i.ensures (pending_some _ _ c.leaf_at-own.ensures c.if-own-eq0.false) w.new.rows w.new.slots w.result w.ensures c.requires.standard_bound)
    (span_rows (span_after c.leaf_rows-span.ensures c.requires.map_held.tables.rows w.ensures) w.ensures.rows_held)

pub recount-requires : goal.recount-requires
recount-requires c =
    let i = c.find_leaf-i in
    let w = c.take_leaf-w in
    let r = c.settle-s in
    let d = resettled (span_rows (span_after c.leaf_rows-span.ensures c.requires.map_held.tables.rows w.ensures) w.ensures.rows_held) r.ensures in
    recounting c.args.k c.requires.map_held c.args.a i.result i.ensures (pending_some _ _ c.leaf_at-own.ensures c.if-own-eq0.false) w.new.rows w.new.slots w.result w.ensures
    r.new.leaves r.result.leaves r.result.version c.settle-s.array_long d.settled d.hidden d.pending

pub returns : goal.returns
returns c =
    let i = c.find_leaf-i in
    let w = c.take_leaf-w in
    let r = c.settle-s in
    let d = resettled (span_rows (span_after c.leaf_rows-span.ensures c.requires.map_held.tables.rows w.ensures) w.ensures.rows_held) r.ensures in
    let n = c.recount in
    merges_some c.args.k c.requires.map_held c.args.a i.result i.ensures (pending_some _ _ c.leaf_at-own.ensures c.if-own-eq0.false) w.new.rows w.new.slots w.result w.ensures
    r.new.leaves r.result.leaves r.result.version c.settle-s.array_long d.settled d.hidden d.pending
    n.new.leaves n.ensures c.take_versions-taken.ensures.1
