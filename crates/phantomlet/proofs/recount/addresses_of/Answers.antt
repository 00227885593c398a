-- `phantomlet::recount::addresses_of` meets its contract: up to the next leaf's low, or up to the last address.
use Rattle.std.proofs.Common.{refl, rules, ◌∙◌, ap, ◌-◌}
use Rattle.index.specs.LeafColumns.{lows_of}
use Rattle.index.specs.LeafColumnLaws.{column_places}
use Rattle.phantomlet.specs.LeafCounts.{low_of, range_next, range_last}
use Rattle.phantomlet.proofs.recount.addresses_of.Goals as goal
use Rattle.phantomlet.proofs.recount.addresses_of.Goals.{then-to-m, else-to-m}

pub returns : goal.returns
returns c =
    let ls = c.args.leaves.now in
    let low = low_of ls c.args.from c.leaf_at-low.ensures in
    let places = column_places 0 ls c.told-leaves in (
      elim c.if-to-m.branch [
        | then-to-m w ↦ range_next (lows_of ls) c.args.m c.args.from c.args.to places c.requires _ _ _ _ low
            (low_of ls c.args.to w.leaf_at.ensures) (w.last-is ∙ w.saturating_sub-last.ensures) c.saturating_sub.ensures (search rules) w.if-to-m.true
        | else-to-m w ↦ range_last (lows_of ls) c.args.m c.args.from c.args.to places c.requires _ _ low
            (c.saturating_sub.ensures ∙ ap (λ x. x - c.leaf_at-low.result.low) w.last-is) (search rules) w.if-to-m.false
      ],
      refl,
      refl,
    )
