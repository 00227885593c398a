-- `plans::measure` meets its contract: each test in its order.
use mathlib.Core.Path.{refl}
use mathlib.Core.Logic.{inl, inr}
use Rattle.ranges.specs.Plans.{full, short}
use Rattle.ranges.specs.PlanLaws.{walkable, short_told, fits_told}
use Rattle.ranges.proofs.plans.measure.Goals as goal

pub returns-then-x-index-gt-READ_LIMIT : goal.returns-then-x-index-gt-READ_LIMIT
returns-then-x-index-gt-READ_LIMIT c = full refl _ _ c.if-hi-lo.false c.records_between-index.ensures c.leaves_meeting-met.ensures (inl c.if-x-index-gt-READ_LIMIT.true)

pub returns-then-x-met-gt-LEAF_SET_LIMIT : goal.returns-then-x-met-gt-LEAF_SET_LIMIT
returns-then-x-met-gt-LEAF_SET_LIMIT c = full refl _ _ c.if-hi-lo.false c.records_between-index.ensures c.leaves_meeting-met.ensures (inr c.if-x-met-gt-LEAF_SET_LIMIT.true)

pub exceeds-requires-clause-walks : goal.exceeds-requires-clause-walks
exceeds-requires-clause-walks c =
    let g = c.requires in
    let o = c.writes_between-own.ensures in
    let i = c.records_between-index.ensures in
    walkable g _ _ i.within o.within

pub returns-then-exceeds : goal.returns-then-exceeds
returns-then-exceeds c = short refl _
    (record {
      forward = c.if-hi-lo.false;
      index = c.records_between-index.ensures;
      met = c.leaves_meeting-met.ensures;
      own = c.writes_between-own.ensures;
      reads_fit = c.if-x-index-gt-READ_LIMIT.false;
      leaves_fit = c.if-x-met-gt-LEAF_SET_LIMIT.false;
    })
    (short_told _ _ _ c.min.ensures c.min-shortest.ensures c.exceeds.ensures c.if-exceeds.true)

pub returns : goal.returns
returns c = record {
  measured =
      record {
        forward = c.if-hi-lo.false;
        index = c.records_between-index.ensures;
        met = c.leaves_meeting-met.ensures;
        own = c.writes_between-own.ensures;
        reads_fit = c.if-x-index-gt-READ_LIMIT.false;
        leaves_fit = c.if-x-met-gt-LEAF_SET_LIMIT.false;
      };
  fits = fits_told _ _ _ c.min.ensures c.min-shortest.ensures c.exceeds.ensures c.if-exceeds.false;
}
