use mathlib.Core.Path.{◌∙◌}
use Rattle.sets.specs.Reads.{no_read}
use Rattle.guards.specs.SearchLaws.{search_start, search_on, search_hit, search_end}
use Rattle.guards.specs.OverlapLaws.{part_size, part_at, part_all}
use Rattle.guards.proofs.overlaps.logged_overlap.Goals as goal

pub loop-i-init : goal.loop-i-init
loop-i-init c = let a = c.args in search_start _ _ _ (part_size a.reads.now a.k a.s c.logged_rows-count.ensures)

pub returns-then-read_overlaps : goal.returns-then-read_overlaps
returns-then-read_overlaps c = search_hit no_read c.loop-i.invariant c.loop-i-test.true
    (part_at _ _ c.args.s c.logged_rows-count.ensures c.loop-i-test.true c.read_at-o.ensures) c.read_overlaps.ensures c.if-read_overlaps.true
    ∙ part_all _ _ c.args.s c.logged_rows-count.ensures _

pub loop-i-preserved : goal.loop-i-preserved
loop-i-preserved c = search_on no_read c.loop-i.invariant c.loop-i-test.true
    (part_at _ _ c.args.s c.logged_rows-count.ensures c.loop-i-test.true c.read_at-o.ensures) c.read_overlaps.ensures c.if-read_overlaps.false

pub returns : goal.returns
returns c = search_end c.loop-i-test.false c.loop-i.invariant
    ∙ part_all _ _ c.args.s c.logged_rows-count.ensures _
