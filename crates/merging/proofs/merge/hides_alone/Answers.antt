-- `merging::merge::hides_alone` meets its contract: the write is pending in the leaf, and nobody hides or it alone does.
use Rattle.indexlet.specs.WordLaws.{idle_waiting}
use Rattle.phantomlet.specs.LeafCounts.{reaches_yes}
use Rattle.merging.specs.MergeShortcuts.{alone_plain, alone_hider}
use borrow.Author.Tests.{eqb-true}
use Rattle.merging.proofs.merge.hides_alone.Goals as goal
use Rattle.std.specs.Prelude.{not}
use Rattle.std.proofs.Math.Path.{ap}

pub returns-then-hidden-eq0 : goal.returns-then-hidden-eq0
returns-then-hidden-eq0 c = λ e. let y = reaches_yes _ c.args.r c.slot_at-s.result.key c.reaches.ensures (ap not c.if-not-reaches.false) in
    alone_plain _ _ c.slot_at-s.result c.requires.one_leaf c.requires.records_sorted.1 c.slot_at-s.ensures y.0 y.1 c.if-c-eq0.false c.requires.j_lt_slot_count.0 c.requires.j_lt_slot_count.1 c.if-hidden-eq0.true

pub overflow_cast-s : goal.overflow_cast-s
overflow_cast-s c = record { fits = c.slot_at-s.ensures.narrow (idle_waiting c.slot_at-s.result.content c.if-c-eq0.false) }

pub returns-else-hidden-eq0 : goal.returns-else-hidden-eq0
returns-else-hidden-eq0 c = λ e. let y = reaches_yes _ c.args.r c.slot_at-s.result.key c.reaches.ensures (ap not c.if-not-reaches.false) in
    alone_hider _ _ c.slot_at-s.result c.requires.one_leaf c.requires.records_sorted.1 c.slot_at-s.ensures y.0 y.1 c.if-c-eq0.false c.requires.j_lt_slot_count.0 c.requires.j_lt_slot_count.1 c.hides_at.result c.hides_at.ensures (eqb-true _ _ e)
