-- `phantomlet::recount::tally_slot` meets its contract: an address in another leaf, no entry, or one that is added at its leaf's place.
use Rattle.std.proofs.Common.{not, sym, ◌∙◌}
use Rattle.lists.specs.Tests.{both, present}
use Rattle.lists.specs.Rows.{look}
use Rattle.indexlet.specs.Words.{content_in}
use Rattle.index.specs.Views.{records_of}
use Rattle.phantomlet.specs.Phantoms.{hides_some}
use Rattle.phantomlet.specs.LeafCounts.{reaches_yes, reaches_no}
use Rattle.phantomlet.specs.MergeCounts.{tallied_same, tally_none, tally_outside, tallied_some, hidden_fits, pending_fits}
use Rattle.std.proofs.Math.Path.{ap}
use Rattle.phantomlet.proofs.recount.tally_slot.Goals as goal
use Rattle.phantomlet.proofs.recount.tally_slot.Goals.{then-not-reaches-via-then-not-reaches, then-not-reaches-via-else-not-reaches+then-idle}

pub returns-then-not-reaches : goal.returns-then-not-reaches
returns-then-not-reaches c =
    let r = c.slot_at-s in
    tallied_same (elim c.then-not-reaches.branch [
      | then-not-reaches-via-then-not-reaches w ↦ tally_outside c.requires.tallying c.requires.j_lt_slot_count r.result r.ensures (reaches_no _ c.args.r r.result.key c.reaches.ensures (ap not w.if-not-reaches.true))
      | then-not-reaches-via-else-not-reaches+then-idle w ↦ tally_none c.requires.tallying c.requires.j_lt_slot_count r.result r.ensures (sym w.idle.ensures ∙ w.if-idle.true)
    ])

pub raise-requires-clause-x_bound : goal.raise-requires-clause-x_bound
raise-requires-clause-x_bound c =
    let r = c.slot_at-s in
    let y = reaches_yes _ c.args.r r.result.key c.reaches.ensures (ap not c.if-not-reaches.false) in
    let l = c.find_leaf-at in
    let a = hidden_fits c.requires.tallying c.requires.j_lt_slot_count l.ensures y.0 y.1 c.hides_at-x.result
    (both (not (present (look (records_of c.args.rows.now c.args.n) r.result.key))) (hides_some (content_in r.result.content))) c.hides_at-x.ensures in
    let b = pending_fits c.requires.tallying c.requires.j_lt_slot_count l.ensures y.0 y.1 c.waits-w.result (present (content_in r.result.content).pending) c.waits-w.ensures in
    (a.1, b.1)

pub returns : goal.returns
returns c =
    let r = c.slot_at-s in
    let y = reaches_yes _ c.args.r r.result.key c.reaches.ensures (ap not c.if-not-reaches.false) in
    let l = c.find_leaf-at in
    tallied_some c.requires.tallying c.requires.j_lt_slot_count r.result r.ensures l.result c.hides_at-x.result c.waits-w.result
    (sym c.idle.ensures ∙ c.if-idle.false) y.0 y.1
    l.ensures c.hides_at-x.ensures c.waits-w.ensures c.raise.ensures
