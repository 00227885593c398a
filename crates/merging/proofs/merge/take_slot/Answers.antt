-- `merging::merge::take_slot` meets its contract: the address lies in another leaf, or nothing is pending, or it is taken in.
use mathlib.Core.Path.{refl}
use lib.ListN.{get_or}
use Rattle.lists.specs.Rows.{row}
use Rattle.spec.specs.Slots.{empty_slot}
use Rattle.laws.specs.SlotCounts.{holds_yes}
use Rattle.indexlet.specs.Words.{content_in, slots_of}
use Rattle.indexlet.specs.WordLaws.{idle_waiting}
use Rattle.indexlet.specs.EnterLaws.{at_finds}
use Rattle.index.specs.Views.{record_from}
use Rattle.phantomlet.specs.LeafCounts.{leaf_outside, leaf_inside, reaches_yes, reaches_no}
use Rattle.merging.specs.MergeWalks.{walk_lock, walk_on, slot_room, write_room, outside_fits, rest_content, entry_is}
use Rattle.merging.specs.MergeShortcuts.{walk_unreached}
use Rattle.merging.proofs.merge.take_slot.Goals as goal
use Rattle.std.specs.Prelude.{not}
use Rattle.std.proofs.Math.Path.{ap}

pub returns-then-not-reaches : goal.returns-then-not-reaches
returns-then-not-reaches c =
    let r = c.slot_at-s in
    walk_unreached r.result r.ensures c.requires.j_lt_slot_count
    (λ t. leaf_outside c.requires.one_leaf r.result.key (r.ensures.narrow t) (reaches_no _ c.args.r r.result.key c.reaches.ensures (ap not c.if-not-reaches.true)))

pub returns-then-c-eq0 : goal.returns-then-c-eq0
returns-then-c-eq0 c =
    let r = c.slot_at-s in
    walk_lock r.result c.locked-lock.result r.ensures c.requires.j_lt_slot_count c.if-c-eq0.true c.locked-lock.ensures

pub overflow_cast-a : goal.overflow_cast-a
overflow_cast-a c = record { fits = c.slot_at-s.ensures.narrow (idle_waiting c.slot_at-s.result.content c.if-c-eq0.false) }

pub take_write-n-requires-clause-n_len_bound : goal.take_write-n-requires-clause-n_len_bound
take_write-n-requires-clause-n_len_bound c = let r = c.slot_at-s in write_room r.result c.requires.underway.walking.words r.ensures c.if-c-eq0.false c.requires.underway c.requires.j_lt_slot_count (record_from r.result.content.payload r.result.content.commit)

pub enter-e-requires-clause-entry_room : goal.enter-e-requires-clause-entry_room
enter-e-requires-clause-entry_room c =
    let r = c.slot_at-s in
    let z = c.requires.underway.walking.words in slot_room r.result z r.ensures c.if-c-eq0.false _

pub enter-e-requires-clause-finds : goal.enter-e-requires-clause-finds
enter-e-requires-clause-finds c =
    let r = c.slot_at-s in
    let z = c.requires.underway.walking.words in at_finds z c.requires.j_lt_slot_count
    (holds_yes r.result.key (get_or (slots_of c.args.slots.now) c.args.j empty_slot) (row r.result.key (content_in r.result.content))
    (entry_is r.result z r.ensures c.if-c-eq0.false) refl)

pub outside_now-outside-requires : goal.outside_now-outside-requires
outside_now-outside-requires c =
    let r = c.slot_at-s in
    let y = reaches_yes _ c.args.r r.result.key c.reaches.ensures (ap not c.if-not-reaches.false) in
    outside_fits r.result c.requires.underway.walking.words r.ensures c.if-c-eq0.false _ _ c.requires.j_lt_slot_count (leaf_inside c.requires.one_leaf r.result.key y.0 y.1) c.requires.underway c.locked-lock.ensures c.take_write-n.ensures.records_are

pub returns : goal.returns
returns c =
    let r = c.slot_at-s in
    let y = reaches_yes _ c.args.r r.result.key c.reaches.ensures (ap not c.if-not-reaches.false) in
    let w = c.take_write-n in
    let e = c.enter-e in
    walk_on r.result c.requires.underway.walking.words r.ensures c.if-c-eq0.false w.new.rows e.new.t w.result e.result c.locked-lock.result _ _ c.requires.j_lt_slot_count
    (leaf_inside c.requires.one_leaf r.result.key y.0 y.1) c.locked-lock.ensures c.requires.underway.walking.rows_held w.ensures.records_are w.ensures.rows_unchanged (rest_content r.result.content) e.ensures c.outside_now-outside.ensures
