-- `merging::oldest::with_slot` meets its contract: nothing is pending in the slot, or it is the first, or older, or not.
use Rattle.std.proofs.Common.{◌∙◌, refl, sym}
use Rattle.merging.specs.OldestWalks.{elder_past, elder_here, elder_stays}
use Rattle.merging.proofs.oldest.with_slot.Goals as goal

pub returns-then-c-eq0 : goal.returns-then-c-eq0
returns-then-c-eq0 c =
    let r = c.slot_at-s in
    elder_past c.args.slots.now c.args.j c.args.o r.result r.ensures c.requires.j_lt_slot_count.0 c.requires.j_lt_slot_count.1 c.if-c-eq0.true

pub returns-in-None : goal.returns-in-None
returns-in-None c =
    let r = c.slot_at-s in
    elder_here c.args.slots.now c.args.j c.args.o r.result r.ensures c.requires.j_lt_slot_count.0 c.requires.j_lt_slot_count.1 c.if-c-eq0.false (rw c.in-None.is refl)

pub returns-then-is_older : goal.returns-then-is_older
returns-then-is_older c =
    let r = c.slot_at-s in
    elder_here c.args.slots.now c.args.j c.args.o r.result r.ensures c.requires.j_lt_slot_count.0 c.requires.j_lt_slot_count.1 c.if-c-eq0.false (rw c.in-Some.is (sym c.is_older.ensures ∙ c.if-is_older.true))

pub returns-else-is_older : goal.returns-else-is_older
returns-else-is_older c =
    let r = c.slot_at-s in
    rw (← c.in-Some.is) (elder_stays c.args.slots.now c.args.j c.args.o r.result r.ensures c.requires.j_lt_slot_count.0 c.requires.j_lt_slot_count.1 c.if-c-eq0.false (rw c.in-Some.is (sym c.is_older.ensures ∙ c.if-is_older.false)))
