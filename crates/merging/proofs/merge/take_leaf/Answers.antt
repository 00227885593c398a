-- `merging::merge::take_leaf` meets its contract: one slot is all that matters, or all are walked over.
use mathlib.Core.Path.{sym, ◌∙◌}
use Rattle.merging.specs.MergeSettles.{pending_of_lem}
use Rattle.merging.specs.MergeShortcuts.{hidden_of_lem, alone_walk, alone_took}
use Rattle.merging.proofs.merge.take_leaf.Goals as goal

pub hides_alone-requires-clause-j_lt_slot_count : goal.hides_alone-requires-clause-j_lt_slot_count
hides_alone-requires-clause-j_lt_slot_count c = (c.if-j-lt-SLOTS.true, sym (hidden_of_lem _ _ c.leaf_at-own.ensures) ∙ c.requires.numbered.hidden_is)

pub take_slot-requires-clause-underway : goal.take_slot-requires-clause-underway
take_slot-requires-clause-underway c = alone_walk c.requires.starting (c.hides_alone.ensures c.if-hides_alone.true) (sym c.requires.numbered.pending_is ∙ pending_of_lem _ _ c.leaf_at-own.ensures ∙ c.if-own-eq1.true) c.if-j-lt-SLOTS.true

pub returns-then-hides_alone : goal.returns-then-hides_alone
returns-then-hides_alone c = alone_took c.requires.starting (c.hides_alone.ensures c.if-hides_alone.true) (sym c.requires.numbered.pending_is ∙ pending_of_lem _ _ c.leaf_at-own.ensures ∙ c.if-own-eq1.true) c.if-j-lt-SLOTS.true c.take_slot.ensures

pub take_many-requires-clause-hidden_value : goal.take_many-requires-clause-hidden_value
take_many-requires-clause-hidden_value c = sym (hidden_of_lem _ _ c.leaf_at-own.ensures) ∙ c.requires.numbered.hidden_is
