-- `indexlet::enter` meets its contract: an entry goes, stays away, is rewritten or is new.
use mathlib.Core.Path.{refl, sym, ◌∙◌}
use Rattle.indexlet.specs.EnterLaws.{number_some, enter_out, enter_nothing, enter_over, enter_new}
use Rattle.indexlet.proofs.enter.Goals as goal

pub overflow_sub-result : goal.overflow_sub-result
overflow_sub-result c = number_some _ _ _ _ c.requires.slots_held c.requires.n_value c.requires.entry_room _ c.requires.finds (sym c.idle.ensures ∙ c.if-idle.true) c.if-at-lt-SLOTS.true

pub returns-then-at-lt-SLOTS : goal.returns-then-at-lt-SLOTS
returns-then-at-lt-SLOTS c = enter_out _ _ _ _ c.requires.slots_held c.requires.n_value c.requires.entry_room _ c.requires.finds (sym c.idle.ensures ∙ c.if-idle.true) c.if-at-lt-SLOTS.true _ c.take_out.ensures

pub returns-then-idle : goal.returns-then-idle
returns-then-idle c = enter_nothing _ _ _ _ c.requires.slots_held c.requires.n_value c.requires.entry_room _ c.requires.finds (sym c.idle.ensures ∙ c.if-idle.true) c.if-at-lt-SLOTS.false

pub returns-then-at-lt-SLOTS-2 : goal.returns-then-at-lt-SLOTS-2
returns-then-at-lt-SLOTS-2 c = enter_over _ _ _ _ c.requires.slots_held c.requires.n_value c.requires.entry_room _ c.requires.finds (sym c.idle.ensures ∙ c.if-idle.false) c.if-at-lt-SLOTS-2.true
    c.ranges.a.fits _ refl _ c.say_at.ensures

pub returns : goal.returns
returns c = enter_new _ _ _ _ c.requires.slots_held c.requires.n_value c.requires.entry_room _ c.requires.finds (sym c.idle.ensures ∙ c.if-idle.false) c.if-at-lt-SLOTS-2.false _ c.take_in.ensures
