-- `indexlet::release` meets its contract: the counts of the slots passed are one less, and the entry goes.
use native.Mathlib.Omega.{arith}
use mathlib.Core.Path.{ap, ◌∙◌}
use Rattle.laws.specs.Probes.{home_less}
use Rattle.spec.specs.Widths.{address_size}
use Rattle.spec.specs.Slots.{is_idle}
use Rattle.indexlet.specs.declared.Content.{Content as ContentWords}
use Rattle.indexlet.specs.Words.{content_in}
use Rattle.indexlet.specs.WordLaws.{idle_zero}
use Rattle.indexlet.specs.WalkLaws.{home_inside, far_less, release_counts, release_ends}
use Rattle.indexlet.proofs.release.Goals as goal

pub recount_passed-requires-clause-sized : goal.recount_passed-requires-clause-sized
recount_passed-requires-clause-sized c = (c.requires.slots_held.sized, home_inside c.args.a _ c.requires.h_value, far_less c.requires.stands)

pub recount_passed-requires-clause-countable : goal.recount_passed-requires-clause-countable
recount_passed-requires-clause-countable c = release_counts _ _ _ _ c.requires.slots_held c.requires.h_value c.requires.stands

pub overflow_add-i : goal.overflow_add-i
overflow_add-i c = omega (arith, c.requires.h_value, home_less address_size c.args.a, far_less c.requires.stands)

pub returns : goal.returns
returns c = release_ends _ _ _ _ c.requires.slots_held c.requires.h_value c.requires.stands _ c.recount_passed.ensures _ c.get.ensures _ _
    (ap (λ (x : ContentWords). is_idle (content_in x)) c.nothing.ensures ∙ idle_zero) _ c.put.ensures
