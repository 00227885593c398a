-- `indexlet::take` meets its contract: the entry stands in the home slot; or the counts of the slots passed are one more, and the first
-- empty one has the entry.
use native.Mathlib.Omega.{arith}
use mathlib.Core.Path.{refl, sym, ◌∙◌}
use Rattle.spec.specs.Widths.{address_size}
use Rattle.laws.specs.Probes.{home_less}
use Rattle.indexlet.specs.WalkLaws.{home_inside, take_counts, take_ends, take_turns, home_ends, home_turns}
use Rattle.indexlet.proofs.take.Goals as goal

pub get-requires : goal.get-requires
get-requires c = home_inside c.args.a _ c.requires.h_value

pub say_at-requires : goal.say_at-requires
say_at-requires c = home_inside c.args.a _ c.requires.h_value

pub returns-then-idle-clause-slots_become : goal.returns-then-idle-clause-slots_become
returns-then-idle-clause-slots_become c =
    let empty = sym c.idle.ensures ∙ c.if-idle.true in (
      home_ends _ c.args.a _ c.requires.h_value c.requires.slots_held _ c.get.ensures empty c.args.c c.requires.c_value c.ranges.a.fits _ c.say_at.ensures,
      home_inside c.args.a _ c.requires.h_value,
    )

pub returns-then-idle-clause-turns : goal.returns-then-idle-clause-turns
returns-then-idle-clause-turns c = let empty = sym c.idle.ensures ∙ c.if-idle.true in home_turns _ c.args.a _ c.requires.h_value c.requires.slots_held _ c.get.ensures empty c.args.c

pub passed_by_new-d-requires-clause-h_lt_slot_count : goal.passed_by_new-d-requires-clause-h_lt_slot_count
passed_by_new-d-requires-clause-h_lt_slot_count c = (home_inside c.args.a _ c.requires.h_value, c.requires.t_len_bound)

pub recount_passed-requires-clause-sized : goal.recount_passed-requires-clause-sized
recount_passed-requires-clause-sized c = (c.requires.slots_held.sized, home_inside c.args.a _ c.requires.h_value, c.passed_by_new-d.ensures.1)

pub recount_passed-requires-clause-countable : goal.recount_passed-requires-clause-countable
recount_passed-requires-clause-countable c = take_counts _ c.args.a _ _ c.requires.h_value c.passed_by_new-d.ensures.0 c.passed_by_new-d.ensures.1 c.requires.slots_held

pub overflow_add-i : goal.overflow_add-i
overflow_add-i c = omega (arith, c.requires.h_value, home_less address_size c.args.a, c.passed_by_new-d.ensures.1)

pub returns-clause-slots_become : goal.returns-clause-slots_become
returns-clause-slots_become c = (
  take_ends _ c.args.a _ _ c.requires.h_value c.passed_by_new-d.ensures.0 c.passed_by_new-d.ensures.1 c.args.c _ c.recount_passed.ensures _ refl
      c.requires.c_value c.ranges.a.fits _ c.say_at-2.ensures,
  omega arith,
)

pub returns-clause-turns : goal.returns-clause-turns
returns-clause-turns c = take_turns _ c.args.a _ _ c.requires.h_value c.passed_by_new-d.ensures.0 c.passed_by_new-d.ensures.1 c.args.c
