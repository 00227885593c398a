-- `closing::finish` meets its contract, case by case.
use native.Mathlib.Omega.{arith}
use Rattle.queries.specs.ContentsLaws.{records_fit}
use Rattle.console.specs.FinishLaws.{finish_stopped, finish_whole, finish_inside}
use Rattle.std.proofs.Common.{true, false}
use Rattle.console.proofs.closing.finish.Goals as goal

pub returns-then-x : goal.returns-then-x
returns-then-x c = finish_stopped _ _ _ _ c.if-x.true (omega (arith, c.requires.longest_end_in_bounds))

pub put_contents-requires-clause-slots_len_bound : goal.put_contents-requires-clause-slots_len_bound
put_contents-requires-clause-slots_len_bound c =
    let t = c.requires.ready.stored.map.tables in
    (records_fit c.requires.ready.stored.map, c.requires.longest_end_in_bounds)

pub returns-then-at_line_start : goal.returns-then-at_line_start
returns-then-at_line_start c = finish_whole _ _ _ _ _ _ _ c.requires.started c.if-x.false c.at_line_start.ensures.by_index c.if-at_line_start.true c.put_contents.ensures

pub returns-else-at_line_start : goal.returns-else-at_line_start
returns-else-at_line_start c = finish_inside _ _ _ _ _ _ _ c.requires.started c.if-x.false c.at_line_start.ensures.by_index c.if-at_line_start.false c.put_malformed.ensures
