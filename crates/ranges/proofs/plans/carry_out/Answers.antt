-- `plans::carry_out` meets its contract.
use mathlib.Core.Path.{refl}
use Rattle.ranges.specs.PlanLaws.{room, log_walks, log_room, log_fills}
use Rattle.ranges.proofs.plans.carry_out.Goals as goal

pub fill-count-requires-clause-walks : goal.fill-count-requires-clause-walks
fill-count-requires-clause-walks c =
    let s = c.requires in
    let p = s.planned in
    let h = c.log_rows-logged.ensures in
    log_walks s.planning p h

pub fill-count-requires-clause-records_fit : goal.fill-count-requires-clause-records_fit
fill-count-requires-clause-records_fit c =
    let s = c.requires in
    let p = s.planned in
    let h = c.log_rows-logged.ensures in
    log_room s.planning p h (room _ p)

pub returns : goal.returns
returns c =
    let s = c.requires in
    let h = c.log_rows-logged.ensures in
    record {
      fills = log_fills s.planning s.planned h c.fill-count.ensures;
      logs_rows = h;
      logs_leaves = c.log_leaves-logged_leaves.ensures;
      worker = refl;
    }
