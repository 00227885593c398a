-- `advance` meets its contract: a turn is a read, or the lines of what there is and a write, and between two turns nothing waits.
use Rattle.shell.specs.WorkLaws.{stands_run, rests_turned, rests_settled}
use Rattle.mapscript.proofs.advance.Goals as goal

pub returns-then-count-x-clause-rests_2 : goal.returns-then-count-x-clause-rests_2
returns-then-count-x-clause-rests_2 c =
    let s = c.requires in
    let d = c.read_more.ensures in
    let u = c.if-count-x.true in
    rests_turned _ (record { rests = s.rests; used = u; goes = s.going_value.0 }) d

pub settle-requires-clause-stands : goal.settle-requires-clause-stands
settle-requires-clause-stands c =
    let s = c.requires in
    let f = c.feed-y.ensures in
    stands_run s.rests.stands f

pub returns-clause-rests_2 : goal.returns-clause-rests_2
returns-clause-rests_2 c =
    let s = c.requires in
    let f = c.feed-y.ensures in
    let d = c.settle.ensures in
    rests_settled (stands_run s.rests.stands f) d
