-- The record stands at its place, or is in no place.
use Rattle.index.specs.Views.{row_of}
use Rattle.index.specs.RecordLaws.{present_at, absent_at, absent_past, drop_here, drop_none, behind_removed}
use Rattle.index.proofs.records.drop.Goals as goal
use Rattle.index.proofs.records.drop.Goals.{else-p-n-via-then-p-n+else-get-a, else-p-n-via-else-p-n}

pub returns-then-get-a-clause-records_are : goal.returns-then-get-a-clause-records_are
returns-then-get-a-clause-records_are c =
    let p = c.locate-p in
    drop_here c.args.rows.now c.args.n c.args.a p.result c.requires p.ensures c.move_rows.new.rows c.told-rows
    (present_at c.args.rows.now c.args.n c.args.a p.result c.requires.room p.ensures (row_of c.get.result) c.if-p-n.true c.get.ensures c.if-get-a.true)
    c.if-p-n.true c.move_rows.ensures

pub returns-then-get-a-clause-rows_unchanged : goal.returns-then-get-a-clause-rows_unchanged
returns-then-get-a-clause-rows_unchanged c = behind_removed c.args.rows.now c.move_rows.new.rows c.told-rows c.args.n c.locate-p.result c.if-p-n.true c.requires.room c.move_rows.ensures

pub returns-else-p-n-clause-records_are : goal.returns-else-p-n-clause-records_are
returns-else-p-n-clause-records_are c =
    let p = c.locate-p in
    drop_none c.args.rows.now c.args.n c.args.a p.result c.requires p.ensures (elim c.else-p-n.branch [
      | else-p-n-via-then-p-n+else-get-a w ↦ absent_at c.args.rows.now c.args.n c.args.a p.result c.requires.room p.ensures (row_of w.get.result) w.if-p-n.true w.get.ensures w.if-get-a.false
      | else-p-n-via-else-p-n w ↦ absent_past c.args.rows.now c.args.n c.args.a p.result c.requires.room p.ensures w.if-p-n.false
    ])
