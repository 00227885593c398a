-- The record stands at its place, or is in no place and goes in there.
use Rattle.index.specs.Views.{row_of, record_from}
use Rattle.index.specs.RecordLaws.{present_at, absent_at, absent_past, put_over, put_room, put_new}
use Rattle.index.proofs.records.put.Goals as goal
use Rattle.index.proofs.records.put.Goals.{else-p-n-via-then-p-n+else-get-a, else-p-n-via-else-p-n}

pub insert-requires : goal.insert-requires
insert-requires c =
    let p = c.locate-p in (
      p.ensures.within,
      put_room c.args.rows.now c.args.n c.args.a p.result c.requires.records_sorted p.ensures (record_from c.args.payload c.args.commit) (elim c.else-p-n.branch [
        | else-p-n-via-then-p-n+else-get-a w ↦ absent_at c.args.rows.now c.args.n c.args.a p.result c.requires.records_sorted.room p.ensures (row_of w.get.result) w.if-p-n.true w.get.ensures w.if-get-a.false
        | else-p-n-via-else-p-n w ↦ absent_past c.args.rows.now c.args.n c.args.a p.result c.requires.records_sorted.room p.ensures w.if-p-n.false
      ]) c.requires.n_len_bound,
    )

pub returns-then-get-a-clause-records_are : goal.returns-then-get-a-clause-records_are
returns-then-get-a-clause-records_are c =
    let p = c.locate-p in
    put_over c.args.rows.now c.args.n c.args.a p.result c.requires.records_sorted p.ensures c.store.new.rows c.args.payload c.args.commit c.told-rows
    (present_at c.args.rows.now c.args.n c.args.a p.result c.requires.records_sorted.room p.ensures (row_of c.get.result) c.if-p-n.true c.get.ensures c.if-get-a.true)
    c.if-p-n.true c.store.ensures

pub returns-else-p-n-clause-records_are : goal.returns-else-p-n-clause-records_are
returns-else-p-n-clause-records_are c =
    let p = c.locate-p in
    put_new c.args.rows.now c.args.n c.args.a p.result c.requires.records_sorted p.ensures c.insert.new.rows c.insert.result (record_from c.args.payload c.args.commit) (elim c.else-p-n.branch [
      | else-p-n-via-then-p-n+else-get-a w ↦ absent_at c.args.rows.now c.args.n c.args.a p.result c.requires.records_sorted.room p.ensures (row_of w.get.result) w.if-p-n.true w.get.ensures w.if-get-a.false
      | else-p-n-via-else-p-n w ↦ absent_past c.args.rows.now c.args.n c.args.a p.result c.requires.records_sorted.room p.ensures w.if-p-n.false
    ]) c.requires.n_len_bound c.insert.ensures.value
