use Rattle.index.specs.Views.{row_of}
use Rattle.index.specs.RecordLaws.{present_at, absent_at, absent_past, find_here, find_none}
use Rattle.index.proofs.records.find.Goals as goal

pub returns-then-n-p : goal.returns-then-n-p
returns-then-n-p c =
    let p = c.locate-p in
    find_none c.args.rows.now c.args.n c.args.a p.result c.requires p.ensures
    (absent_past c.args.rows.now c.args.n c.args.a p.result c.requires.room p.ensures c.if-n-p.true)

pub returns : goal.returns
returns c =
    let p = c.locate-p in
    let g = c.get-r in
    find_here c.args.rows.now c.args.n c.args.a p.result c.requires p.ensures (row_of g.result) c.if-n-p.false g.ensures
    (present_at c.args.rows.now c.args.n c.args.a p.result c.requires.room p.ensures (row_of g.result) c.if-n-p.false g.ensures c.if-r-a.false)

pub returns-then-r-a : goal.returns-then-r-a
returns-then-r-a c =
    let p = c.locate-p in
    let g = c.get-r in
    find_none c.args.rows.now c.args.n c.args.a p.result c.requires p.ensures
    (absent_at c.args.rows.now c.args.n c.args.a p.result c.requires.room p.ensures (row_of g.result) c.if-n-p.false g.ensures c.if-r-a.true)
