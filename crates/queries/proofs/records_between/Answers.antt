-- `queries::records_between` meets its contract: by whether the index has hi.
use Rattle.queries.specs.ScanLaws.{spans_past, spans_other, spans_last}
use Rattle.queries.proofs.records_between.Goals as goal

pub returns-then-n-to : goal.returns-then-n-to
returns-then-n-to c = spans_past c.args.rows.now _ _ _ _ c.requires.records_held.held c.requires.lo_le_hi c.locate-from.ensures _ c.locate-to.ensures c.if-n-to.true

pub returns-then-last-hi : goal.returns-then-last-hi
returns-then-last-hi c = spans_last c.args.rows.now _ _ _ _ c.requires.records_held.held c.requires.lo_le_hi c.locate-from.ensures _ c.get-last.result c.locate-to.ensures c.if-n-to.false c.get-last.ensures c.if-last-hi.true

pub returns : goal.returns
returns c = spans_other c.args.rows.now _ _ _ _ c.requires.records_held.held c.requires.lo_le_hi c.locate-from.ensures _ c.get-last.result c.locate-to.ensures c.if-n-to.false c.get-last.ensures c.if-last-hi.false
