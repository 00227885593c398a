-- `View::index_from` meets its contract: by whether the index has such an address.
use Rattle.queries.specs.NextLaws.{index_none, index_here}
use Rattle.queries.proofs.View.index_from.Goals as goal

pub returns-then-self-p : goal.returns-then-self-p
returns-then-self-p c = index_none c.args.self.rows.now _ _ _ c.args.self.records_held c.locate-p.ensures c.if-self-p.true

pub returns : goal.returns
returns c = index_here c.args.self.rows.now _ _ _ c.args.self.records_held c.locate-p.ensures c.get-r.result c.if-self-p.false c.get-r.ensures
