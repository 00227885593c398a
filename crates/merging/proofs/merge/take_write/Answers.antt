-- `map::merge::take_write` meets its contract: what a pending write leaves is a record, or none.
use mathlib.Core.Path.{subst}
use mathlib.Core.Option.{Option}
use Rattle.lists.specs.Rows.{assign}
use Rattle.spec.specs.Records.{Record}
use Rattle.index.specs.Views.{records_of, RecordsAre}
use Rattle.merging.specs.MergeWalks.{leaving_put, leaving_drop}
use Rattle.merging.proofs.merge.take_write.Goals as goal

pub returns-then-kind-eq1-clause-records_are : goal.returns-then-kind-eq1-clause-records_are
returns-then-kind-eq1-clause-records_are c = subst (λ (o : Option Record). RecordsAre c.put.new.rows c.put.result (assign c.args.a o (records_of c.args.rows.now c.args.n)))
    (leaving_put c.args.kind c.args.payload c.args.commit c.if-kind-eq1.true) c.put.ensures.records_are

pub returns-else-kind-eq1-clause-records_are : goal.returns-else-kind-eq1-clause-records_are
returns-else-kind-eq1-clause-records_are c = subst (λ (o : Option Record). RecordsAre c.drop.new.rows c.drop.result (assign c.args.a o (records_of c.args.rows.now c.args.n)))
    (leaving_drop c.args.kind c.args.payload c.args.commit c.if-kind-eq1.false) c.drop.ensures.records_are
