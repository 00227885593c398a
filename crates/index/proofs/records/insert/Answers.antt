use mathlib.Core.Path.{refl}
use Rattle.index.specs.RecordLaws.{inserted, behind_inserted}
use Rattle.index.proofs.records.insert.Goals as goal

pub returns-clause-value : goal.returns-clause-value
returns-clause-value c = (
  refl,
  inserted c.args.rows.now c.store.new.rows c.told-rows c.args.n c.args.p c.move_rows.new.rows c.args.r c.requires.0 c.requires.1
      c.move_rows.ensures c.store.ensures,
)

pub returns-clause-rows_unchanged : goal.returns-clause-rows_unchanged
returns-clause-rows_unchanged c = behind_inserted c.args.rows.now c.store.new.rows c.told-rows c.args.n c.args.p c.move_rows.new.rows c.args.r c.requires.0 c.requires.1
    c.move_rows.ensures c.store.ensures
