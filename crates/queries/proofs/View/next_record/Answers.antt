-- `View::next_record` meets its contract: at each candidate either there is a record, or the walk is past it.
use native.Mathlib.Omega.{arith}
use Rattle.std.proofs.Common.{sym, subst}
use Rattle.queries.specs.NextViews.{Follows}
use Rattle.queries.specs.NextLaws.{passed_over, passed_on, follows_end, follows_done, follows_at}
use Rattle.queries.proofs.View.next_record.Goals as goal

pub returns-in-Some-current_record : goal.returns-in-Some-current_record
returns-in-Some-current_record c =
    follows_at _ _ _ c.args.self.records_held c.args.self.slots_held _ _ _ (passed_over _ _ _ _ _ _ c.loop-address.invariant c.in-Some.ensures) c.in-Some-current_record.ensures

pub returns-in_err-at : goal.returns-in_err-at
returns-in_err-at c =
    subst (Follows c.args.self.rows.now c.args.self.records c.args.self.slots.now c.args.from) (sym c.from_residual.ensures)
    (follows_done _ _ _ c.args.self.records_held c.args.self.slots_held _ _
    (passed_on _ _ _ c.args.self.records_held c.args.self.slots_held _ _ (passed_over _ _ _ _ _ _ c.loop-address.invariant c.in-Some.ensures) c.in_default-current_record.ensures)
    (omega (arith, c.in_err-at.ensures)))

pub returns : goal.returns
returns c = follows_end _ _ _ c.args.self.records_held c.args.self.slots_held _ _ c.loop-address.invariant c.in_default.ensures
