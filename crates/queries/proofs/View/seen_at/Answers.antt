-- `View::seen_at` meets its contract: by what the indexlet says of the address.
use native.Mathlib.Omega.{arith}
use Rattle.indexlet.specs.EnterLaws.{said_at}
use Rattle.queries.specs.ScanLaws.{seen_there, row_found}
use Rattle.queries.specs.CurrentLaws.{sees_indexed, sees_put, sees_deletion}
use Rattle.queries.proofs.View.seen_at.Goals as goal

pub returns-in-0 : goal.returns-in-0
returns-in-0 c =
    let g = c.get-there in
    let l = c.content_at-c in
    seen_there c.args.self.rows.now c.args.self.records c.args.self.slots.now _ g.result _ _ c.args.self.records_held.held c.requires.i_lt_records g.ensures
    (sees_indexed _ _ _ _ l.result (said_at c.find-at.ensures l.ensures) _ c.in-0.is (row_found _ _ _ g.result c.args.self.records_held.held c.requires.i_lt_records g.ensures))

pub returns-in-1 : goal.returns-in-1
returns-in-1 c =
    let g = c.get-there in
    let l = c.content_at-c in
    seen_there c.args.self.rows.now c.args.self.records c.args.self.slots.now _ g.result _ _ c.args.self.records_held.held c.requires.i_lt_records g.ensures
    (sees_put _ _ _ _ l.result (said_at c.find-at.ensures l.ensures) c.in-1.is)

pub returns-in_default : goal.returns-in_default
returns-in_default c =
    let g = c.get-there in
    let l = c.content_at-c in
    seen_there c.args.self.rows.now c.args.self.records c.args.self.slots.now _ g.result _ _ c.args.self.records_held.held c.requires.i_lt_records g.ensures
    (sees_deletion _ _ _ _ l.result (said_at c.find-at.ensures l.ensures) (λ e. omega arith) (λ e. omega arith))
