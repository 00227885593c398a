-- `queries::lock_only_at` meets its contract: by each of its tests.
use Rattle.std.proofs.Common.{eqb, not, ap, ◌∙◌}
use Rattle.indexlet.specs.EnterLaws.{said_at}
use Rattle.queries.specs.PhantomLaws.{own_removal, own_put_lem, lock_only_elsewhere, lock_only_pending, lock_only_here}
use Rattle.queries.proofs.lock_only_at.Goals as goal

pub returns-in_default : goal.returns-in_default
returns-in_default c = own_removal _ _ _ _ _ _ _ c.in_default.is

pub returns-then-p-i : goal.returns-then-p-i
returns-then-p-i c = own_put_lem _ _ _ _ _ _ _ c.in-Put.is (lock_only_elsewhere _ _ _ _ _ _ _ _ c.find_leaf-p.ensures c.if-p-i.true)

pub returns-then-c-ne1 : goal.returns-then-c-ne1
returns-then-c-ne1 c =
    let l = c.content_at-c in
    own_put_lem _ _ _ _ _ _ _ c.in-Put.is
    (lock_only_here _ _ _ _ _ _ _ _ l.result _ _ c.find_leaf-p.ensures c.if-p-i.false (said_at c.find-at.ensures l.ensures) c.if-c-ne1.true c.find.ensures c.is_none.ensures)

pub returns-else-c-ne1 : goal.returns-else-c-ne1
returns-else-c-ne1 c =
    let l = c.content_at-c in
    own_put_lem _ _ _ _ _ _ _ c.in-Put.is
    (ap (λ k. not (eqb k 1)) c.if-c-ne1.false ∙ lock_only_pending _ _ _ _ _ _ _ l.result (said_at c.find-at.ensures l.ensures) c.if-c-ne1.false)
