-- `judge` meets its contract: by the three tests, in their order.
use mathlib.Core.Path.{refl}
use mathlib.Core.Bool.{true, false}
use Rattle.guards.specs.JudgeLaws.{judged}
use Rattle.guards.proofs.judge.Goals as goal

pub returns-then-unfit_put : goal.returns-then-unfit_put
returns-then-unfit_put c = judged _ _ _ _ true _ _ _ c.unfit_put.ensures c.if-unfit_put.true refl refl refl refl refl

pub returns-then-uncovered_put : goal.returns-then-uncovered_put
returns-then-uncovered_put c = judged _ _ _ _ false true _ _ c.unfit_put.ensures c.if-unfit_put.false c.uncovered_put.ensures c.if-uncovered_put.true refl refl refl

pub returns-then-overlapped_put : goal.returns-then-overlapped_put
returns-then-overlapped_put c = judged _ _ _ _ false false true _
    c.unfit_put.ensures c.if-unfit_put.false c.uncovered_put.ensures c.if-uncovered_put.false c.overlapped_put.ensures c.if-overlapped_put.true refl

pub returns : goal.returns
returns c = judged _ _ _ _ false false false _
    c.unfit_put.ensures c.if-unfit_put.false c.uncovered_put.ensures c.if-uncovered_put.false c.overlapped_put.ensures c.if-overlapped_put.false refl
