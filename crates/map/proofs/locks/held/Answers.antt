use mathlib.Core.Path.{sym, ap, ◌∙◌}
use Rattle.lists.specs.Rows.{any}
use Rattle.map.specs.WriteWalks.{keys_all}
use Rattle.map.specs.LockLaws.{foreign, any_here, any_later, any_end}
use Rattle.map.proofs.locks.held.Goals as goal

pub loop-i-init : goal.loop-i-init
loop-i-init c = (ap (any (foreign c.args.slots.now c.args.w)) (keys_all c.args.ws.now c.args.n))

pub returns-then-held_at : goal.returns-then-held_at
returns-then-held_at c = let l = c.loop-i in sym (any_here (foreign c.args.slots.now c.args.w) c.args.ws.now l.i c.args.n c.loop-i-test.true c.held_at.ensures c.if-held_at.true) ∙ l.invariant

pub loop-i-preserved : goal.loop-i-preserved
loop-i-preserved c = let l = c.loop-i in (any_later (foreign c.args.slots.now c.args.w) c.args.ws.now l.i c.args.n c.loop-i-test.true c.held_at.ensures c.if-held_at.false ∙ l.invariant)

pub returns : goal.returns
returns c = let l = c.loop-i in sym (any_end (foreign c.args.slots.now c.args.w) c.args.ws.now l.i c.args.n c.loop-i-test.false) ∙ l.invariant
