use Rattle.map.specs.LockLaws.{unlock_start, unlock_on, unlock_end}
use Rattle.map.proofs.locks.unlock_all.Goals as goal

pub loop-i-init : goal.loop-i-init
loop-i-init c = (unlock_start c.args.w c.args.ws.now c.args.n c.args.k.version _ _ c.requires.map_held)

pub loop-i-preserved : goal.loop-i-preserved
loop-i-preserved c = let l = c.loop-i in let h = c.loop-i-test.true in (unlock_on c.args.w c.args.ws.now c.args.n c.args.k.version l.i h l.invariant c.unlock_one-placed.ensures)

pub returns : goal.returns
returns c = let l = c.loop-i in unlock_end c.args.w c.args.ws.now c.args.n c.args.k.version l.i c.loop-i-test.false c.requires.map_held l.invariant
