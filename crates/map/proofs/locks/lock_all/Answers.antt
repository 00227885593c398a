use Rattle.map.specs.LockLaws.{lock_fits, lock_start, lock_on, lock_end}
use Rattle.map.proofs.locks.lock_all.Goals as goal

pub loop-i-init : goal.loop-i-init
loop-i-init c = (lock_start c.args.w c.args.ws.now c.args.n c.args.k.version _ _ c.requires.map_held c.requires.lockable)

pub lock_one-placed-requires-clause-i_lt_n : goal.lock_one-placed-requires-clause-i_lt_n
lock_one-placed-requires-clause-i_lt_n c = let l = c.loop-i in (c.loop-i-test.true, c.requires.w_bound, lock_fits c.args.w c.args.ws.now c.args.n c.args.k.version l.i l.invariant)

pub loop-i-preserved : goal.loop-i-preserved
loop-i-preserved c = let l = c.loop-i in let h = c.loop-i-test.true in (lock_on c.args.w c.args.ws.now c.args.n c.args.k.version l.i h l.invariant c.lock_one-placed.ensures)

pub returns : goal.returns
returns c = let l = c.loop-i in lock_end c.args.w c.args.ws.now c.args.n c.args.k.version l.i c.loop-i-test.false c.requires.map_held c.requires.lockable l.invariant
