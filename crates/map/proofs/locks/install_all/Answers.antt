use Rattle.map.specs.LockLaws.{install_busy, install_start, install_on, install_end}
use Rattle.map.proofs.locks.install_all.Goals as goal

pub loop-i-init : goal.loop-i-init
loop-i-init c = (install_start c.args.number c.args.t c.args.ws.now c.args.n c.args.k.version _ _ c.requires.map_held c.requires.installable)

pub install_one-placed-requires-clause-i_lt_n : goal.install_one-placed-requires-clause-i_lt_n
install_one-placed-requires-clause-i_lt_n c = let l = c.loop-i in (c.loop-i-test.true, install_busy c.args.number c.args.t c.args.ws.now c.args.n c.args.k.version l.i c.loop-i-test.true l.invariant)

pub loop-i-preserved : goal.loop-i-preserved
loop-i-preserved c = let l = c.loop-i in let h = c.loop-i-test.true in (install_on c.args.number c.args.t c.args.ws.now c.args.n c.args.k.version l.i h l.invariant c.install_one-placed.ensures)

pub returns : goal.returns
returns c = let l = c.loop-i in install_end c.args.number c.args.t c.args.ws.now c.args.n c.args.k.version l.i c.loop-i-test.false c.requires.map_held c.requires.installable l.invariant
