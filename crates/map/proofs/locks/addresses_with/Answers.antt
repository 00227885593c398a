use Rattle.map.specs.AddressCounts.{unknown, counting_fits, counting_on, counting_end, base_fits, addressed_start, addressed}
use Rattle.map.proofs.locks.addresses_with.Goals as goal

pub overflow_add-sum : goal.overflow_add-sum
overflow_add-sum c = record { fits = base_fits c.args.rows.now c.args.slots.now c.args.ws.now c.args.z c.args.n c.requires.counted }

pub loop-i-init : goal.loop-i-init
loop-i-init c = (addressed_start c.args.rows.now c.args.slots.now c.args.ws.now c.args.z c.args.n c.requires.counted c.requires.writing.few)

pub overflow_add-sum-in-loop-i : goal.overflow_add-sum-in-loop-i
overflow_add-sum-in-loop-i c = record { fits = counting_fits (unknown c.args.rows.now c.args.z.records c.args.slots.now) c.args.ws.now c.args.n c.loop-i-test.true c.loop-i.invariant c.unknown_at-sum.ensures }

pub loop-i-preserved : goal.loop-i-preserved
loop-i-preserved c = let h = c.loop-i-test.true in (counting_on (unknown c.args.rows.now c.args.z.records c.args.slots.now) c.args.ws.now c.args.n h c.loop-i.invariant c.unknown_at-sum.ensures)

pub returns : goal.returns
returns c = addressed c.args.rows.now c.args.slots.now c.args.ws.now c.args.z c.args.n c.requires.counted c.loop-i.sum c.requires.rising (counting_end (unknown c.args.rows.now c.args.z.records c.args.slots.now) c.args.ws.now c.args.n c.loop-i-test.false c.loop-i.invariant)
