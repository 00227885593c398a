use Rattle.map.specs.AddressCounts.{entryless, counting_fits, counting_on, counting_end, waits_start, waits}
use Rattle.map.proofs.locks.waiting_with.Goals as goal

pub loop-i-init : goal.loop-i-init
loop-i-init c = (waits_start c.args.slots.now c.args.ws.now c.args.n c.requires.slots_held c.args.entries c.requires.entries_value c.requires.writing.few)

pub overflow_add-sum : goal.overflow_add-sum
overflow_add-sum c = record { fits = counting_fits (entryless c.args.slots.now) c.args.ws.now c.args.n c.loop-i-test.true c.loop-i.invariant c.entryless_at-sum.ensures }

pub loop-i-preserved : goal.loop-i-preserved
loop-i-preserved c = let h = c.loop-i-test.true in (counting_on (entryless c.args.slots.now) c.args.ws.now c.args.n h c.loop-i.invariant c.entryless_at-sum.ensures)

pub returns : goal.returns
returns c = waits c.args.slots.now c.args.ws.now c.args.n c.requires.slots_held c.args.entries c.loop-i.sum c.requires.entries_value c.requires.rising (counting_end (entryless c.args.slots.now) c.args.ws.now c.args.n c.loop-i-test.false c.loop-i.invariant)
