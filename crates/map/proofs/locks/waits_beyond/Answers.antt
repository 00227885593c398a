-- `locks::waits_beyond` meets its contract: all fit, or they are counted.
use Rattle.map.specs.AddressCounts.{entries_fit, beyond_few, beyond_counted}
use Rattle.map.proofs.locks.waits_beyond.Goals as goal

pub overflow_add-entries : goal.overflow_add-entries
overflow_add-entries c = record { fits = entries_fit c.args.slots.now c.args.ws.now c.args.n c.requires.slots_held _ c.requires.entries_value c.requires.writing.few }

pub returns-then-entries-n-le-WAITING_LIMIT : goal.returns-then-entries-n-le-WAITING_LIMIT
returns-then-entries-n-le-WAITING_LIMIT c = beyond_few _ _ _ c.requires.slots_held _ c.requires.entries_value c.requires.rising c.if-entries-n-le-WAITING_LIMIT.true

pub returns : goal.returns
returns c = beyond_counted c.waiting_with.ensures
