-- `locks::addresses_beyond` meets its contract: all fit, or they are counted.
use Rattle.map.specs.AddressCounts.{base_fits, all_fit, addressed_few, addressed_counted}
use Rattle.map.proofs.locks.addresses_beyond.Goals as goal

pub overflow_add-z : goal.overflow_add-z
overflow_add-z c = record { fits = base_fits c.args.rows.now c.args.slots.now c.args.ws.now c.args.z c.args.n c.requires.counted }

pub overflow_add-z-2 : goal.overflow_add-z-2
overflow_add-z-2 c = record { fits = all_fit c.args.rows.now c.args.slots.now c.args.ws.now c.args.z c.args.n c.requires.counted c.requires.writing.few }

pub returns-then-z-n-le-MAP_LIMIT : goal.returns-then-z-n-le-MAP_LIMIT
returns-then-z-n-le-MAP_LIMIT c = addressed_few _ _ _ _ _ c.requires.counted c.requires.rising c.if-z-n-le-MAP_LIMIT.true

pub returns : goal.returns
returns c = addressed_counted c.addresses_with.ensures
