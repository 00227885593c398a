-- `locks::lock_tests` meets its contract: the causes one after the other.
use Rattle.commits.specs.Locks.{tested_held, tested_full, tested_map, tested_passed}
use Rattle.std.proofs.Common.{true, false}
use Rattle.commits.proofs.locks.lock_tests.Goals as goal

pub returns-then-held : goal.returns-then-held
returns-then-held c = tested_held _ _ _ _ _ _ c.held.ensures c.if-held.true

pub returns-then-waits_beyond : goal.returns-then-waits_beyond
returns-then-waits_beyond c = tested_full _ _ _ _ _ _ c.held.ensures c.if-held.false c.waits_beyond.ensures c.if-waits_beyond.true

pub returns-then-addresses_beyond : goal.returns-then-addresses_beyond
returns-then-addresses_beyond c = tested_map _ _ _ _ _ _ c.held.ensures c.if-held.false c.waits_beyond.ensures c.if-waits_beyond.false c.addresses_beyond.ensures c.if-addresses_beyond.true

pub returns : goal.returns
returns c = tested_passed _ _ _ _ _ _ c.held.ensures c.if-held.false c.waits_beyond.ensures c.if-waits_beyond.false c.addresses_beyond.ensures c.if-addresses_beyond.false
