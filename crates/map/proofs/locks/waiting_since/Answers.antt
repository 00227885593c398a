-- `map::locks::waiting_since` meets its contract: by whether a write waits already.
use Rattle.map.specs.LockLaws.{since_now, since_before}
use Rattle.map.proofs.locks.waiting_since.Goals as goal

pub returns-then-old-eq0 : goal.returns-then-old-eq0
returns-then-old-eq0 c = since_now c.args.old c.args.t c.if-old-eq0.true

pub returns : goal.returns
returns c = since_before c.args.old c.args.t c.if-old-eq0.false
