-- `map::locks::installed` meets its contract: the kind, payload and number of the write, since when it waits, and no lock.
use Rattle.indexlet.specs.Words.{content_in}
use Rattle.map.specs.LockLaws.{installs}
use Rattle.map.proofs.locks.installed.Goals as goal

pub returns : goal.returns
returns c = installs c.args.r c.args.number c.args.t (content_in c.args.old) _ _ _ c.kind.ensures c.payload.ensures c.waiting_since.ensures
