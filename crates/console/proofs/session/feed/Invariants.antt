-- `session::feed` meets its contract. The invariant: what was written and what is still due are what was due.
use Rattle.map.specs.Views.{lent}
use Rattle.transactions.specs.Views.{logs}
use Rattle.console.specs.Sessions.{session_of, Feeds, left}
use Rattle.console.proofs.session.feed.Given as goal

abbrev pub invariant-loop-addresses : goal.invariant-loop-addresses
invariant-loop-addresses l =
    Feeds (lent l.initial.rows l.initial.leaves l.initial.slots) (logs l.initial.reads l.initial.leafsets l.initial.writes) (session_of l.initial.workers l.initial.x) l.input l.initial.out (lent l.rows l.leaves l.slots) (logs l.reads l.leafsets l.writes) (session_of l.workers l.x) l.out

abbrev pub decreases-loop-addresses : goal.decreases-loop-addresses
decreases-loop-addresses l =
    left l.input (session_of l.workers l.x)
