-- `runs::take_all` meets its contract. The invariant: the run of all words is that of the codes taken, and then of the rest.
use Rattle.map.specs.Views.{lent}
use Rattle.buffers.specs.Buffers.{buffers}
use Rattle.exports.specs.Exporting.{space}
use Rattle.transactions.specs.Views.{logs, core_of, made_of}
use Rattle.replay.specs.Replays.{whole}
use Rattle.replay.specs.LoopLaws.{Replaying}
use Rattle.replay.proofs.runs.take_all.Given as goal

abbrev pub invariant-loop-i : goal.invariant-loop-i
invariant-loop-i l =
    Replaying (made_of (core_of l.initial.workers l.initial.globals)) l.steps (space (buffers l.initial.addresses l.initial.values l.initial.owners) l.initial.bytes) l.initial.out (whole (lent l.rows l.leaves l.slots) (logs l.reads l.leafsets l.writes) (core_of l.workers l.globals) l.exported l.export) (space (buffers l.addresses l.values l.owners) l.bytes) l.out l.at l.i
