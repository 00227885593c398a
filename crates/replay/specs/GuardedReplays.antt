-- Request 102 of a replay: run on a fresh guarded map, whatever the steps are, no two present sections overlap.
use Rattle.std.specs.Prelude.{◌≡◌, true, List, ℕ}
use Rattle.spec.specs.Guards.{NoOverlap}
use Rattle.spec.specs.Maps.{contents}
use Rattle.spec.specs.Exports.{job_steps}
use Rattle.spec.specs.Records.{Made}
use Rattle.map.specs.Views.{Lent, map_of}
use Rattle.exports.specs.Exporting.{ExportedRows, Space}
use Rattle.transactions.specs.Views.{Logs}
use Rattle.calls.proofs.GuardedCalls.{reached_apart}
use Rattle.replay.specs.Replays.{ReplayEnd, run_of, Replays}
use Rattle.replay.specs.ToldExports.{requests_of}
use Rattle.replay.specs.ToldLaws.{tells_state}

pub replay_apart : {d : Made} {words : List ℕ} {s : Space} {out : List ℕ} {l : Lent} {g : Logs} {xs : ExportedRows} {s' : Space} {out' : List ℕ} {r : ReplayEnd}
    → d.guarded ≡ true → Replays d words s out l g xs s' out' r → NoOverlap (contents (map_of l r.core.sizes))
replay_apart {d} {words} {s} {out} {l} {g} {r = r} t h =
    reached_apart l g r.core d (job_steps (requests_of (run_of d words s out).told)) (tells_state h.tells) h.ready.engine t
