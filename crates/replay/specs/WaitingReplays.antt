-- Request 101 of a replay: nobody starves. An address that waits in the arrays that a replay left is merged by the time that
-- the steps after it, whatever they are, have merged the oldest as often as addresses can wait.
use Rattle.std.specs.Prelude.{ℕ, ◌≤◌, ◌≡◌, List}
use Rattle.std.proofs.Math.Option.{some}
use Rattle.spec.specs.Records.{Made}
use Rattle.spec.specs.Steps.{Step}
use Rattle.spec.specs.Waiting.{waits_since, oldest_merges, TakenWithin}
use Rattle.spec.specs.Exports.{job_steps}
use Rattle.map.specs.Views.{Lent, map_of}
use Rattle.exports.specs.Exporting.{ExportedRows, Space}
use Rattle.transactions.specs.Views.{Logs, state_of}
use Rattle.calls.proofs.WaitingCalls.{reached_waiting}
use Rattle.replay.specs.Replays.{ReplayEnd, run_of, Replays}
use Rattle.replay.specs.ToldExports.{requests_of}
use Rattle.replay.specs.ToldLaws.{tells_state}

pub replay_waiting : {d : Made} {words : List ℕ} {s : Space} {out : List ℕ} {l : Lent} {g : Logs} {xs : ExportedRows} {s' : Space} {out' : List ℕ} {r : ReplayEnd}
    → Replays d words s out l g xs s' out' r
    → (k t : ℕ) → waits_since (map_of l r.core.sizes) k ≡ some t → (ts : List Step) → d.tuning.waiting_limit ≤ oldest_merges ts
    → TakenWithin (state_of l g r.core) k d.tuning.waiting_limit ts
replay_waiting {d} {words} {s} {out} {l} {g} {r = r} h k t w ts m =
    reached_waiting l g r.core d (job_steps (requests_of (run_of d words s out).told)) (tells_state h.tells) h.ready.engine k t w ts m
