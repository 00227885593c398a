-- Request 103 of a replay: where none of its steps took an entry out of the indexlet, no look-up in the arrays that it left
-- examines more slots than addresses can wait or be locked, whatever the address.
use Rattle.std.specs.Prelude.{ℕ, ◌≤◌, ◌<◌, ◌≡◌, false, List}
use Rattle.std.proofs.Common.{sym, ap, ◌∙◌, subst}
use Rattle.lists.specs.Rows.{any}
use Rattle.spec.specs.Records.{limits, Made}
use Rattle.spec.specs.Slots.{search}
use Rattle.spec.specs.Maps.{MapState}
use Rattle.spec.specs.Steps.{State, fresh}
use Rattle.spec.specs.Examined.{takes_out}
use Rattle.spec.specs.Exports.{Exporting, Exchange, starting_at, job_steps, job_events}
use Rattle.spec.specs.GoodTuning.{GoodTuning}
use Rattle.laws.specs.ExportLaws.{jobs_alone}
use Rattle.limits.specs.WorstLookups.{worst_look_up}
use Rattle.calls.proofs.CallLaws.{map_in, reached_good}
use Rattle.calls.proofs.ExaminedCalls.{reached_some}
use Rattle.map.specs.Views.{Lent, map_of}
use Rattle.exports.specs.Exporting.{ExportedRows, Space}
use Rattle.transactions.specs.Views.{Logs}
use Rattle.replay.specs.Replays.{ReplayEnd, run_of, Replays}
use Rattle.replay.specs.ToldExports.{requests_of, Tells}
use Rattle.replay.specs.ToldLaws.{tells_answers, tells_state}

-- of any exchanges from a fresh map
pub told_examined : {ζ : Exporting} {es : List Exchange} (d : Made) → GoodTuning d.tuning → 0 < d.tuning.waiting_limit → Tells (starting_at (fresh d)) es ζ → any takes_out (job_events es) ≡ false
    → (k : ℕ) → (search limits.bytes ζ.state.map.slots k).examined ≤ d.tuning.waiting_limit
told_examined {es = es} d g p t e k =
    let ξ = starting_at (fresh d) in
    subst (λ (σ : State). (search limits.bytes σ.map.slots k).examined ≤ d.tuning.waiting_limit) (sym (tells_state t))
    (worst_look_up d g p (job_steps (requests_of es))
    (ap (any takes_out) (sym (jobs_alone ξ (requests_of es)) ∙ ap job_events (tells_answers t)) ∙ e) k)

pub replay_examined : {d : Made} {words : List ℕ} {s : Space} {out : List ℕ} {l : Lent} {g : Logs} {xs : ExportedRows} {s' : Space} {out' : List ℕ} {r : ReplayEnd}
    → Replays d words s out l g xs s' out' r → any takes_out (job_events (run_of d words s out).told) ≡ false
    → (k : ℕ) → (search limits.bytes (map_of l r.core.sizes).slots k).examined ≤ d.tuning.waiting_limit
replay_examined {d} {l = l} {g = g} {r = r} h e k =
    let q = tells_state h.tells in
    subst (λ (m : MapState). (search limits.bytes m.slots k).examined ≤ d.tuning.waiting_limit) (map_in l g r.core)
    (told_examined d (reached_good l g r.core d _ q h.ready.engine) (reached_some l g r.core d _ q) h.tells e k)
