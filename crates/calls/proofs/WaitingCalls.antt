-- Request 101 of any calls: nobody starves. An address that waits in the arrays that calls left is merged by the time that
-- the calls after them, whatever they are and whoever makes them, have merged the oldest as often as addresses can wait.
use Rattle.std.specs.Prelude.{ℕ, ◌≤◌, ◌≡◌, List}
use Rattle.std.proofs.Common.{sym, ap, ◌∙◌, subst}
use Rattle.std.proofs.Math.Option.{some}
use Rattle.spec.specs.Records.{Made}
use Rattle.spec.specs.Maps.{MapState}
use Rattle.spec.specs.Steps.{State, Step, fresh, final, Event, steps_of}
use Rattle.spec.specs.Waiting.{waits_since, oldest_merges, TakenWithin}
use Rattle.limits.specs.BoundedWaiting.{bounded_waiting}
use Rattle.map.specs.Views.{Lent, map_of}
use Rattle.transactions.specs.Cores.{Core}
use Rattle.transactions.specs.Views.{Logs, state_of}
use Rattle.transactions.specs.Starts.{Fresh}
use Rattle.transactions.specs.Ready.{Ready}
use Rattle.calls.specs.Calls.{Calls, SerialCalls}
use Rattle.calls.proofs.CallLaws.{map_in, calls_serial, reached_good}

-- of arrays that hold the state after some steps from a fresh map
pub reached_waiting : (l : Lent) (g : Logs) (c : Core) (d : Made) (ss : List Step) → state_of l g c ≡ final (fresh d) ss → Ready l g c
    → (k t : ℕ) → waits_since (map_of l c.sizes) k ≡ some t → (ts : List Step) → d.tuning.waiting_limit ≤ oldest_merges ts
    → TakenWithin (state_of l g c) k d.tuning.waiting_limit ts
reached_waiting l g c d ss e r k t w ts m =
    subst (λ (σ : State). TakenWithin σ k d.tuning.waiting_limit ts) (sym e)
    (bounded_waiting d (reached_good l g c d ss e r) ss k t
    (ap (λ (x : MapState). waits_since x k) (sym (ap (λ (σ : State). σ.map) e) ∙ map_in l g c) ∙ w) ts m)

pub calls_waiting : {l l' l'' : Lent} {g g' g'' : Logs} {c c' c'' : Core} {h h' : List Event} {d : Made}
    → Fresh l g d c → Calls l g c h l' g' c' → (k t : ℕ) → waits_since (map_of l' c'.sizes) k ≡ some t
    → Calls l' g' c' h' l'' g'' c'' → d.tuning.waiting_limit ≤ oldest_merges (steps_of h')
    → TakenWithin (state_of l' g' c') k d.tuning.waiting_limit (steps_of h')
calls_waiting {l' = l'} {g' = g'} {c' = c'} {h = h} {h' = h'} {d = d} f q k t w q' m =
    let s : SerialCalls d h l' g' c' = calls_serial f q in
    reached_waiting l' g' c' d (steps_of h) s.state s.ready k t w (steps_of h') m
