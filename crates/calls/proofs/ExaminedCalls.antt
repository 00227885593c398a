-- Request 103 of any calls: where none of them took an entry out of the indexlet, no look-up in the arrays that they left
-- examines more slots than addresses can wait or be locked, whatever the address.
use Rattle.std.specs.Prelude.{ℕ, ◌≤◌, ◌<◌, ◌≡◌, false, List}
use Rattle.std.proofs.Common.{arith, sym, ap, ◌∙◌, subst}
use Rattle.lists.specs.Rows.{any}
use Rattle.spec.specs.Records.{limits, Made}
use Rattle.spec.specs.Slots.{search}
use Rattle.spec.specs.Maps.{MapState}
use Rattle.spec.specs.Steps.{State, Event, steps_of, fresh, final, Step}
use Rattle.spec.specs.Examined.{takes_out}
use Rattle.limits.specs.WorstLookups.{worst_look_up}
use Rattle.map.specs.Views.{Lent, map_of}
use Rattle.transactions.specs.Cores.{Core}
use Rattle.transactions.specs.Views.{Logs, state_of}
use Rattle.transactions.specs.Starts.{Fresh}
use Rattle.calls.specs.Calls.{Calls, SerialCalls}
use Rattle.calls.proofs.CallLaws.{map_in, calls_serial, reached_made, reached_good}

-- some address may wait, in arrays that hold the state after some steps from a fresh map
pub reached_some : (l : Lent) (g : Logs) (c : Core) (d : Made) (ss : List Step) → state_of l g c ≡ final (fresh d) ss → 0 < d.tuning.waiting_limit
reached_some l g c d ss e = subst (λ (x : Made). 0 < x.tuning.waiting_limit) (reached_made l g c d ss e) (omega arith)

pub calls_examined : {l l' : Lent} {g g' : Logs} {c c' : Core} {h : List Event} {d : Made}
    → Fresh l g d c → Calls l g c h l' g' c' → any takes_out h ≡ false
    → (k : ℕ) → (search limits.bytes (map_of l' c'.sizes).slots k).examined ≤ d.tuning.waiting_limit
calls_examined {l' = l'} {g' = g'} {c' = c'} {h = h} {d = d} f q t k =
    let s : SerialCalls d h l' g' c' = calls_serial f q in
    subst (λ (m : MapState). (search limits.bytes m.slots k).examined ≤ d.tuning.waiting_limit)
    (sym (ap (λ (σ : State). σ.map) s.state) ∙ map_in l' g' c')
    (worst_look_up d (reached_good l' g' c' d (steps_of h) s.state s.ready) (reached_some l' g' c' d (steps_of h) s.state) (steps_of h) (sym (ap (any takes_out) s.answers) ∙ t) k)
