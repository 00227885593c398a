-- Any calls from a fresh map are a serial run.
use Rattle.std.specs.Prelude.{◌≡◌, refl, List, ◌∷◌}
use Rattle.std.proofs.Common.{sym, ap, ◌∙◌, subst}
use Rattle.spec.specs.Records.{Made}
use Rattle.spec.specs.Maps.{MapState, contents}
use Rattle.spec.specs.Steps.{State, Answer, fresh, final, history, next, answer, Event, steps_of, Step}
use Rattle.spec.specs.Claim.{SerialRun}
use Rattle.spec.specs.GoodTuning.{GoodTuning}
use Rattle.limits.specs.Keeping.{final_made}
use Rattle.serial.specs.Theorem.{every_run_is_serial}
use Rattle.map.specs.Views.{Lent, map_of}
use Rattle.transactions.specs.Cores.{Core}
use Rattle.transactions.specs.Views.{Logs, state_of, made_of}
use Rattle.transactions.specs.Ready.{Ready}
use Rattle.transactions.specs.Starts.{Fresh}
use Rattle.buffers.specs.Buffers.{places_of}
use Rattle.engine.specs.Performs.{step_in}
use Rattle.calls.specs.Calls.{Calls, no_call, call, event_of, SerialCalls}

-- ---- calls from any state

-- the state after them, and their history, are the model's
calls_state : {l l' : Lent} {g g' : Logs} {c c' : Core} {h : List Event} → Calls l g c h l' g' c' → state_of l' g' c' ≡ final (state_of l g c) (steps_of h)
unfolding final
calls_state no_call = refl
calls_state (call {h = h} o b b' p q rest) = calls_state rest ∙ ap (λ (σ : State). final σ (steps_of h)) q.refines.state

calls_answers : {l l' : Lent} {g g' : Logs} {c c' : Core} {h : List Event} → Calls l g c h l' g' c' → h ≡ history (state_of l g c) (steps_of h)
unfolding history
calls_answers no_call = refl
calls_answers (call {l = l} {g = g} {c = c} {h = h} o b b' p q rest) =
    let s = step_in o (places_of b) in
    ap (λ (t : List Event). event_of o b b' p ∷ t) (calls_answers rest ∙ ap (λ (σ : State). history σ (steps_of h)) q.refines.state)
    ∙ ap (λ (a : Answer). record { step = s; answer = a } ∷ history (next (state_of l g c) s) (steps_of h)) q.refines.says

calls_ready : {l l' : Lent} {g g' : Logs} {c c' : Core} {h : List Event} → Ready l g c → Calls l g c h l' g' c' → Ready l' g' c'
calls_ready r no_call = r
calls_ready r (call o b b' p q rest) = calls_ready q.refines.ready rest

-- ---- calls from a fresh map

-- the map of the state
pub map_in : (l : Lent) (g : Logs) (c : Core) → (state_of l g c).map ≡ map_of l c.sizes
unfolding state_of
map_in l g c = refl

-- what it is made with, of arrays that hold the state after some steps from a fresh map
pub reached_made : (l : Lent) (g : Logs) (c : Core) (d : Made) (ss : List Step) → state_of l g c ≡ final (fresh d) ss → made_of c ≡ d
unfolding state_of
reached_made l g c d ss e = ap (λ (σ : State). σ.made) e ∙ final_made (fresh d) ss

pub reached_good : (l : Lent) (g : Logs) (c : Core) (d : Made) (ss : List Step) → state_of l g c ≡ final (fresh d) ss → Ready l g c → GoodTuning d.tuning
reached_good l g c d ss e r =
    subst (λ (x : Made). GoodTuning x.tuning) (ap (λ (σ : State). σ.made) e ∙ final_made (fresh d) ss) r.kept.tuning

-- Demand 3 of any calls.
pub calls_serial : {l l' : Lent} {g g' : Logs} {c c' : Core} {h : List Event} {d : Made} → Fresh l g d c → Calls l g c h l' g' c' → SerialCalls d h l' g' c'
calls_serial {l} {l'} {g} {g'} {c} {c'} {h} {d} f q =
    let state : state_of l' g' c' ≡ final (fresh d) (steps_of h) = calls_state q ∙ ap (λ (σ : State). final σ (steps_of h)) f.state in
    let good : GoodTuning d.tuning = reached_good l' g' c' d (steps_of h) state (calls_ready f.ready q) in
    let answers : h ≡ history (fresh d) (steps_of h) = calls_answers q ∙ ap (λ (σ : State). history σ (steps_of h)) f.state in
    record {
      serial =
          subst (λ (es : List Event). SerialRun es (contents (map_of l' c'.sizes))) (sym answers)
          (subst (λ (m : MapState). SerialRun (history (fresh d) (steps_of h)) (contents m))
          (ap (λ (σ : State). σ.map) (sym state) ∙ map_in l' g' c') (every_run_is_serial d good (steps_of h)));
      answers = answers;
      state = state;
      ready = calls_ready f.ready q;
    }
