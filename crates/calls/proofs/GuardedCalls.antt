-- Request 102 of any calls: from a fresh guarded map, whatever is called and whoever calls, no two present sections overlap.
use Rattle.std.specs.Prelude.{◌≡◌, true, List}
use Rattle.std.proofs.Common.{sym, ap, ◌∙◌, subst}
use Rattle.spec.specs.Records.{Made}
use Rattle.spec.specs.Guards.{NoOverlap}
use Rattle.spec.specs.Maps.{MapState, contents}
use Rattle.spec.specs.Steps.{State, Step, fresh, final, Event, steps_of}
use Rattle.serial.specs.NoOverlaps.{no_overlap}
use Rattle.map.specs.Views.{Lent, map_of}
use Rattle.transactions.specs.Cores.{Core}
use Rattle.transactions.specs.Views.{Logs, state_of}
use Rattle.transactions.specs.Starts.{Fresh}
use Rattle.transactions.specs.Ready.{Ready}
use Rattle.calls.specs.Calls.{Calls, SerialCalls}
use Rattle.calls.proofs.CallLaws.{map_in, calls_serial, reached_good}

-- of arrays that hold the state after some steps from a fresh guarded map
pub reached_apart : (l : Lent) (g : Logs) (c : Core) (d : Made) (ss : List Step) → state_of l g c ≡ final (fresh d) ss → Ready l g c → d.guarded ≡ true
    → NoOverlap (contents (map_of l c.sizes))
reached_apart l g c d ss e r t =
    subst (λ (m : MapState). NoOverlap (contents m)) (sym (ap (λ (σ : State). σ.map) e) ∙ map_in l g c) (no_overlap d t (reached_good l g c d ss e r) ss)

pub calls_apart : {l l' : Lent} {g g' : Logs} {c c' : Core} {h : List Event} {d : Made} → d.guarded ≡ true → Fresh l g d c → Calls l g c h l' g' c'
    → NoOverlap (contents (map_of l' c'.sizes))
calls_apart {l' = l'} {g' = g'} {c' = c'} {h = h} {d = d} t f q = let s : SerialCalls d h l' g' c' = calls_serial f q in reached_apart l' g' c' d (steps_of h) s.state s.ready t
