-- The laws of begin.
use Rattle.std.specs.Prelude.{ℕ, ◌<◌, ◌≡◌, refl, Ok, Err}
use Rattle.std.proofs.Common.{zero-le, sym, ap, ◌∙◌, subst, inr}
use Rattle.spec.specs.declared.Refusal.{Refusal}
use Rattle.spec.specs.declared.Stage.TheVariants.{Open}
use Rattle.spec.specs.Records.{limits}
use Rattle.spec.specs.Steps.{begin, granted, effect, with_worker, at_stage, free_worker}
use Rattle.workers.specs.declared.Worker.{Worker}
use Rattle.workers.specs.Workers.{begun}
use Rattle.workers.proofs.WorkerLaws.{begin_in}
use Rattle.map.specs.Views.{Lent}
use Rattle.transactions.specs.Cores.{Core}
use Rattle.transactions.specs.Answering.{yields_granted}
use Rattle.transactions.specs.Admits.{Barred, Vacant}
use Rattle.transactions.specs.Views.{Logs, model_worker, state_of, core_with}
use Rattle.transactions.specs.ViewLaws.{same_logs, state_with}
use Rattle.transactions.specs.Ready.{Within, Stored}
use Rattle.transactions.specs.ReadyLaws.{refines, refines_refused}
use Rattle.transactions.specs.CoreLaws.{stored_put, lows_kept}
use Rattle.transactions.specs.Begins.{Begins}

-- ---- refused

pub begin_refused : (c : Core) (w : ℕ) (r : Refusal) → Barred c.workers w r → Begins c w c (Err r)
begin_refused c w r b = record { refines_so = λ l g k. refines_refused k (b.refuses l g c refl) b.mild }

-- ---- granted

-- a worker that has just begun, whatever its rows hold
begun_in : (g : Logs) (w : ℕ) → model_worker g begun w ≡ at_stage Open free_worker
begun_in g w = begin_in g.reads g.leaves g.writes w

begun_within : Within begun
begun_within = record { reads = zero-le; leaves = zero-le; writes = zero-le }

stored_begun : (l : Lent) (g : Logs) (c : Core) (w : ℕ) → w < limits.workers → Stored l g c → Stored l g (core_with c w begun)
stored_begun l g c w h t =
    stored_put l g w begun c.sizes h t t.map refl t.reads t.leaves t.writes (λ v d. refl) begun_within (lows_kept w begun h t (inr refl))

begins : (c : Core) (w : ℕ) (x : Worker) → Vacant c.workers w x → Begins c w (core_with c w begun) (Ok tt)
unfolding granted
begins c w x v =
    record {
      refines_so =
          λ l g k.
          refines k (yields_granted (state_of l g c) (begin w) (v.passes l g c refl))
          (state_with l g g c w begun (same_logs g w) ∙ ap (with_worker (state_of l g c) w) (begun_in g w) ∙ (unfold effect in refl))
          (stored_begun l g c w v.inside k.stored);
    }

-- y the worker after it
pub begin_granted : (c : Core) {c' : Core} (w : ℕ) (x y : Worker) → Vacant c.workers w x → y ≡ begun → c' ≡ core_with c w y → Begins c w c' (Ok tt)
begin_granted c w x y v e q =
    subst (λ (d : Core). Begins c w d (Ok tt)) (sym q) (subst (λ (z : Worker). Begins c w (core_with c w z) (Ok tt)) (sym e) (begins c w x v))
