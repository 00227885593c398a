-- Abort and install, as they go: refused by 1, 2 or 4, or the transaction is over.
use Rattle.std.specs.Prelude.{ℕ, ◌+◌, ◌^◌, ◌<◌, ◌≡◌, refl, false, List, length}
use Rattle.std.proofs.Common.{sym, ap, ◌∙◌, subst}
use Rattle.std.proofs.Math.Option.{some}
use Rattle.lists.specs.Rows.{Row, any}
use Rattle.spec.specs.declared.Refusal.{Refusal}
use Rattle.spec.specs.Records.{Write}
use Rattle.spec.specs.Refusals.{ends}
use Rattle.spec.specs.Steps as model
use Rattle.spec.specs.Steps.{State, worker_of, Step, abort, install, is_checked, Cause, no_worker, worker_free, wrong_stage, causes, first_cause, refusal, granted, effect, dropped}
use Rattle.laws.specs.WorkerLaws.{mild_cause}
use Rattle.laws.specs.MapLaws.{Installable}
use Rattle.limits.specs.Invariant.{standard_counters}
use Rattle.limits.specs.Finishing.{installable}
use Rattle.workers.specs.declared.Worker.{Worker}
use Rattle.workers.specs.Workers.{worker_in}
use Rattle.sets.specs.Reads.{ReadRows}
use Rattle.sets.specs.Leaves.{LeafSetRows}
use Rattle.sets.specs.Writes.{WriteRows, writes_in}
use Rattle.map.specs.Views.{slots_in, Lent}
use Rattle.transactions.specs.Cores.{Core}
use Rattle.std.specs.Prelude.{Ok, Err}
use Rattle.transactions.specs.Answering.{front, yields_granted}
use Rattle.transactions.specs.Admits.{any_stage, Turned, Entered}
use Rattle.transactions.specs.Views.{Logs, logs, state_of}
use Rattle.transactions.specs.ViewLaws.{worker_at_lem}
use Rattle.transactions.specs.Ready.{worker_at, Ready, Refines}
use Rattle.transactions.specs.ReadyLaws.{refines, refines_refused}
use Rattle.transactions.specs.Begins.{plain_in}
use Rattle.commits.specs.Commits.{Reaches, worker_inside, writes_are}

-- none of a step's causes ends the transaction
pub mild : (σ : State) (s : Step) (r : Refusal) → any (λ (c : Cause). ends c.refusal) (causes σ s) ≡ false → refusal σ s ≡ some r → ends r ≡ false
unfolding refusal
mild σ s r m e = mild_cause (causes σ s) r m e

-- ---- abort

abort_front : (σ : State) (w : ℕ) → refusal σ (abort w) ≡ front any_stage σ w
unfolding refusal causes front wrong_stage first_cause
abort_front σ w = refl

abort_mild : (σ : State) (w : ℕ) → any (λ (c : Cause). ends c.refusal) (causes σ (abort w)) ≡ false
unfolding causes no_worker worker_free any
abort_mild σ w = refl

module _ {l : Lent} {rs : List ReadRows} {ls : List LeafSetRows} {ws : List WriteRows} {c : Core} (w : ℕ) (k : Ready l (logs rs ls ws) c) where
  pub abort_refused : (r : Refusal) → Turned any_stage c.workers w r → Refines l (logs rs ls ws) c (abort w) l (logs rs ls ws) c (plain_in (Err r))
  abort_refused r t =
      let e : refusal (state_of l (logs rs ls ws) c) (abort w) ≡ some r
      = abort_front (state_of l (logs rs ls ws) c) w ∙ t.front_is l (logs rs ls ws) c refl in
      refines_refused k e (mild (state_of l (logs rs ls ws) c) (abort w) r (abort_mild (state_of l (logs rs ls ws) c) w) e)

  pub abort_granted : {l' : Lent} {c' : Core} (x : Worker) → Entered any_stage c.workers w x → Reaches (λ (σ : State). dropped σ w) l ws c l' c'
      → Refines l (logs rs ls ws) c (abort w) l' (logs rs ls ws) c' (plain_in (Ok tt))
  unfolding granted effect
  abort_granted x t q =
      refines k
      (yields_granted (state_of l (logs rs ls ws) c) (abort w)
      (abort_front (state_of l (logs rs ls ws) c) w ∙ t.front_is l (logs rs ls ws) c refl))
      (q.state rs ls k.stored) (q.stored rs ls k.stored)

-- ---- install

-- an installed transaction took a commit number, so the installs are far from their end
pub install_fits : {l : Lent} {g : Logs} {c : Core} → Ready l g c → c.counters.installs + 1 < 2 ^ 64
unfolding state_of
install_fits {l} {g} {c} k =
    let i : (c.counters.number < 2 ^ 64) × (c.counters.version < 2 ^ 64) × (c.counters.installs + 1 < 2 ^ 64) = standard_counters k.kept refl in
    i.2

install_front : (σ : State) (w : ℕ) → refusal σ (install w) ≡ front is_checked σ w
unfolding refusal causes front
install_front σ w = refl

install_mild : (σ : State) (w : ℕ) → any (λ (c : Cause). ends c.refusal) (causes σ (install w)) ≡ false
unfolding causes no_worker worker_free wrong_stage any
install_mild σ w = refl

slots_are : (l : Lent) (g : Logs) (c : Core) (ws : List (Row Write)) → Installable (state_of l g c).map.slots ws → Installable (slots_in l.slots) ws
unfolding state_of
slots_are l g c ws i = i

stage_is : (l : Lent) (g : Logs) (c : Core) (w : ℕ) → w < length c.workers → (worker_of (state_of l g c) w).stage ≡ (worker_at c w).stage
unfolding worker_in
stage_is l g c w h = ap (λ (x : model.Worker). x.stage) (worker_at_lem l g c w h)

module _ {l : Lent} {rs : List ReadRows} {ls : List LeafSetRows} {ws : List WriteRows} {c : Core} (w : ℕ) (k : Ready l (logs rs ls ws) c) where
  pub install_refused : (r : Refusal) → Turned is_checked c.workers w r → Refines l (logs rs ls ws) c (install w) l (logs rs ls ws) c (plain_in (Err r))
  install_refused r t =
      let e : refusal (state_of l (logs rs ls ws) c) (install w) ≡ some r
      = install_front (state_of l (logs rs ls ws) c) w ∙ t.front_is l (logs rs ls ws) c refl in
      refines_refused k e (mild (state_of l (logs rs ls ws) c) (install w) r (install_mild (state_of l (logs rs ls ws) c) w) e)

  -- a checked worker has the locks of its write set
  pub install_can : (x : Worker) → Entered is_checked c.workers w x → Installable (slots_in l.slots) (writes_in ws w (worker_at c w).writes)
  install_can x t =
      subst (Installable (slots_in l.slots)) (writes_are l (logs rs ls ws) c w inside)
      (slots_are l (logs rs ls ws) c _
      (installable k.kept w (ap is_checked (stage_is l (logs rs ls ws) c w inside ∙ ap (λ (y : Worker). y.stage) (sym t.is)) ∙ t.stage)))
    where
      inside : w < length c.workers
      inside = worker_inside k.stored w t.inside

  pub install_granted : {l' : Lent} {c' : Core} (x : Worker) → Entered is_checked c.workers w x → Reaches (λ (σ : State). effect σ (install w)) l ws c l' c'
      → Refines l (logs rs ls ws) c (install w) l' (logs rs ls ws) c' (plain_in (Ok tt))
  unfolding granted
  install_granted x t q =
      refines k
      (yields_granted (state_of l (logs rs ls ws) c) (install w)
      (install_front (state_of l (logs rs ls ws) c) w ∙ t.front_is l (logs rs ls ws) c refl))
      (q.state rs ls k.stored) (q.stored rs ls k.stored)
