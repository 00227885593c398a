-- A refused step leaves the state as it is, unless the refusal is 12, 13 or 14; these happen at a validation only, of a
-- locked worker, and end its transaction.
use Rattle.std.specs.Prelude.{ℕ, ◌≡◌, refl, Bool, true, false}
use Rattle.std.proofs.Common.{ap, ◌∙◌}
use Rattle.std.proofs.Math.Option.{Option, none, some}
use Rattle.lists.specs.Tests.{pick, maybe, less, at_most, within}
use Rattle.lists.specs.TestLaws.{clash, less_true}
use Rattle.lists.specs.Rows.{any}
use Rattle.spec.specs.declared.Refusal.{Refusal}
use Rattle.spec.specs.declared.Refusal.TheVariants.{NoWorker, WorkerFree, WorkerTaken, WrongStage, Backward, LogFull, WritesFull, ShortBuffer, Held, IndexletFull, MapFull, Changed, UnderLock, Phantom, Spent, Unfit, Uncovered, Overlap, ExportOpen, NoExport}
use Rattle.spec.specs.Refusals.{number_of, ends}
use Rattle.spec.specs.Steps.{State, worker_of, beginning, access, locking, validating, installing, aborting, Step, act, validate, merge, merge_oldest, step_worker, is_locked, Cause, no_worker, worker_free, wrong_stage, causes, refusal, effect, after_refusal, dropped, next}
use Rattle.spec.specs.Records.{limits}
use Rattle.laws.specs.AccessLaws.{access_mild}
use Rattle.laws.specs.WorkerLaws.{not-false, ended_later, mild_cause}
use Rattle.limits.specs.Granting.{AtStage}

-- the refusals that end the transaction are 12, 13 and 14
pub ends_numbers : (r : Refusal) → ends r ≡ within 12 14 (number_of r)
unfolding within at_most
ends_numbers NoWorker = refl
ends_numbers WorkerFree = refl
ends_numbers WorkerTaken = refl
ends_numbers WrongStage = refl
ends_numbers Backward = refl
ends_numbers LogFull = refl
ends_numbers WritesFull = refl
ends_numbers ShortBuffer = refl
ends_numbers Held = refl
ends_numbers IndexletFull = refl
ends_numbers MapFull = refl
ends_numbers Changed = refl
ends_numbers UnderLock = refl
ends_numbers Phantom = refl
ends_numbers Spent = refl
ends_numbers Unfit = refl
ends_numbers Uncovered = refl
ends_numbers Overlap = refl
ends_numbers ExportOpen = refl
ends_numbers NoExport = refl

-- The step is a validation of worker w, which is locked.
pub record Validation (σ : State) (s : Step) : Type 0 where
  pub worker : ℕ
  pub is : s ≡ validate worker
  pub locked : AtStage is_locked σ worker

ends_locked : (σ : State) (w : ℕ) (r : Refusal) → refusal σ (validate w) ≡ some r → ends r ≡ true → AtStage is_locked σ w
unfolding refusal causes no_worker worker_free wrong_stage
ends_locked σ w r e t =
    let a = ended_later _ _ r refl t e in
    let b = ended_later _ _ r refl t a.1 in
    let c = ended_later _ _ r refl t b.1 in
    record {
      inside = less_true w limits.workers (not-false (less w limits.workers) a.0);
      stage = not-false (is_locked (worker_of σ w).stage) c.0;
    }

-- a step none of whose causes ends the transaction
never_ends : (σ : State) (s : Step) (r : Refusal) → any (λ (c : Cause). ends c.refusal) (causes σ s) ≡ false
    → refusal σ s ≡ some r → ends r ≡ true → Validation σ s
unfolding refusal
never_ends σ s r m e t = clash t (mild_cause (causes σ s) r m e)

-- 12, 13 and 14 happen at a validation of a locked worker only
pub ends_validation : (σ : State) (s : Step) (r : Refusal) → refusal σ s ≡ some r → ends r ≡ true → Validation σ s
unfolding causes no_worker worker_free wrong_stage any
ends_validation σ (act w beginning) r e t = never_ends σ (act w beginning) r refl e t
ends_validation σ (act w (access a)) r e t = never_ends σ (act w (access a)) r (access_mild σ w a) e t
ends_validation σ (act w locking) r e t = never_ends σ (act w locking) r refl e t
ends_validation σ (act w validating) r e t = record { worker = w; is = refl; locked = ends_locked σ w r e t }
ends_validation σ (act w installing) r e t = never_ends σ (act w installing) r refl e t
ends_validation σ (act w aborting) r e t = never_ends σ (act w aborting) r refl e t
ends_validation σ (merge a) r e t = never_ends σ (merge a) r refl e t
ends_validation σ merge_oldest r e t = never_ends σ merge_oldest r refl e t

-- ---- the state after a step

pub next_granted : (σ : State) (s : Step) → refusal σ s ≡ none → next σ s ≡ effect σ s
unfolding next
next_granted σ s e = ap (λ (o : Option Refusal). maybe o (effect σ s) (after_refusal σ s)) e

next_refused : (σ : State) (s : Step) (r : Refusal) → refusal σ s ≡ some r → next σ s ≡ after_refusal σ s r
unfolding next
next_refused σ s r e = ap (λ (o : Option Refusal). maybe o (effect σ s) (after_refusal σ s)) e

-- all refusals but 12, 13 and 14 leave everything
pub refused_same : (σ : State) (s : Step) (r : Refusal) → refusal σ s ≡ some r → ends r ≡ false → next σ s ≡ σ
unfolding after_refusal
refused_same σ s r e t = next_refused σ s r e ∙ ap (λ (b : Bool). pick b (maybe (step_worker s) σ (dropped σ)) σ) t

-- those end the transaction of the worker that is validated
pub refused_ends : (σ : State) (s : Step) (r : Refusal) (e : refusal σ s ≡ some r) (t : ends r ≡ true)
    → next σ s ≡ dropped σ (ends_validation σ s r e t).worker
unfolding after_refusal step_worker
refused_ends σ s r e t =
    next_refused σ s r e
    ∙ ap (λ (b : Bool). pick b (maybe (step_worker s) σ (dropped σ)) σ) t
    ∙ ap (λ (x : Step). maybe (step_worker x) σ (dropped σ)) (ends_validation σ s r e t).is
