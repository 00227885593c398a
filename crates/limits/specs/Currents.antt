-- The current records change by a granted install only, which lays the worker's writes over. In particular a merge
-- alters none.
use Rattle.std.specs.Prelude.{ℕ, suc, ◌≡◌}
use Rattle.std.proofs.Math.Path.{refl, ap}
use Rattle.std.proofs.Common.{◌∙◌, ⊎_elim}
use Rattle.std.proofs.Math.Option.{Option, none, some}
use Rattle.lists.specs.Tests.{maybe}
use Rattle.lists.specs.TestLaws.{cases}
use Rattle.lists.specs.Rows.{look}
use Rattle.spec.specs.declared.Refusal.{Refusal}
use Rattle.spec.specs.Refusals.{ends}
use Rattle.spec.specs.Records.{outcome}
use Rattle.spec.specs.Maps.{current, oldest}
use Rattle.spec.specs.Steps.{State, worker_of, beginning, access, locking, validating, installing, aborting, Step, act, install, merge, merge_oldest, write_keys, causes, first_cause, refusal, with_worker, with_map, with_counters, install_counted, dropped, merged, effect, next}
use Rattle.laws.specs.MergeLaws.{merges}
use Rattle.laws.specs.CurrentLaws.{lock_current, unlock_current, install_current}
use Rattle.limits.specs.Invariant.{Kept}
use Rattle.limits.specs.Granting.{lock_passed, install_passed}
use Rattle.limits.specs.Refusing.{ends_validation, next_granted, refused_same, refused_ends}
use Rattle.limits.specs.Locking.{lockable}
use Rattle.limits.specs.Finishing.{installable}

-- the step is an install, and granted
pub record GrantedInstall (σ : State) (s : Step) : Type 0 where
  pub worker : ℕ
  pub is : s ≡ install worker
  pub granted : refusal σ s ≡ none

module _ {σ : State} (h : Kept σ) where
  dropped_current : (w k : ℕ) → current (dropped σ w).map k ≡ current σ.map k
  unfolding dropped with_worker with_map
  dropped_current w k = unlock_current w σ.map (write_keys σ w) h.map.slots k

  merged_current : (a k : ℕ) → current (effect σ (merge a)).map k ≡ current σ.map k
  unfolding effect merged with_map with_counters
  merged_current a k = (merges a h.tuning.cut h.map.slots h.map.records h.map.leaves).same_current k

  granted_current : (s : Step) → refusal σ s ≡ none → (GrantedInstall σ s → ⊥) → (k : ℕ) → current (effect σ s).map k ≡ current σ.map k
  unfolding effect merged with_worker with_map with_counters
  granted_current (act w beginning) e n k = refl
  granted_current (act w (access a)) e n k = refl
  granted_current (act w locking) e n k =
      lock_current w σ.map (worker_of σ w).writes h.map.slots (lockable h w (lock_passed σ w e).1) k
  granted_current (act w validating) e n k = refl
  granted_current (act w installing) e n k = absurd (n (record { worker = w; is = refl; granted = e }))
  granted_current (act w aborting) e n k = dropped_current w k
  granted_current (merge a) e n k = merged_current a k
  granted_current merge_oldest e n k = merged_current (oldest σ.map) k

  -- a step that is no granted install alters no current record
  pub current_same : (s : Step) → (GrantedInstall σ s → ⊥) → (k : ℕ) → current (next σ s).map k ≡ current σ.map k
  current_same s n k = go (refusal σ s) refl
    where
      go : (o : Option Refusal) → refusal σ s ≡ o → current (next σ s).map k ≡ current σ.map k
      go none e = ap (λ (τ : State). current τ.map k) (next_granted σ s e) ∙ granted_current s e n k
      go (some r) e =
          ⊎_elim
          (λ t. ap (λ (τ : State). current τ.map k) (refused_ends σ s r e t) ∙ dropped_current (ends_validation σ s r e t).worker k)
          (λ t. ap (λ (τ : State). current τ.map k) (refused_same σ s r e t))
          (cases (ends r))

  -- a merge alters no current record
  pub merge_current : (a k : ℕ) → current (next σ (merge a)).map k ≡ current σ.map k
  unfolding refusal causes first_cause
  merge_current a k = ap (λ (τ : State). current τ.map k) (next_granted σ (merge a) refl) ∙ merged_current a k

  -- a granted install leaves at each address of its writes the outcome, under the worker's commit number
  pub installed_current : (w : ℕ) → refusal σ (install w) ≡ none
      → (k : ℕ) → current (next σ (install w)).map k ≡ maybe (look (worker_of σ w).writes k) (current σ.map k) (outcome (worker_of σ w).number)
  installed_current w e k =
      ap (λ (τ : State). current τ.map k) (next_granted σ (install w) e)
      ∙ (unfold effect install_counted with_worker with_map in
      install_current (worker_of σ w).number (suc σ.counters.installs) σ.map (worker_of σ w).writes h.map.slots
      (installable h w (install_passed σ w e).stage) k)
