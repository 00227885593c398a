-- Every step keeps the invariant (`next_kept`), and so it holds after every list of steps from a fresh map. Under
-- document 01's limits no list of steps passes any of them (`every_run`): 1,024 records, 1,025 leaves, 192 waiting and
-- locked addresses, a worker's 64, 32 and 16, 1,000,000 commit numbers, and the versions that these allow.
use Rattle.std.specs.Prelude.{◌+◌, ℕ, ◌*◌, ◌≤◌, ◌≡◌, Bool, List, [], ◌∷◌, ◌++◌, length}
use Rattle.std.proofs.Common.{arith, sym, ◌∙◌, subst, ⊎_elim}
use Rattle.std.proofs.Math.Path.{refl, ap}
use Rattle.std.proofs.Math.Option.{Option, none, some}
use Rattle.lists.specs.TestLaws.{cases}
use Rattle.lists.specs.Rows.{keys, distinct}
use Rattle.spec.specs.declared.Refusal.{Refusal}
use Rattle.spec.specs.Refusals.{ends}
use Rattle.spec.specs.Records.{limits, Tuning, standard, Made, standard_map}
use Rattle.spec.specs.Slots.{entries}
use Rattle.spec.specs.Maps.{oldest}
use Rattle.spec.specs.Steps.{State, fresh, worker_of, beginning, access, locking, validating, installing, aborting, Step, act, merge, merge_oldest, refusal, with_worker, with_map, with_counters, install_counted, dropped, merged, effect, next, final}
use Rattle.laws.specs.MapBounds.{record_count, leaf_limit_lem}
use Rattle.laws.specs.WorkerLaws.{standard_tuning}
use Rattle.limits.specs.Invariant.{Kept, fresh_kept, standard_version}
use Rattle.limits.specs.Granting.{begin_passed, access_passed, lock_passed, validate_passed, install_passed, abort_passed}
use Rattle.limits.specs.Refusing.{ends_validation, next_granted, refused_same, refused_ends}
use Rattle.limits.specs.Opening.{begin_kept, access_kept}
use Rattle.limits.specs.Locking.{lock_kept, dropped_kept}
use Rattle.limits.specs.Finishing.{validate_kept, install_kept, merge_kept}
use Rattle.laws.specs.VersionBounds.{versions_per_merge}

module _ {σ : State} (h : Kept σ) where
  granted_kept : (s : Step) → refusal σ s ≡ none → Kept (effect σ s)
  unfolding effect
  granted_kept (act w beginning) e = begin_kept h w (begin_passed σ w e)
  granted_kept (act w (access a)) e = let p = access_passed σ w a e in access_kept h w a p.0 p.1
  granted_kept (act w locking) e = let p = lock_passed σ w e in lock_kept h w p.0 p.1
  granted_kept (act w validating) e = let p = validate_passed σ w e in validate_kept h w p.0 p.1
  granted_kept (act w installing) e = install_kept h w (install_passed σ w e)
  granted_kept (act w aborting) e = dropped_kept h w (abort_passed σ w e)
  granted_kept (merge a) e = merge_kept h a
  granted_kept merge_oldest e = merge_kept h (oldest σ.map)

  refused_kept : (s : Step) (r : Refusal) → refusal σ s ≡ some r → Kept (next σ s)
  refused_kept s r e =
      ⊎_elim
      (λ t.
      subst Kept (sym (refused_ends σ s r e t))
      (dropped_kept h (ends_validation σ s r e t).worker (ends_validation σ s r e t).locked.inside))
      (λ t. subst Kept (sym (refused_same σ s r e t)) h)
      (cases (ends r))

-- every step keeps the invariant
pub next_kept : {σ : State} → Kept σ → (s : Step) → Kept (next σ s)
next_kept {σ} h s = go (refusal σ s) refl
  where
    go : (o : Option Refusal) → refusal σ s ≡ o → Kept (next σ s)
    go none e = subst Kept (sym (next_granted σ s e)) (granted_kept h s e)
    go (some r) e = refused_kept h s r e

pub final_kept : {σ : State} → Kept σ → (ss : List Step) → Kept (final σ ss)
unfolding final
final_kept h [] = h
final_kept {σ = σ} h (s ∷ ss) = final_kept {σ = next σ s} (next_kept h s) ss

-- ---- the limits stay what they are

next_made : (σ : State) (s : Step) → (next σ s).made ≡ σ.made
next_made σ s = go (refusal σ s) refl
  where
    granted_made : (x : Step) → (effect σ x).made ≡ σ.made
    granted_made (act w beginning) = unfold effect with_worker in refl
    granted_made (act w (access a)) = unfold effect with_worker in refl
    granted_made (act w locking) = unfold effect with_worker with_map in refl
    granted_made (act w validating) = unfold effect with_worker with_counters in refl
    granted_made (act w installing) = unfold effect install_counted with_worker with_map in refl
    granted_made (act w aborting) = unfold effect dropped with_worker with_map in refl
    granted_made (merge a) = unfold effect merged with_counters with_map in refl
    granted_made merge_oldest = unfold effect merged with_counters with_map in refl

    go : (o : Option Refusal) → refusal σ s ≡ o → (next σ s).made ≡ σ.made
    go none e = ap (λ (τ : State). τ.made) (next_granted σ s e) ∙ granted_made s
    go (some r) e =
        ⊎_elim
        (λ t. ap (λ (τ : State). τ.made) (refused_ends σ s r e t) ∙ (unfold dropped with_worker with_map in refl))
        (λ t. ap (λ (τ : State). τ.made) (refused_same σ s r e t))
        (cases (ends r))

pub final_made : (σ : State) (ss : List Step) → (final σ ss).made ≡ σ.made
unfolding final
final_made σ [] = refl
final_made σ (s ∷ ss) = final_made (next σ s) ss ∙ next_made σ s

-- ---- document 01's limits

-- What no list of steps passes.
pub record WithinLimits (σ : State) : Type 0 where
  pub records : length σ.map.records ≤ limits.map_limit
  pub leaves : length σ.map.leaves ≤ limits.map_limit + 1
  pub waiting : length (entries σ.map.slots) ≤ standard.waiting_limit
  pub addresses : distinct (keys σ.map.records ++ keys (entries σ.map.slots)) ≤ limits.map_limit
  pub reads : (w : ℕ) → length (worker_of σ w).reads ≤ limits.read_limit
  pub versions : (w : ℕ) → length (worker_of σ w).versions ≤ limits.leaf_set_limit
  pub writes : (w : ℕ) → length (worker_of σ w).writes ≤ limits.write_limit
  pub number : σ.counters.number ≤ limits.last_number
  pub installs : σ.counters.installs ≤ σ.counters.number
  pub version : σ.counters.version ≤ versions_per_merge standard * limits.write_limit * limits.last_number

at_most : (i c n : ℕ) → i + c ≤ n → i ≤ n
at_most i c n h = omega arith

standard_limits : {σ : State} → Kept σ → σ.made.tuning ≡ standard → WithinLimits σ
standard_limits {σ} h e =
    record {
      records = record_count h.map;
      leaves = leaf_limit_lem h.map;
      waiting = subst (λ (s : Tuning). length (entries σ.map.slots) ≤ s.waiting_limit) e h.map.waiting;
      addresses = h.map.addresses;
      reads = λ w. (h.worker w).reads;
      versions = λ w. (h.worker w).versions;
      writes = λ w. (h.worker w).writes;
      number = h.numbers;
      installs = at_most σ.counters.installs _ _ h.installs;
      version = standard_version h e;
    }

-- after every list of steps from a fresh map
pub every_run : (g : Bool) (ss : List Step) → WithinLimits (final (fresh (standard_map g)) ss)
every_run g ss = standard_limits (final_kept (fresh_kept (standard_map g) standard_tuning) ss) (ap (λ (d : Made). d.tuning) (final_made (fresh (standard_map g)) ss))
