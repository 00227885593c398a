-- What a step does to the addresses that wait and to how long they have waited: most steps nothing; an install adds younger
-- ones; a merge takes some in.
use Rattle.std.specs.Prelude.{ℕ, suc, ◌≡◌, ◌⊎◌, true, false, List}
use Rattle.std.proofs.Math.Path.{refl}
use Rattle.std.proofs.Common.{sym, subst, ⊎_elim}
use Rattle.std.proofs.Math.Logic.{inl, inr}
use Rattle.std.proofs.Math.Option.{Option, none, some}
use Rattle.lists.specs.Tests.{pick, maybe}
use Rattle.lists.specs.TestLaws.{cases, clash}
use Rattle.lists.specs.Options.{both_options}
use Rattle.lists.specs.Rows.{Row, look, keys, has}
use Rattle.spec.specs.declared.Refusal.{Refusal}
use Rattle.spec.specs.Records.{Write}
use Rattle.spec.specs.Refusals.{ends}
use Rattle.spec.specs.Maps.{merging, oldest}
use Rattle.spec.specs.Steps.{State, worker_of, beginning, access, locking, validating, installing, aborting, Step, act, abort, merge, merge_oldest, write_keys, refusal, with_worker, with_map, with_counters, install_counted, dropped, merged, merged_at, effect, causes, first_cause, next}
use Rattle.spec.specs.Waiting.{waits_since, is_merge_oldest, takes_in}
use Rattle.laws.specs.WaitingLaws.{lock_waits, unlock_waits, install_waits, merge_waits}
use Rattle.limits.specs.Invariant.{Kept}
use Rattle.limits.specs.Granting.{lock_passed, install_passed}
use Rattle.limits.specs.Refusing.{ends_validation, next_granted, refused_same, refused_ends}
use Rattle.limits.specs.Locking.{lockable}
use Rattle.limits.specs.Finishing.{installable}

-- Nothing that waits changes.
pub record WaitsSame (σ : State) (s : Step) (τ : State) : Type 0 where
  pub waits : (k : ℕ) → waits_since τ.map k ≡ waits_since σ.map k
  pub installs : τ.counters.installs ≡ σ.counters.installs
  pub other : is_merge_oldest s ≡ false

-- Writes begin to wait, or go on waiting.
pub record WaitsMore (σ : State) (s : Step) (τ : State) : Type 0 where
  pub writes : List (Row Write)
  pub waits :
      (k : ℕ) → waits_since τ.map k
      ≡ maybe (look writes k) (waits_since σ.map k)
      (λ (e : Write). some (maybe (waits_since σ.map k) (suc σ.counters.installs) (λ (u : ℕ). u)))
  pub installs : τ.counters.installs ≡ suc σ.counters.installs
  pub other : is_merge_oldest s ≡ false

-- A merge at an address takes what waits in its leaf.
pub record WaitsLess (σ : State) (s : Step) (τ : State) : Type 0 where
  pub at : ℕ
  pub waits : (k : ℕ) → waits_since τ.map k ≡ pick (has k (keys (merging σ.map at))) none (waits_since σ.map k)
  pub takes : (k : ℕ) → takes_in σ k s ≡ has k (keys (merging σ.map at))
  pub installs : τ.counters.installs ≡ σ.counters.installs
  pub oldest_first_lem : is_merge_oldest s ≡ true → at ≡ oldest σ.map

abbrev pub WaitChange : State → Step → State → Type 0
WaitChange σ s τ = WaitsSame σ s τ ⊎ (WaitsMore σ s τ ⊎ WaitsLess σ s τ)

-- a merge is never refused
refusable : (σ : State) (s : Step) (r : Refusal) → refusal σ s ≡ some r → is_merge_oldest s ≡ false
unfolding refusal causes first_cause is_merge_oldest
refusable σ (act w a) r e = refl
refusable σ (merge a) r e = refl
refusable σ merge_oldest r e = both_options e refl

module _ {σ : State} (h : Kept σ) where
  dropped_same : (s : Step) (w : ℕ) → is_merge_oldest s ≡ false → WaitsSame σ s (dropped σ w)
  unfolding dropped with_worker with_map
  dropped_same s w o =
      record {
        waits = λ k. unlock_waits σ.map h.map.slots w (write_keys σ w) k;
        installs = refl;
        other = o;
      }

  merged_less : (s : Step) (a : ℕ) → ((k : ℕ) → takes_in σ k s ≡ has k (keys (merging σ.map a))) → (is_merge_oldest s ≡ true → a ≡ oldest σ.map)
      → WaitsLess σ s (merged_at σ a)
  unfolding merged with_map with_counters
  merged_less s a t o =
      record {
        at = a;
        waits = λ k. merge_waits σ.map h.map.slots σ.made.tuning σ.counters.version a k;
        takes = t;
        installs = refl;
        oldest_first_lem = o;
      }

  granted_waits : (s : Step) → refusal σ s ≡ none → WaitChange σ s (effect σ s)
  unfolding effect with_worker with_map with_counters install_counted is_merge_oldest takes_in
  granted_waits (act w beginning) e = inl (record { waits = λ k. refl; installs = refl; other = refl })
  granted_waits (act w (access a)) e = inl (record { waits = λ k. refl; installs = refl; other = refl })
  granted_waits (act w locking) e =
      inl
      (record {
        waits =
            λ k.
            lock_waits σ.map h.map.slots w (worker_of σ w).writes (lockable h w (lock_passed σ w e).1) k;
        installs = refl;
        other = refl;
      })
  granted_waits (act w validating) e = inl (record { waits = λ k. refl; installs = refl; other = refl })
  granted_waits (act w installing) e =
      inr
      (inl
      (record {
        writes = (worker_of σ w).writes;
        waits =
            λ k.
            install_waits σ.map h.map.slots (worker_of σ w).number (suc σ.counters.installs) (worker_of σ w).writes
            (installable h w (install_passed σ w e).stage) k;
        installs = refl;
        other = refl;
      }))
  granted_waits (act w aborting) e = inl (dropped_same (abort w) w refl)
  granted_waits (merge a) e = inr (inr (merged_less (merge a) a (λ k. refl) (λ t. clash t refl)))
  granted_waits merge_oldest e = inr (inr (merged_less merge_oldest (oldest σ.map) (λ k. refl) (λ t. refl)))

  refused_waits : (s : Step) (r : Refusal) → refusal σ s ≡ some r → WaitsSame σ s (next σ s)
  refused_waits s r e =
      ⊎_elim
      (λ t. subst (WaitsSame σ s) (sym (refused_ends σ s r e t)) (dropped_same s (ends_validation σ s r e t).worker (refusable σ s r e)))
      (λ t. subst (WaitsSame σ s) (sym (refused_same σ s r e t)) (record { waits = λ k. refl; installs = refl; other = refusable σ s r e }))
      (cases (ends r))

  pub wait_change : (s : Step) → WaitChange σ s (next σ s)
  wait_change s = go (refusal σ s) refl
    where
      go : (o : Option Refusal) → refusal σ s ≡ o → WaitChange σ s (next σ s)
      go none e = subst (WaitChange σ s) (sym (next_granted σ s e)) (granted_waits s e)
      go (some r) e = inl (refused_waits s r e)
