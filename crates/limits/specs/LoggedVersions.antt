-- A logged leaf version was given: it is not above the last one. Every step keeps this.
use Rattle.std.specs.Prelude.{ℕ, Bool, List, length, get_or, set}
use Rattle.std.proofs.Common.{le_trans, sym, subst, ⊎_elim}
use Rattle.std.proofs.Math.Bool.{true, false}
use Rattle.std.proofs.Math.Option.{Option, none, some}
use Rattle.std.proofs.Math.Seq.{set_out}
use Rattle.lists.specs.Tests.{pick, maybe, same, less}
use Rattle.lists.specs.TestLaws.{cases, same_true, same_false, less_true, less_false}
use Rattle.spec.specs.declared.Refusal.{Refusal}
use Rattle.spec.specs.Refusals.{ends}
use Rattle.spec.specs.Records.{Made}
use Rattle.spec.specs.Maps.{merge_at, oldest}
use Rattle.spec.specs.Steps.{Worker, free_worker, State, fresh, worker_of, beginning, access, locking, validating, installing, aborting, Step, act, merge, merge_oldest, step_worker, refusal, with_worker, with_map, with_counters, install_counted, at_stage, checked_as, dropped, merged, effect, after_refusal, next}
use Rattle.laws.specs.AccessLaws.{Old, none_old, accessed_old}
use Rattle.laws.specs.MergeLaws.{merges}
use Rattle.laws.specs.WorkerLaws.{set_same, set_other, worker_fresh}
use Rattle.limits.specs.Invariant.{Kept}

abbrev AllOld : ℕ → List Worker → Type 0
AllOld v xs = (w : ℕ) → Old v (get_or xs w free_worker).versions

pub record LoggedOld (σ : State) : Type 0 where
  pub old : (w : ℕ) → Old σ.counters.version (worker_of σ w).versions

set_old : (v : ℕ) (xs : List Worker) (w : ℕ) (x : Worker) → AllOld v xs → Old v x.versions → AllOld v (set xs w x)
set_old v xs w x a b u =
    ⊎_elim
    (λ e. subst (λ (j : ℕ). Old v (get_or (set xs w x) j free_worker).versions) (sym (same_true u w e)) here)
    (λ e. subst (λ (y : Worker). Old v y.versions) (sym (set_other xs w x u (same_false u w e))) (a u))
    (cases (same u w))
  where
    here : Old v (get_or (set xs w x) w free_worker).versions
    here =
        ⊎_elim
        (λ e. subst (λ (y : Worker). Old v y.versions) (sym (set_same xs w x (less_true w (length xs) e))) b)
        (λ e. subst (λ (ys : List Worker). Old v (get_or ys w free_worker).versions) (sym (set_out xs w x (less_false w (length xs) e))) (a w))
        (cases (less w (length xs)))

module _ {σ : State} (k : Kept σ) (h : AllOld σ.counters.version σ.workers) where
  own : (w : ℕ) → Old σ.counters.version (worker_of σ w).versions
  unfolding worker_of
  own w = h w

  dropped_old : (w : ℕ) → AllOld (dropped σ w).counters.version (dropped σ w).workers
  unfolding dropped with_worker with_map
  dropped_old w = set_old σ.counters.version σ.workers w free_worker h (none_old σ.counters.version)

  merged_old : (a : ℕ) → AllOld (merge_at σ.made.tuning σ.counters.version σ.map a).version σ.workers
  merged_old a w u m = le_trans (h w u m) (merges a k.tuning.cut k.map.slots k.map.records k.map.leaves).later

  granted_old : (s : Step) → AllOld (effect σ s).counters.version (effect σ s).workers
  unfolding effect install_counted with_worker with_map with_counters at_stage checked_as merged
  granted_old (act w beginning) = set_old σ.counters.version σ.workers w _ h (none_old σ.counters.version)
  granted_old (act w (access a)) = set_old σ.counters.version σ.workers w _ h (accessed_old σ w k.map.leaves (own w) a)
  granted_old (act w locking) = set_old σ.counters.version σ.workers w _ h (own w)
  granted_old (act w validating) = set_old σ.counters.version σ.workers w _ h (own w)
  granted_old (act w installing) = set_old σ.counters.version σ.workers w free_worker h (none_old σ.counters.version)
  granted_old (act w aborting) = dropped_old w
  granted_old (merge a) = merged_old a
  granted_old merge_oldest = merged_old (oldest σ.map)

  refused_old : (s : Step) (r : Refusal) → AllOld (after_refusal σ s r).counters.version (after_refusal σ s r).workers
  unfolding after_refusal
  refused_old s r = go (ends r) (step_worker s)
    where
      go : (b : Bool) (o : Option ℕ) → AllOld (pick b (maybe o σ (dropped σ)) σ).counters.version (pick b (maybe o σ (dropped σ)) σ).workers
      go true none = h
      go true (some w) = dropped_old w
      go false o = h

  next_old : (s : Step) → AllOld (next σ s).counters.version (next σ s).workers
  unfolding next
  next_old s = go (refusal σ s)
    where
      go : (o : Option Refusal) → AllOld (maybe o (effect σ s) (after_refusal σ s)).counters.version (maybe o (effect σ s) (after_refusal σ s)).workers
      go none = granted_old s
      go (some r) = refused_old s r

pub next_logged : {σ : State} → Kept σ → LoggedOld σ → (s : Step) → LoggedOld (next σ s)
unfolding worker_of
next_logged k h s = record { old = next_old k h.old s }

pub fresh_logged : (d : Made) → LoggedOld (fresh d)
fresh_logged d = record { old = λ w. subst (λ (x : Worker). Old 0 x.versions) (sym (worker_fresh d w)) (none_old 0) }
