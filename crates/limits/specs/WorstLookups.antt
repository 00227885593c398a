-- Request 103, the worst look-up: in a map never merged, with no transaction ended except by install, no look-up, for whatever
-- address, examines more slots than addresses can wait or be locked; and a map that reaches this.
--
-- Such a map's steps take no entry out of the indexlet, so its slots are dense.
use Rattle.std.specs.Prelude.{ℕ, ◌<◌, ◌≤◌, max, ◌≡◌, Bool, true, false, List, [], ◌∷◌, length}
use Rattle.std.proofs.Common.{arith, ap, ◌∙◌, ⊎_elim}
use Rattle.std.proofs.Math.Path.{refl, sym, subst}
use Rattle.std.proofs.Math.Option.{Option, none, some}
use Rattle.lists.specs.Tests.{pick, maybe, less}
use Rattle.lists.specs.TestLaws.{cases, clash, less_yes}
use Rattle.lists.specs.Rows.{Row, any}
use Rattle.spec.specs.declared.Refusal.{Refusal}
use Rattle.spec.specs.Records.{limits, Tuning, standard, Made, standard_map}
use Rattle.spec.specs.Slots.{Content, entries, search}
use Rattle.spec.specs.GoodTuning.{GoodTuning}
use Rattle.spec.specs.Maps.{MapState, with_slots, lock_all, install_all, merging, merge_all, merge_at, oldest}
use Rattle.spec.specs.Steps.{State, fresh, beginning, access, locking, validating, installing, aborting, Step, act, merge, merge_oldest, refused, refusal, granted, with_worker, with_map, with_counters, install_counted, merged, merged_at, effect, answer, next, final, history, steps_of}
use Rattle.spec.specs.Examined.{is_abort, takes_out_by, takes_out}
use Rattle.spec.specs.Computing.{model}
use Rattle.spec.specs.Crowded.{homed_at, crowded_address, crowded_addresses, crowded_from, crowded}
use Rattle.laws.specs.DenseSlots.{Dense, fresh_dense, lock_dense, install_dense, examined_most}
use Rattle.laws.specs.WorkerLaws.{standard_tuning}
use Rattle.limits.specs.Invariant.{fresh_kept}
use Rattle.limits.specs.Keeping.{final_kept, final_made}
use Rattle.limits.specs.Refusing.{next_granted, refused_same}

-- a merge that takes nothing in changes nothing
nothing_merged : (s : Tuning) (v : ℕ) (m : MapState) (a : ℕ) (es : List (Row Content)) → less 0 (length es) ≡ false → (merge_all s v m a es).map ≡ m
unfolding merge_all
nothing_merged s v m a [] t = refl
nothing_merged s v m a (e ∷ es) t = clash (less_yes (omega arith)) t

module _ (σ : State) (d : Dense σ.map.slots) where
  merged_dense : (a : ℕ) → less 0 (length (merging σ.map a)) ≡ false → Dense (merged_at σ a).map.slots
  unfolding merged with_map with_counters merge_at
  merged_dense a t =
      subst (λ (m : MapState). Dense m.slots) (sym (nothing_merged σ.made.tuning σ.counters.version σ.map a (merging σ.map a) t)) d

  granted_dense : (s : Step) → takes_out_by s (granted σ s) ≡ false → Dense (effect σ s).map.slots
  unfolding effect granted takes_out_by is_abort with_worker with_map with_counters install_counted lock_all install_all with_slots
  granted_dense (act w beginning) t = d
  granted_dense (act w (access a)) t = d
  granted_dense (act w locking) t = lock_dense d _ _ _
  granted_dense (act w validating) t = d
  granted_dense (act w installing) t = install_dense d _ _ _ _
  granted_dense (act w aborting) t = clash refl t
  granted_dense (merge a) t = merged_dense a t
  granted_dense merge_oldest t = merged_dense (oldest σ.map) t

  next_dense : (s : Step) → takes_out (record { step = s; answer = answer σ s }) ≡ false → Dense (next σ s).map.slots
  unfolding takes_out answer
  next_dense s t = go (refusal σ s) refl
    where
      go : (o : Option Refusal) → refusal σ s ≡ o → Dense (next σ s).map.slots
      go none e =
          subst (λ (τ : State). Dense τ.map.slots) (sym (next_granted σ s e))
          (granted_dense s (sym (ap (λ (o : Option Refusal). takes_out_by s (maybe o (granted σ s) refused)) e) ∙ t))
      go (some r) e =
          subst (λ (τ : State). Dense τ.map.slots)
          (sym (refused_same σ s r e (unfold takes_out_by in sym (ap (λ (o : Option Refusal). takes_out_by s (maybe o (granted σ s) refused)) e) ∙ t)))
          d

final_dense : (σ : State) → Dense σ.map.slots → (ss : List Step) → any takes_out (history σ ss) ≡ false → Dense (final σ ss).map.slots
unfolding final history any
final_dense σ d [] t = d
final_dense σ d (s ∷ ss) t =
    ⊎_elim
    (λ q. clash (rw q) t)
    (λ q. final_dense (next σ s) (next_dense σ d s q) ss (sym (ap (λ (b : Bool). pick b true (any takes_out (history (next σ s) ss))) q) ∙ t))
    (cases (takes_out (record { step = s; answer = answer σ s })))

pub worst_look_up : (d : Made) → GoodTuning d.tuning → 0 < d.tuning.waiting_limit
    → (ss : List Step) → any takes_out (history (fresh d) ss) ≡ false
    → (k : ℕ) → (search limits.bytes (final (fresh d) ss).map.slots k).examined ≤ d.tuning.waiting_limit
worst_look_up d c p ss t k =
    let most : (search limits.bytes (final (fresh d) ss).map.slots k).examined ≤ max 1 (length (entries (final (fresh d) ss).map.slots))
    = examined_most (final_dense (fresh d) fresh_dense ss t) limits.bytes k in
    let few : length (entries (final (fresh d) ss).map.slots) ≤ d.tuning.waiting_limit
    = subst (λ (x : Made). length (entries (final (fresh d) ss).map.slots) ≤ x.tuning.waiting_limit) (final_made (fresh d) ss)
    (final_kept (fresh_kept d c) ss).map.waiting in
    omega arith

-- ---- a map that reaches it

-- its steps are answered so: the last address is found in the last of 192 slots
pub crowded_run : history (fresh (standard_map false)) (steps_of crowded) ≡ crowded
unfolding model homed_at crowded_address crowded_addresses crowded_from
crowded_run = refl

crowded_undisturbed : any takes_out crowded ≡ false
unfolding any is_abort takes_out_by takes_out less crowded_addresses crowded_from
crowded_undisturbed = refl

-- and no look-up there is worse
pub crowded_worst : (k : ℕ) → (search limits.bytes (final (fresh (standard_map false)) (steps_of crowded)).map.slots k).examined ≤ standard.waiting_limit
crowded_worst k =
    worst_look_up (standard_map false) standard_tuning (omega arith) (steps_of crowded) (ap (any takes_out) crowded_run ∙ crowded_undisturbed) k
