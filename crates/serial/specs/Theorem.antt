-- Demand 3 over the model: every list of steps from a fresh map is a serial run.
use Rattle.std.specs.Prelude.{ℕ, zero, suc, ◌<◌, ◌≡◌, Bool, List, [], ◌∷◌, length, replicate}
use Rattle.std.proofs.Common.{le_trans, le_of_eq, sym, ◌∙◌}
use Rattle.std.proofs.Math.Path.{refl, ap, subst}
use Rattle.std.proofs.Math.Logic.{⊎_elim}
use Rattle.std.proofs.Math.Bool.{true, false, not}
use mathlib.Core.List.Memᴰ
use Rattle.std.proofs.Math.Option.{Option, none, some, get_or}
use Rattle.lists.specs.Tests.{pick, maybe, less}
use Rattle.lists.specs.TestLaws.{cases, clash, less_true, less_false}
use Rattle.lists.specs.Rows.{Row, look, keys, Different}
use Rattle.lists.specs.RowLaws.{has_any, look_nil, rising_different}
use Rattle.spec.specs.declared.Refusal.{Refusal}
use Rattle.spec.specs.Refusals.{ends}
use Rattle.spec.specs.Records.{limits, Made, standard_map}
use Rattle.spec.specs.Slots.{slot_count, Content, idle, empty_slot, entries, content_of}
use Rattle.spec.specs.Maps.{fresh_map, outcome_of, current, contents, oldest}
use Rattle.spec.specs.Steps.{Worker, State, fresh, worker_of, Step, lock, validate, install, merge, merge_oldest, step_worker, refused, is_free, is_open, is_locked, is_checked, write_keys, Cause, no_worker, worker_free, wrong_stage, causes, first_cause, refusal, granted, effect, after_refusal, answer, next, final, history, Access, act, beginning, access, locking, validating, installing, aborting, begin, access_answer}
use Rattle.spec.specs.Claim.{Reading, nothing_read, is_granted, passed, goes_on, read_granted, advance, read_on, reading, list_after, SerialRun}
use Rattle.laws.specs.ContentLaws.{look_contents, rising_contents}
use Rattle.laws.specs.MapBounds.{lock_room}
use Rattle.spec.specs.GoodTuning.{GoodTuning}
use Rattle.laws.specs.WorkerLaws.{standard_tuning}
use Rattle.serial.specs.Stages.{free_free, checked_busy}
use Rattle.serial.specs.Concluding.{serial}
use Rattle.serial.specs.Model.{Fine, fine_fresh, worker_fresh, cause_passed, not-false}
use Rattle.serial.specs.Continuing.{Sound, IsOpen, access_granted, access_sound}
use Rattle.serial.specs.Locking.{begin_sound, Lockable, lock_sound, dropped_sound}
use Rattle.serial.specs.Finishing.{Validatable, validate_sound, install_sound, merge_sound, same_sound}

-- ---- what a granted step has passed

worker_there : (σ : State) (w : ℕ) → Fine σ → (no_worker σ w).holds ≡ false → w < length σ.workers
unfolding no_worker
worker_there σ w f e =
    le_trans (less_true w limits.workers (not-false (less w limits.workers) e)) (le_of_eq (sym f.crew))

module _ {σ : State} {ρ : Reading} (h : Sound σ ρ) where
  -- the causes that all steps of an open worker share
  is_open_lem : (w : ℕ) (cs : List Cause) → first_cause (no_worker σ w ∷ worker_free σ w ∷ wrong_stage is_open σ w ∷ cs) ≡ none
      → IsOpen σ w × (first_cause cs ≡ none)
  is_open_lem w cs e =
      let a = cause_passed (no_worker σ w) _ e in
      let b = cause_passed (worker_free σ w) _ a.1 in
      let c = cause_passed (wrong_stage is_open σ w) cs b.1 in
      (record { inside = worker_there σ w h.fine a.0; stage = not-false (is_open (worker_of σ w).stage) (stage c.0) }, c.1)
    where
      stage : (wrong_stage is_open σ w).holds ≡ false → not (is_open (worker_of σ w).stage) ≡ false
      stage q = unfold wrong_stage in q

  lockable : (w : ℕ) → refusal σ (lock w) ≡ none → IsOpen σ w × Lockable σ w
  unfolding refusal causes write_keys
  lockable w e =
      let a = is_open_lem w _ e in
      let fit = cause_passed _ _ a.1 in
      let covered = cause_passed _ _ fit.1 in
      let clear = cause_passed _ _ covered.1 in
      let b = cause_passed _ _ clear.1 in
      let c = cause_passed _ _ b.1 in (
        a.0,
        record {
          unheld = λ k q. has_any _ _ b.0 k q;
          room =
              lock_room σ.made.tuning σ.map (worker_of σ w).writes h.fine.tuning.roomy
              (rising_different (worker_of σ w).writes (h.fine.writes w)) (less_false σ.made.tuning.waiting_limit _ c.0);
          fit = fit.0;
          covered = covered.0;
          clear = clear.0;
        },
      )

  validatable : (w : ℕ) → refusal σ (validate w) ≡ none → Validatable σ w
  unfolding refusal causes
  validatable w e =
      let a = cause_passed (no_worker σ w) _ e in
      let b = cause_passed (worker_free σ w) _ a.1 in
      let c = cause_passed (wrong_stage is_locked σ w) _ b.1 in
      let d = cause_passed _ _ c.1 in
      let f = cause_passed _ _ d.1 in
      let g = cause_passed _ _ f.1 in
      record {
        inside = worker_there σ w h.fine a.0;
        stage = not-false (is_locked (worker_of σ w).stage) (stage c.0);
        unchanged = d.0;
        unlocked = f.0;
        no_phantom = g.0;
      }
    where
      stage : (wrong_stage is_locked σ w).holds ≡ false → not (is_locked (worker_of σ w).stage) ≡ false
      stage q = unfold wrong_stage in q

  installs_checked : (w : ℕ) → refusal σ (install w) ≡ none → is_checked (worker_of σ w).stage ≡ true
  unfolding refusal causes wrong_stage
  installs_checked w e =
      let a = cause_passed (no_worker σ w) _ e in
      let b = cause_passed (worker_free σ w) _ a.1 in
      let c = cause_passed (wrong_stage is_checked σ w) _ b.1 in
      not-false (is_checked (worker_of σ w).stage) c.0

  opened : (w : ℕ) (a : Access) → refusal σ (act w (access a)) ≡ none → IsOpen σ w
  unfolding refusal causes
  opened w a e = (is_open_lem w _ e).0

  begins : (w : ℕ) → refusal σ (begin w) ≡ none → w < length σ.workers
  unfolding refusal causes
  begins w e = worker_there σ w h.fine (cause_passed (no_worker σ w) _ e).0

  -- ---- steps

  granted_sound : (s : Step) → refusal σ s ≡ none → Sound (effect σ s) (advance ρ (record { step = s; answer = granted σ s }))
  unfolding effect granted advance read_granted is_granted
  granted_sound (act w beginning) e = begin_sound σ ρ w (begins w e) h
  granted_sound (act w (access a)) e =
      subst (λ (b : Bool). Sound (effect σ (act w (access a))) (pick b (goes_on ρ w (record { step = act w (access a); answer = access_answer σ w a })) (passed ρ)))
      (sym (access_granted σ w a)) (access_sound h (opened w a e) a)
  granted_sound (act w locking) e = let l = lockable w e in lock_sound h l.0 l.1
  granted_sound (act w validating) e = validate_sound h (validatable w e)
  granted_sound (act w installing) e = install_sound h w (installs_checked w e)
  granted_sound (act w aborting) e = dropped_sound w h
  granted_sound (merge a) e = merge_sound h a
  granted_sound merge_oldest e = merge_sound h (oldest σ.map)

  -- a refused step leaves everything, or ends its own transaction
  refused_sound : (s : Step) (r : Refusal) → Sound (after_refusal σ s r) (passed ρ)
  unfolding after_refusal
  refused_sound s r = ⊎_elim (λ e. rw e (go (step_worker s))) (λ e. rw e (same_sound h)) (cases (ends r))
    where
      go : (o : Option ℕ) → Sound (maybe o σ (Rattle.spec.specs.Steps.dropped σ)) (passed ρ)
      go none = same_sound h
      go (some w) = dropped_sound w h

  -- every step keeps the invariant
  step_sound : (s : Step) → Sound (next σ s) (advance ρ (record { step = s; answer = answer σ s }))
  unfolding next answer
  step_sound s = go (refusal σ s) refl
    where
      go : (o : Option Refusal) → refusal σ s ≡ o
          → Sound (maybe o (effect σ s) (after_refusal σ s)) (advance ρ (record { step = s; answer = maybe o (granted σ s) refused }))
      go none e = granted_sound s e
      go (some r) e = unfold advance is_granted in refused_sound s r

-- ---- runs

pub run_sound : (σ : State) (ρ : Reading) (ss : List Step) → Sound σ ρ → Sound (final σ ss) (read_on ρ (history σ ss))
unfolding final history read_on
run_sound σ ρ [] h = h
run_sound σ ρ (s ∷ ss) h =
    run_sound (next σ s) (advance ρ (record { step = s; answer = answer σ s })) ss (step_sound h s)

entries_empty : (n : ℕ) → entries (replicate n empty_slot) ≡ []
unfolding entries
entries_empty zero = refl
entries_empty (suc n) = entries_empty n

current_fresh : (k : ℕ) → current fresh_map k ≡ none
unfolding current content_of
current_fresh k =
    ap (λ (es : List (Row Content)). maybe (get_or (look es k) idle).pending (look fresh_map.records k) outcome_of) (entries_empty slot_count)
    ∙ ap (λ (o : Option Content). maybe (get_or o idle).pending (look fresh_map.records k) outcome_of) (look_nil k)
    ∙ look_nil k

pub fresh_sound : (d : Made) → GoodTuning d.tuning → Sound (fresh d) nothing_read
fresh_sound d h =
    record {
      fine = fine_fresh d h;
      invariant =
          record {
            numbers = refl;
            current = λ k. current_fresh k ∙ sym (unfold list_after in look_nil k);
            different = unfold keys Different in tt;
            done = λ r m. absurd (Memᴰ.not-nil m);
            begun = λ r m. absurd (Memᴰ.not-nil m);
            working = λ w e. clash (free w) e;
            apart = λ w v c u e. clash (free w) (checked_busy (worker_of (fresh d) w).stage c);
          };
    }
  where
    free : (w : ℕ) → is_free (worker_of (fresh d) w).stage ≡ true
    free w = ap (λ (x : Worker). is_free x.stage) (worker_fresh d w) ∙ free_free

-- Demand 3: for every list of steps, the claim holds of the history and the contents at the end.
pub every_run_is_serial : (d : Made) → GoodTuning d.tuning → (ss : List Step)
    → SerialRun (history (fresh d) ss) (contents (final (fresh d) ss).map)
unfolding reading
every_run_is_serial d k ss =
    let h = run_sound (fresh d) nothing_read ss (fresh_sound d k) in
    serial h.invariant (contents (final (fresh d) ss).map)
    (rising_contents (final (fresh d) ss).map h.fine.records)
    (look_contents (final (fresh d) ss).map h.fine.slots)

-- ... under document 01's limits
pub theorem : (g : Bool) (ss : List Step) → SerialRun (history (fresh (standard_map g)) ss) (contents (final (fresh (standard_map g)) ss).map)
theorem g ss = every_run_is_serial (standard_map g) standard_tuning ss
