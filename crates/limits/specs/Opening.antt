-- A begin and the steps of an open transaction keep the invariant. Each rewrites its own worker, which has no locks before nor
-- after it.
use Rattle.std.specs.Prelude.{ℕ, ◌<◌, ◌≡◌, refl, false, length}
use Rattle.std.proofs.Common.{zero-le, le_trans, le_of_eq, sym, ap, ◌∙◌}
use Rattle.std.proofs.Math.Nat.{le_refl}
use Rattle.std.proofs.Math.Option.{none}
use Rattle.lists.specs.TestLaws.{clash}
use Rattle.lists.specs.RowLaws.{rising_nil}
use Rattle.spec.specs.declared.Stage.TheVariants.{Open}
use Rattle.spec.specs.Records.{limits, Write}
use Rattle.spec.specs.Steps.{Worker, free_worker, State, worker_of, is_free, is_open, is_locked, is_checked, with_worker, at_stage, Access, access_causes, first_cause, accessed}
use Rattle.laws.specs.VersionBounds.{versions_per_merge}
use Rattle.laws.specs.WorkerLaws.{has_locks, free_no_locks, open_no_locks, no_locks_unchecked, open_busy}
use Rattle.laws.specs.AccessLaws.{GoodWorker, accessed_stage, accessed_good}
use Rattle.limits.specs.Invariant.{Kept}
use Rattle.limits.specs.Moving.{moved_kept, count_fewer, installs_less, owed_less}
use Rattle.limits.specs.Granting.{AtStage}

-- ---- steps

module _ {σ : State} (h : Kept σ) where
  pub inside : (w : ℕ) → w < limits.workers → w < length σ.workers
  inside w i = le_trans i (le_of_eq (sym h.worker_count))

  -- a worker without locks, before and after, alone
  quiet : (w : ℕ) (x : Worker) → w < limits.workers → has_locks (worker_of σ w).stage ≡ false → has_locks x.stage ≡ false
      → GoodWorker σ.counters.number x → Kept (with_worker σ w x)
  unfolding with_worker
  quiet w x i o n g =
      moved_kept h
      (record {
        inside = inside w i;
        map = h.map;
        worker = g;
        others_keep = λ v k d e. refl;
        others_get = λ v k d e. e;
        holds = λ k t e. clash t n;
        held_by_lem = λ k e. clash (h.held_by_lem w k e).0 o;
        kinds = λ k e t. clash t n;
        later = le_refl σ.counters.number;
        numbers = h.numbers;
        installs = installs_less σ.counters.installs _ _ _ (count_fewer σ w x (inside w i) (no_locks_unchecked x.stage n)) h.installs;
        versions =
            owed_less (versions_per_merge σ.made.tuning) limits.write_limit _ _ _ _ _ _ (le_refl _)
            (count_fewer σ w x (inside w i) (no_locks_unchecked x.stage n)) h.versions;
      })

  pub begin_kept : (w : ℕ) → AtStage is_free σ w → Kept (with_worker σ w (at_stage Open free_worker))
  begin_kept w a =
      quiet w (at_stage Open free_worker) a.inside (free_no_locks (worker_of σ w).stage a.stage) (unfold at_stage has_locks is_locked is_checked in refl) good
    where
      good : GoodWorker σ.counters.number (at_stage Open free_worker)
      good =
          unfold at_stage in
          record {
            rising = rising_nil Write;
            writes = zero-le;
            reads = zero-le;
            versions = zero-le;
            free = λ e. clash e (unfold is_free in refl);
            unchecked = λ e. refl;
            checked = λ e. clash e (unfold is_checked in refl);
          }

  -- a step of an open transaction
  pub access_kept : (w : ℕ) (a : Access) → AtStage is_open σ w → first_cause (access_causes σ w a) ≡ none → Kept (with_worker σ w (accessed σ w a))
  access_kept w a p e =
      quiet w (accessed σ w a) p.inside unlocked_stage (ap has_locks (accessed_stage σ w a) ∙ unlocked_stage)
      (accessed_good σ w (h.worker w) (open_busy (worker_of σ w).stage p.stage) a e)
    where
      unlocked_stage : has_locks (worker_of σ w).stage ≡ false
      unlocked_stage = open_no_locks (worker_of σ w).stage p.stage
