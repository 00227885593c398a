-- What a granted step has passed, step by step: the tests of document 01's refusals, as facts.
use Rattle.std.specs.Prelude.{ℕ, ◌<◌, ◌≤◌, ◌≡◌, Bool, true, false}
use Rattle.std.proofs.Math.Option.{none}
use Rattle.lists.specs.Tests.{less}
use Rattle.lists.specs.TestLaws.{less_true, less_false}
use Rattle.lists.specs.Rows.{has}
use Rattle.lists.specs.RowLaws.{has_any}
use Rattle.spec.specs.declared.Stage.{Stage}
use Rattle.spec.specs.Maps.{waiting_with, addresses_with}
use Rattle.spec.specs.Steps.{State, worker_of, begin, lock, validate, install, abort, is_free, is_open, is_locked, is_checked, no_worker, locked_by_other, write_keys, causes, refusal, Access, access, act, access_causes, first_cause}
use Rattle.spec.specs.Records.{limits}
use Rattle.laws.specs.WorkerLaws.{not-false, cause_passed, stage_passed}

-- The worker is there, in a stage that passes the test.
pub record AtStage (right : Stage → Bool) (σ : State) (w : ℕ) : Type 0 where
  pub inside : w < limits.workers
  pub stage : right (worker_of σ w).stage ≡ true

-- ---- step by step

pub begin_passed : (σ : State) (w : ℕ) → refusal σ (begin w) ≡ none → AtStage is_free σ w
unfolding refusal causes no_worker
begin_passed σ w e =
    let a = cause_passed _ _ e in
    let b = cause_passed _ _ a.1 in
    record {
      inside = less_true w limits.workers (not-false (less w limits.workers) a.0);
      stage = not-false (is_free (worker_of σ w).stage) b.0;
    }

pub access_passed : (σ : State) (w : ℕ) (a : Access) → refusal σ (act w (access a)) ≡ none → AtStage is_open σ w × (first_cause (access_causes σ w a) ≡ none)
unfolding refusal causes
access_passed σ w a e = let p = stage_passed σ is_open w _ e in (record { inside = p.0; stage = p.1 }, p.2)

pub record LockFits (σ : State) (w : ℕ) : Type 0 where
  pub unheld : (k : ℕ) → has k (write_keys σ w) ≡ true → locked_by_other σ w k ≡ false
  pub waiting : waiting_with σ.map (write_keys σ w) ≤ σ.made.tuning.waiting_limit
  pub addresses : addresses_with σ.map (write_keys σ w) ≤ limits.map_limit

pub lock_passed : (σ : State) (w : ℕ) → refusal σ (lock w) ≡ none → AtStage is_open σ w × LockFits σ w
unfolding refusal causes
lock_passed σ w e =
    let a = stage_passed σ is_open w _ e in
    let fit = cause_passed _ _ a.2 in
    let covered = cause_passed _ _ fit.1 in
    let clear = cause_passed _ _ covered.1 in
    let b = cause_passed _ _ clear.1 in
    let c = cause_passed _ _ b.1 in
    let d = cause_passed _ _ c.1 in (
      record { inside = a.0; stage = a.1 },
      record {
        unheld = λ k q. has_any (locked_by_other σ w) (write_keys σ w) b.0 k q;
        waiting = less_false σ.made.tuning.waiting_limit (waiting_with σ.map (write_keys σ w)) c.0;
        addresses = less_false limits.map_limit (addresses_with σ.map (write_keys σ w)) d.0;
      },
    )

pub validate_passed : (σ : State) (w : ℕ) → refusal σ (validate w) ≡ none
    → AtStage is_locked σ w × (σ.counters.number < limits.last_number)
unfolding refusal causes
validate_passed σ w e =
    let a = stage_passed σ is_locked w _ e in
    let b = cause_passed _ _ a.2 in
    let c = cause_passed _ _ b.1 in
    let d = cause_passed _ _ c.1 in
    let f = cause_passed _ _ d.1 in (
      record { inside = a.0; stage = a.1 },
      less_true σ.counters.number limits.last_number (not-false (less σ.counters.number limits.last_number) f.0),
    )

pub install_passed : (σ : State) (w : ℕ) → refusal σ (install w) ≡ none → AtStage is_checked σ w
unfolding refusal causes
install_passed σ w e = let a = stage_passed σ is_checked w _ e in record { inside = a.0; stage = a.1 }

pub abort_passed : (σ : State) (w : ℕ) → refusal σ (abort w) ≡ none → w < limits.workers
unfolding refusal causes no_worker
abort_passed σ w e = less_true w limits.workers (not-false (less w limits.workers) (cause_passed _ _ e).0)
