-- What holds of the state after every step (`Kept`): the map is within its limits, a worker's sets are within theirs, a
-- lock is held by exactly the locked and checked workers that have its address in their write sets, for what they have there,
-- commit numbers are within their limit, and the installs and the leaf versions given are bounded by the commit numbers given.
-- So no counter wraps.
--
-- The bound of the versions is a potential. A merge takes at most `versions_per_merge` versions and uses up a pending write;
-- an install turns a checked worker into at most `write_limit` pending writes; a validation makes a checked worker and
-- takes a commit number.
use Rattle.std.specs.Prelude.{ℕ, zero, suc, ◌+◌, ◌*◌, ◌^◌, ◌<◌, ◌≤◌, ◌≡◌, refl, true, List, length, replicate}
use Rattle.std.proofs.Common.{zero-le, le_of_eq, mul-zero, mul-le-mul_left, arith, sym, ◌∙◌, subst}
use Rattle.std.proofs.Math.Path.{ap}
use Rattle.std.proofs.Math.Bool.{false}
use Rattle.std.proofs.Math.Option.{some}
use Rattle.std.proofs.lemmas.List.{length-replicate}
use Rattle.lists.specs.Tests.{pick}
use Rattle.lists.specs.TestLaws.{clash}
use Rattle.lists.specs.Options.{both_options}
use Rattle.lists.specs.Rows.{look, has}
use Rattle.lists.specs.RowLaws.{rising_nil}
use Rattle.lists.specs.Sums.{total}
use Rattle.spec.specs.Records.{limits, Tuning, standard, Made, Write, is_put}
use Rattle.spec.specs.Slots.{empty_slots, entries, content_of}
use Rattle.spec.specs.Steps.{Worker, free_worker, State, fresh, worker_of, write_keys, is_free, is_locked, is_checked}
use Rattle.laws.specs.AccessLaws.{GoodWorker}
use Rattle.laws.specs.MapBounds.{Bounded, fresh_bounded}
use Rattle.laws.specs.PendingCounts.{pending_count, none_pending}
use Rattle.laws.specs.VersionBounds.{standard_per, versions_per_merge}
use Rattle.spec.specs.GoodTuning.{GoodTuning}
use Rattle.laws.specs.WorkerLaws.{worker_fresh, has_locks}

-- how many workers are checked
unfoldable pub checked_count : List Worker → ℕ
checked_count xs = total (λ (i : ℕ) (x : Worker). pick (is_checked x.stage) 1 0) xs

-- pending writes, and those that the checked workers may still install
abbrev owed : State → ℕ
owed σ = pending_count σ.map.slots + limits.write_limit * checked_count σ.workers

pub record Kept (σ : State) : Type 0 where
  pub tuning : GoodTuning σ.made.tuning
  pub map : Bounded σ.made.tuning σ.counters.version σ.map
  pub worker_count : length σ.workers ≡ limits.workers
  pub worker : (w : ℕ) → GoodWorker σ.counters.number (worker_of σ w)
  -- a locked or checked worker has the locks of its write set
  pub holds : (w k : ℕ) → has_locks (worker_of σ w).stage ≡ true → has k (write_keys σ w) ≡ true → (content_of σ.map.slots k).holder ≡ some w
  -- and there are no other locks
  pub held_by_lem : (w k : ℕ) → (content_of σ.map.slots k).holder ≡ some w → (has_locks (worker_of σ w).stage ≡ true) × (has k (write_keys σ w) ≡ true)
  -- a lock is for what its holder's write set has there
  pub kinds :
      (w k : ℕ) (e : Write) → has_locks (worker_of σ w).stage ≡ true → look (worker_of σ w).writes k ≡ some e
      → (content_of σ.map.slots k).for_put ≡ is_put e
  pub numbers : σ.counters.number ≤ limits.last_number
  -- an install uses up a checked transaction, which took a commit number
  pub installs : σ.counters.installs + checked_count σ.workers ≤ σ.counters.number
  pub versions :
      σ.counters.version + versions_per_merge σ.made.tuning * owed σ
      ≤ versions_per_merge σ.made.tuning * limits.write_limit * σ.counters.number

-- ---- what follows

version_limit : {σ : State} → Kept σ
    → σ.counters.version ≤ versions_per_merge σ.made.tuning * limits.write_limit * limits.last_number
version_limit {σ} h =
    let a : σ.counters.version + versions_per_merge σ.made.tuning * owed σ ≤ versions_per_merge σ.made.tuning * limits.write_limit * σ.counters.number
    = h.versions in
    let b : versions_per_merge σ.made.tuning * limits.write_limit * σ.counters.number ≤ versions_per_merge σ.made.tuning * limits.write_limit * limits.last_number
    = mul-le-mul_left (versions_per_merge σ.made.tuning * limits.write_limit) h.numbers in
    omega arith

-- under document 01's limits: 129 versions a merge, 16 writes a transaction, 1,000,000 commit numbers
pub standard_version : {σ : State} → Kept σ → σ.made.tuning ≡ standard → σ.counters.version ≤ versions_per_merge standard * limits.write_limit * limits.last_number
standard_version {σ} h e =
    subst (λ (s : Tuning). σ.counters.version ≤ versions_per_merge s * limits.write_limit * limits.last_number) e (version_limit h)

-- no counter wraps
pub standard_counters : {σ : State} → Kept σ → σ.made.tuning ≡ standard
    → (σ.counters.number < 2 ^ 64) × (σ.counters.version < 2 ^ 64) × (σ.counters.installs + 1 < 2 ^ 64)
standard_counters {σ} h e =
    let n : σ.counters.number ≤ limits.last_number = h.numbers in
    let v : σ.counters.version ≤ versions_per_merge standard * limits.write_limit * limits.last_number = standard_version h e in
    let p : versions_per_merge standard ≡ 129 = standard_per in
    let i : σ.counters.installs + checked_count σ.workers ≤ σ.counters.number = h.installs in
    (omega arith, omega arith, omega arith)

-- ---- a fresh map

pub free_good : (n : ℕ) → GoodWorker n free_worker
unfolding is_free is_checked
free_good n =
    record {
      rising = rising_nil Write;
      writes = zero-le;
      reads = zero-le;
      versions = zero-le;
      free = λ e. refl;
      unchecked = λ e. refl;
      checked = λ e. clash e refl;
    }

none_checked : (n : ℕ) → checked_count (replicate n free_worker) ≡ 0
unfolding checked_count total is_checked
none_checked zero = refl
none_checked (suc n) = let e : total (λ (i : ℕ) (x : Worker). pick (is_checked x.stage) 1 0) (replicate n free_worker) ≡ 0 = none_checked n in omega arith

at_most_none : (c : ℕ) → c ≡ 0 → 0 + c ≤ 0
at_most_none c e = omega arith

pub fresh_kept : (d : Made) → GoodTuning d.tuning → Kept (fresh d)
fresh_kept d h =
    record {
      tuning = h;
      map = fresh_bounded d.tuning;
      worker_count = length-replicate limits.workers free_worker;
      worker = λ w. subst (GoodWorker 0) (sym (worker_fresh d w)) (free_good 0);
      holds = λ w k t. clash t (unlocked w);
      held_by_lem = λ w k e. both_options e (unfold content_of entries look in refl);
      kinds = λ w k e t. clash t (unlocked w);
      numbers = zero-le;
      installs = at_most_none _ (none_checked limits.workers);
      versions = nothing;
    }
  where
    unlocked : (w : ℕ) → has_locks (worker_of (fresh d) w).stage ≡ false
    unlocked w = ap (λ (x : Worker). has_locks x.stage) (worker_fresh d w) ∙ (unfold has_locks is_locked is_checked in refl)

    nothing : 0 + versions_per_merge d.tuning * (pending_count empty_slots + limits.write_limit * checked_count (replicate limits.workers free_worker)) ≤ versions_per_merge d.tuning * limits.write_limit * 0
    nothing =
        le_of_eq (rw (none_pending, none_checked limits.workers, mul-zero limits.write_limit) (omega (arith, mul-zero (versions_per_merge d.tuning))))
