-- What the steps of an open transaction have in common: none ends it, each keeps its worker's stage and the limits of its sets, and
-- logs only versions that were given. All that is said of them one by one, but for the serial run, is said here.
use Rattle.std.specs.Prelude.{ℕ, ◌+◌, ◌<◌, ◌≤◌, ◌≡◌, ◌⊎◌, Bool, true, false, not}
use Rattle.std.proofs.Common.{le_trans, le_of_eq, arith, ap, ⊎_elim, length-append}
use Rattle.std.proofs.Math.Path.{refl}
use Rattle.std.proofs.Math.Logic.{inl, inr}
use mathlib.Core.List.Memᴰ
use mathlib.Core.List.{List, [], ◌∷◌, ◌++◌, Memᴰ}
use Rattle.std.proofs.Math.Option.{Option, none, some}
use Rattle.std.proofs.Math.ListN.{length}
use Rattle.lists.specs.Tests.{both, either, present, less}
use Rattle.lists.specs.TestLaws.{clash, less_true, less_false}
use Rattle.lists.specs.Rows.{Row, look, any, Rising}
use Rattle.lists.specs.Memberships.{rising_insert, insert_longer, insert_replaces}
use Rattle.spec.specs.Refusals.{ends}
use Rattle.spec.specs.Records.{limits, Record, Write, written, deleted}
use Rattle.spec.specs.Leaves.{meeting}
use Rattle.spec.specs.Guards.{Scan}
use Rattle.spec.specs.Steps.{Worker, free_worker, State, worker_of, Access, read_at, scan_over, put_to, remove_at, is_free, is_checked, own_write, scan_reads, scan_versions, remembered, Cause, read_log_full, scan_log_full, writes_full, access_causes, first_cause, logged, writing, read_rows, accessed}
use Rattle.laws.specs.LeafLaws.{GoodLeaves, meeting_old}
use Rattle.laws.specs.WorkerLaws.{not-false, cause_passed}

-- A worker within the limits, n the last commit number given.
pub record GoodWorker (n : ℕ) (x : Worker) : Type 0 where
  pub rising : Rising x.writes
  pub writes : length x.writes ≤ limits.write_limit
  pub reads : length x.reads ≤ limits.read_limit
  pub versions : length x.versions ≤ limits.leaf_set_limit
  -- a free worker has nothing
  pub free : is_free x.stage ≡ true → x ≡ free_worker
  -- a commit number is had from the check on
  pub unchecked : is_checked x.stage ≡ false → x.number ≡ 0
  pub checked : is_checked x.stage ≡ true → (1 ≤ x.number) × (x.number ≤ n)

-- none of the versions is above v
abbrev pub Old : ℕ → List ℕ → Type 0
Old v vs = (u : ℕ) → Memᴰ u vs → u ≤ v

pub none_old : (v : ℕ) → Old v []
none_old v u m = absurd (Memᴰ.not-nil m)

more_old : (v : ℕ) (us vs : List ℕ) → Old v us → Old v vs → Old v (us ++ vs)
more_old v us vs a b u m = ⊎_elim (λ q. a u q) (λ q. b u q) (Memᴰ.append_cases us m)

-- ---- workers that log or write

logged_good : {n : ℕ} {x : Worker} → GoodWorker n x → is_free x.stage ≡ false
    → (rs : List (Row (Option Record))) (vs : List ℕ) (cs : List Scan)
    → length x.reads + length rs ≤ limits.read_limit → length x.versions + length vs ≤ limits.leaf_set_limit
    → GoodWorker n (logged rs vs cs x)
unfolding logged
logged_good {n} {x} g b rs vs cs r l =
    record {
      rising = g.rising;
      writes = g.writes;
      reads = le_trans (le_of_eq (length-append x.reads rs)) r;
      versions = le_trans (le_of_eq (length-append x.versions vs)) l;
      free = λ e. clash e b;
      unchecked = g.unchecked;
      checked = g.checked;
    }

writing_good : {n : ℕ} {x : Worker} → GoodWorker n x → is_free x.stage ≡ false → (k : ℕ) (e : Write)
    → (present (look x.writes k) ≡ true) ⊎ (length x.writes < limits.write_limit)
    → GoodWorker n (writing k e x)
unfolding writing
writing_good {n} {x} g b k e f =
    record {
      rising = rising_insert k e x.writes g.rising;
      writes =
          ⊎_elim
          (λ t. le_trans (insert_replaces k e x.writes g.rising t) g.writes)
          (λ t. le_trans (insert_longer k e x.writes g.rising) t)
          f;
      reads = g.reads;
      versions = g.versions;
      free = λ t. clash t b;
      unchecked = g.unchecked;
      checked = g.checked;
    }

-- ---- tests by cases

both_false : (a b : Bool) → both a b ≡ false → (a ≡ false) ⊎ (b ≡ false)
both_false true b e = inr e
both_false false b e = inl e

either_false : (a b : Bool) → either a b ≡ false → (a ≡ false) × (b ≡ false)
either_false true b e = clash refl e
either_false false b e = (refl, e)

-- ---- step by step

module _ (σ : State) (w : ℕ) {n : ℕ} (g : GoodWorker n (worker_of σ w)) (busy : is_free (worker_of σ w).stage ≡ false) where
  -- a read of the worker's own write is not logged
  read_good : (k : ℕ) → read_log_full σ w k ≡ false → GoodWorker n (logged (read_rows σ w k) [] [] (worker_of σ w))
  unfolding read_log_full
  read_good k e =
      logged_good g busy (read_rows σ w k) [] [] (rows (own_write σ w k) refl (both_false (not (present (own_write σ w k))) _ e))
      (le_trans (le_of_eq (omega arith)) g.versions)
    where
      rows : (o : Option Write) → own_write σ w k ≡ o
          → (not (present (own_write σ w k)) ≡ false) ⊎ (not (less (length (worker_of σ w).reads) limits.read_limit) ≡ false)
          → length (worker_of σ w).reads + length (read_rows σ w k) ≤ limits.read_limit
      rows none q f =
          unfold read_rows in
          rw q
          (⊎_elim
          (λ t. clash (not-false (present (own_write σ w k)) t) (ap present q))
          (λ t.
          let l : length (worker_of σ w).reads < limits.read_limit
          = less_true (length (worker_of σ w).reads) limits.read_limit (not-false (less (length (worker_of σ w).reads) limits.read_limit) t) in
          omega arith)
          f)
      rows (some e) q f = unfold read_rows in rw q (let r : length (worker_of σ w).reads ≤ limits.read_limit = g.reads in omega arith)

  scan_good : (lo hi : ℕ) → scan_log_full σ w lo hi ≡ false
      → GoodWorker n (logged (scan_reads σ lo hi) (scan_versions σ lo hi) (remembered σ w lo hi ∷ []) (worker_of σ w))
  unfolding scan_log_full
  scan_good lo hi e =
      let d = either_false (less limits.read_limit (length (worker_of σ w).reads + length (scan_reads σ lo hi))) _ e in
      logged_good g busy (scan_reads σ lo hi) (scan_versions σ lo hi) (remembered σ w lo hi ∷ [])
      (less_false limits.read_limit (length (worker_of σ w).reads + length (scan_reads σ lo hi)) d.0)
      (less_false limits.leaf_set_limit (length (worker_of σ w).versions + length (scan_versions σ lo hi)) d.1)

  -- the address has a write already, or there is room for one
  write_good : (k : ℕ) (x : Write) → writes_full σ w k ≡ false → GoodWorker n (writing k x (worker_of σ w))
  unfolding writes_full own_write
  write_good k x e =
      writing_good g busy k x
      (⊎_elim
      (λ t. inl (not-false (present (look (worker_of σ w).writes k)) t))
      (λ t.
      inr (less_true (length (worker_of σ w).writes) limits.write_limit (not-false (less (length (worker_of σ w).writes) limits.write_limit) t)))
      (both_false (not (present (look (worker_of σ w).writes k))) _ e))

  -- each keeps the limits of its worker's sets
  pub accessed_good : (a : Access) → first_cause (access_causes σ w a) ≡ none → GoodWorker n (accessed σ w a)
  unfolding access_causes accessed
  accessed_good (read_at k) e = read_good k (cause_passed _ _ e).0
  accessed_good (scan_over lo hi b) e = scan_good lo hi (cause_passed _ _ (cause_passed _ _ e).1).0
  accessed_good (put_to k p) e = write_good k (written p) (cause_passed _ _ e).0
  accessed_good (remove_at k) e = write_good k deleted (cause_passed _ _ e).0

-- none is refused by what ends the transaction
pub access_mild : (σ : State) (w : ℕ) (a : Access) → any (λ (c : Cause). ends c.refusal) (access_causes σ w a) ≡ false
unfolding access_causes any
access_mild σ w (read_at k) = refl
access_mild σ w (scan_over lo hi b) = refl
access_mild σ w (put_to k p) = refl
access_mild σ w (remove_at k) = refl

-- the worker stays in its stage
pub accessed_stage : (σ : State) (w : ℕ) (a : Access) → (accessed σ w a).stage ≡ (worker_of σ w).stage
unfolding accessed logged writing
accessed_stage σ w (read_at k) = refl
accessed_stage σ w (scan_over lo hi b) = refl
accessed_stage σ w (put_to k p) = refl
accessed_stage σ w (remove_at k) = refl

-- what it logs was given
pub accessed_old : (σ : State) (w : ℕ) {v : ℕ} → GoodLeaves v σ.map.leaves → Old v (worker_of σ w).versions → (a : Access) → Old v (accessed σ w a).versions
unfolding accessed logged writing scan_versions
accessed_old σ w {v} g h (read_at k) = more_old v (worker_of σ w).versions [] h (none_old v)
accessed_old σ w {v} g h (scan_over lo hi b) = more_old v (worker_of σ w).versions (meeting σ.map.leaves lo hi) h (meeting_old g lo hi)
accessed_old σ w {v} g h (put_to k p) = h
accessed_old σ w {v} g h (remove_at k) = h
