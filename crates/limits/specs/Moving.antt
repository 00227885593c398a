-- One worker moves on, perhaps with the map and the counters: what of it keeps the invariant.
use Rattle.std.specs.Prelude.{ℕ, suc, ◌+◌, ◌*◌, ◌<◌, ◌≤◌, ◌≡◌, true, false, length, get_or, set}
use Rattle.std.proofs.Common.{le_trans, mul-suc, mul-add, mul-le-mul_left, arith, sym, ap, ◌∙◌, subst, ⊎_elim, length-set}
use Rattle.std.proofs.Math.Option.{Option, some}
use Rattle.lists.specs.Tests.{pick, present, same}
use Rattle.lists.specs.TestLaws.{cases, same_true, same_false}
use Rattle.lists.specs.Rows.{look, keys, has}
use Rattle.lists.specs.RowLaws.{has_keys}
use Rattle.lists.specs.Sums.{total_set}
use Rattle.spec.specs.Records.{limits, Write, is_put}
use Rattle.spec.specs.Slots.{Content, content_of}
use Rattle.spec.specs.Maps.{MapState}
use Rattle.spec.specs.Steps.{Worker, free_worker, Counters, State, worker_of, write_keys, is_checked}
use Rattle.laws.specs.MapBounds.{Bounded}
use Rattle.laws.specs.PendingCounts.{pending_count}
use Rattle.laws.specs.VersionBounds.{versions_per_merge}
use Rattle.laws.specs.WorkerLaws.{set_same, set_other, has_locks}
use Rattle.laws.specs.AccessLaws.{GoodWorker}
use Rattle.limits.specs.Invariant.{checked_count, Kept}

-- the state with worker w as x, and another map and other counters
abbrev pub moved_to : State → ℕ → Worker → MapState → Counters → State
moved_to σ w x m c = record { made = σ.made; counters = c; map = m; workers = set σ.workers w x }

-- who has the lock of k
abbrev pub holder_of : MapState → ℕ → Option ℕ
holder_of m k = (content_of m.slots k).holder

-- What keeps the invariant, of worker w, the map and the counters.
pub record Moves (σ : State) (w : ℕ) (x : Worker) (m : MapState) (c : Counters) : Type 0 where
  pub inside : w < length σ.workers
  pub map : Bounded σ.made.tuning c.version m
  pub worker : GoodWorker c.number x
  -- the locks of the others stay, and they get none
  pub others_keep : (v k : ℕ) → (v ≡ w → ⊥) → holder_of σ.map k ≡ some v → content_of m.slots k ≡ content_of σ.map.slots k
  pub others_get : (v k : ℕ) → (v ≡ w → ⊥) → holder_of m k ≡ some v → holder_of σ.map k ≡ some v
  pub holds : (k : ℕ) → has_locks x.stage ≡ true → has k (keys x.writes) ≡ true → holder_of m k ≡ some w
  pub held_by_lem : (k : ℕ) → holder_of m k ≡ some w → (has_locks x.stage ≡ true) × (has k (keys x.writes) ≡ true)
  pub kinds : (k : ℕ) (e : Write) → has_locks x.stage ≡ true → look x.writes k ≡ some e → (content_of m.slots k).for_put ≡ is_put e
  pub later : σ.counters.number ≤ c.number
  pub numbers : c.number ≤ limits.last_number
  pub installs : c.installs + checked_count (set σ.workers w x) ≤ c.number
  pub versions :
      c.version + versions_per_merge σ.made.tuning * (pending_count m.slots + limits.write_limit * checked_count (set σ.workers w x))
      ≤ versions_per_merge σ.made.tuning * limits.write_limit * c.number

good_later : {n n' : ℕ} {x : Worker} → n ≤ n' → GoodWorker n x → GoodWorker n' x
good_later h g =
    record {
      rising = g.rising;
      writes = g.writes;
      reads = g.reads;
      versions = g.versions;
      free = g.free;
      unchecked = g.unchecked;
      checked = λ e. ((g.checked e).0, le_trans (g.checked e).1 h);
    }

pub moved_kept : {σ : State} {w : ℕ} {x : Worker} {m : MapState} {c : Counters} → Kept σ → Moves σ w x m c → Kept (moved_to σ w x m c)
unfolding worker_of write_keys
moved_kept {σ} {w} {x} {m} {c} h g =
    record {
      tuning = h.tuning;
      map = g.map;
      worker_count = length-set σ.workers w x ∙ h.worker_count;
      worker = λ v. at v (GoodWorker c.number) (λ e. g.worker) (λ d. good_later g.later (h.worker v));
      holds = λ v k.
          at v (λ (y : Worker). has_locks y.stage ≡ true → has k (keys y.writes) ≡ true → holder_of m k ≡ some v)
          (λ e t i. g.holds k t i ∙ ap some (sym e))
          (λ d t i. let s = h.holds v k t i in ap (λ (c : Content). c.holder) (g.others_keep v k d s) ∙ s);
      held_by_lem = λ v k.
          at v (λ (y : Worker). holder_of m k ≡ some v → (has_locks y.stage ≡ true) × (has k (keys y.writes) ≡ true))
          (λ e t. g.held_by_lem k (t ∙ ap some e))
          (λ d t. h.held_by_lem v k (g.others_get v k d t));
      kinds = λ v k e.
          at v (λ (y : Worker). has_locks y.stage ≡ true → look y.writes k ≡ some e → (content_of m.slots k).for_put ≡ is_put e)
          (λ q t i. g.kinds k e t i)
          (λ d t i.
          ap (λ (c : Content). c.for_put) (g.others_keep v k d (h.holds v k t (has_keys (worker_of σ v).writes k ∙ ap present i))) ∙ h.kinds v k e t i);
      numbers = g.numbers;
      installs = g.installs;
      versions = g.versions;
    }
  where
    -- what holds of worker v now: of w by what it has become, of others as before
    at : (v : ℕ) (P : Worker → Type 0) → (v ≡ w → P x) → ((v ≡ w → ⊥) → P (get_or σ.workers v free_worker)) → P (get_or (set σ.workers w x) v free_worker)
    at v P mine other =
        ⊎_elim
        (λ e. subst P (sym (ap (λ (u : ℕ). get_or (set σ.workers w x) u free_worker) (same_true v w e) ∙ set_same σ.workers w x g.inside)) (mine (same_true v w e)))
        (λ e. subst P (sym (set_other σ.workers w x v (same_false v w e))) (other (same_false v w e)))
        (cases (same v w))

-- ---- the checked workers

module _ (σ : State) (w : ℕ) (x : Worker) (i : w < length σ.workers) where
  counted : checked_count (set σ.workers w x) + pick (is_checked (worker_of σ w).stage) 1 0 ≡ checked_count σ.workers + pick (is_checked x.stage) 1 0
  unfolding checked_count worker_of
  counted = total_set (λ (n : ℕ) (y : Worker). pick (is_checked y.stage) 1 0) σ.workers w x free_worker i

  -- x is not checked
  pub count_fewer : is_checked x.stage ≡ false → checked_count (set σ.workers w x) ≤ checked_count σ.workers
  count_fewer e = let c = rw e at counted in omega arith

  -- w was checked, and x is not
  pub count_spent : is_checked (worker_of σ w).stage ≡ true → is_checked x.stage ≡ false
      → suc (checked_count (set σ.workers w x)) ≡ checked_count σ.workers
  count_spent t e = let c = rw (t, e) at counted in omega arith

  -- w was not checked, and x is
  pub count_more : is_checked (worker_of σ w).stage ≡ false → is_checked x.stage ≡ true
      → checked_count (set σ.workers w x) ≡ suc (checked_count σ.workers)
  count_more t e = let c = rw (t, e) at counted in omega arith

-- ---- installs

-- no more workers are checked
pub installs_less : (i c c' n : ℕ) → c' ≤ c → i + c ≤ n → i + c' ≤ n
installs_less i c c' n h l = omega arith

-- a validation
pub installs_validate : (i c n : ℕ) → i + c ≤ n → i + suc c ≤ suc n
installs_validate i c n h = omega arith

-- an install
pub installs_install : (i c c' n : ℕ) → suc c' ≡ c → i + c ≤ n → suc i + c' ≤ n
installs_install i c c' n e h = omega arith

-- ---- the potential

module _ (per limit : ℕ) where
  -- less is owed
  pub owed_less : (v p c p' c' n : ℕ) → p' ≤ p → c' ≤ c → v + per * (p + limit * c) ≤ per * limit * n → v + per * (p' + limit * c') ≤ per * limit * n
  owed_less v p c p' c' n hp hc h =
      let a : limit * c' ≤ limit * c = mul-le-mul_left limit hc in
      let b : per * (p' + limit * c') ≤ per * (p + limit * c) = mul-le-mul_left per (omega arith) in
      omega arith

  -- a validation
  pub owed_validate : (v p c n : ℕ) → v + per * (p + limit * c) ≤ per * limit * n → v + per * (p + limit * suc c) ≤ per * limit * suc n
  owed_validate v p c n h = omega (arith, h, mul-suc limit c, mul-suc (per * limit) n)

  -- an install
  pub owed_install : (v p c p' c' k n : ℕ) → p' ≤ p + k → k ≤ limit → suc c' ≡ c → v + per * (p + limit * c) ≤ per * limit * n
      → v + per * (p' + limit * c') ≤ per * limit * n
  owed_install v p c p' c' k n hp hk hc h =
      let a : limit * c ≡ limit * c' + limit = ap (λ (x : ℕ). limit * x) (sym hc) ∙ mul-suc limit c' in
      let b : per * (p' + limit * c') ≤ per * (p + limit * c) = mul-le-mul_left per (omega arith) in
      omega arith

  -- a merge
  pub owed_merge : (v v' p p' c n : ℕ) → v' + per * p' ≤ v + per * p → v + per * (p + limit * c) ≤ per * limit * n
      → v' + per * (p' + limit * c) ≤ per * limit * n
  owed_merge v v' p p' c n s h = omega (arith, mul-add per p (limit * c), mul-add per p' (limit * c))
