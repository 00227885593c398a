-- Lock and the end of a transaction (abort, and refusals 12, 13 and 14) keep the invariant.
use Rattle.std.specs.Prelude.{ℕ, ◌<◌, ◌≡◌, Bool, true, not}
use Rattle.std.proofs.Math.Nat.{le_refl}
use Rattle.std.proofs.Math.Path.{refl, sym, ap}
use Rattle.std.proofs.Common.{◌∙◌}
use Rattle.std.proofs.Math.Logic.{⊎_elim}
use Rattle.std.proofs.Math.Bool.{false}
use Rattle.std.proofs.Math.Option.{Option, none, some}
use Rattle.lists.specs.Tests.{pick, maybe, present, same}
use Rattle.lists.specs.TestLaws.{cases, clash, same_true, same_false}
use Rattle.lists.specs.Options.{both_options, some_same}
use Rattle.lists.specs.Rows.{look, keys, has}
use Rattle.lists.specs.RowLaws.{has_keys, rising_different}
use Rattle.spec.specs.declared.Stage.TheVariants.{Locked}
use Rattle.spec.specs.Records.{limits, Write}
use Rattle.spec.specs.Slots.{Content, content_of}
use Rattle.spec.specs.Maps.{MapState, held_by_other, without_lock, lock_all, unlock_all}
use Rattle.spec.specs.Steps.{free_worker, State, worker_of, is_free, is_open, is_locked, is_checked, locked_by_other, write_keys, with_worker, with_map, at_stage, dropped}
use Rattle.laws.specs.MapLaws.{LockRoom, locked_by, unlocked, unlocked_other, lock_says, unlock_says}
use Rattle.laws.specs.MapBounds.{lock_room, lock_bounded, unlock_bounded}
use Rattle.laws.specs.PendingCounts.{lock_pending, unlock_pending}
use Rattle.laws.specs.VersionBounds.{versions_per_merge}
use Rattle.laws.specs.WorkerLaws.{not-false, has_locks, open_no_locks, no_locks_unchecked}
use Rattle.limits.specs.Invariant.{Kept, free_good}
use Rattle.limits.specs.Moving.{holder_of, moved_kept, count_fewer, installs_less, owed_less}
use Rattle.limits.specs.Granting.{AtStage, LockFits}
use Rattle.limits.specs.Opening.{inside}

-- ---- locks of others

held_other : (w v : ℕ) (c : Content) → c.holder ≡ some v → held_by_other w c ≡ not (same v w)
unfolding held_by_other
held_other w v c e = ap (λ (o : Option ℕ). maybe o false (λ (h : ℕ). not (same h w))) e

-- who has a lock once w has given its own up
gave_up : ℕ → Option ℕ → Option ℕ
gave_up w o = maybe o none (λ (h : ℕ). pick (same h w) none (some h))

unlocked_gave_up : (w : ℕ) (c : Content) → (unlocked w c).holder ≡ gave_up w c.holder
unfolding unlocked gave_up
unlocked_gave_up w c = go c.holder refl
  where
    go : (o : Option ℕ) → c.holder ≡ o
        → (maybe o c (λ (h : ℕ). pick (same h w) (without_lock c) c)).holder ≡ maybe o none (λ (h : ℕ). pick (same h w) none (some h))
    go none q = q
    go (some h) q = ⊎_elim (λ t. rw t) (λ t. rw t q) (cases (same h w))

gave_up_not_mine : (w : ℕ) (o : Option ℕ) → gave_up w o ≡ some w → ⊥
unfolding gave_up
gave_up_not_mine w none e = both_options e refl
gave_up_not_mine w (some h) e =
    ⊎_elim
    (λ t. both_options e (ap (λ (b : Bool). pick b none (some h)) t))
    (λ t. same_false h w t (some_same (sym (ap (λ (b : Bool). pick b none (some h)) t) ∙ e)))
    (cases (same h w))

gave_up_before : (w v : ℕ) (o : Option ℕ) → gave_up w o ≡ some v → o ≡ some v
unfolding gave_up
gave_up_before w v none e = e
gave_up_before w v (some h) e =
    ⊎_elim
    (λ t. both_options e (ap (λ (b : Bool). pick b none (some h)) t))
    (λ t. sym (ap (λ (b : Bool). pick b none (some h)) t) ∙ e)
    (cases (same h w))

-- ---- lock

module _ {σ : State} (h : Kept σ) where
  -- the entries and the write set fit the slots
  pub lockable : (w : ℕ) → LockFits σ w → LockRoom σ.map.slots (worker_of σ w).writes
  unfolding write_keys
  lockable w f =
      lock_room σ.made.tuning σ.map (worker_of σ w).writes h.tuning.roomy (rising_different (worker_of σ w).writes (h.worker w).rising) f.waiting

  pub lock_kept : (w : ℕ) → AtStage is_open σ w → LockFits σ w
      → Kept (with_worker (with_map σ (lock_all w σ.map (worker_of σ w).writes)) w (at_stage Locked (worker_of σ w)))
  unfolding with_worker with_map at_stage locked_by_other write_keys is_checked
  lock_kept w a f =
      moved_kept h
      (record {
        inside = inside h w a.inside;
        map =
            lock_bounded h.map h.tuning.roomy w (worker_of σ w).writes (rising_different (worker_of σ w).writes (h.worker w).rising) f.waiting
            f.addresses;
        worker =
            record {
              rising = (h.worker w).rising;
              writes = (h.worker w).writes;
              reads = (h.worker w).reads;
              versions = (h.worker w).versions;
              free = λ e. clash e (unfold is_free in refl);
              unchecked = λ e. (h.worker w).unchecked (no_locks_unchecked (worker_of σ w).stage before);
              checked = λ e. clash e refl;
            };
        others_keep = λ v k d e. says k none (unwritten v k d e);
        others_get = λ v k d e. get v k d e (look (worker_of σ w).writes k) refl;
        holds = λ k t e. mine k e (look (worker_of σ w).writes k) refl;
        held_by_lem = λ k e. (unfold has_locks is_locked is_checked in refl, only k e (look (worker_of σ w).writes k) refl);
        kinds = λ k e t q. ap (λ (c : Content). c.for_put) (says k (some e) q);
        later = le_refl σ.counters.number;
        numbers = h.numbers;
        installs = installs_less σ.counters.installs _ _ _ (count_fewer σ w _ (inside h w a.inside) refl) h.installs;
        versions =
            owed_less (versions_per_merge σ.made.tuning) limits.write_limit _ _ _ _ _ _
            (lock_pending w σ.map (worker_of σ w).writes h.map.slots (lockable w f))
            (count_fewer σ w _ (inside h w a.inside) refl) h.versions;
      })
    where
      before : has_locks (worker_of σ w).stage ≡ false
      before = open_no_locks (worker_of σ w).stage a.stage

      after : MapState
      after = lock_all w σ.map (worker_of σ w).writes

      says : (k : ℕ) (o : Option Write) → look (worker_of σ w).writes k ≡ o → content_of after.slots k ≡ locked_by w o (content_of σ.map.slots k)
      says k o q =
          lock_says w σ.map (worker_of σ w).writes h.map.slots (lockable w f) k
          ∙ ap (λ (x : Option Write). locked_by w x (content_of σ.map.slots k)) q

      -- a key that another has locked is not written
      unwritten : (v k : ℕ) → (v ≡ w → ⊥) → holder_of σ.map k ≡ some v → look (worker_of σ w).writes k ≡ none
      unwritten v k d e = go (look (worker_of σ w).writes k) refl
        where
          go : (o : Option Write) → look (worker_of σ w).writes k ≡ o → look (worker_of σ w).writes k ≡ none
          go none q = q
          go (some x) q =
              absurd
              (d (same_true v w (not-false (same v w)
              (sym (held_other w v (content_of σ.map.slots k) e) ∙ f.unheld k (has_keys (worker_of σ w).writes k ∙ ap present q)))))

      get : (v k : ℕ) → (v ≡ w → ⊥) → holder_of after k ≡ some v → (o : Option Write) → look (worker_of σ w).writes k ≡ o → holder_of σ.map k ≡ some v
      get v k d e none q = sym (ap (λ (c : Content). c.holder) (says k none q)) ∙ e
      get v k d e (some x) q = absurd (d (sym (some_same (sym (ap (λ (c : Content). c.holder) (says k (some x) q)) ∙ e))))

      mine : (k : ℕ) → has k (keys (worker_of σ w).writes) ≡ true → (o : Option Write) → look (worker_of σ w).writes k ≡ o → holder_of after k ≡ some w
      mine k e none q = clash (sym (has_keys (worker_of σ w).writes k) ∙ e) (ap present q)
      mine k e (some x) q = ap (λ (c : Content). c.holder) (says k (some x) q)

      only : (k : ℕ) → holder_of after k ≡ some w → (o : Option Write) → look (worker_of σ w).writes k ≡ o → has k (keys (worker_of σ w).writes) ≡ true
      only k e none q = clash (h.held_by_lem w k (sym (ap (λ (c : Content). c.holder) (says k none q)) ∙ e)).0 before
      only k e (some x) q = has_keys (worker_of σ w).writes k ∙ ap present q

  -- ---- the end of a transaction

  pub dropped_kept : (w : ℕ) → w < limits.workers → Kept (dropped σ w)
  unfolding dropped with_worker with_map write_keys is_checked
  dropped_kept w i =
      moved_kept h
      (record {
        inside = inside h w i;
        map = unlock_bounded h.map w (write_keys σ w);
        worker = free_good σ.counters.number;
        others_keep = λ v k d e.
            unlock_says w σ.map (write_keys σ w) h.map.slots k
            ∙ ⊎_elim
            (λ t. (rw t) ∙ unlocked_other w (content_of σ.map.slots k) v d e)
            (λ t. rw t)
            (cases (has k (write_keys σ w)));
        others_get = λ v k d e.
            ⊎_elim
            (λ t. gave_up_before w v (holder_of σ.map k) (sym (holder k ∙ mine k t) ∙ e))
            (λ t. sym (holder k ∙ left k t) ∙ e)
            (cases (has k (write_keys σ w)));
        holds = λ k t e. clash t (unfold has_locks is_locked in refl);
        held_by_lem = λ k e.
            ⊎_elim
            (λ t. absurd (gave_up_not_mine w (holder_of σ.map k) (sym (holder k ∙ mine k t) ∙ e)))
            (λ t. clash (h.held_by_lem w k (sym (holder k ∙ left k t) ∙ e)).1 t)
            (cases (has k (write_keys σ w)));
        kinds = λ k e t. clash t (unfold has_locks is_locked in refl);
        later = le_refl σ.counters.number;
        numbers = h.numbers;
        installs = installs_less σ.counters.installs _ _ _ (count_fewer σ w free_worker (inside h w i) refl) h.installs;
        versions =
            owed_less (versions_per_merge σ.made.tuning) limits.write_limit _ _ _ _ _ _
            (unlock_pending w σ.map (write_keys σ w) h.map.slots)
            (count_fewer σ w free_worker (inside h w i) refl) h.versions;
      })
    where
      holder : (k : ℕ) → holder_of (unlock_all w σ.map (write_keys σ w)) k
          ≡ (pick (has k (write_keys σ w)) (unlocked w (content_of σ.map.slots k)) (content_of σ.map.slots k)).holder
      holder k = ap (λ (c : Content). c.holder) (unlock_says w σ.map (write_keys σ w) h.map.slots k)

      mine : (k : ℕ) → has k (write_keys σ w) ≡ true
          → (pick (has k (write_keys σ w)) (unlocked w (content_of σ.map.slots k)) (content_of σ.map.slots k)).holder ≡ gave_up w (holder_of σ.map k)
      mine k t = (rw t) ∙ unlocked_gave_up w (content_of σ.map.slots k)

      left : (k : ℕ) → has k (write_keys σ w) ≡ false
          → (pick (has k (write_keys σ w)) (unlocked w (content_of σ.map.slots k)) (content_of σ.map.slots k)).holder ≡ holder_of σ.map k
      left k t = rw t
