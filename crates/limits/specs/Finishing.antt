-- Validate, install and merge keep the invariant.
use Prim.Native.Nat.{ℕ, suc, ◌+◌, ◌*◌, ◌<◌, ◌≤◌, zero-le, suc-le-suc}
use Rattle.std.proofs.Math.Nat.{le_refl, le_step}
use Rattle.std.specs.Prelude.{◌≡◌, true, length}
use Rattle.std.proofs.Math.Path.{refl, ap, subst}
use Rattle.std.proofs.Common.{sym, ◌∙◌, ⊎_elim}
use Rattle.std.proofs.Math.Option.{Option, none, some}
use Rattle.lists.specs.Tests.{present}
use Rattle.lists.specs.TestLaws.{cases, clash}
use Rattle.lists.specs.Options.{both_options, some_same}
use Rattle.lists.specs.Rows.{look}
use Rattle.lists.specs.RowLaws.{has_keys, rising_different}
use Rattle.spec.specs.Records.{limits, Write}
use Rattle.spec.specs.Slots.{Content, is_idle, content_of}
use Rattle.spec.specs.Maps.{MapState, merge_at}
use Rattle.spec.specs.Steps.{free_worker, State, worker_of, is_free, is_locked, is_checked, write_keys, with_worker, with_map, with_counters, install_counted, checked_as, installed_map, merged}
use Rattle.laws.specs.MapLaws.{Installable, idle_holder, install_says, written_by}
use Rattle.laws.specs.MergeLaws.{Merges, merges}
use Rattle.laws.specs.MapBounds.{install_bounded, merge_bounded}
use Rattle.laws.specs.PendingCounts.{pending_count, install_pending}
use Rattle.laws.specs.VersionBounds.{versions_per_merge, merge_spends}
use Rattle.laws.specs.WorkerLaws.{has_locks, locked_locks, checked_locks, locked_unchecked}
use Rattle.limits.specs.Invariant.{Kept, free_good}
use Rattle.limits.specs.Moving.{holder_of, moved_kept, count_spent, count_more, installs_validate, installs_install, owed_validate, owed_install, owed_merge}
use Rattle.limits.specs.Granting.{AtStage}
use Rattle.limits.specs.Opening.{inside}

module _ {σ : State} (h : Kept σ) where
  pub validate_kept : (w : ℕ) → AtStage is_locked σ w → σ.counters.number < limits.last_number
      → Kept (with_worker (with_counters σ (suc σ.counters.number) σ.counters.version) w (checked_as (suc σ.counters.number) (worker_of σ w)))
  unfolding with_worker with_counters checked_as write_keys is_checked
  validate_kept w a l =
      moved_kept h
      (record {
        inside = inside h w a.inside;
        map = h.map;
        worker =
            record {
              rising = (h.worker w).rising;
              writes = (h.worker w).writes;
              reads = (h.worker w).reads;
              versions = (h.worker w).versions;
              free = λ e. clash e (unfold is_free in refl);
              unchecked = λ e. clash refl e;
              checked = λ e. (suc-le-suc zero-le, le_refl (suc σ.counters.number));
            };
        others_keep = λ v k d e. refl;
        others_get = λ v k d e. e;
        holds = λ k t e. h.holds w k (locked_locks (worker_of σ w).stage a.stage) e;
        held_by_lem = λ k e. (unfold has_locks is_locked in refl, (h.held_by_lem w k e).1);
        kinds = λ k e t. h.kinds w k e (locked_locks (worker_of σ w).stage a.stage);
        later = le_step (le_refl σ.counters.number);
        numbers = l;
        installs =
            subst (λ (c : ℕ). σ.counters.installs + c ≤ suc σ.counters.number)
            (sym (count_more σ w _ (inside h w a.inside) (locked_unchecked (worker_of σ w).stage a.stage) refl))
            (installs_validate σ.counters.installs _ _ h.installs);
        versions =
            subst
            (λ (c : ℕ). σ.counters.version + versions_per_merge σ.made.tuning * (pending_count σ.map.slots + limits.write_limit * c)
            ≤ versions_per_merge σ.made.tuning * limits.write_limit * suc σ.counters.number)
            (sym (count_more σ w _ (inside h w a.inside) (locked_unchecked (worker_of σ w).stage a.stage) refl))
            (owed_validate (versions_per_merge σ.made.tuning) limits.write_limit _ _ _ _ h.versions);
      })

  -- ---- install

  -- the writes of a checked worker can be installed: it has the locks
  pub installable : (w : ℕ) → is_checked (worker_of σ w).stage ≡ true → Installable σ.map.slots (worker_of σ w).writes
  installable w t =
      record {
        held = λ k e. ⊎_elim (λ q. both_options (holder k e) (idle_holder (content_of σ.map.slots k) q)) (λ q. q) (cases (is_idle (content_of σ.map.slots k)));
        once = rising_different (worker_of σ w).writes (h.worker w).rising;
      }
    where
      holder : (k : ℕ) → present (look (worker_of σ w).writes k) ≡ true → holder_of σ.map k ≡ some w
      holder k e = h.holds w k (checked_locks (worker_of σ w).stage t) (unfold write_keys in has_keys (worker_of σ w).writes k ∙ e)

  pub install_kept : (w : ℕ) → AtStage is_checked σ w
      → Kept (install_counted (with_worker (with_map σ (installed_map σ w)) w free_worker))
  unfolding install_counted with_worker with_map write_keys
  install_kept w a =
      moved_kept h
      (record {
        inside = inside h w a.inside;
        map = install_bounded h.map (worker_of σ w).number (suc σ.counters.installs) (worker_of σ w).writes can;
        worker = free_good σ.counters.number;
        others_keep = λ v k d e. keep v k d e (look (worker_of σ w).writes k) refl;
        others_get = λ v k d e. get v k e (look (worker_of σ w).writes k) refl;
        holds = λ k t e. clash t (unfold has_locks is_locked is_checked in refl);
        held_by_lem = λ k e. absurd (gone k (get w k e (look (worker_of σ w).writes k) refl) e (look (worker_of σ w).writes k) refl);
        kinds = λ k e t. clash t (unfold has_locks is_locked is_checked in refl);
        later = le_refl σ.counters.number;
        numbers = h.numbers;
        installs =
            installs_install σ.counters.installs _ _ _
            (count_spent σ w free_worker (inside h w a.inside) a.stage (unfold is_checked in refl)) h.installs;
        versions =
            owed_install (versions_per_merge σ.made.tuning) limits.write_limit _ _ _ _ _ (length (worker_of σ w).writes) _
            (install_pending (worker_of σ w).number (suc σ.counters.installs) σ.map (worker_of σ w).writes h.map.slots can)
            (h.worker w).writes
            (count_spent σ w free_worker (inside h w a.inside) a.stage (unfold is_checked in refl)) h.versions;
      })
    where
      can : Installable σ.map.slots (worker_of σ w).writes
      can = installable w a.stage

      after : MapState
      after = installed_map σ w

      says : (k : ℕ) (o : Option Write) → look (worker_of σ w).writes k ≡ o
          → content_of after.slots k ≡ written_by (worker_of σ w).number (suc σ.counters.installs) o (content_of σ.map.slots k)
      says k o q =
          install_says (worker_of σ w).number (suc σ.counters.installs) σ.map (worker_of σ w).writes h.map.slots can k
          ∙ ap (λ (x : Option Write). written_by (worker_of σ w).number (suc σ.counters.installs) x (content_of σ.map.slots k)) q

      holder : (k : ℕ) (o : Option Write) → look (worker_of σ w).writes k ≡ o
          → holder_of after k ≡ (written_by (worker_of σ w).number (suc σ.counters.installs) o (content_of σ.map.slots k)).holder
      holder k o q = ap (λ (c : Content). c.holder) (says k o q)

      own : (k : ℕ) → present (look (worker_of σ w).writes k) ≡ true → holder_of σ.map k ≡ some w
      own k e = h.holds w k (checked_locks (worker_of σ w).stage a.stage) (has_keys (worker_of σ w).writes k ∙ e)

      keep : (v k : ℕ) → (v ≡ w → ⊥) → holder_of σ.map k ≡ some v → (o : Option Write) → look (worker_of σ w).writes k ≡ o
          → content_of after.slots k ≡ content_of σ.map.slots k
      keep v k d e none q = says k none q
      keep v k d e (some x) q = absurd (d (some_same (sym e ∙ own k (ap present q))))

      get : (v k : ℕ) → holder_of after k ≡ some v → (o : Option Write) → look (worker_of σ w).writes k ≡ o → holder_of σ.map k ≡ some v
      get v k e none q = sym (holder k none q) ∙ e
      get v k e (some x) q = both_options e (holder k (some x) q)

      -- no lock of w is left
      gone : (k : ℕ) → holder_of σ.map k ≡ some w → holder_of after k ≡ some w → (o : Option Write) → look (worker_of σ w).writes k ≡ o → ⊥
      gone k e f none q = clash (sym (has_keys (worker_of σ w).writes k) ∙ (h.held_by_lem w k e).1) (ap present q)
      gone k e f (some x) q = both_options f (holder k (some x) q)

  -- ---- merge

  pub merge_kept : (a : ℕ) → Kept (merged σ (merge_at σ.made.tuning σ.counters.version σ.map a))
  unfolding merged with_map with_counters worker_of write_keys
  merge_kept a =
      record {
        tuning = h.tuning;
        map = merge_bounded a h.tuning.cut h.map;
        worker_count = h.worker_count;
        worker = h.worker;
        holds = λ w k t e. r.same_holder k ∙ h.holds w k t e;
        held_by_lem = λ w k e. h.held_by_lem w k (sym (r.same_holder k) ∙ e);
        kinds = λ w k e t q. r.same_kind k w (h.holds w k t (has_keys (worker_of σ w).writes k ∙ ap present q)) ∙ h.kinds w k e t q;
        numbers = h.numbers;
        installs = h.installs;
        versions =
            owed_merge (versions_per_merge σ.made.tuning) limits.write_limit _ _ _ _ _ _
            (merge_spends a h.tuning.cut h.map) h.versions;
      }
    where
      r : Merges σ.counters.version σ.map (merge_at σ.made.tuning σ.counters.version σ.map a)
      r = merges a h.tuning.cut h.map.slots h.map.records h.map.leaves
