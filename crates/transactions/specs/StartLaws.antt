-- The laws of a fresh start.
use Rattle.std.specs.Prelude.{ℕ, zero, suc, ◌<◌, ◌≡◌, refl, Bool, true, false, ◌∷◌, get_or, replicate}
use Rattle.std.proofs.Common.{zero-le, not-suc-le-zero, sym, subst}
use Rattle.std.proofs.Math.Path.{ap}
use Rattle.std.proofs.lemmas.List.{length-replicate}
use Rattle.spec.specs.Records.{limits, standard_map}
use Rattle.spec.specs.Maps.{fresh_map}
use Rattle.spec.specs.Steps.{State, fresh, free_worker}
use Rattle.laws.specs.WorkerLaws.{standard_tuning}
use Rattle.limits.specs.Invariant.{Kept, fresh_kept}
use Rattle.limits.specs.LoggedVersions.{LoggedOld, fresh_logged}
use Rattle.workers.specs.declared.Worker.{Worker}
use Rattle.workers.specs.Workers.{freed}
use Rattle.sets.specs.ReadLaws.{reads_zero, flag_back}
use Rattle.sets.specs.LeafLaws.{leaves_zero}
use Rattle.sets.specs.WriteLaws.{writes_zero}
use Rattle.workers.proofs.WorkerLaws.{free_in}
use Rattle.workers.specs.WordLaws.{workers_free}
use Rattle.map.specs.declared.Sizes.{Sizes}
use Rattle.map.specs.Views.{Lent}
use Rattle.map.specs.Entries.{MapBecomes}
use Rattle.transactions.specs.Cores.{Core}
use Rattle.transactions.specs.Views.{Logs, model_worker, workers_from, state_of, core_of}
use Rattle.transactions.specs.ViewLaws.{core_put}
use Rattle.transactions.specs.Ready.{worker_at, Within, Stored, Ready}
use Rattle.transactions.specs.Starts.{Fresh, no_logs, start_globals, start_core, guarded_core}

free_worker_lem : (g : Logs) (w : ℕ) → model_worker g freed w ≡ free_worker
free_worker_lem g w = free_in g.reads g.leaves g.writes w

free_workers : (g : Logs) (n w : ℕ) → workers_from g (replicate n freed) w ≡ replicate n free_worker
unfolding workers_from
free_workers g zero w = refl
free_workers g (suc n) w = λ i. free_worker_lem g w i ∷ free_workers g n (suc w) i

get_or_free : (n w : ℕ) → get_or (replicate n freed) w freed ≡ freed
get_or_free zero w = refl
get_or_free (suc n) zero = refl
get_or_free (suc n) (suc w) = get_or_free n w

module _ (l : Lent) (z : Sizes) (guarded : Bool) (b : MapBecomes l z 0 fresh_map) where
  fresh_state : state_of l no_logs (start_core z guarded) ≡ fresh (standard_map guarded)
  unfolding state_of
  fresh_state =
      λ i. record {
        made = standard_map (flag_back guarded i);
        counters = record { number = 0; version = 0; installs = 0 };
        map = b.map i;
        workers = free_workers no_logs limits.workers 0 i;
      }

  no_leaf : (w i : ℕ) → i < (worker_at (start_core z guarded) w).leaves → {A : Type 0} → A
  no_leaf w i h = absurd (not-suc-le-zero (subst (λ (x : Worker). i < x.leaves) (get_or_free limits.workers w) h))

  fresh_stored : Stored l no_logs (start_core z guarded)
  fresh_stored =
      record {
        map = b.held;
        reads = reads_zero;
        leaves = leaves_zero;
        writes = writes_zero;
        workers = length-replicate limits.workers freed;
        counts = λ w h. subst Within (sym (get_or_free limits.workers w)) (record { reads = zero-le; leaves = zero-le; writes = zero-le });
        lows = λ w h i j. no_leaf w i j;
      }

  fresh_core : Fresh l no_logs (standard_map guarded) (start_core z guarded)
  fresh_core =
      record {
        ready =
            record {
              stored = fresh_stored;
              kept = subst Kept (sym fresh_state) (fresh_kept (standard_map guarded) standard_tuning);
              logged = subst LoggedOld (sym fresh_state) (fresh_logged (standard_map guarded));
            };
        state = fresh_state;
      }

  pub fresh_start : Fresh l no_logs (standard_map guarded) (core_of (replicate limits.workers 0) (start_globals z guarded))
  fresh_start = subst (Fresh l no_logs (standard_map guarded)) (sym (core_put _ (start_globals z guarded) (workers_free limits.workers))) fresh_core

-- ---- the map is guarded from here on

-- a fresh map becomes a fresh guarded one
pub guarded_fresh : {l : Lent} {g : Logs} {c : Core} → Ready l g c → state_of l g c ≡ fresh (standard_map false)
    → Ready l g (guarded_core c) × (state_of l g (guarded_core c) ≡ fresh (standard_map true))
guarded_fresh {l} {g} {c} r e = (
  record {
    stored =
        record {
          map = r.stored.map;
          reads = r.stored.reads;
          leaves = r.stored.leaves;
          writes = r.stored.writes;
          workers = r.stored.workers;
          counts = r.stored.counts;
          lows = r.stored.lows;
        };
    kept = subst Kept (sym now) (fresh_kept (standard_map true) standard_tuning);
    logged = subst LoggedOld (sym now) (fresh_logged (standard_map true));
  },
  now,
)
  where
    with_guard : State → State
    with_guard σ = record { made = record { tuning = σ.made.tuning; guarded = true }; counters = σ.counters; map = σ.map; workers = σ.workers }

    now : state_of l g (guarded_core c) ≡ fresh (standard_map true)
    now = unfold state_of in ap with_guard e
