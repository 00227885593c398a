-- A merge, as it goes: the map and the last version are the model's, and each logged low still lies in its leaf.
use Rattle.std.specs.Prelude.{ℕ, ◌+◌, ◌*◌, ◌^◌, ◌<◌, ◌≤◌, ◌≡◌, true, false, get_or}
use Rattle.std.proofs.Common.{le_trans, le_of_eq, arith, sym, ◌∙◌, subst, ⊎_elim}
use Rattle.std.proofs.Math.Path.{refl, ap}
use mathlib.Core.List.{[], Memᴰ}
use Rattle.std.proofs.Math.Option.{none}
use Rattle.lists.specs.TestLaws.{cases}
use Rattle.spec.specs.Records.{limits, standard}
use Rattle.spec.specs.Leaves.{version_at, live}
use Rattle.spec.specs.Maps.{MapState, merge_at, oldest}
use Rattle.spec.specs.Steps as model
use Rattle.spec.specs.Steps.{State, merge, merge_oldest, counted, refusal, causes, first_cause, granted, effect, with_map, with_counters, merged}
use Rattle.laws.specs.LeafVersions.{GoodLeaves, version_live, live_version}
use Rattle.laws.specs.LeafCuts.{standard_cut}
use Rattle.laws.specs.MergeLaws as laws
use Rattle.laws.specs.VersionBounds.{versions_per_merge, standard_per}
use Rattle.limits.specs.Invariant.{standard_version}
use Rattle.sets.specs.Leaves.{version_in, versions_in, lows_in}
use Rattle.sets.specs.SetLaws.{length_rows}
use Rattle.lists.specs.Ascending.{mem_get_or}
use Rattle.map.specs.Views.{Lent, map_of}
use Rattle.merging.specs.declared.merge.Merged.{Merged}
use Rattle.merging.specs.Merges.{Merges}
use Rattle.transactions.specs.Cores.{Core}
use Rattle.transactions.specs.Answering.{yields_granted}
use Rattle.transactions.specs.Views.{Logs, made_of, state_of}
use Rattle.transactions.specs.ViewLaws.{worker_at_lem}
use Rattle.transactions.specs.Ready.{worker_at, Stored, Ready, Refines}
use Rattle.transactions.specs.ReadyLaws.{refines}

-- the core after a merge
abbrev pub merged_core : Core → Merged → Core
merged_core c r = record { workers = c.workers; sizes = r.sizes; counters = r.counters; guarded = c.guarded }

-- the version counter is far from its end
pub version_room : {l : Lent} {g : Logs} {c : Core} → Ready l g c → c.counters.version + versions_per_merge standard < 2 ^ 64
version_room {l} {g} {c} h =
    let e : c.counters.version ≤ versions_per_merge standard * limits.write_limit * limits.last_number = small in
    let p : versions_per_merge standard ≡ 129 = standard_per in
    omega arith
  where
    small : c.counters.version ≤ versions_per_merge standard * limits.write_limit * limits.last_number
    small = unfold state_of in standard_version h.kept refl

-- ---- a logged low stays in its leaf

-- a version that is live after the merge, and not above the last one of before, was not renewed
kept_low : {v : ℕ} {m : MapState} {r : Rattle.spec.specs.Maps.Merged} → laws.Merges v m r → GoodLeaves v m.leaves
    → (u low : ℕ) → u ≤ v → (live m.leaves u ≡ true → version_at m.leaves low ≡ u)
    → live r.map.leaves u ≡ true → version_at r.map.leaves low ≡ u
kept_low {v} {m} {r} k g u low b h e = ⊎_elim renewed stayed (cases (k.gone (version_at m.leaves j.0)))
  where
    j : (x : ℕ) × (version_at r.map.leaves x ≡ u)
    j = live_version k.leaves u e

    renewed : k.gone (version_at m.leaves j.0) ≡ true → version_at r.map.leaves low ≡ u
    renewed t =
        let a : v < version_at r.map.leaves j.0 = k.renewed j.0 t in
        let q : version_at r.map.leaves j.0 ≡ u = j.1 in
        absurd (let z : ⊥ = omega arith in z)

    stayed : k.gone (version_at m.leaves j.0) ≡ false → version_at r.map.leaves low ≡ u
    stayed t =
        let p : version_at m.leaves j.0 ≡ u = sym (k.kept_version j.0 t) ∙ j.1 in
        let l : live m.leaves u ≡ true = subst (λ (x : ℕ). live m.leaves x ≡ true) p (version_live g j.0) in
        let s : version_at m.leaves low ≡ u = h l in
        k.kept_version low (ap k.gone (s ∙ sym p) ∙ t) ∙ s

-- ---- the step

never_refused : (σ : State) (a : ℕ) → refusal σ (merge a) ≡ none
unfolding refusal causes first_cause
never_refused σ a = refl

module _ {l l' : Lent} {g : Logs} {c : Core} {a : ℕ} {r : Merged} (h : Ready l g c) (m : Merges l c.sizes c.counters a l' r) where
  merged_state : state_of l' g (merged_core c r) ≡ effect (state_of l g c) (merge a)
  unfolding state_of effect merged with_counters with_map
  merged_state =
      λ i. record {
        made = made_of c;
        counters = record { number = m.number i; version = m.version i; installs = m.installs i };
        map = m.map i;
        workers = Rattle.transactions.specs.Views.workers_from g c.workers 0;
      }

  good : GoodLeaves c.counters.version (map_of l c.sizes).leaves
  good = h.stored.map.bounded.leaves

  does : laws.Merges c.counters.version (map_of l c.sizes) (merge_at standard c.counters.version (map_of l c.sizes) a)
  does =
      laws.merges a standard_cut h.stored.map.bounded.slots h.stored.map.bounded.records good

  merged_stored : ((w : ℕ) → w < limits.workers → (i : ℕ) → i < (worker_at c w).leaves → get_or (versions_in g.leaves w (worker_at c w).leaves) i 0 ≤ c.counters.version)
      → Stored l' g (merged_core c r)
  merged_stored old =
      record {
        map = subst (Rattle.map.specs.MapHeld.MapHeld l' r.sizes) (sym m.version) m.held;
        reads = h.stored.reads;
        leaves = h.stored.leaves;
        writes = h.stored.writes;
        workers = h.stored.workers;
        counts = h.stored.counts;
        lows = λ w b i j e.
            subst (λ (x : MapState). version_at x.leaves (get_or (lows_in g.leaves w (worker_at c w).leaves) i 0) ≡ get_or (versions_in g.leaves w (worker_at c w).leaves) i 0) (sym m.map)
            (kept_low does good (get_or (versions_in g.leaves w (worker_at c w).leaves) i 0) (get_or (lows_in g.leaves w (worker_at c w).leaves) i 0) (old w b i j) (h.stored.lows w b i j)
            (subst (λ (x : MapState). live x.leaves (get_or (versions_in g.leaves w (worker_at c w).leaves) i 0) ≡ true) m.map e));
      }

  versions_at : (w : ℕ) → w < limits.workers → (model.worker_of (state_of l g c) w).versions ≡ versions_in g.leaves w (worker_at c w).leaves
  unfolding Rattle.workers.specs.Workers.worker_in
  versions_at w b =
      ap (λ (x : model.Worker). x.versions) (worker_at_lem l g c w (subst (λ (n : ℕ). w < n) (sym h.stored.workers) b))

  version_given : (w u : ℕ) → Memᴰ u (model.worker_of (state_of l g c) w).versions → u ≤ c.counters.version
  unfolding state_of
  version_given w u q = h.logged.old w u q

  -- a logged version is one of those that the model has logged
  logged_old : (w : ℕ) → w < limits.workers → (i : ℕ) → i < (worker_at c w).leaves → get_or (versions_in g.leaves w (worker_at c w).leaves) i 0 ≤ c.counters.version
  logged_old w b i j =
      version_given w (get_or (versions_in g.leaves w (worker_at c w).leaves) i 0)
      (subst (Memᴰ (get_or (versions_in g.leaves w (worker_at c w).leaves) i 0)) (sym (versions_at w b))
      (mem_get_or (versions_in g.leaves w (worker_at c w).leaves) i 0 (le_trans j (le_of_eq (sym (length_rows version_in (get_or g.leaves w []) (worker_at c w).leaves))))))

  pub merge_refines : Refines l g c (merge a) l' g (merged_core c r) (counted r.count)
  merge_refines =
      subst (Refines l g c (merge a) l' g (merged_core c r)) answer_is
      (refines h (yields_granted (state_of l g c) (merge a) (never_refused (state_of l g c) a)) merged_state (merged_stored logged_old))
    where
      answer_is : granted (state_of l g c) (merge a) ≡ counted r.count
      answer_is = unfold granted state_of in ap counted (sym m.count)

-- ---- a merge of the oldest is a merge at its address

pub oldest_refines : {l l' : Lent} {g : Logs} {c c' : Core} (a n : ℕ) → a ≡ oldest (map_of l c.sizes) → Refines l g c (merge a) l' g c' (counted n)
    → Refines l g c merge_oldest l' g c' (counted n)
unfolding state_of model.next model.answer refusal causes first_cause effect granted
oldest_refines {l} {l'} {g} {c} {c'} a n e h =
    record {
      ready = h.ready;
      state = h.state ∙ ap (λ (k : ℕ). model.next (state_of l g c) (merge k)) e;
      says = h.says ∙ ap (λ (k : ℕ). model.answer (state_of l g c) (merge k)) e;
    }
