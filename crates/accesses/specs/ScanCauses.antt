-- Why a scan is refused in the model, from what its tests told of the arrays.
use Rattle.std.specs.Prelude.{ℕ, ◌+◌, ◌<◌, ◌≤◌, ◌≡◌, Bool, true, false, get_or}
use Rattle.std.proofs.Math.Path.{refl, ap}
use Rattle.std.proofs.Common.{sym, ◌∙◌, subst}
use Rattle.std.proofs.Math.Logic.{⊎_elim}
use mathlib.Core.List.{List, [], ◌∷◌}
use Rattle.std.proofs.Math.Option.{Option, none, some}
use Rattle.std.proofs.Math.ListN.{length}
use Rattle.lists.specs.Tests.{either, maybe, less}
use Rattle.lists.specs.TestLaws.{less_yes, less_no}
use Rattle.lists.specs.Rows.{Row, between, map_items, any}
use Rattle.spec.specs.declared.Refusal.{Refusal}
use Rattle.spec.specs.declared.Refusal.TheVariants.{Backward, LogFull, ShortBuffer}
use Rattle.spec.specs.Refusals.{ends}
use Rattle.spec.specs.Records.{limits, Payload, Record, Write, own_view, payload_of}
use Rattle.spec.specs.Maps.{current, indexed_between}
use Rattle.spec.specs.Steps as model
use Rattle.spec.specs.Steps.{Places, shortest, State, worker_of, scan, is_open, scanned, scan_reads, scan_versions, scan_log_full, Cause, cause, no_worker, worker_free, wrong_stage, causes, first_cause, refusal, refused, access_causes}
use Rattle.laws.specs.WorkerLaws.{mild_cause}
use Rattle.workers.specs.declared.Worker.{Worker}
use Rattle.workers.specs.Workers.{worker_in}
use Rattle.sets.specs.Reads.{read_in}
use Rattle.sets.specs.Leaves as leaves
use Rattle.sets.specs.Writes.{writes_in}
use Rattle.sets.specs.SetLaws.{length_rows}
use Rattle.map.specs.Views.{leaves_in, Lent, map_of}
use Rattle.queries.specs.declared.Range.{Range}
use Rattle.queries.specs.QueryViews.{map_with, version_in, Spans, Meets}
use Rattle.ranges.specs.declared.plans.Task.{Task}
use Rattle.ranges.specs.Overlays.{overlay}
use Rattle.ranges.specs.Parts.{length_walk}
use Rattle.ranges.specs.Walks.{seen_from, own_from, rest}
use Rattle.ranges.specs.Scanning.{span, across, seen_in}
use Rattle.ranges.specs.Plans.{Planning, shown_of, Measured, Declined, backward, full, short, Passed}
use Rattle.transactions.specs.Cores.{Core}
use Rattle.transactions.specs.Answering.{cause_holds, cause_fails, front, front_first}
use Rattle.transactions.specs.Admits.{Turned, Entered}
use Rattle.transactions.specs.Views.{Logs, state_of}
use Rattle.transactions.specs.Ready.{Within, Ready, Refines}
use Rattle.transactions.specs.ReadyLaws.{refines_refused}
use Rattle.transactions.specs.CoreLaws.{ready_writable, worker_writable, worker_is, within}
use Rattle.map.specs.Parts.{records_held, slots_held, leaves_listed}

-- what the tests of a scan by worker w told, in the arrays of all workers
abbrev pub MeasuredIn : Lent → Logs → Core → ℕ → Worker → ℕ → ℕ → Task → Type 0
MeasuredIn l g c w x lo hi t = Measured l.rows l.lows l.slots (get_or g.writes w []) c.sizes x lo hi t

abbrev pub DeclinedIn : Lent → Logs → Core → ℕ → Worker → ℕ → ℕ → Places → Refusal → Type 0
DeclinedIn l g c w x lo hi b r = Declined l.rows l.lows l.slots (get_or g.writes w []) c.sizes x lo hi b r

abbrev pub PassedIn : Lent → Logs → Core → ℕ → Worker → ℕ → ℕ → Places → Task → Type 0
PassedIn l g c w x lo hi b t = Passed l.rows l.lows l.slots (get_or g.writes w []) c.sizes x lo hi b t

-- ---- the causes

-- those that come after the worker's
further : State → ℕ → ℕ → ℕ → Places → List Cause
further σ w lo hi b =
    cause (less hi lo) Backward
    ∷ cause (scan_log_full σ w lo hi) LogFull
    ∷ cause (less (shortest b) (length (scanned σ w lo hi))) ShortBuffer
    ∷ []

scan_causes : (σ : State) (w lo hi : ℕ) (b : Places) (o : Option Refusal) → front is_open σ w ≡ o
    → refusal σ (scan w lo hi b) ≡ maybe o (first_cause (further σ w lo hi b)) some
unfolding refusal causes access_causes further
scan_causes σ w lo hi b o e =
    front_first is_open σ w (further σ w lo hi b) ∙ ap (λ (p : Option Refusal). maybe p (first_cause (further σ w lo hi b)) some) e

mild : (σ : State) (w lo hi : ℕ) (b : Places) (r : Refusal) → refusal σ (scan w lo hi b) ≡ some r → ends r ≡ false
unfolding refusal causes access_causes no_worker worker_free wrong_stage any
mild σ w lo hi b r q = mild_cause (causes σ (scan w lo hi b)) r refl q

-- refused for the worker
pub scan_turned : {l : Lent} {g : Logs} {c : Core} {w : ℕ} {r : Refusal} → Ready l g c → Turned is_open c.workers w r → (lo hi : ℕ) (b : Places)
    → Refines l g c (scan w lo hi b) l g c (refused r)
scan_turned {l} {g} {c} {w} {r} k t lo hi b =
    let q : refusal (state_of l g c) (scan w lo hi b) ≡ some r = scan_causes (state_of l g c) w lo hi b (some r) (t.front_is l g c refl) in
    refines_refused k q (mild (state_of l g c) w lo hi b r q)

either_last : (b : Bool) → either b true ≡ true
either_last true = refl
either_last false = refl

-- ---- a worker that is open

module _ {l : Lent} {g : Logs} {c : Core} {w : ℕ} {x : Worker} (k : Ready l g c) (e : Entered is_open c.workers w x) where
  pub planning : Planning l.rows l.lows l.slots (get_or g.writes w []) c.sizes x
  planning =
      let t = k.stored.map.tables in
      let b : Within x = within is_open l g c w x k e in
      record {
        rows_held = records_held t;
        slots_held = slots_held t;
        listed = leaves_listed t;
        set = worker_writable (ready_writable k) e;
        reads = b.reads;
        leaves = b.leaves;
      }

  -- ---- what the model's tests look at

  reads_size : length (worker_of (state_of l g c) w).reads ≡ x.reads
  unfolding worker_in
  reads_size = ap (λ (y : model.Worker). length y.reads) (worker_is is_open l g c w x k e) ∙ length_rows read_in (get_or g.reads w []) x.reads

  versions_size : length (worker_of (state_of l g c) w).versions ≡ x.leaves
  unfolding worker_in
  versions_size =
      ap (λ (y : model.Worker). length y.versions) (worker_is is_open l g c w x k e) ∙ length_rows leaves.version_in (get_or g.leaves w []) x.leaves

  leaves_any : (lo hi : ℕ) → indexed_between (map_with l.rows c.sizes.records l.slots []) lo hi ≡ indexed_between (map_of l c.sizes) lo hi
  unfolding indexed_between current
  leaves_any lo hi = refl

  module _ (lo hi : ℕ) where
    -- the records passed
    pub scan_reads_lem : (a : Range) → Spans l.rows c.sizes.records lo hi a
        → across (seen_in l.rows c.sizes.records l.slots) a ≡ scan_reads (state_of l g c) lo hi
    unfolding scan_reads state_of
    scan_reads_lem a s = s.seen_are l.slots [] ∙ leaves_any lo hi

    reads_count : (a : Range) → Spans l.rows c.sizes.records lo hi a → length (scan_reads (state_of l g c) lo hi) ≡ span a
    reads_count a s =
        sym (ap length (scan_reads_lem a s)) ∙ length_walk (seen_in l.rows c.sizes.records l.slots) a.from (span a)

    -- and the leaves
    pub scan_versions_lem : (b : Range) → Meets l.lows c.sizes.leaves lo hi b
        → across (version_in (leaves_in l.lows l.versions c.sizes.leaves)) b ≡ scan_versions (state_of l g c) lo hi
    unfolding scan_versions state_of
    scan_versions_lem b s = s.versions_are l.versions c.counters.version k.stored.map.tables.versions_size k.stored.map.tables.leaves

    versions_count : (b : Range) → Meets l.lows c.sizes.leaves lo hi b → length (scan_versions (state_of l g c) lo hi) ≡ span b
    versions_count b s =
        sym (ap length (scan_versions_lem b s)) ∙ length_walk (version_in (leaves_in l.lows l.versions c.sizes.leaves)) b.from (span b)

    reads_are : scan_reads (state_of l g c) lo hi ≡ indexed_between (state_of l g c).map lo hi
    unfolding scan_reads
    reads_are = refl

    -- what is shown
    pub scan_shown : (t : Task) → MeasuredIn l g c w x lo hi t
        → shown_of l.rows l.slots (get_or g.writes w []) c.sizes t ≡ scanned (state_of l g c) w lo hi
    unfolding rest own_from seen_from scanned overlay worker_in
    scan_shown t d =
        ap (λ (ys : List (Row Write)). overlay (map_items own_view ys) (map_items payload_of (across (seen_in l.rows c.sizes.records l.slots) t.index)))
        d.own.rows_are
        ∙ ap (λ (xs : List (Row (Option Record))). overlay (map_items own_view (between lo hi (writes_in g.writes w x.writes))) (map_items payload_of xs))
        (scan_reads_lem t.index d.index ∙ reads_are)
        ∙ ap (λ (y : model.Worker). overlay (map_items own_view (between lo hi y.writes)) (map_items payload_of (indexed_between (state_of l g c).map lo hi)))
        (sym (worker_is is_open l g c w x k e))

    log_full : (a b : Range) → Spans l.rows c.sizes.records lo hi a → Meets l.lows c.sizes.leaves lo hi b
        → scan_log_full (state_of l g c) w lo hi ≡ either (less limits.read_limit (x.reads + span a)) (less limits.leaf_set_limit (x.leaves + span b))
    unfolding scan_log_full state_of
    log_full a b s t =
        λ i. either (less limits.read_limit (reads_size i + reads_count a s i)) (less limits.leaf_set_limit (versions_size i + versions_count b t i))

    not_full : (t : Task) → MeasuredIn l g c w x lo hi t → scan_log_full (state_of l g c) w lo hi ≡ false
    not_full t d =
        log_full t.index t.met d.index d.met
        ∙ (λ i.
        either (less_no {m = limits.read_limit} {n = x.reads + span t.index} d.reads_fit i)
        (less_no {m = limits.leaf_set_limit} {n = x.leaves + span t.met} d.leaves_fit i))

    module _ (b : Places) where
      past_front : refusal (state_of l g c) (scan w lo hi b) ≡ first_cause (further (state_of l g c) w lo hi b)
      past_front = scan_causes (state_of l g c) w lo hi b none (e.front_is l g c refl)

      past_backward : lo ≤ hi
          → refusal (state_of l g c) (scan w lo hi b)
          ≡ first_cause (cause (scan_log_full (state_of l g c) w lo hi) LogFull ∷ cause (less (shortest b) (length (scanned (state_of l g c) w lo hi))) ShortBuffer ∷ [])
      unfolding further
      past_backward h = past_front ∙ cause_fails (less hi lo) Backward _ (less_no {m = hi} {n = lo} h)

      past_full : (t : Task) → MeasuredIn l g c w x lo hi t
          → refusal (state_of l g c) (scan w lo hi b) ≡ first_cause (cause (less (shortest b) (length (scanned (state_of l g c) w lo hi))) ShortBuffer ∷ [])
      past_full t d = past_backward d.forward ∙ cause_fails (scan_log_full (state_of l g c) w lo hi) LogFull _ (not_full t d)

      -- the refusal is the model's
      declined_is : (r : Refusal) → DeclinedIn l g c w x lo hi b r → refusal (state_of l g c) (scan w lo hi b) ≡ some r
      unfolding further
      declined_is r (backward q h) =
          past_front ∙ cause_holds (less hi lo) Backward _ (less_yes {m = hi} {n = lo} h) ∙ ap (λ (y : Refusal). some y) (sym q)
      declined_is r (full q a d f s t h) =
          past_backward f
          ∙ cause_holds (scan_log_full (state_of l g c) w lo hi) LogFull _
          (log_full a d s t
          ∙ ⊎_elim
          (λ i. ap (λ (f : Bool). either f (less limits.leaf_set_limit (x.leaves + span d))) (less_yes {m = limits.read_limit} {n = x.reads + span a} i))
          (λ i. ap (either (less limits.read_limit (x.reads + span a))) (less_yes {m = limits.leaf_set_limit} {n = x.leaves + span d} i) ∙ either_last (less limits.read_limit (x.reads + span a)))
          h)
          ∙ ap (λ (y : Refusal). some y) (sym q)
      declined_is r (short q t d h) =
          past_full t d
          ∙ cause_holds (less (shortest b) (length (scanned (state_of l g c) w lo hi))) ShortBuffer []
          (less_yes {m = shortest b} {n = length (scanned (state_of l g c) w lo hi)}
          (subst (λ (os : List (Row Payload)). shortest b < length os) (scan_shown t d) h))
          ∙ ap (λ (y : Refusal). some y) (sym q)

      pub scan_declined : (r : Refusal) → DeclinedIn l g c w x lo hi b r → Refines l g c (scan w lo hi b) l g c (refused r)
      scan_declined r d = refines_refused k (declined_is r d) (mild (state_of l g c) w lo hi b r (declined_is r d))

      -- the tests pass
      pub passed_is : (t : Task) → PassedIn l g c w x lo hi b t → refusal (state_of l g c) (scan w lo hi b) ≡ none
      unfolding first_cause
      passed_is t p =
          past_full t p.measured
          ∙ cause_fails (less (shortest b) (length (scanned (state_of l g c) w lo hi))) ShortBuffer []
          (less_no {m = shortest b} {n = length (scanned (state_of l g c) w lo hi)}
          (subst (λ (os : List (Row Payload)). length os ≤ shortest b) (scan_shown t p.measured) p.fits))
