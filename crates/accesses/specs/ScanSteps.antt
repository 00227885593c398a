-- A scan of the model that is granted, from what it left in the arrays.
use Rattle.std.specs.Prelude.{ℕ, suc, ◌+◌, ◌-◌, ◌<◌, ◌≤◌, ◌≡◌, refl, length, take, drop, get_or, set}
use Rattle.std.proofs.Common.{zero-le, suc-le-suc, le_refl, arith, sym, ◌∙◌, subst, ⊎_elim, get_or-append-add}
use Rattle.std.proofs.Math.Path.{ap}
use mathlib.Core.List.Memᴰ
use mathlib.Core.List.{List, [], ◌∷◌, ◌++◌, Memᴰ}
use Rattle.std.proofs.Math.Option.{Option}
use Rattle.std.proofs.Math.ListN.{get_or-append}
use Rattle.std.proofs.Math.Seq.{split_at}
use Rattle.lists.specs.Tests.{less}
use Rattle.lists.specs.TestLaws.{cases, less_true, less_false}
use Rattle.lists.specs.Rows.{Row}
use Rattle.spec.specs.Records.{limits, Payload, Record}
use Rattle.spec.specs.Leaves.{Leaf, first_leaf, leaf_of, version_at, live}
use Rattle.spec.specs.Guards.{Scan}
use Rattle.spec.specs.Steps as model
use Rattle.spec.specs.Steps.{listed, worker_of, scan, is_open, scan_reads, scan_versions, remembered, granted, effect, with_worker, logged, access_answer, accessed}
use Rattle.laws.specs.LeafParts.{LowsFrom}
use Rattle.laws.specs.LeafVersions.{GoodLeaves, leaf_of_low, meeting_covers}
use Rattle.workers.specs.declared.Worker.{Worker}
use Rattle.workers.specs.Workers.{worker_in}
use Rattle.sets.specs.Sets.{first_rows}
use Rattle.sets.specs.Reads.{ReadRows, read_in, reads_of, reads_in}
use Rattle.sets.specs.Leaves.{LeafSetRows, versions_of, lows_of, versions_in, scanned_in, notes_of, joined, scans_of, scans_in}
use Rattle.sets.specs.Leaves as leaves
use Rattle.sets.specs.Writes.{writes_in}
use Rattle.sets.specs.LeafLaws.{joined_append}
use Rattle.sets.specs.SetLaws.{each_set, own_set, other_set, length_rows}
use Rattle.map.specs.Views.{leaves_in, Lent}
use Rattle.queries.specs.declared.Range.{Range}
use Rattle.queries.specs.QueryViews.{version_in}
use Rattle.queries.specs.ScanLaws.{length_leaves}
use Rattle.ranges.specs.declared.plans.Task.{Task}
use Rattle.ranges.specs.declared.plans.Done.{Done}
use Rattle.ranges.specs.Parts.{length_walk, get_or_walk}
use Rattle.buffers.specs.Buffers.{Buffers, places_of, rows_in}
use Rattle.ranges.specs.Scanning.{span, across, seen_in, low_in, noted}
use Rattle.ranges.specs.LogLaws.{scan_remembered}
use Rattle.ranges.specs.Plans.{scan_made, Carried}
use Rattle.transactions.specs.Cores.{Core}
use Rattle.transactions.specs.Answering.{yields_granted}
use Rattle.transactions.specs.Admits.{Entered}
use Rattle.transactions.specs.Views.{Logs, logs, model_worker, state_of, core_with, OthersSame}
use Rattle.transactions.specs.ViewLaws.{state_with}
use Rattle.transactions.specs.Ready.{Within, LowsStay, Stored, Ready, Refines}
use Rattle.transactions.specs.ReadyLaws.{refines}
use Rattle.transactions.specs.CoreLaws.{worker_is, within, stored_put}
use Rattle.accesses.specs.ScanCauses.{PassedIn, scan_reads_lem, scan_versions_lem, scan_shown, passed_is}

-- ---- logged leaves

-- the low of a leaf lies in that leaf
low_version : {v : ℕ} (ls : List Leaf) → GoodLeaves v ls → (p : ℕ) → p < length ls → version_at ls (low_in ls p) ≡ version_in ls p
unfolding version_at version_in low_in
low_version ls g p h =
    let e : ls ≡ take p ls ++ (get_or ls p first_leaf ∷ drop (suc p) ls) = split_at ls p first_leaf h in
    ap (λ (zs : List Leaf). (leaf_of zs (get_or ls p first_leaf).low).version) e
    ∙ ap (λ (y : Leaf). y.version) (leaf_of_low (take p ls) (get_or ls p first_leaf) (drop (suc p) ls) (subst (LowsFrom 0) e g.rising))

-- rows appended to the first n: those before, and those after
module _ (f : List ℕ → ℕ) (rs us : LeafSetRows) (n r : ℕ) (xs : List ℕ) (e : first_rows f us r ≡ first_rows f rs n ++ xs) where
  old_row : (i : ℕ) → i < n → get_or (first_rows f us r) i 0 ≡ get_or (first_rows f rs n) i 0
  old_row i h =
      ap (λ (zs : List ℕ). get_or zs i 0) e ∙ get_or-append (first_rows f rs n) xs 0 i (subst (λ (m : ℕ). i < m) (sym (length_rows f rs n)) h)

  new_row : (i : ℕ) → n ≤ i → get_or (first_rows f us r) i 0 ≡ get_or xs (i - n) 0
  new_row i h =
      let l : length (first_rows f rs n) ≡ n = length_rows f rs n in
      ap (λ (zs : List ℕ). get_or zs i 0) e
      ∙ ap (λ (j : ℕ). get_or (first_rows f rs n ++ xs) j 0) (let q : i ≡ length (first_rows f rs n) + (i - n) = omega arith in q)
      ∙ get_or-append-add (first_rows f rs n) xs (i - n) 0

lows_appended : {v : ℕ} (ls : List Leaf) (rs us : LeafSetRows) (n r : ℕ) (p : Range) → GoodLeaves v ls → p.to ≤ length ls → r ≡ n + span p
    → versions_of us r ≡ versions_of rs n ++ across (version_in ls) p → lows_of us r ≡ lows_of rs n ++ across (low_in ls) p
    → LowsStay ls rs n → LowsStay ls us r
lows_appended ls rs us n r p good inside count a b old i h v =
    ⊎_elim
    (λ q. let o : i < n = less_true i n q in
    ap (version_at ls) (old_row leaves.low_in rs us n r _ b i o)
    ∙ old i o (sym (ap (live ls) (old_row leaves.version_in rs us n r _ a i o)) ∙ v)
    ∙ sym (old_row leaves.version_in rs us n r _ a i o))
    (λ q. let o : n ≤ i = less_false i n q in
    let j : i - n < span p = omega arith in
    ap (version_at ls) (new_row leaves.low_in rs us n r _ b i o ∙ get_or_walk (low_in ls) p.from (span p) (i - n) 0 j)
    ∙ low_version ls good (p.from + (i - n)) (let z : p.from + (i - n) < length ls = omega arith in z)
    ∙ sym (new_row leaves.version_in rs us n r _ a i o ∙ get_or_walk (version_in ls) p.from (span p) (i - n) 0 j))
    (cases (less i n))

-- ---- the scan

some_there : {A : Type 0} {x : A} {xs : List A} → Memᴰ x xs → 1 ≤ length xs
some_there {xs = []} m = absurd (Memᴰ.not-nil m)
some_there {xs = y ∷ ys} m = suc-le-suc zero-le

-- what the scan of worker w left of its sets
abbrev pub CarriedIn : Lent → Logs → Core → ℕ → Worker → Task → ℕ → ℕ → Buffers → Buffers → ReadRows → LeafSetRows → Done → Type 0
CarriedIn l g c w x t lo hi b b' rs ls r =
    Carried l.rows l.lows l.versions l.slots (get_or g.writes w []) c.sizes x t lo hi
    b (get_or g.reads w []) (get_or g.leaves w []) b' rs ls r

-- the arrays with these sets of worker w
abbrev pub logging : Logs → ℕ → ReadRows → LeafSetRows → Logs
logging g w rs ls = logs (set g.reads w rs) (set g.leaves w ls) g.writes

module _ {l : Lent} {g : Logs} {c : Core} {w : ℕ} {x : Worker} (k : Ready l g c) (e : Entered is_open c.workers w x)
    (lo hi : ℕ) (t : Task) (b b' : Buffers) (rs : ReadRows) (ls : LeafSetRows) (r : Done)
    (p : PassedIn l g c w x lo hi (places_of b) t) (d : CarriedIn l g c w x t lo hi b b' rs ls r) where
  -- the worker after it
  abbrev y : Worker
  y = r.worker

  others : OthersSame g (logging g w rs ls) w
  others =
      record {
        reads = λ v n q. other_set (λ (s : ReadRows). reads_of s n) g.reads w rs v q;
        leaves = λ v n q. other_set (λ (s : LeafSetRows). versions_of s n) g.leaves w ls v q;
        scans = λ v n q. other_set (λ (s : LeafSetRows). scans_of s n) g.leaves w ls v q;
        writes = λ v n q. refl;
      }

  -- the worker, with what the scan passed
  logged_is : model_worker (logging g w rs ls) y w ≡ logged (scan_reads (state_of l g c) lo hi) (scan_versions (state_of l g c) lo hi) (remembered (state_of l g c) w lo hi ∷ []) (worker_of (state_of l g c) w)
  unfolding worker_in logged
  logged_is =
      ap (λ (a : Worker). model_worker (logging g w rs ls) a w) d.worker
      ∙ (λ i. record { stage = x.stage; reads = read i; versions = logged_leaves i; scans = logged_scan i; writes = writes_in g.writes w x.writes; number = x.number })
      ∙ ap (logged (scan_reads (state_of l g c) lo hi) (scan_versions (state_of l g c) lo hi) (remembered (state_of l g c) w lo hi ∷ [])) (sym (worker_is is_open l g c w x k e))
    where
      read : reads_in (set g.reads w rs) w y.reads ≡ reads_in g.reads w x.reads ++ scan_reads (state_of l g c) lo hi
      read =
          own_set (λ (s : ReadRows). reads_of s y.reads) g.reads w rs k.stored.reads e.inside
          ∙ d.logs_rows.view
          ∙ ap (λ (os : List (Row (Option Record))). reads_in g.reads w x.reads ++ os) (scan_reads_lem k e lo hi t.index p.measured.index)

      logged_leaves : versions_in (set g.leaves w ls) w y.leaves ≡ versions_in g.leaves w x.leaves ++ scan_versions (state_of l g c) lo hi
      logged_leaves =
          own_set (λ (s : LeafSetRows). versions_of s y.leaves) g.leaves w ls k.stored.leaves e.inside
          ∙ d.logs_leaves.versions_are c.sizes.leaves p.measured.met.within k.stored.map.tables.lows.room
          ∙ ap (λ (ns : List ℕ). versions_in g.leaves w x.leaves ++ ns) (scan_versions_lem k e lo hi t.met p.measured.met)

      some_version : 1 ≤ length (scan_versions (state_of l g c) lo hi)
      some_version = unfold scan_versions state_of in some_there (meeting_covers k.stored.map.bounded.leaves lo lo hi (le_refl lo) p.measured.forward)

      -- it met a leaf: that of lo
      met_one : t.met.from < t.met.to
      met_one =
          let s : length (across (version_in (leaves_in l.lows l.versions c.sizes.leaves)) t.met) ≡ span t.met
          = length_walk (version_in (leaves_in l.lows l.versions c.sizes.leaves)) t.met.from (span t.met) in
          let q : 1 ≤ length (across (version_in (leaves_in l.lows l.versions c.sizes.leaves)) t.met)
          = subst (λ (ns : List ℕ). 1 ≤ length ns) (sym (scan_versions_lem k e lo hi t.met p.measured.met)) some_version in
          omega arith

      logged_before : x.reads ≡ length (worker_of (state_of l g c) w).reads
      logged_before =
          sym
          (ap (λ (y : model.Worker). length y.reads) (worker_is is_open l g c w x k e)
          ∙ (unfold worker_in in length_rows read_in (get_or g.reads w []) x.reads))

      logged_now : span t.index ≡ length (scan_reads (state_of l g c) lo hi)
      logged_now =
          sym (length_walk (seen_in l.rows c.sizes.records l.slots) t.index.from (span t.index))
          ∙ ap length (scan_reads_lem k e lo hi t.index p.measured.index)

      same_scan : scanned_in (scan_made x t lo hi) ≡ remembered (state_of l g c) w lo hi
      same_scan = unfold remembered in λ i. record { lo = lo; hi = hi; from = logged_before i; count = logged_now i }

      logged_scan : scans_in (set g.leaves w ls) w y.leaves ≡ scans_in g.leaves w x.leaves ++ (remembered (state_of l g c) w lo hi ∷ [])
      logged_scan =
          own_set (λ (s : LeafSetRows). scans_of s y.leaves) g.leaves w ls k.stored.leaves e.inside
          ∙ ap joined d.logs_leaves.notes_are
          ∙ joined_append (notes_of (get_or g.leaves w []) x.leaves) (across (noted t.met.from (scan_made x t lo hi)) t.met)
          ∙ ap (λ (cs : List Scan). scans_in g.leaves w x.leaves ++ cs) (scan_remembered (scan_made x t lo hi) t.met met_one)
          ∙ ap (λ (s : Scan). scans_in g.leaves w x.leaves ++ (s ∷ [])) same_scan

  state_is : state_of l (logging g w rs ls) (core_with c w y) ≡ effect (state_of l g c) (scan w lo hi (places_of b))
  unfolding effect accessed
  state_is = state_with l g (logging g w rs ls) c w y others ∙ ap (with_worker (state_of l g c) w) logged_is

  -- ---- stored again

  logged_within : Within y
  logged_within =
      record {
        reads = omega (arith, d.logs_rows.count, p.measured.reads_fit);
        leaves = omega (arith, d.logs_leaves.count, p.measured.leaves_fit);
        writes = subst (λ (a : Worker). a.writes ≤ limits.write_limit) (sym d.worker) (within is_open l g c w x k e).writes;
      }

  own_lows : LowsStay (leaves_in l.lows l.versions c.sizes.leaves) ls y.leaves
  own_lows =
      let q = k.stored.map.tables in
      let m : t.met.to ≤ c.sizes.leaves = p.measured.met.within in
      let n : length (leaves_in l.lows l.versions c.sizes.leaves) ≡ c.sizes.leaves
      = length_leaves l.lows l.versions c.sizes.leaves q.lows.room q.lows_size q.versions_size in
      lows_appended (leaves_in l.lows l.versions c.sizes.leaves) (get_or g.leaves w []) ls x.leaves y.leaves t.met
      q.leaves (omega arith) d.logs_leaves.count
      (d.logs_leaves.versions_are c.sizes.leaves m q.lows.room) (d.logs_leaves.lows_are c.sizes.leaves m q.lows.room)
      (subst (λ (a : Worker). LowsStay (leaves_in l.lows l.versions c.sizes.leaves) (get_or g.leaves w []) a.leaves) (sym e.is) (k.stored.lows w e.inside))

  stored : Stored l (logging g w rs ls) (core_with c w y)
  stored =
      stored_put l (logging g w rs ls) w y c.sizes e.inside k.stored k.stored.map refl
      (each_set w rs k.stored.reads d.logs_rows.held) (each_set w ls k.stored.leaves d.logs_leaves.held) k.stored.writes
      (other_set (λ (s : LeafSetRows). s) g.leaves w ls) logged_within
      (subst (λ (s : LeafSetRows). LowsStay (leaves_in l.lows l.versions c.sizes.leaves) s y.leaves)
      (sym (own_set (λ (s : LeafSetRows). s) g.leaves w ls k.stored.leaves e.inside)) own_lows)

  answer_is : granted (state_of l g c) (scan w lo hi (places_of b)) ≡ listed (rows_in r.count b')
  unfolding granted access_answer
  answer_is = ap (λ (os : List (Row Payload)). listed os) (sym (d.fills.rows_are ∙ scan_shown k e lo hi t p.measured))

  pub scan_granted : Refines l g c (scan w lo hi (places_of b)) l (logging g w rs ls) (core_with c w y) (listed (rows_in r.count b'))
  scan_granted =
      subst (Refines l g c (scan w lo hi (places_of b)) l (logging g w rs ls) (core_with c w y)) answer_is
      (refines k (yields_granted (state_of l g c) (scan w lo hi (places_of b)) (passed_is k e lo hi (places_of b) t p)) state_is stored)
