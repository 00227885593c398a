-- What a scan's tests tell: the refusal, or what the scan has to do; and what carrying it out leaves.
use Rattle.std.specs.Prelude.{ℕ, Result, Ok, Err, ◌+◌, ◌<◌, ◌≤◌, ◌≡◌, ◌⊎◌, List, length}
use Rattle.lists.specs.Rows.{Row}
use Rattle.spec.specs.Records.{limits, Payload}
use Rattle.spec.specs.Steps.{Places, shortest}
use Rattle.spec.specs.declared.Refusal.{Refusal}
use Rattle.spec.specs.declared.Refusal.TheVariants.{Backward, LogFull, ShortBuffer}
use Rattle.workers.specs.declared.Worker.{Worker}
use Rattle.sets.specs.Reads.{ReadRows}
use Rattle.sets.specs.declared.leaves.Scanned.{Scanned}
use Rattle.sets.specs.Leaves.{LeafSetRows}
use Rattle.sets.specs.Writes.{WriteRows, WriteSetOrdered}
use Rattle.map.specs.declared.Sizes.{Sizes}
use Rattle.queries.specs.declared.Range.{Range}
use Rattle.queries.specs.QueryViews.{Spans, Meets}
use Rattle.ranges.specs.declared.plans.Task.{Task}
use Rattle.ranges.specs.declared.plans.Done.{Done}
use Rattle.buffers.specs.Buffers.{Buffers}
use Rattle.ranges.specs.Walks.{Ground, ground, rest, Fills}
use Rattle.ranges.specs.Scanning.{OwnSpans, span, seen_in, LogsRows, LogsLeaves}
use Rattle.map.specs.Views.{SlotRows, RecordRows}
use Rattle.map.specs.Parts.{RecordsHeld, SlotsHeld, LeavesListed}

-- what the tests look at holds the map and the write set of worker x
pub record Planning (rows : RecordRows) (lows : List ℕ) (slots : SlotRows) (ws : WriteRows) (z : Sizes) (x : Worker) : Type 0 where
  pub rows_held : RecordsHeld rows z.records
  pub slots_held : SlotsHeld slots
  pub listed : LeavesListed lows z.leaves
  pub set : WriteSetOrdered ws x.writes
  pub reads : x.reads ≤ limits.read_limit
  pub leaves : x.leaves ≤ limits.leaf_set_limit

-- what the scan walks over
abbrev pub field : RecordRows → SlotRows → WriteRows → Sizes → Task → Ground
field rows slots ws z t =
    ground (seen_in rows z.records slots) ws (record { to = t.index.to; end = t.own.to })

-- and what it shows
abbrev pub shown_of : RecordRows → SlotRows → WriteRows → Sizes → Task → List (Row Payload)
shown_of rows slots ws z t = rest (field rows slots ws z t) t.index.from t.own.from

-- t is what the scan from lo to hi has to do, and the log has room
pub record Measured (rows : RecordRows) (lows : List ℕ) (slots : SlotRows) (ws : WriteRows) (z : Sizes) (x : Worker) (lo hi : ℕ) (t : Task) : Type 0 where
  pub forward : lo ≤ hi
  pub index : Spans rows z.records lo hi t.index
  pub met : Meets lows z.leaves lo hi t.met
  pub own : OwnSpans ws x.writes lo hi t.own
  pub reads_fit : x.reads + span t.index ≤ limits.read_limit
  pub leaves_fit : x.leaves + span t.met ≤ limits.leaf_set_limit

-- the tests refuse
pub data Declined (rows : RecordRows) (lows : List ℕ) (slots : SlotRows) (ws : WriteRows) (z : Sizes) (x : Worker) (lo hi : ℕ) (b : Places) (r : Refusal) : Type 0 where
  backward : r ≡ Backward → hi < lo → Declined rows lows slots ws z x lo hi b r
  full : r ≡ LogFull → (a d : Range) → lo ≤ hi → Spans rows z.records lo hi a → Meets lows z.leaves lo hi d
      → (limits.read_limit < x.reads + span a) ⊎ (limits.leaf_set_limit < x.leaves + span d) → Declined rows lows slots ws z x lo hi b r
  short : r ≡ ShortBuffer → (t : Task) → Measured rows lows slots ws z x lo hi t → shortest b < length (shown_of rows slots ws z t)
      → Declined rows lows slots ws z x lo hi b r

-- they pass
pub record Passed (rows : RecordRows) (lows : List ℕ) (slots : SlotRows) (ws : WriteRows) (z : Sizes) (x : Worker) (lo hi : ℕ) (b : Places) (t : Task) : Type 0 where
  pub measured : Measured rows lows slots ws z x lo hi t
  pub fits : length (shown_of rows slots ws z t) ≤ shortest b

abbrev pub Plans : RecordRows → List ℕ → SlotRows → WriteRows → Sizes → Worker → ℕ → ℕ → Places → Result Task Refusal → Type 0
Plans rows lows slots ws z x lo hi b (Err r) = Declined rows lows slots ws z x lo hi b r
Plans rows lows slots ws z x lo hi b (Ok t) = Passed rows lows slots ws z x lo hi b t

-- the same, whatever the range was
pub record Planned (rows : RecordRows) (lows : List ℕ) (slots : SlotRows) (ws : WriteRows) (z : Sizes) (x : Worker) (t : Task) (b : Places) : Type 0 where
  pub index_ordered : t.index.from ≤ t.index.to
  pub index_within : t.index.to ≤ z.records
  pub met_ordered : t.met.from ≤ t.met.to
  pub met_within : t.met.to ≤ z.leaves
  pub own_ordered : t.own.from ≤ t.own.to
  pub own_within : t.own.to ≤ x.writes
  pub reads_fit : x.reads + span t.index ≤ limits.read_limit
  pub leaves_fit : x.leaves + span t.met ≤ limits.leaf_set_limit
  pub fits : length (shown_of rows slots ws z t) ≤ shortest b

-- the scan from lo to hi, as the transaction remembers it
abbrev pub scan_made : Worker → Task → ℕ → ℕ → Scanned
scan_made x t lo hi = record { lo = lo; hi = hi; from = x.reads; count = span t.index }

-- the buffers and the worker's sets after the scan, how many records are shown, and the worker with its new counts
pub record Carried (rows : RecordRows) (lows versions : List ℕ) (slots : SlotRows) (ws : WriteRows) (z : Sizes) (x : Worker) (t : Task) (lo hi : ℕ)
    (b : Buffers) (rs : ReadRows) (ls : LeafSetRows) (c : Buffers) (rs' : ReadRows) (ls' : LeafSetRows) (r : Done) : Type 0 where
  pub fills : Fills b (shown_of rows slots ws z t) c r.count
  pub logs_rows : LogsRows rs x.reads (seen_in rows z.records slots) t.index rs' r.worker.reads
  pub logs_leaves : LogsLeaves ls x.leaves lows versions t.met (scan_made x t lo hi) ls' r.worker.leaves
  pub worker : r.worker ≡ record { stage = x.stage; number = x.number; reads = r.worker.reads; leaves = r.worker.leaves; writes = x.writes }
