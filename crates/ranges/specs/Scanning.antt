-- What a scan's parts promise: the worker's writes of a range, and what is logged.
use Rattle.std.specs.Prelude.{ℕ, ◌+◌, ◌-◌, ◌<◌, ◌≤◌, ◌≡◌, List, [], ◌++◌, drop, get_or}
use Rattle.std.proofs.Math.Option.{Option}
use Rattle.lists.specs.Tests.{same}
use Rattle.lists.specs.Rows.{Row, between}
use Rattle.spec.specs.Records.{limits, Record}
use Rattle.spec.specs.Guards.{Scan}
use Rattle.spec.specs.Leaves.{Leaf, first_leaf}
use Rattle.sets.specs.Reads.{ReadRows, reads_of, ReadSetHeld}
use Rattle.sets.specs.declared.leaves.Scanned.{Scanned}
use Rattle.sets.specs.Leaves.{LeafSetRows, versions_of, lows_of, scanned_in, remembered_if, notes_of, LeafSetHeld}
use Rattle.sets.specs.Writes.{WriteRows, writes_of}
use Rattle.map.specs.Views.{leaves_in, SlotRows, RecordRows}
use Rattle.map.specs.MapHeld.{per_leaf}
use Rattle.queries.specs.declared.Range.{Range}
use Rattle.queries.specs.declared.View.{View}
use Rattle.queries.specs.QueryViews.{map_with, walk, indexed_at, version_in}
use Rattle.map.specs.Parts.{LeafListed}

-- the n writes from lo to hi stand at these places
pub record OwnSpans (ws : WriteRows) (n lo hi : ℕ) (r : Range) : Type 0 where
  pub ordered : r.from ≤ r.to
  pub within : r.to ≤ n
  pub rows_are : drop r.from (writes_of ws r.to) ≡ between lo hi (writes_of ws n)

-- how many places
abbrev pub span : Range → ℕ
span p = p.to - p.from

-- f of each
abbrev pub across : {A : Type 0} → (ℕ → A) → Range → List A
across f p = walk f p.from (span p)

-- ---- records

-- the record at each place of the index
abbrev pub seen_in : RecordRows → ℕ → SlotRows → ℕ → Row (Option Record)
seen_in rows n slots = indexed_at (map_with rows n slots [])

abbrev pub seen_by : View → ℕ → Row (Option Record)
seen_by v = seen_in v.rows.now v.records v.slots.now

-- at these places stand records, of which there are n, and the read set has room for them
pub record ReadsRoom (n m : ℕ) (p : Range) : Type 0 where
  pub ordered : p.from ≤ p.to
  pub within : p.to ≤ n
  pub room : m + span p ≤ limits.read_limit

-- the read set after f of these places was appended to its first n rows, and how many there are now
pub record LogsRows (rs : ReadRows) (n : ℕ) (f : ℕ → Row (Option Record)) (p : Range) (us : ReadRows) (r : ℕ) : Type 0 where
  pub held : ReadSetHeld us
  pub count : r ≡ n + span p
  pub view : reads_of us r ≡ reads_of rs n ++ across f p

-- those logged and those left are all
pub record LoggingRows (rs : ReadRows) (n : ℕ) (f : ℕ → Row (Option Record)) (p : Range) (us : ReadRows) (i r : ℕ) : Type 0 where
  pub held : ReadSetHeld us
  pub count : r + (p.to - i) ≡ n + span p
  pub view : reads_of us r ++ walk f i (p.to - i) ≡ reads_of rs n ++ across f p

-- ---- leaves

-- the low address of the leaf at place i
unfoldable pub low_in : List Leaf → ℕ → ℕ
low_in ls i = (get_or ls i first_leaf).low

-- the leaves are there, and the leaf set has room for them
pub record LeavesRoom (lows : List ℕ) (m : ℕ) (p : Range) : Type 0 where
  pub listed : (i : ℕ) → i < p.to → LeafListed lows i
  pub ordered : p.from ≤ p.to
  pub within : p.to ≤ per_leaf
  pub room : m + span p ≤ limits.leaf_set_limit

-- the row for the leaf at place i remembers the scan if it is the first
unfoldable pub noted : ℕ → Scanned → ℕ → List Scan
noted first s i = remembered_if (same i first) (scanned_in s)

-- the leaf set after the leaves at these places, among any number that has them, were appended to its first n rows, and how many there are now
pub record LogsLeaves (rs : LeafSetRows) (n : ℕ) (lows versions : List ℕ) (p : Range) (s : Scanned) (us : LeafSetRows) (r : ℕ) : Type 0 where
  pub held : LeafSetHeld us
  pub count : r ≡ n + span p
  pub versions_are : (m : ℕ) → p.to ≤ m → m ≤ per_leaf → versions_of us r ≡ versions_of rs n ++ across (version_in (leaves_in lows versions m)) p
  pub lows_are : (m : ℕ) → p.to ≤ m → m ≤ per_leaf → lows_of us r ≡ lows_of rs n ++ across (low_in (leaves_in lows versions m)) p
  pub notes_are : notes_of us r ≡ notes_of rs n ++ across (noted p.from s) p

-- those logged and those left are all
pub record LoggingLeaves (rs : LeafSetRows) (n : ℕ) (lows versions : List ℕ) (p : Range) (s : Scanned) (us : LeafSetRows) (i r : ℕ) : Type 0 where
  pub held : LeafSetHeld us
  pub count : r + (p.to - i) ≡ n + span p
  pub versions_are : (m : ℕ) → p.to ≤ m → m ≤ per_leaf
      → versions_of us r ++ walk (version_in (leaves_in lows versions m)) i (p.to - i) ≡ versions_of rs n ++ across (version_in (leaves_in lows versions m)) p
  pub lows_are : (m : ℕ) → p.to ≤ m → m ≤ per_leaf
      → lows_of us r ++ walk (low_in (leaves_in lows versions m)) i (p.to - i) ≡ lows_of rs n ++ across (low_in (leaves_in lows versions m)) p
  pub notes_are : notes_of us r ++ walk (noted p.from s) i (p.to - i) ≡ notes_of rs n ++ across (noted p.from s) p
