-- What the functions that look promise: of a map whose leaves may be any, since a record does not depend on them.
use Rattle.std.specs.Prelude.{ℕ, zero, suc, ◌-◌, ◌<◌, ◌≤◌, ◌≡◌, List, [], ◌∷◌, length, take, drop, get_or, Option as Optional}
use Rattle.std.proofs.Math.Option.{Option}
use Rattle.lists.specs.Rows.{Row, row, between}
use Rattle.spec.specs.Records.{limits, Record}
use Rattle.spec.specs.Slots.{content_of, search}
use Rattle.spec.specs.Leaves.{Leaf, first_leaf, leaf_of, meeting}
use Rattle.spec.specs.Maps.{MapState, current, indexed_between}
use Rattle.laws.specs.LeafVersions.{GoodLeaves}
use Rattle.indexlet.specs.declared.Content.{Content as ContentWords}
use Rattle.indexlet.specs.Words.{content_in, slots_of}
use Rattle.index.specs.Views.{no_row, records_of}
use Rattle.spec.specs.Payloads.{record_in}
use Rattle.sets.specs.Reads.{observed_in}
use Rattle.spec.specs.declared.RecordWords.{RecordWords}
use Rattle.queries.specs.declared.Range.{Range}
use Rattle.queries.specs.declared.Seen.{Seen}
use Rattle.sets.specs.declared.reads.Observed.{Observed}
use Rattle.sets.specs.declared.leaves.LoggedLeaf.{LoggedLeaf}
use Rattle.map.specs.MapHeld.{per_leaf}
use Rattle.map.specs.Views.{SlotRows, RecordRows, leaves_in, slots_in}

-- the map of these rows and slots, with any leaves
abbrev pub map_with : RecordRows → ℕ → SlotRows → List Leaf → MapState
map_with rows n slots ls = record { records = records_of rows n; leaves = ls; slots = slots_of slots }

-- r is the current record of a
pub record Sees (rows : RecordRows) (n : ℕ) (slots : SlotRows) (a : ℕ) (r : Optional RecordWords) : Type 0 where
  pub record_is : (ls : List Leaf) → record_in r ≡ current (map_with rows n slots ls) a

-- r is the current record of a, whatever slots say c of it
pub record SeesUnder (rows : RecordRows) (n a : ℕ) (c : ContentWords) (r : Optional RecordWords) : Type 0 where
  pub sees : (slots : SlotRows) → content_of (slots_in slots) a ≡ content_in c → Sees rows n slots a r

-- and so many slots are examined to find it
pub record Examines (rows : RecordRows) (n : ℕ) (slots : SlotRows) (a : ℕ) (r : Seen) : Type 0 where
  pub sees : Sees rows n slots a r.current
  pub examined : r.examined ≡ (search limits.bytes (slots_in slots) a).examined

-- ---- what a scan walks over

-- f i, f (i + 1), .., n of them
unfoldable pub walk : {A : Type 0} → (ℕ → A) → ℕ → ℕ → List A
walk f i zero = []
walk f i (suc n) = f i ∷ walk f (suc i) n

-- the record at place i of the index: its address, with its current record
unfoldable pub indexed_at : MapState → ℕ → Row (Option Record)
indexed_at m i = row (get_or m.records i no_row).key (current m (get_or m.records i no_row).key)

-- the records from lo to hi stand at these places
pub record Spans (rows : RecordRows) (n lo hi : ℕ) (r : Range) : Type 0 where
  pub ordered : r.from ≤ r.to
  pub within : r.to ≤ n
  pub rows_are : take (r.to - r.from) (drop r.from (records_of rows n)) ≡ between lo hi (records_of rows n)
  pub seen_are : (slots : SlotRows) (ls : List Leaf)
      → walk (indexed_at (map_with rows n slots ls)) r.from (r.to - r.from) ≡ indexed_between (map_with rows n slots ls) lo hi

-- what stands at a place of the index
pub record SeenAt (rows : RecordRows) (n : ℕ) (slots : SlotRows) (i : ℕ) (r : Observed) : Type 0 where
  pub seen_is : (ls : List Leaf) → observed_in r ≡ indexed_at (map_with rows n slots ls) i

-- ---- leaves

-- the version of the leaf at place i (document 01: mark)
unfoldable pub version_in : List Leaf → ℕ → ℕ
version_in ls i = (get_or ls i first_leaf).version

-- the leaves that meet lo to hi stand at these places, whatever their versions are
pub record Meets (lows : List ℕ) (m lo hi : ℕ) (r : Range) : Type 0 where
  pub ordered : r.from < r.to
  pub within : r.to ≤ m
  pub versions_are : (versions : List ℕ) (v : ℕ) → length versions ≡ per_leaf → GoodLeaves v (leaves_in lows versions m)
      → walk (version_in (leaves_in lows versions m)) r.from (r.to - r.from) ≡ meeting (leaves_in lows versions m) lo hi

-- the leaf of a stands at place p
pub record LeafAt (lows : List ℕ) (m a p : ℕ) : Type 0 where
  pub inside : p < m
  pub leaf_is : (versions : List ℕ) → length versions ≡ per_leaf → get_or (leaves_in lows versions m) p first_leaf ≡ leaf_of (leaves_in lows versions m) a

unfoldable pub logged_in : LoggedLeaf → Leaf
logged_in r = record { low = r.low; version = r.version }

-- r is the leaf at place i
pub record LoggedAt (lows versions : List ℕ) (i : ℕ) (r : LoggedLeaf) : Type 0 where
  pub leaf_is : (m : ℕ) → i < m → m ≤ per_leaf → logged_in r ≡ get_or (leaves_in lows versions m) i first_leaf
