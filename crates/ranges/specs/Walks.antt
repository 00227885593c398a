-- The walk of a scan: what is left of it at a place of the index and a place of the worker's writes, and what its
-- functions promise.
use Rattle.std.specs.Prelude.{ℕ, ◌+◌, ◌-◌, ◌<◌, ◌≤◌, ◌≡◌, List, [], ◌∷◌, ◌++◌, length, get_or, drop, Option as Optional, Some, None}
use Rattle.std.proofs.Math.Option.{Option}
use Rattle.lists.specs.Rows.{Row, row, map_items, Rising}
use Rattle.spec.specs.Payloads.{payload_in}
use Rattle.spec.specs.Records.{limits, Payload, Record, Write, own_view, payload_of}
use Rattle.spec.specs.declared.RecordWords.{RecordWords}
use Rattle.sets.specs.declared.writes.Write.{Write as WriteWords}
use Rattle.sets.specs.declared.writes.Write.TheVariants.{Put, Deletion}
use Rattle.sets.specs.declared.writes.Entry.{Entry}
use Rattle.sets.specs.declared.reads.Observed.{Observed}
use Rattle.sets.specs.Reads.{ReadRows, read_in, observed_in, ReadSetHeld}
use Rattle.sets.specs.Writes.{WriteRows, WriteSetOrdered, writes_of}
use Rattle.queries.specs.QueryViews.{walk}
use Rattle.index.specs.Views.{record_places}
use Rattle.ranges.specs.declared.walks.Bounds.{Bounds}
use Rattle.ranges.specs.declared.walks.Shown.{Shown}
use Rattle.ranges.specs.declared.walks.Turn.{Turn}
use Rattle.ranges.specs.Overlays.{overlay}
use Rattle.buffers.specs.Buffers.{Buffers, rows_in, Beyond}

-- What is walked over: the record at each place, the rows of the worker's write set, and where the walk ends.
pub record Ground : Type 0 where
  pub seen : ℕ → Row (Option Record)
  pub writes : WriteRows
  pub bounds : Bounds

abbrev pub ground : (ℕ → Row (Option Record)) → WriteRows → Bounds → Ground
ground f writes b = record { seen = f; writes = writes; bounds = b }

-- the record in row first + i of a read set
abbrev pub log_row : ReadRows → ℕ → ℕ → Row (Option Record)
log_row rs first i = read_in (get_or rs (first + i) [])

-- the records from place i on
unfoldable pub seen_from : Ground → ℕ → List (Row (Option Record))
seen_from g i = walk g.seen i (g.bounds.to - i)

-- the worker's writes from place j on
unfoldable pub own_from : Ground → ℕ → List (Row Write)
own_from g j = drop j (writes_of g.writes g.bounds.end)

-- what the walk still shows at places i and j
unfoldable pub rest : Ground → ℕ → ℕ → List (Row Payload)
rest g i j = overlay (map_items own_view (own_from g j)) (map_items payload_of (seen_from g i))

-- the writes rise, and there are no more records than the index can have
pub record Nears (ws : WriteRows) (b : Bounds) : Type 0 where
  pub writes : WriteSetOrdered ws b.end
  pub few : b.to ≤ record_places

-- and the records rise
pub record Walks (g : Ground) : Type 0 where
  pub nears : Nears g.writes g.bounds
  pub rising : (i : ℕ) → i ≤ g.bounds.to → Rising (walk g.seen i (g.bounds.to - i))

-- the rows from `first` on of a read set can be read
pub record Keeps (rs : ReadRows) (first to : ℕ) : Type 0 where
  pub held : ReadSetHeld rs
  pub room : first + to ≤ limits.read_limit

-- places of the walk
pub record Inside (b : Bounds) (i j : ℕ) : Type 0 where
  pub index : i ≤ b.to
  pub own : j ≤ b.end

-- ---- one turn

-- what the index shows at an address, and what a write shows there
abbrev pub index_shown : ℕ → Optional RecordWords → Optional Shown
index_shown a None = None
index_shown a (Some r) = Some (record { address = a; payload = r.payload })

abbrev pub own_shown : ℕ → WriteWords → Optional Shown
own_shown a (Put v) = Some (record { address = a; payload = v })
own_shown a Deletion = None

abbrev pub index_turn : Observed → ℕ → ℕ → Turn
index_turn s i j = record { i = i; j = j; shown = index_shown s.address s.current }

abbrev pub own_turn : Entry → ℕ → ℕ → Turn
own_turn e i j = record { i = i; j = j; shown = own_shown e.address e.write }

-- the rows, with the one that is shown before them
abbrev pub shown_first : Optional Shown → List (Row Payload) → List (Row Payload)
shown_first None rs = rs
shown_first (Some x) rs = row x.address (payload_in x.payload) ∷ rs

-- r comes next
pub record ComesNext (g : Ground) (i j : ℕ) (r : Turn) : Type 0 where
  pub on : i + j < r.i + r.j
  pub inside : Inside g.bounds r.i r.j
  pub rest_is : rest g i j ≡ shown_first r.shown (rest g r.i r.j)

-- s stands at place i, unless that is past the last
pub record Stands (f : ℕ → Row (Option Record)) (to i : ℕ) (s : Observed) : Type 0 where
  pub is : i < to → observed_in s ≡ f i

-- r comes next in every walk that has s at place i
pub record GoesOn (ws : WriteRows) (b : Bounds) (s : Observed) (i j : ℕ) (r : Turn) : Type 0 where
  pub comes : (f : ℕ → Row (Option Record)) → Walks (ground f ws b) → Stands f b.to i s → ComesNext (ground f ws b) i j r

-- there is a place for what is shown
pub record Fits (b : Buffers) (at : ℕ) (x : Optional Shown) : Type 0 where
  pub addresses : {s : Shown} → x ≡ Some s → at < length b.addresses
  pub values : {s : Shown} → x ≡ Some s → at < length b.values
  pub owners : {s : Shown} → x ≡ Some s → at < length b.owners

-- the buffers after what is shown was written behind the first `at` places, and how many are written now
pub record Shows (b : Buffers) (at : ℕ) (x : Optional Shown) (c : Buffers) (r : ℕ) : Type 0 where
  pub forth : at ≤ r
  pub rows_are : rows_in r c ≡ rows_in at b ++ shown_first x []
  pub beyond : Beyond r b c

-- the buffers after the rows were written, and how many there are
pub record Fills (b : Buffers) (rs : List (Row Payload)) (c : Buffers) (r : ℕ) : Type 0 where
  pub count : r ≡ length rs
  pub rows_are : rows_in r c ≡ rs
  pub beyond : Beyond r b c

-- there are places for the rows
pub record RecordsFit (b : Buffers) (rs : List (Row Payload)) : Type 0 where
  pub addresses : length rs ≤ length b.addresses
  pub values : length rs ≤ length b.values
  pub owners : length rs ≤ length b.owners

-- ---- loops

-- those counted and those left are all
pub record Counting (g : Ground) (from start i j count : ℕ) : Type 0 where
  pub inside : Inside g.bounds i j
  pub few : count ≤ i + j
  pub all : count + length (rest g i j) ≡ length (rest g from start)

-- those written and those left are all
pub record Filling (g : Ground) (from start : ℕ) (b c : Buffers) (i j at : ℕ) : Type 0 where
  pub inside : Inside g.bounds i j
  pub all : rows_in at c ++ rest g i j ≡ rest g from start
  pub beyond : Beyond at b c
