-- How the lent arrays are read: three arrays of rows and four sizes are the model's map.
use Rattle.std.specs.Prelude.{ℕ, List}
use Rattle.lists.specs.Rows.{Row}
use Rattle.spec.specs.declared.PayloadWords.{PayloadWords}
use Rattle.spec.specs.Records.{Record}
use Rattle.spec.specs.Leaves.{Leaf}
use Rattle.spec.specs.Slots.{Slot}
use Rattle.spec.specs.Maps.{MapState}
use Rattle.indexlet.specs.Words as indexlet
use Rattle.indexlet.specs.Words.{slots_of}
use Rattle.index.specs.Views as index
use Rattle.index.specs.LeafColumns as columns
use Rattle.index.specs.Views.{records_of, leaves_of}
use Rattle.map.specs.declared.Sizes.{Sizes}

-- The lent rows of records, of leaves and of slots, as lists of words.
abbrev pub RecordRows : Type 0
RecordRows = index.RecordRows

abbrev pub LeafRows : Type 0
LeafRows = columns.LeafRows

abbrev pub SlotRows : Type 0
SlotRows = indexlet.SlotRows

-- the lows and the versions of the leaves
abbrev pub lows_of : LeafRows → List ℕ
lows_of leaves = columns.lows_of leaves

abbrev pub versions_of : LeafRows → List ℕ
versions_of leaves = columns.versions_of leaves

-- What a caller lends, as the laws look at it: the rows of records and of slots, and the leaves by columns.
pub record Lent : Type 0 where
  pub rows : RecordRows
  pub lows : List ℕ
  pub versions : List ℕ
  pub hidden : List ℕ
  pub pending : List ℕ
  pub slots : SlotRows

abbrev pub by_columns : RecordRows → List ℕ → List ℕ → List ℕ → List ℕ → SlotRows → Lent
by_columns rows lows versions hidden pending slots =
    record { rows = rows; lows = lows; versions = versions; hidden = hidden; pending = pending; slots = slots }

abbrev pub lent : RecordRows → LeafRows → SlotRows → Lent
lent rows leaves slots = by_columns rows (lows_of leaves) (versions_of leaves) (columns.hidden_of leaves) (columns.pending_of leaves) slots

-- a record of its payload and its commit number
abbrev pub record_from : PayloadWords → ℕ → Record
record_from v commit = index.record_from v commit

-- the records, the leaves and the slots that they hold
abbrev pub records_in : RecordRows → ℕ → List (Row Record)
records_in rows n = records_of rows n

abbrev pub leaves_in : List ℕ → List ℕ → ℕ → List Leaf
leaves_in lows versions m = leaves_of lows versions m

abbrev pub slots_in : SlotRows → List Slot
slots_in slots = slots_of slots

-- the map that they hold
abbrev pub map_of : Lent → Sizes → MapState
map_of l z =
    record {
      records = records_of l.rows z.records;
      leaves = leaves_of l.lows l.versions z.leaves;
      slots = slots_of l.slots;
    }
