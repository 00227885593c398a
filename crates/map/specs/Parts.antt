-- What a part of the map must be, for those who look at that part only.
use Rattle.std.specs.Prelude.{ℕ, ◌<◌, List, get_or}
use Rattle.std.proofs.Common.{lt_of_lt_of_le}
use Rattle.spec.specs.Widths.{addresses}
use Rattle.indexlet.specs.Promises as indexlet
use Rattle.index.specs.Views as index
use Rattle.index.specs.LeafPlaces.{Listed}
use Rattle.map.specs.declared.Sizes.{Sizes}
use Rattle.map.specs.Views.{RecordRows, SlotRows, Lent}
use Rattle.map.specs.MapHeld.{per_leaf, Tables}
use Rattle.counters.specs.declared.Counters.{Counters}
use Rattle.counters.specs.Taking as taking

-- n records, whose keys are addresses
pub record RecordsHeld (rows : RecordRows) (n : ℕ) : Type 0 where
  pub held : index.RecordsSorted rows n
  pub narrow : (i : ℕ) → i < n → (index.row_at rows i).key < addresses

-- the slots
abbrev pub SlotsHeld : SlotRows → Type 0
SlotsHeld slots = indexlet.SlotsHeld slots

-- m leaves, whose lows are addresses
pub record LeavesListed (lows : List ℕ) (m : ℕ) : Type 0 where
  pub listed : Listed lows m
  pub narrow : (i : ℕ) → i < m → get_or lows i 0 < addresses

-- the leaf at place i
pub record LeafListed (lows : List ℕ) (i : ℕ) : Type 0 where
  pub inside : i < per_leaf
  pub narrow : get_or lows i 0 < addresses

pub leaf_listed : {lows : List ℕ} {m : ℕ} → LeavesListed lows m → (i : ℕ) → i < m → LeafListed lows i
leaf_listed h i l = record { inside = lt_of_lt_of_le l h.listed.room; narrow = h.narrow i l }

-- ---- the parts of a whole map

module _ {l : Lent} {z : Sizes} {v : ℕ} (t : Tables l z v) where
  pub records_held : RecordsHeld l.rows z.records
  records_held = record { held = t.rows; narrow = t.rows_narrow }

  pub slots_held : SlotsHeld l.slots
  slots_held = t.words

  pub leaves_listed : LeavesListed l.lows z.leaves
  leaves_listed = record { listed = t.lows; narrow = t.lows_narrow }

-- the counters once the next commit number is given
abbrev pub numbered : Counters → Counters
numbered k = taking.numbered k

-- and once an install is counted
abbrev pub install_counted : Counters → Counters
install_counted k = taking.installed k
