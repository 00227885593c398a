-- The invariant of the lent arrays. `Tables` is what every change of one address keeps; `MapHeld` adds the limits of
-- document 01. `fresh_map` establishes it, and every public function that changes the arrays keeps it.
use Rattle.std.specs.Prelude.{ℕ, ◌<◌, ◌≡◌, length, get_or}
use Rattle.spec.specs.Widths.{addresses}
use Rattle.spec.specs.Records.{standard}
use Rattle.spec.specs.Slots.{entries}
use Rattle.laws.specs.LeafVersions.{GoodLeaves}
use Rattle.laws.specs.MapBounds.{Bounded}
use Rattle.indexlet.specs.Words.{slots_of}
use Rattle.indexlet.specs.Promises as indexlet
use Rattle.index.specs.Views as index
use Rattle.index.specs.LeafPlaces.{Listed}
use Rattle.map.specs.declared.Sizes.{Sizes}
use Rattle.phantomlet.specs.Phantoms.{how_many, outside_any, Phantomlet}
use Rattle.map.specs.Views.{Lent, map_of}

-- how many leaves there is room for
abbrev pub per_leaf : ℕ
per_leaf = index.leaf_places

-- v is the last version given
pub record Tables (l : Lent) (z : Sizes) (v : ℕ) : Type 0 where
  -- the records: there is room for them, they rise, and their keys are addresses
  pub rows : index.RecordsSorted l.rows z.records
  pub rows_narrow : (i : ℕ) → i < z.records → (index.row_at l.rows i).key < addresses
  -- the leaves
  pub lows : Listed l.lows z.leaves
  pub lows_narrow : (i : ℕ) → i < z.leaves → get_or l.lows i 0 < addresses
  pub lows_size : length l.lows ≡ per_leaf
  pub versions_size : length l.versions ≡ per_leaf
  pub leaves : GoodLeaves v (map_of l z).leaves
  -- the indexlet
  pub words : indexlet.SlotsHeld l.slots
  pub entries_are : z.entries ≡ length (entries (slots_of l.slots))
  -- the phantomlet
  pub hidden_size : length l.hidden ≡ per_leaf
  pub pending_size : length l.pending ≡ per_leaf
  pub phantoms : Phantomlet (map_of l z) l.hidden l.pending
  -- the entries at addresses that the index lacks
  pub outside_are : z.outside ≡ how_many (outside_any (map_of l z)) (slots_of l.slots)

pub record MapHeld (l : Lent) (z : Sizes) (v : ℕ) : Type 0 where
  pub tables : Tables l z v
  pub bounded : Bounded standard v (map_of l z)
