-- The filter, in rows behind those of the slots. The addresses fall into 2,048 buckets by a hash of their own, which has nothing to
-- do with home slots. A cell of the filter tells how many entries its bucket has, and in its lowest byte the slot that its newest
-- entry took, which is tried first and of which nothing is held. A bucket without entries tells that an address has none, and no
-- slot is looked at.
use Rattle.std.specs.Prelude.{ℕ, ◌+◌, ◌*◌, ◌/◌, ◌%◌, ◌<◌, ◌≤◌, ◌≡◌, List, [], length, get_or}
use Rattle.lists.specs.Tests.{pick, same}
use Rattle.lists.specs.Rows.{Row}
use Rattle.lists.specs.Sums.{total}
use Rattle.spec.specs.Slots.{slot_count, Content, Slot, entries}
use Rattle.indexlet.specs.Words.{SlotRows, slot_words, word_put}

abbrev pub bucket_count : ℕ
bucket_count = 2048

-- the rows of the slots, those of the filter, of eight cells each, and that of the bitmap
abbrev pub slot_rows : ℕ
slot_rows = 513

-- the bucket of an address: eleven bits of its product with a number whose bits are well mixed
unfoldable pub bucket_of : ℕ → ℕ
bucket_of a = a * 2654435769 / 2097152 % bucket_count

-- the row of a bucket's cell, and its place there; the first word is not used, so that fresh rows are all the same
abbrev pub cell_row : ℕ → ℕ
cell_row b = slot_count + b / 8

abbrev pub cell_place : ℕ → ℕ
cell_place b = b % 8 + 1

abbrev pub cell_at : SlotRows → ℕ → ℕ
cell_at ws b = get_or (get_or ws (cell_row b) []) (cell_place b) 0

abbrev pub cell_put : SlotRows → ℕ → ℕ → SlotRows
cell_put ws b w = word_put ws (cell_row b) (cell_place b) w

-- 1 if the entry's address lies in the bucket
unfoldable pub in_bucket : ℕ → Row Content → ℕ
in_bucket b e = pick (same (bucket_of e.key) b) 1 0

-- how many entries the bucket has
unfoldable pub load : ℕ → List Slot → ℕ
load b ss = total (λ (i : ℕ). in_bucket b) (entries ss)

-- the filter in the words tells the load of each bucket
pub record Filtered (ws : SlotRows) (ss : List Slot) : Type 0 where
  pub wide : (j : ℕ) → slot_count ≤ j → j < slot_rows → length (get_or ws j []) ≡ slot_words
  pub loads : (b : ℕ) → b < bucket_count → cell_at ws b / 256 ≡ load b ss

-- the cells stay, and the lengths of the rows behind the slots
pub record CellsStay (ws us : SlotRows) : Type 0 where
  pub lengths : (j : ℕ) → slot_count ≤ j → length (get_or us j []) ≡ length (get_or ws j [])
  pub cells : (b : ℕ) → b < bucket_count → cell_at us b ≡ cell_at ws b

-- the rows of the filter and of the bitmap stay
pub record BehindStays (ws us : SlotRows) : Type 0 where
  pub rows : (j : ℕ) → slot_count ≤ j → get_or us j [] ≡ get_or ws j []
