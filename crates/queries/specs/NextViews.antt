-- The contents one after the other: the first record from an address on.
use Rattle.std.specs.Prelude.{ℕ, ◌+◌, ◌<◌, ◌≤◌, ◌≡◌, false, List, [], ◌∷◌, get_or, Option as Optional, Some, None}
use Rattle.std.proofs.Math.Option.{Option, none, some}
use Rattle.lists.specs.Tests.{pick, less}
use Rattle.lists.specs.Rows.{Row, row, look}
use Rattle.spec.specs.Records.{Record}
use Rattle.spec.specs.Payloads.{record_of_words, option_in}
use Rattle.spec.specs.Leaves.{Leaf}
use Rattle.spec.specs.Slots.{Content, empty_slot, vacant, entries}
use Rattle.spec.specs.Maps.{current, contents}
use Rattle.laws.specs.SlotCounts.{entry_at}
use Rattle.indexlet.specs.Words.{slots_of}
use Rattle.indexlet.specs.Bits.{bit}
use Rattle.indexlet.specs.Bitmaps.{Unseen}
use Rattle.index.specs.Views.{records_of}
use Rattle.queries.specs.declared.NextRecord.{NextRecord}
use Rattle.queries.specs.QueryViews.{map_with}
use Rattle.map.specs.Views.{SlotRows, RecordRows}
use Rattle.queries.specs.Contents.{first_from}

-- the rows from the first one with a key of k or more
unfoldable pub rows_from : {A : Type 0} → ℕ → List (Row A) → List (Row A)
rows_from k [] = []
rows_from k (r ∷ rs) = pick (less r.key k) (rows_from k rs) (r ∷ rs)

abbrev pub row_in : NextRecord → Row Record
row_in x = row x.address (record_of_words x.record)

abbrev pub next_in : Optional NextRecord → Option (Row Record)
next_in o = option_in row_in o

-- r is the first of the contents from an address on
pub record Follows (rows : RecordRows) (n : ℕ) (slots : SlotRows) (from : ℕ) (r : Optional NextRecord) : Type 0 where
  pub next_is : (ls : List Leaf) → next_in r ≡ first_from from (contents (map_with rows n slots ls))

-- ---- candidates

-- an address lies before the candidate, or there is none
abbrev pub Before : ℕ → Optional ℕ → Type 0
Before k None = Unit {0}
Before k (Some a) = k < a

-- the candidate, if there is one, lies from an address on
abbrev pub NotBelow : ℕ → Optional ℕ → Type 0
NotBelow from None = Unit {0}
NotBelow from (Some a) = from ≤ a

-- the index has no address from `from` on that lies before c
pub record IndexFrom (rows : RecordRows) (n from : ℕ) (c : Optional ℕ) : Type 0 where
  pub low : NotBelow from c
  pub clear : (k : ℕ) → from ≤ k → Before k c → look (records_of rows n) k ≡ none

-- nothing is said of an address from `from` on that lies before c
pub record SlotFrom (slots : SlotRows) (from : ℕ) (c : Optional ℕ) : Type 0 where
  pub low : NotBelow from c
  pub clear : (k : ℕ) → from ≤ k → Before k c → look (entries (slots_of slots)) k ≡ none

-- c is the nearer of a key and the nearest so far, of those from `from` on
pub record Nearer (key from : ℕ) (best c : Optional ℕ) : Type 0 where
  pub most : (k : ℕ) → Before k c → Before k best
  pub low : NotBelow from best → NotBelow from c
  pub clear : from ≤ key → Before key c → ⊥

-- slot j has no entry from `from` on that lies before the nearest so far
pub record NoNearer (slots : SlotRows) (from : ℕ) (best : Optional ℕ) (j : ℕ) : Type 0 where
  pub clear : (e : Row Content) → entry_at (slots_of slots) j ≡ some e → from ≤ e.key → Before e.key best → ⊥

-- and none of the first i slots has one
pub record Walked (slots : SlotRows) (from i : ℕ) (best : Optional ℕ) : Type 0 where
  pub low : NotBelow from best
  pub clear : (j : ℕ) → j < i → NoNearer slots from best j

-- How far the walk along a word is: the slots before it have no nearer entry, of its own slots those whose bits are left may have one,
-- and these have an entry.
pub record Walking (slots : SlotRows) (from next : ℕ) (best : Optional ℕ) (w : ℕ) : Type 0 where
  pub passed : Walked slots from next best
  pub left : Unseen (NoNearer slots from best) next w
  pub filled : (i : ℕ) → bit i w ≡ 1 → vacant (get_or (slots_of slots) (next + i) empty_slot) ≡ false

-- no record stands from `from` on before c
pub record CandidateFrom (rows : RecordRows) (n : ℕ) (slots : SlotRows) (from : ℕ) (c : Optional ℕ) : Type 0 where
  pub low : NotBelow from c
  pub clear : (j : ℕ) → from ≤ j → Before j c → (ls : List Leaf) → current (map_with rows n slots ls) j ≡ none

-- no record stands from `from` up to, not including, k
pub record Passed (rows : RecordRows) (n : ℕ) (slots : SlotRows) (from k : ℕ) : Type 0 where
  pub low : from ≤ k
  pub clear : (j : ℕ) → from ≤ j → j < k → (ls : List Leaf) → current (map_with rows n slots ls) j ≡ none
