-- The contents of rows and slots, and those from an address on.
use Rattle.std.specs.Prelude.{ℕ, List, [], ◌∷◌}
use Rattle.std.proofs.Math.Option.{Option, none, some}
use Rattle.lists.specs.Tests.{pick, less}
use Rattle.lists.specs.Rows.{Row}
use Rattle.spec.specs.Records.{Record}
use Rattle.spec.specs.Maps.{contents}
use Rattle.map.specs.Views.{RecordRows, SlotRows, records_in, slots_in}

-- all records of the index and the indexlet; leaves play no part
abbrev pub all_records : RecordRows → ℕ → SlotRows → List (Row Record)
all_records rows n slots = contents (record { records = records_in rows n; leaves = []; slots = slots_in slots })

-- the first row with a key of k or more
unfoldable pub first_from : {A : Type 0} → ℕ → List (Row A) → Option (Row A)
first_from k [] = none
first_from k (r ∷ rs) = pick (less r.key k) (first_from k rs) (some r)
