-- The place of a key among the records.
use Rattle.std.specs.Prelude.{ℕ, ◌≤◌, ◌≡◌}
use Rattle.lists.specs.Places.{place}
use Rattle.index.specs.Views.{RecordRows, records_of}

-- p is the place of the key among the n records: how many have a smaller one.
pub record AtPlace (rows : RecordRows) (n k p : ℕ) : Type 0 where
  pub is : p ≡ place k (records_of rows n)
  pub within : p ≤ n
