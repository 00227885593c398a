-- How a lent array is read as a copy of the contents, and what copying promises.
use Rattle.std.specs.Prelude.{ℕ, ◌%◌, ◌^◌, ◌≡◌, List, length, get_or}
use Rattle.lists.specs.Rows.{Row, row}
use Rattle.spec.specs.Widths.{addresses}
use Rattle.spec.specs.Payloads.{owners}
use Rattle.spec.specs.Records.{Payload, Record}
use Rattle.spec.specs.Exports.{unstamped}
use Rattle.sets.specs.Sets.{first_rows}

-- the lent rows of a copy, as lists of words
abbrev pub CopyRows : Type 0
CopyRows = List (List ℕ)

-- A row is an address, a value and an owner; of each word as many bits count as that has, so that every word has a meaning.
abbrev pub copy_row : List ℕ → Row Payload
copy_row ws = row (get_or ws 0 0 % addresses) (record { value = get_or ws 1 0 % 2 ^ 64; owner = get_or ws 2 0 % owners })

-- the first so many records
abbrev pub copied_in : CopyRows → ℕ → List (Row Payload)
copied_in rows n = first_rows copy_row rows n

-- the first so many rows are these records
pub record Copied (rs : List (Row Record)) (rows : CopyRows) (count : ℕ) : Type 0 where
  pub count_is : count ≡ length rs
  pub rows_are : copied_in rows count ≡ unstamped rs
