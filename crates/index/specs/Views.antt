-- How the lent rows of records are read, and leaves of their lows and their versions.
use Rattle.std.specs.Prelude.{ℕ, ◌+◌, ◌-◌, ◌≤◌, ◌≡◌, List, [], ◌∷◌, take, drop, get_or, set}
use Rattle.lists.specs.Rows.{Row, row, keys, Rising}
use Rattle.lists.specs.Tabulation.{tab}
use Rattle.spec.specs.Records.{limits, Record}
use Rattle.spec.specs.Payloads.{payload_in, no_payload}
use Rattle.spec.specs.declared.PayloadWords.{PayloadWords}
use Rattle.spec.specs.Leaves.{Leaf}
use Rattle.index.specs.declared.rows.RecordRow.{RecordRow}

-- how many records there is room for
abbrev pub record_places : ℕ
record_places = limits.map_limit

-- how many leaves there is room for: the first, and one for each record
abbrev pub leaf_places : ℕ
leaf_places = record_places + 1

-- the lent rows of records, as lists of words
abbrev pub RecordRows : Type 0
RecordRows = List (List ℕ)

-- the record that a payload and a commit number make
abbrev pub record_from : PayloadWords → ℕ → Record
record_from v commit = record { payload = payload_in v; commit = commit }

-- the row that they make at an address
abbrev pub row_from : ℕ → PayloadWords → ℕ → Row Record
row_from address v commit = row address (record_from v commit)

abbrev pub row_of : RecordRow → Row Record
row_of r = row_from r.address r.payload r.commit

-- what is read past the end
abbrev pub no_row : Row Record
no_row = row_from 0 no_payload 0

-- what a row of words says
abbrev pub row_in : List ℕ → Row Record
row_in ws = row_from (get_or ws 0 0) (record { value = get_or ws 1 0; owner = get_or ws 2 0 }) (get_or ws 3 0)

-- row i
abbrev pub row_at : RecordRows → ℕ → Row Record
row_at rows i = row_in (get_or rows i [])

-- the words of a row
abbrev pub record_words : RecordRow → List ℕ
record_words r = r.address ∷ r.payload.value ∷ r.payload.owner ∷ r.commit ∷ []

-- the rows with another one at place i
abbrev pub stored : RecordRows → ℕ → RecordRow → RecordRows
stored rows i r = set rows i (record_words r)

-- all rows
unfoldable pub rows_of : RecordRows → List (Row Record)
rows_of rows = tab (row_at rows) record_places

-- the records that the first n rows hold
unfoldable pub records_of : RecordRows → ℕ → List (Row Record)
records_of rows n = take n (rows_of rows)

-- leaves of their lows and their versions
unfoldable pub paired : List ℕ → List ℕ → List Leaf
paired [] versions = []
paired (low ∷ lows) [] = []
paired (low ∷ lows) (version ∷ versions) = record { low = low; version = version } ∷ paired lows versions

-- the leaves of the first m lows and versions
unfoldable pub leaves_of : List ℕ → List ℕ → ℕ → List Leaf
leaves_of lows versions m = paired (take m lows) (take m versions)

-- Rows that hold n records: there is room for them, and addresses rise.
pub record RecordsSorted (rows : RecordRows) (n : ℕ) : Type 0 where
  pub room : n ≤ record_places
  pub rising : Rising (records_of rows n)

-- Rows that hold exactly these records.
pub record RecordsAre (rows : RecordRows) (n : ℕ) (rs : List (Row Record)) : Type 0 where
  pub held : RecordsSorted rows n
  pub same : records_of rows n ≡ rs

-- the addresses of the rows from row i up to, not including, row j
unfoldable pub keys_between : RecordRows → ℕ → ℕ → List ℕ
keys_between rows i j = keys (take (j - i) (drop i (rows_of rows)))
