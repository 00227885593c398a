-- Read sets (document 01: the log's record entries): how their rows read, and what the functions over one promise.
use Rattle.std.specs.Prelude.{ℕ, ◌+◌, ◌<◌, ◌≡◌, Bool, List, [], ◌∷◌, ◌++◌, eqb, get_or, Option as Optional}
use Rattle.std.proofs.Math.Option.{Option, none, some}
use Rattle.lists.specs.Tests.{pick}
use Rattle.lists.specs.Rows.{Row, row}
use Rattle.spec.specs.Records.{limits, Record}
use Rattle.spec.specs.Payloads.{payload_in, record_in}
use Rattle.spec.specs.declared.PayloadWords.{PayloadWords}
use Rattle.spec.specs.declared.RecordWords.{RecordWords}
use Rattle.sets.specs.declared.reads.Observed.{Observed}
use Rattle.sets.specs.Sets.{AddressAt, Each, first_rows}

-- one worker's rows, as lists of words
abbrev pub ReadRows : Type 0
ReadRows = List (List ℕ)

-- how many words a row has
abbrev pub read_words : ℕ
read_words = 5

-- ---- views

-- the record with this payload and commit number, if one is present
abbrev pub record_of : Bool → PayloadWords → ℕ → Option Record
record_of there v commit = pick there (some (record { payload = payload_in v; commit = commit })) none

abbrev pub observed_in : Observed → Row (Option Record)
observed_in o = row o.address (record_in o.current)

-- what is read past the end
abbrev pub no_read : Row (Option Record)
no_read = row 0 none

-- what a row says
abbrev pub read_in : List ℕ → Row (Option Record)
read_in r = row (get_or r 0 0) (record_of (eqb (get_or r 1 0) 1) (record { value = get_or r 2 0; owner = get_or r 3 0 }) (get_or r 4 0))

-- a read set of n rows
abbrev pub reads_of : ReadRows → ℕ → List (Row (Option Record))
reads_of rs n = first_rows read_in rs n

-- that of worker w
abbrev pub reads_in : List ReadRows → ℕ → ℕ → List (Row (Option Record))
reads_in gs w n = reads_of (get_or gs w []) n

-- ---- the invariants

-- the rows of one worker: stored addresses are addresses
abbrev pub ReadSetHeld : ReadRows → Type 0
ReadSetHeld rs = Each (AddressAt 0) limits.read_limit rs

-- those of all workers
abbrev pub ReadsHeld : List ReadRows → Type 0
ReadsHeld gs = Each ReadSetHeld limits.workers gs

-- ---- promises

-- the rows after one was appended to the first n, and how many there are now
pub record LogsRead (rs : ReadRows) (n a : ℕ) (seen : Optional RecordWords) (us : ReadRows) (r : ℕ) : Type 0 where
  pub held : ReadSetHeld us
  pub count : r ≡ n + 1
  pub view : reads_of us r ≡ reads_of rs n ++ (row a (record_in seen) ∷ [])

-- row i, in a set of any number of rows that has it
pub record GivesRead (rs : ReadRows) (i : ℕ) (r : Observed) : Type 0 where
  pub at : (n : ℕ) → i < n → observed_in r ≡ get_or (reads_of rs n) i no_read
