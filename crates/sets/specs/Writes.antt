-- Write sets (document 01: the edits): how their rows read, and what the functions over one promise.
use Rattle.std.specs.Prelude.{ℕ, ◌<◌, ◌≤◌, ◌≡◌, List, [], ◌∷◌, length, get_or, Option as Optional}
use Rattle.std.proofs.Math.Option.{Option}
use Rattle.lists.specs.Tests.{pick, same}
use Rattle.lists.specs.Rows.{Row, row, insert, Rising}
use Rattle.spec.specs.Records.{limits, Write, written, deleted}
use Rattle.spec.specs.Payloads.{payload_in, no_payload, option_in}
use Rattle.spec.specs.declared.PayloadWords.{PayloadWords}
use Rattle.sets.specs.declared.writes.Entry.{Entry}
use Rattle.sets.specs.declared.writes.WriteRow.{WriteRow}
use Rattle.sets.specs.declared.writes.Write.{Write as WriteWords}
use Rattle.sets.specs.declared.writes.Write.TheVariants.{Put, Deletion}
use Rattle.sets.specs.Sets.{AddressAt, Each, first_rows}

-- one worker's rows, as lists of words
abbrev pub WriteRows : Type 0
WriteRows = List (List ℕ)

-- how many words a row has
abbrev pub write_words : ℕ
write_words = 4

-- ---- views

-- the write of a kind and a payload: 1 is a put, all else a deletion
unfoldable pub write_of : ℕ → PayloadWords → Write
write_of kind v = pick (same kind 1) (written (payload_in v)) deleted

-- the write that the code has
abbrev pub edit_in : WriteWords → Write
edit_in (Put v) = written (payload_in v)
edit_in Deletion = deleted

-- its kind as a word, and what it gives
abbrev pub kind_of : WriteWords → ℕ
kind_of (Put v) = 1
kind_of Deletion = 2

abbrev pub given_by : WriteWords → PayloadWords
given_by (Put v) = v
given_by Deletion = no_payload

abbrev pub entry_in : Entry → Row Write
entry_in e = row e.address (edit_in e.write)

-- the write found, or none
abbrev pub found_in : Optional WriteWords → Option Write
found_in o = option_in edit_in o

-- what is read past the end
abbrev pub no_write : Row Write
no_write = row 0 deleted

-- row i in words
abbrev pub line_at : WriteRows → ℕ → WriteRow
line_at rs i =
    record {
      address = get_or (get_or rs i []) 0 0;
      kind = get_or (get_or rs i []) 1 0;
      payload = record { value = get_or (get_or rs i []) 2 0; owner = get_or (get_or rs i []) 3 0 };
    }

-- the row that a write at an address becomes
abbrev pub row_words : ℕ → WriteWords → WriteRow
row_words a w = record { address = a; kind = kind_of w; payload = given_by w }

-- the words of a row
abbrev pub words_of : WriteRow → List ℕ
words_of l = l.address ∷ l.kind ∷ l.payload.value ∷ l.payload.owner ∷ []

-- what a row says
abbrev pub write_in : List ℕ → Row Write
write_in r = row (get_or r 0 0) (write_of (get_or r 1 0) (record { value = get_or r 2 0; owner = get_or r 3 0 }))

-- a write set of n rows
abbrev pub writes_of : WriteRows → ℕ → List (Row Write)
writes_of rs n = first_rows write_in rs n

-- that of worker w
abbrev pub writes_in : List WriteRows → ℕ → ℕ → List (Row Write)
writes_in gs w n = writes_of (get_or gs w []) n

-- ---- the invariants

-- the rows of one worker: stored addresses are addresses
abbrev pub WriteSetHeld : WriteRows → Type 0
WriteSetHeld rs = Each (AddressAt 0) limits.write_limit rs

-- those of all workers
abbrev pub WritesHeld : List WriteRows → Type 0
WritesHeld gs = Each WriteSetHeld limits.workers gs

-- The first n rows are a write set: their addresses rise.
pub record WriteSetOrdered (rs : WriteRows) (n : ℕ) : Type 0 where
  pub held : WriteSetHeld rs
  pub room : n ≤ limits.write_limit
  pub rising : Rising (writes_of rs n)

-- ---- promises

-- the rows became these
pub record WritesBecome (rs us : WriteRows) : Type 0 where
  pub held : WriteSetHeld us
  pub rows : us ≡ rs

-- the rows after a write was put among the n writes, and how many there are now
pub record PutsWrite (rs : WriteRows) (n a : ℕ) (w : WriteWords) (us : WriteRows) (r : ℕ) : Type 0 where
  pub set : WriteSetOrdered us r
  pub view : writes_of us r ≡ insert a (edit_in w) (writes_of rs n)
  pub count : r ≡ length (insert a (edit_in w) (writes_of rs n))

-- row i, in a set of any number of rows that has it
pub record GivesWrite (rs : WriteRows) (i : ℕ) (r : Entry) : Type 0 where
  pub at : (n : ℕ) → i < n → entry_in r ≡ get_or (writes_of rs n) i no_write
