-- What the functions inside the guard promise.
use Rattle.std.specs.Prelude.{ℕ, ◌≤◌, Bool, false, List, Option as Optional}
use Rattle.std.proofs.Math.Option.{Option}
use Rattle.lists.specs.Tests.{both, maybe}
use Rattle.lists.specs.Rows.{Row, row}
use Rattle.spec.specs.Records.{limits, Payload, Record, Write, payload_of}
use Rattle.spec.specs.Guards.{Scan, untouched, overlaps, of_put}
use Rattle.sets.specs.declared.writes.Entry.{Entry}
use Rattle.sets.specs.Reads.{ReadRows, ReadSetHeld}
use Rattle.sets.specs.Leaves.{LeafSetRows, scanned_in, LeafSetHeld}
use Rattle.sets.specs.Writes.{WriteRows, edit_in, WriteSetOrdered}
use Rattle.sets.specs.declared.leaves.Scanned.{Scanned}
use Rattle.spec.specs.Payloads.{option_in}

-- what a test of addresses and lengths says of a row of a write set
abbrev pub of_entry : (ℕ → ℕ → Bool) → Entry → Bool
of_entry f e = of_put f e.address (edit_in e.write)

-- the scan that decides, or none
abbrev pub decision_in : Optional Scanned → Option Scan
decision_in o = option_in scanned_in o

-- the section of m bytes at j overlaps the one of n bytes at k, whoever owns them
abbrev pub overlaps_at : ℕ → ℕ → ℕ → ℕ → Bool
overlaps_at k n j m = overlaps k n (row j (record { value = m; owner = 0 }))

-- the logged record overlaps it, and the transaction does not write at the record's address
unfoldable pub overlaps_logged : List (Row Write) → ℕ → ℕ → Row (Option Record) → Bool
overlaps_logged ws k n r = both (untouched ws r) (maybe (payload_of r.item) false (λ (p : Payload). overlaps k n (row r.key p)))

-- one worker's rows: k of the read set, m of the leaf set, n of the write set
pub record RowsHeld (rs : ReadRows) (k : ℕ) (ls : LeafSetRows) (m : ℕ) (ws : WriteRows) (n : ℕ) : Type 0 where
  pub reads_held : ReadSetHeld rs
  pub leaves_held : LeafSetHeld ls
  pub set : WriteSetOrdered ws n
  pub reads : k ≤ limits.read_limit
  pub leaves : m ≤ limits.leaf_set_limit
