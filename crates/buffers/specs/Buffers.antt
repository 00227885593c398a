-- What a scan's three buffers hold, and every place that it must leave.
use Rattle.std.specs.Prelude.{ℕ, ◌≤◌, ◌≡◌, List, length, get_or, take, drop}
use Rattle.lists.specs.Rows.{Row, row}
use Rattle.lists.specs.Tabulation.{tab}
use Rattle.spec.specs.Records.{Payload}
use Rattle.buffers.specs.declared.Places.{Places as PlaceCounts}
use Rattle.spec.specs.Steps.{Places}

-- the lent buffers, as lists
pub record Buffers : Type 0 where
  pub addresses : List ℕ
  pub values : List ℕ
  pub owners : List ℕ

abbrev pub buffers : List ℕ → List ℕ → List ℕ → Buffers
buffers ks vs os = record { addresses = ks; values = vs; owners = os }

-- how many places they have
abbrev pub places_of : Buffers → Places
places_of b = record { addresses = length b.addresses; values = length b.values; owners = length b.owners }

-- the counts of the code
abbrev pub counted_places : PlaceCounts → Places
counted_places p = record { addresses = p.addresses; values = p.values; owners = p.owners }

-- what place i of each holds
abbrev pub row_in : Buffers → ℕ → Row Payload
row_in b i = row (get_or b.addresses i 0) (record { value = get_or b.values i 0; owner = get_or b.owners i 0 })

-- the first n places, as rows
unfoldable pub rows_in : ℕ → Buffers → List (Row Payload)
rows_in n b = tab (row_in b) n

-- Of one buffer: every place from n on is as it was, and there are as many.
pub record Unmoved (n : ℕ) (ks ls : List ℕ) : Type 0 where
  pub size : length ls ≡ length ks
  pub same : (p : ℕ) → n ≤ p → get_or ls p 0 ≡ get_or ks p 0

-- Of each of them.
pub record Beyond (n : ℕ) (b c : Buffers) : Type 0 where
  pub addresses : Unmoved n b.addresses c.addresses
  pub values : Unmoved n b.values c.values
  pub owners : Unmoved n b.owners c.owners

-- ---- a part of the buffers

-- Buffers of m places have as many as are wanted.
pub record Lends (m w : Places) : Type 0 where
  pub addresses : w.addresses ≤ m.addresses
  pub values : w.values ≤ m.values
  pub owners : w.owners ≤ m.owners

-- the first places of the buffers, so many of each, and the others
abbrev pub first_of : Places → Buffers → Buffers
first_of w b = buffers (take w.addresses b.addresses) (take w.values b.values) (take w.owners b.owners)

abbrev pub others_of : Places → Buffers → Buffers
others_of w b = buffers (drop w.addresses b.addresses) (drop w.values b.values) (drop w.owners b.owners)
