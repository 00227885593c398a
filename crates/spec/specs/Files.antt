-- Request 107: the file of an export, as bytes, and how it is read.
use Rattle.std.specs.Prelude.{ℕ, zero, suc, ◌+◌, ◌*◌, ◌/◌, ◌%◌, List, [], ◌∷◌, ◌++◌, length, drop}
use Rattle.std.proofs.Math.Option.{Option, none, some}
use Rattle.lists.specs.Tests.{pick, both, same}
use Rattle.lists.specs.Rows.{Row, row}
use Rattle.spec.specs.Widths.{address_size}
use Rattle.spec.specs.Records.{Payload}

-- ---- written

-- a number in so many bytes, the lowest first
unfoldable pub little_endian : ℕ → ℕ → List ℕ
little_endian zero n = []
little_endian (suc count) n = n % 256 ∷ little_endian count (n / 256)

-- all addresses
unfoldable pub address_bytes : List (Row Payload) → List ℕ
address_bytes [] = []
address_bytes (r ∷ rs) = little_endian address_size r.key ++ address_bytes rs

-- the bytes of an entry: value, 64 bits, and owner, 16 bits
abbrev pub entry_size : ℕ
entry_size = 10

unfoldable pub entry_bytes : List (Row Payload) → List ℕ
entry_bytes [] = []
entry_bytes (r ∷ rs) = little_endian 8 r.item.value ++ little_endian 2 r.item.owner ++ entry_bytes rs

-- record count and bytes per entry, all addresses, all entries
unfoldable pub file_of : List (Row Payload) → List ℕ
file_of rs = little_endian 4 (length rs) ++ little_endian 4 entry_size ++ address_bytes rs ++ entry_bytes rs

-- how many bytes that are
unfoldable pub file_size : List (Row Payload) → ℕ
file_size rs = 8 + (address_size + entry_size) * length rs

-- ---- read

-- the number that the first so many bytes are, the lowest first
unfoldable pub number_in : ℕ → List ℕ → ℕ
number_in zero bs = 0
number_in (suc count) [] = 0
number_in (suc count) (b ∷ bs) = b + 256 * number_in count bs

-- so many records, their addresses from these bytes on and their entries from those
unfoldable pub joined : ℕ → List ℕ → List ℕ → List (Row Payload)
joined zero ks es = []
joined (suc n) ks es =
    row (number_in address_size ks) (record { value = number_in 8 es; owner = number_in 2 (drop 8 es) })
    ∷ joined n (drop address_size ks) (drop entry_size es)

-- The records of a file; none, if the bytes of an entry are not those of a value and an owner, or not as many bytes are there.
unfoldable pub parsed : List ℕ → Option (List (Row Payload))
parsed bs =
    let n = number_in 4 bs in
    pick (both (same (number_in 4 (drop 4 bs)) entry_size) (same (length bs) (8 + (address_size + entry_size) * n)))
    (some (joined n (drop 8 bs) (drop (8 + address_size * n) bs)))
    none
