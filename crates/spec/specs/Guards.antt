-- Request 102, guarded maps: a value is a section's length in bytes, and no two present sections overlap. What a lock tests
-- of a write set's puts, and what then holds of the contents.
use Rattle.std.specs.Prelude.{ℕ, ◌+◌, ◌-◌, ◌≡◌, Bool, true, false, not, take, drop}
use mathlib.Core.List.{List, [], ◌∷◌, ◌++◌, Memᴰ}
use Rattle.std.proofs.Math.Option.{Option, none, some}
use Rattle.lists.specs.Tests.{pick, both, either, maybe, present, same, less, at_most, within}
use Rattle.lists.specs.Rows.{Row, row, look, map_items, any, filter}
use Rattle.spec.specs.Records.{limits, Payload, Record, Write, written, deleted, own_view, payload_of}

-- A granted scan, as its transaction remembers it: the range, and which rows of the read set it logged.
pub record Scan : Type 0 where
  pub lo : ℕ
  pub hi : ℕ
  pub from : ℕ
  pub count : ℕ

-- the rows that a scan logged, in the read set
unfoldable pub stretch : List (Row (Option Record)) → Scan → List (Row (Option Record))
stretch reads c = take c.count (drop c.from reads)

-- the last byte of a section of n bytes at k
unfoldable pub last_byte : ℕ → ℕ → ℕ
last_byte k n = k + n - 1

-- the section of m bytes at j and the one of n bytes at k have a byte in common
unfoldable pub share : ℕ → ℕ → ℕ → ℕ → Bool
share j m k n = both (at_most j (last_byte k n)) (at_most k (last_byte j m))

-- 16: the length is outside 1 to that of the longest section, or the end is past the highest address
unfoldable pub unfit : ℕ → ℕ → Bool
unfit k n = either (not (within 1 limits.longest n)) (less limits.highest (last_byte k n))

-- the scan covers the section and all addresses from which another one could reach into it: from the address less 65,535
-- (or 0) to the section's last byte
unfoldable pub covers : ℕ → ℕ → Scan → Bool
covers k n c = both (at_most c.lo (k - (limits.longest - 1))) (at_most (last_byte k n) c.hi)

-- the last element that passes the test
unfoldable pub latest : {A : Type 0} → (A → Bool) → List A → Option A
latest f [] = none
latest f (x ∷ xs) = maybe (latest f xs) (pick (f x) (some x) none) some

-- of several scans that cover the section, the latest decides
unfoldable pub deciding : List Scan → ℕ → ℕ → Option Scan
deciding cs k n = latest (covers k n) cs

-- 17: no scan covers it
unfoldable pub uncovered : List Scan → ℕ → ℕ → Bool
uncovered cs k n = not (present (deciding cs k n))

-- the rows that have a payload
unfoldable pub standing : List (Row (Option Payload)) → List (Row Payload)
standing [] = []
standing (r ∷ rs) = maybe r.item (standing rs) (λ (p : Payload). row r.key p ∷ standing rs)

-- the transaction does not write at the row's address
unfoldable pub untouched : List (Row Write) → Row (Option Record) → Bool
untouched ws r = not (present (look ws r.key))

-- what a scan logged, with all of the transaction's writes laid over: its puts, and what stood at the other addresses
unfoldable pub laid_over : List (Row Write) → List (Row (Option Record)) → List (Row Payload)
laid_over ws rows = standing (map_items own_view ws) ++ standing (map_items payload_of (filter (untouched ws) rows))

-- the record is another one than that of the section at k, and shares a byte with it
unfoldable pub overlaps : ℕ → ℕ → Row Payload → Bool
overlaps k n r = both (not (same r.key k)) (share r.key r.item.value k n)

-- 18: after the writes are laid over what the deciding scan logged, something else overlaps the section
unfoldable pub overlapped : List (Row (Option Record)) → List Scan → List (Row Write) → ℕ → ℕ → Bool
overlapped reads cs ws k n =
    maybe (deciding cs k n) false (λ (c : Scan). any (overlaps k n) (laid_over ws (stretch reads c)))

-- the test holds of the address and the length, if the write is a put
unfoldable pub of_put : (ℕ → ℕ → Bool) → ℕ → Write → Bool
of_put f k (written p) = f k p.value
of_put f k deleted = false

-- it holds of some put
unfoldable pub any_put : (ℕ → ℕ → Bool) → List (Row Write) → Bool
any_put f ws = any (λ (r : Row Write). of_put f r.key r.item) ws

-- What holds of the contents of a guarded map: the sections fit, and no two of them overlap.
pub record NoOverlap (contents : List (Row Record)) : Type 0 where
  pub fit : (r : Row Record) → Memᴰ r contents → unfit r.key r.item.payload.value ≡ false
  pub apart :
      (r q : Row Record) → Memᴰ r contents → Memᴰ q contents → (r.key ≡ q.key → ⊥)
      → share r.key r.item.payload.value q.key q.item.payload.value ≡ false
