-- Document 01, "Indexlet slots": the constant table, home slots, the search rule, taking and giving back a slot.
--
-- What the indexlet says of an address is a plain look-up among its entries (`content_of`). The search rule, by which
-- a search goes from the home slot and may stop early, is a second definition (`search`).
use Rattle.std.specs.Prelude.{ℕ, zero, suc, pred, ◌+◌, ◌*◌, ◌/◌, ◌%◌, ◌^◌, Bool, false, not, List, [], ◌∷◌, get_or, set, replicate}
use Rattle.std.proofs.Math.Option
use Rattle.std.proofs.Math.Option.{Option, none, some}
use Rattle.std.specs.Int.Bits.{bit_xor}
use Rattle.lists.specs.Tests.{pick, both, maybe, present, same}
use Rattle.lists.specs.Rows.{Row, row, look}
use Rattle.spec.specs.Records.{Write}

-- ---- the table and the home slot

abbrev pub slot_count : ℕ
slot_count = 256

-- entry i of the constant table
unfoldable pub table_entry : ℕ → ℕ
table_entry i = (167 * i + 13) % 256

-- byte i of an address, counted from the lowest
unfoldable pub byte_of : ℕ → ℕ → ℕ
byte_of a i = a / 256 ^ i % 256

-- the home slot by the lower `n` bytes, h the result so far
unfoldable pub home_from : ℕ → ℕ → ℕ → ℕ
home_from zero a h = h
home_from (suc n) a h = home_from n a (table_entry (bit_xor (byte_of a n) h))

-- the home slot of an address of n + 1 bytes
unfoldable pub home_slot : ℕ → ℕ → ℕ
home_slot zero a = 0
home_slot (suc n) a = home_from n a (table_entry (byte_of a n))

-- ---- slots

-- An installed edit that is not yet folded (document 01: waiting), with the commit number of its writer, and the install
-- that began the waiting at its address (request 101: age), the first being 1.
pub record Pending : Type 0 where
  pub write : Write
  pub commit : ℕ
  pub since : ℕ

-- What the indexlet says of an address: the pending write, the worker that holds its lock, and whether that lock is for a
-- put (request 104), false where nobody holds it.
pub record Content : Type 0 where
  pub pending : Option Pending
  pub holder : Option ℕ
  pub for_put : Bool

-- neither waiting nor locked
abbrev pub idle : Content
idle = record { pending = none; holder = none; for_put = false }

unfoldable pub is_idle : Content → Bool
is_idle c = both (not (present c.pending)) (not (present c.holder))

pub record Slot : Type 0 where
  pub entry : Option (Row Content)
  pub overflow : ℕ

abbrev pub empty_slot : Slot
empty_slot = record { entry = none; overflow = 0 }

abbrev pub empty_slots : List Slot
empty_slots = replicate slot_count empty_slot

-- the entries, by slot
unfoldable pub entries : List Slot → List (Row Content)
entries [] = []
entries (s ∷ ss) = maybe s.entry (entries ss) (λ (e : Row Content). e ∷ entries ss)

-- what the indexlet says of an address
unfoldable pub content_of : List Slot → ℕ → Content
content_of ss k = Option.get_or (look (entries ss) k) idle

-- ---- from the home slot on

-- slot i, counted on from 255 to 0
unfoldable pub slot_at : List Slot → ℕ → Slot
slot_at ss i = get_or ss (i % slot_count) empty_slot

unfoldable pub vacant : Slot → Bool
vacant s = not (present s.entry)

-- the slot has the entry of k
unfoldable pub holds : ℕ → Slot → Bool
holds k s = maybe s.entry false (λ (e : Row Content). same e.key k)

-- how many slots from h on are passed before one that passes the test, of n slots at most; d have been passed already
unfoldable pub distance : (Slot → Bool) → List Slot → ℕ → ℕ → ℕ → Option ℕ
distance p ss h zero d = none
distance p ss h (suc n) d = let next : Option ℕ = distance p ss h n (suc d) in pick (p (slot_at ss (h + d))) (some d) next

-- What a search finds, and how many slots it examined.
pub record Searched : Type 0 where
  pub found : Option Content
  pub examined : ℕ

-- what a search that examines a slot finds there: the entry; nothing, where the count is 0; else it goes on
unfoldable pub search_at : ℕ → Slot → ℕ → Searched → Searched
search_at k s d next =
    pick (holds k s) (record { found = map_option s.entry; examined = suc d })
    (pick (same s.overflow 0) (record { found = none; examined = suc d }) next)
  where
    map_option : Option (Row Content) → Option Content
    map_option none = none
    map_option (some e) = some e.item

-- the search rule from h on, over n slots at most, d of which have been examined already
unfoldable pub search_from : List Slot → ℕ → ℕ → ℕ → ℕ → Searched
search_from ss k h zero d = record { found = none; examined = d }
search_from ss k h (suc n) d =
    let next : Searched = search_from ss k h n (suc d) in
    search_at k (slot_at ss (h + d)) d next

unfoldable pub search : ℕ → List Slot → ℕ → Searched
search bytes ss k = search_from ss k (home_slot bytes k) slot_count 0

-- ---- changes

unfoldable pub set_slot : List Slot → ℕ → Slot → List Slot
set_slot ss i s = set ss (i % slot_count) s

-- the overflow counts of d slots from h on, changed
unfoldable pub count_passed : (ℕ → ℕ) → List Slot → ℕ → ℕ → List Slot
count_passed f ss h zero = ss
count_passed f ss h (suc d) =
    let s : Slot = slot_at ss (h + d) in
    count_passed f (set_slot ss (h + d) (record { entry = s.entry; overflow = f s.overflow })) h d

-- the slot with another entry
unfoldable pub with_entry : List Slot → ℕ → Option (Row Content) → List Slot
with_entry ss i e = set_slot ss i (record { entry = e; overflow = (slot_at ss i).overflow })

-- a new entry takes the first empty slot from home, and each slot passed adds one
unfoldable pub take : ℕ → List Slot → ℕ → Content → List Slot
take bytes ss k c =
    let h : ℕ = home_slot bytes k in
    maybe (distance vacant ss h slot_count 0) ss
    (λ (d : ℕ). with_entry (count_passed suc ss h d) (h + d) (some (row k c)))

-- an entry is taken out, and each slot passed subtracts one
unfoldable pub release : ℕ → List Slot → ℕ → List Slot
release bytes ss k =
    let h : ℕ = home_slot bytes k in
    maybe (distance (holds k) ss h slot_count 0) ss
    (λ (d : ℕ). with_entry (count_passed pred ss h d) (h + d) none)

-- the entry of k says something else
unfoldable pub rewrite : List Slot → ℕ → Content → List Slot
rewrite [] k c = []
rewrite (s ∷ ss) k c =
    pick (holds k s) (record { entry = some (row k c); overflow = s.overflow }) s ∷ rewrite ss k c

-- The indexlet with `c` said of k. An address without an entry gets one, and an entry goes when its address is neither
-- waiting nor locked.
unfoldable pub enter : ℕ → List Slot → ℕ → Content → List Slot
enter bytes ss k c =
    pick (is_idle c) (release bytes ss k)
    (pick (present (look (entries ss) k)) (rewrite ss k c) (take bytes ss k c))

-- the entry of k that says c: none if nothing is said
abbrev pub kept : ℕ → Content → Option (Row Content)
kept k c = pick (is_idle c) none (some (row k c))
