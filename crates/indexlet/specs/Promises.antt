-- What the indexlet's functions promise: of the words they are lent, of what they return.
use Rattle.std.specs.Prelude.{ℕ, zero, suc, ◌+◌, ◌-◌, ◌*◌, ◌/◌, ◌%◌, ◌^◌, ◌<◌, ◌≤◌, ◌≡◌, true, false, List, length, get_or}
use Rattle.std.proofs.Math.Option.{none, some}
use Rattle.lists.specs.Tests.{pick, same, less}
use Rattle.lists.specs.Rows.{look}
use Rattle.spec.specs.Widths.{address_size, addresses}
use Rattle.spec.specs.Slots.{slot_count, home_slot, is_idle, Slot, empty_slot, empty_slots, entries, content_of, slot_at, holds, count_passed, Searched, search, Content, take, release, enter}
use Rattle.laws.specs.Probes.{gap}
use Rattle.laws.specs.SlotCounts.{Good, Place}
use Rattle.indexlet.specs.declared.Content.{Content as ContentWords}
use Rattle.indexlet.specs.declared.Slot.{Slot as SlotWords}
use Rattle.indexlet.specs.declared.Looked.{Looked}
use Rattle.indexlet.specs.declared.Sought.{Sought}
use Rattle.indexlet.specs.Words.{SlotRows, content_in, slot_in, row_at, slots_of}
use Rattle.indexlet.specs.Filters.{slot_rows, bucket_of, cell_at, cell_put, Filtered, BehindStays}
use Rattle.indexlet.specs.Bitmaps.{word_bits, bitmap_at, bitmap_put, Occupied, Turns}

-- the key of an entry is an address; of a slot without one it is anything
abbrev pub Narrow : SlotWords → Type 0
Narrow s = is_idle (content_in s.content) ≡ false → s.key < addresses

-- as many rows as there are slots, with those of the filter and of the bitmap behind them; the keys of entries are addresses
pub record Sized (ws : SlotRows) : Type 0 where
  pub size : length ws ≡ slot_rows
  pub narrow : (i : ℕ) → i < slot_count → Narrow (row_at ws i)

-- The invariant of the lent words: `fresh_slots` establishes it, `enter` keeps it, and so does whatever only reads them; all of these but
-- `fresh_slots` and `content_at` ask it.
pub record SlotsHeld (ws : SlotRows) : Type 0 where
  pub sized : Sized ws
  pub good : Good address_size (slots_of ws)
  pub filtered : Filtered ws (slots_of ws)
  pub occupied : Occupied ws (slots_of ws)

-- the words `us`, which were `ws`, hold these slots, and the rows behind the slots stay
pub record SlotsBecome (ws us : SlotRows) (ss : List Slot) : Type 0 where
  pub sized : Sized us
  pub view : slots_of us ≡ ss
  pub stays : BehindStays ws us

-- the words `ws`, which were `old`, hold the same slots, but that the counts of d slots from h on are changed
abbrev pub Going : (ℕ → ℕ) → SlotRows → ℕ → SlotRows → ℕ → Type 0
Going f old h ws d = SlotsBecome old ws (count_passed f (slots_of old) h d)

-- a count with `up` added and `down` taken away
abbrev pub shifted : ℕ → ℕ → ℕ → ℕ
shifted up down n = n + up - down

-- the counts of n slots from h on can have `up` added and `down` taken away
pub record Countable (up down : ℕ) (ss : List Slot) (h n : ℕ) : Type 0 where
  pub fits : (d : ℕ) → d < n → (slot_at ss (h + d)).overflow + up < 2 ^ 64
  pub enough : (d : ℕ) → d < n → down ≤ (slot_at ss (h + d)).overflow + up

pub record SlotsFresh (ws : SlotRows) : Type 0 where
  pub held : SlotsHeld ws
  pub view : slots_of ws ≡ empty_slots

-- the row of slot i
pub record IsSlot (ws : SlotRows) (i : ℕ) (r : SlotWords) : Type 0 where
  pub slot : slot_in r ≡ get_or (slots_of ws) i empty_slot
  pub narrow : Narrow r

-- nothing is said
abbrev pub unsaid : ContentWords
unsaid = record { kind = 0; payload = record { value = 0; owner = 0 }; commit = 0; since = 0; lock = 0; forput = 0 }

-- ---- where a search ends

-- what a search that examines a slot does, as `search_at` does it
unfoldable pub sought_at : ℕ → Slot → ℕ → ℕ → Sought → Sought
sought_at k s i d next =
    pick (holds k s) (record { at = i; examined = suc d })
    (pick (same s.overflow 0) (record { at = slot_count; examined = suc d }) next)

unfoldable pub sought_from : List Slot → ℕ → ℕ → ℕ → ℕ → Sought
sought_from ss k h zero d = record { at = slot_count; examined = d }
sought_from ss k h (suc n) d =
    let next : Sought = sought_from ss k h n (suc d) in
    sought_at k (slot_at ss (h + d)) ((h + d) % slot_count) d next

-- where the search for k ends
unfoldable pub sought : List Slot → ℕ → Sought
sought ss k = sought_from ss k (home_slot address_size k) slot_count 0

-- what a search found: nothing where nothing is said
unfoldable pub looked_in : Looked → Searched
looked_in r =
    record {
      found = pick (is_idle (content_in r.content)) none (some (content_in r.content));
      examined = r.examined;
    }

-- a search by the search rule, which finds what the indexlet says of the address
pub record Looks (ws : SlotRows) (a : ℕ) (r : Looked) : Type 0 where
  pub searched : search address_size (slots_of ws) a ≡ looked_in r
  pub content : content_of (slots_of ws) a ≡ content_in r.content

-- what is said in a slot; from 256 on, nothing
unfoldable pub content_at : SlotRows → ℕ → ContentWords
content_at ws i = pick (less i slot_count) (row_at ws i).content unsaid

-- the slot of an address's entry, where what the indexlet says of it is read; from 256 on there is none
pub record Finds (ws : SlotRows) (a at : ℕ) : Type 0 where
  pub content : content_of (slots_of ws) a ≡ content_in (content_at ws at)
  pub hit : at < slot_count → holds a (get_or (slots_of ws) at empty_slot) ≡ true
  pub miss : slot_count ≤ at → look (entries (slots_of ws)) a ≡ none

-- the entry of a, in slot r, was taken out: what `release` leaves, its bit cleared, and one less in its bucket
pub record TakenOut (ws : SlotRows) (a r : ℕ) (vs : SlotRows) : Type 0 where
  pub middle : SlotRows
  pub released : SlotsBecome ws middle (release address_size (slots_of ws) a)
  pub cleared : SlotRows
  pub bit_gone : cleared ≡ bitmap_put middle (r / word_bits) (bitmap_at middle (r / word_bits) - 2 ^ (r % word_bits))
  pub counted : vs ≡ cell_put cleared (bucket_of a) (cell_at cleared (bucket_of a) - 256)

-- a has a new entry: what `take` leaves, its bit set, and one more in its bucket
pub record TakenIn (ws : SlotRows) (a : ℕ) (c : Content) (vs : SlotRows) : Type 0 where
  pub middle : SlotRows
  pub taken : SlotsBecome ws middle (take address_size (slots_of ws) a c)
  pub slot : ℕ
  pub inside : slot < slot_count
  pub turns : Turns true false (slots_of ws) (take address_size (slots_of ws) a c) slot
  pub bit_set : SlotRows
  pub bit_new : bit_set ≡ bitmap_put middle (slot / word_bits) (bitmap_at middle (slot / word_bits) + 2 ^ (slot % word_bits))
  pub counted : vs ≡ cell_put bit_set (bucket_of a) ((cell_at bit_set (bucket_of a) / 256 + 1) * 256 + slot)

-- the words after c was said of a, and the number of entries
pub record Enters (ws : SlotRows) (a : ℕ) (c : ContentWords) (us : SlotRows) (n : ℕ) : Type 0 where
  pub held : SlotsHeld us
  pub view : slots_of us ≡ enter address_size (slots_of ws) a (content_in c)
  pub number : n ≡ length (entries (slots_of us))

-- the entry of k stands d slots after its home slot
pub record Stands (ss : List Slot) (k d : ℕ) : Type 0 where
  pub place : Place ss k
  pub far : gap (home_slot address_size k) place.at ≡ d
