-- The bitmap, in the row behind the filter's: one bit for each slot, in four words, which is 1 if the slot has an entry. A walk over
-- the slots goes from bit to bit, and passes slots without an entry without looking at them.
use Rattle.std.specs.Prelude.{ℕ, ◌+◌, ◌-◌, ◌*◌, ◌/◌, ◌%◌, ◌^◌, ◌<◌, ◌≤◌, ◌≡◌, ◌⊎◌, Bool, List, [], get_or}
use Rattle.lists.specs.Tests.{pick}
use Rattle.spec.specs.Slots.{slot_count, Slot, empty_slot, vacant}
use Rattle.indexlet.specs.Words.{SlotRows, word_put, slots_of}
use Rattle.indexlet.specs.Bits.{bit}

-- how many slots have their bit in a word, and the row in which the words stand
abbrev pub word_bits : ℕ
word_bits = 64

abbrev pub bitmap_row : ℕ
bitmap_row = 512

-- word k of the bitmap; as in the filter's rows, the first word of the row is not used
abbrev pub bitmap_at : SlotRows → ℕ → ℕ
bitmap_at ws k = get_or (get_or ws bitmap_row []) (k + 1) 0

abbrev pub bitmap_put : SlotRows → ℕ → ℕ → SlotRows
bitmap_put ws k w = word_put ws bitmap_row (k + 1) w

-- the bitmap in the words tells which slots are occupied
pub record Occupied (ws : SlotRows) (ss : List Slot) : Type 0 where
  pub bits : (i : ℕ) → i < slot_count → bit (i % word_bits) (bitmap_at ws (i / word_bits)) ≡ pick (vacant (get_or ss i empty_slot)) 0 1

-- an entry comes to slot r or goes from it, or it stays as it is: whether the slot is empty before and after; of no other slot that
-- changes
pub record Turns (before after : Bool) (ss us : List Slot) (r : ℕ) : Type 0 where
  pub was : vacant (get_or ss r empty_slot) ≡ before
  pub is : vacant (get_or us r empty_slot) ≡ after
  pub others : (j : ℕ) → j < slot_count → (j ≡ r → ⊥) → vacant (get_or us j empty_slot) ≡ vacant (get_or ss j empty_slot)

-- the first slot whose bit stands in the next word
abbrev pub word_end : ℕ → ℕ
word_end i = (i / word_bits + 1) * word_bits

-- the bits of the slots with an entry, or of those without one, from a slot on, up to the end of their word: bit i is that of the i-th slot
-- from there
pub record BitsFrom (empty : Bool) (ws : SlotRows) (from w : ℕ) : Type 0 where
  pub told : (i : ℕ) → from ≤ i → i < word_end from → vacant (get_or (slots_of ws) i empty_slot) ≡ empty → bit (i - from) w ≡ 1
  pub own : (i : ℕ) → bit i w ≡ 1 → (from + i < word_end from) × (vacant (get_or (slots_of ws) (from + i) empty_slot) ≡ empty)

-- How far a walk along the bits is: of the slots from `from` on, up to the end of their word, those that fail the test P still have their
-- bit in w.
pub record Unseen (P : ℕ → Type 0) (from w : ℕ) : Type 0 where
  pub left : (i : ℕ) → from ≤ i → i < word_end from → (bit (i - from) w ≡ 1) ⊎ P i
  pub inside : (i : ℕ) → bit i w ≡ 1 → from + i < word_end from
  pub fits : w < 2 ^ 64
