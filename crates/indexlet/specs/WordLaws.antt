-- The laws of words: what a store leaves in each row, and the view after it.
use Rattle.std.specs.Prelude.{ℕ, zero, suc, ◌%◌, ◌<◌, ◌≡◌, refl, Bool, true, false, not, [], eqb, length, get_or, set}
use Rattle.std.proofs.Common.{arith, sym, ap, ◌∙◌, ⊎_elim, length-set, get_or-set_same, get_or-set_other, ext_get_or, ne_eqb}
use Rattle.std.proofs.Math.Option.{none, some}
use Rattle.lists.specs.Tests.{pick, both, maybe, present, same}
use Rattle.lists.specs.TestLaws.{cases, same_true, same_false, same_yes, same_no}
use Rattle.lists.specs.Rows.{Row, row}
use Rattle.lists.specs.Shifts.{length_tab, get_or_tab}
use Rattle.spec.specs.Slots.{slot_count, Content, is_idle, empty_slot, slot_at, vacant, holds}
use Rattle.indexlet.specs.declared.Content.{Content as ContentWords}
use Rattle.indexlet.specs.declared.Slot.{Slot as SlotWords}
use Rattle.indexlet.specs.Words.{SlotRows, pending_in, holder_in, content_in, slot_in, row_in, row_at, words_of, store, slots_of}
use Rattle.indexlet.specs.Filters.{slot_rows}

-- ---- rows

pub length_store : (ts : SlotRows) (i : ℕ) (s : SlotWords) → length (store ts i s) ≡ length ts
length_store ts i s = length-set ts i (words_of s)

-- the row that was stored
pub row_store_same : (ts : SlotRows) (i : ℕ) (s : SlotWords) → length ts ≡ slot_rows → i < slot_count → row_at (store ts i s) i ≡ s
row_store_same ts i s l h = ap row_in (get_or-set_same ts i (words_of s) [] (omega arith))

-- and every other
pub row_store_other : (ts : SlotRows) (i k : ℕ) (s : SlotWords) → (k ≡ i → ⊥) → row_at (store ts i s) k ≡ row_at ts k
row_store_other ts i k s n = ap row_in (get_or-set_other ts i k (words_of s) [] n)

-- ---- the view

pub length_slots : (ws : SlotRows) → length (slots_of ws) ≡ slot_count
unfolding slots_of
length_slots ws = length_tab (λ (i : ℕ). slot_in (row_at ws i)) slot_count

pub slots_at : (ws : SlotRows) (i : ℕ) → i < slot_count → get_or (slots_of ws) i empty_slot ≡ slot_in (row_at ws i)
unfolding slots_of
slots_at ws i h = get_or_tab (λ (i : ℕ). slot_in (row_at ws i)) slot_count i empty_slot h

-- the slot after some slots from another
pub slot_there : (ws : SlotRows) (i : ℕ) → slot_at (slots_of ws) i ≡ slot_in (row_at ws (i % slot_count))
unfolding slot_at
slot_there ws i = slots_at ws (i % slot_count) (omega arith)

-- a store of a row changes one slot
pub slots_store : (ws : SlotRows) (i : ℕ) (s : SlotWords) → length ws ≡ slot_rows → i < slot_count
    → slots_of (store ws i s) ≡ set (slots_of ws) i (slot_in s)
slots_store ws i s l h =
    ext_get_or empty_slot (slots_of (store ws i s)) (set (slots_of ws) i (slot_in s))
    (length_slots (store ws i s) ∙ sym (length-set (slots_of ws) i (slot_in s) ∙ length_slots ws))
    (λ j q. at j (let z : length (slots_of (store ws i s)) ≡ slot_count = length_slots (store ws i s) in omega arith))
  where
    inside : i < length (slots_of ws)
    inside = let z : length (slots_of ws) ≡ slot_count = length_slots ws in omega arith

    at : (j : ℕ) → j < slot_count → get_or (slots_of (store ws i s)) j empty_slot ≡ get_or (set (slots_of ws) i (slot_in s)) j empty_slot
    at j q =
        slots_at (store ws i s) j q
        ∙ ⊎_elim
        (λ t. let e : j ≡ i = same_true j i t in
        ap (λ (n : ℕ). slot_in (row_at (store ws i s) n)) e
        ∙ ap slot_in (row_store_same ws i s l h)
        ∙ sym (ap (λ (n : ℕ). get_or (set (slots_of ws) i (slot_in s)) n empty_slot) e ∙ get_or-set_same (slots_of ws) i (slot_in s) empty_slot inside))
        (λ t. ap slot_in (row_store_other ws i j s (same_false j i t)) ∙ sym (slots_at ws j q)
        ∙ sym (get_or-set_other (slots_of ws) i j (slot_in s) empty_slot (same_false j i t)))
        (cases (same j i))

-- ---- tests of a row

pub idle_waiting : (c : ContentWords) → (c.kind ≡ 0 → ⊥) → is_idle (content_in c) ≡ false
unfolding is_idle content_in pending_in
idle_waiting c n = go c.kind n
  where
    go : (k : ℕ) → (k ≡ 0 → ⊥) → both (not (present (pending_in k c.payload c.commit c.since))) (not (present (holder_in c.lock))) ≡ false
    go zero n = absurd (n refl)
    go (suc zero) n = refl
    go (suc (suc k)) n = refl

pub idle_lock : (c : ContentWords) → c.kind ≡ 0 → is_idle (content_in c) ≡ eqb c.lock 0
unfolding is_idle content_in pending_in holder_in
idle_lock c e =
    ap (λ (k : ℕ). both (not (present (pending_in k c.payload c.commit c.since))) (not (present (holder_in c.lock)))) e ∙ go c.lock
  where
    go : (l : ℕ) → not (present (holder_in l)) ≡ eqb l 0
    go zero = refl
    go (suc w) = sym (ne_eqb (suc w) 0 (λ e. omega arith))

-- a row that says nothing has no entry
pub vacant_idle : (s : SlotWords) → vacant (slot_in s) ≡ is_idle (content_in s.content)
unfolding vacant slot_in
vacant_idle s = go (is_idle (content_in s.content))
  where
    go : (t : Bool) → not (present {A = Row Content} (pick t none (some (row s.key (content_in s.content))))) ≡ t
    go true = refl
    go false = refl

-- a row with another key has not the entry of a; one with this key has, if it says anything
pub holds_other : (a : ℕ) (s : SlotWords) → (s.key ≡ a → ⊥) → holds a (slot_in s) ≡ false
unfolding holds slot_in
holds_other a s n = go (is_idle (content_in s.content))
  where
    go : (t : Bool) → maybe (pick t none (some (row s.key (content_in s.content)))) false (λ (e : Row Content). same e.key a) ≡ false
    go true = refl
    go false = same_no {m = s.key} {n = a} n

pub holds_same : (a : ℕ) (s : SlotWords) → s.key ≡ a → holds a (slot_in s) ≡ not (is_idle (content_in s.content))
unfolding holds slot_in
holds_same a s e = go (is_idle (content_in s.content))
  where
    go : (t : Bool) → maybe (pick t none (some (row s.key (content_in s.content)))) false (λ (e : Row Content). same e.key a) ≡ not t
    go true = refl
    go false = same_yes {m = s.key} {n = a} e

pub idle_zero : is_idle (content_in (record { kind = 0; payload = record { value = 0; owner = 0 }; commit = 0; since = 0; lock = 0; forput = 0 })) ≡ true
unfolding is_idle content_in pending_in holder_in
idle_zero = refl
