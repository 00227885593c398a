-- The loops that change counts on the way from a home slot: a new entry adds one to each slot passed, an entry that goes
-- subtracts one.
use Prim.Native.Nat.{ℕ, suc, pred, ◌+◌, ◌-◌, ◌*◌, ◌%◌, ◌^◌, ◌<◌, ◌≤◌, zero-le}
use Rattle.std.proofs.Common.{add-one, ◌∙◌}
use native.Mathlib.Omega.{arith}
use Rattle.std.specs.Prelude.{◌≡◌, refl, Bool, true, false}
use Rattle.std.proofs.Math.Path.{sym, ap, subst}
use Rattle.std.proofs.Math.Logic.{⊎_elim}
use mathlib.Core.List.{List}
use Rattle.std.proofs.Math.Option.{Option, none, some}
use Rattle.std.proofs.Math.ListN.{length, get_or, set}
use Rattle.std.proofs.Math.Seq.{ext_get_or}
use Rattle.std.specs.Int.Count.{count_trailing_zeros}
use Rattle.lists.specs.Tests.{pick, same, less}
use Rattle.lists.specs.TestLaws.{cases, clash, same_true, same_false, less_true, less_false, less_yes, less_no}
use Rattle.lists.specs.Rows.{Row, row}
use Rattle.spec.specs.Widths.{address_size, addresses}
use Rattle.spec.specs.Slots.{slot_count, home_slot, Content, is_idle, Slot, empty_slot, entries, slot_at, vacant, holds, distance, set_slot, count_passed, with_entry, take, release, kept}
use Rattle.laws.specs.Probes.{gap, gap_less, home_less, counted, length_count_passed, at_count_passed, First, distance_some, distance_first, count_passed_next, count_passed_ahead}
use Rattle.laws.specs.SlotCounts.{Good, overflow_most}
use Rattle.laws.specs.SlotChanges.{vacancy, take_at, release_at, distance_place}
use Rattle.laws.specs.Searches.{passed_counts}
use Rattle.indexlet.specs.declared.Content.{Content as ContentWords}
use Rattle.indexlet.specs.declared.Slot.{Slot as SlotWords}
use Rattle.indexlet.specs.Words.{SlotRows, content_in, slot_in, row_at, saying, store, slots_of}
use Rattle.indexlet.specs.WordLaws.{length_store, row_store_same, row_store_other, length_slots, slot_there, slots_store, vacant_idle}
use Rattle.indexlet.specs.Filters.{BehindStays}
use Rattle.indexlet.specs.FilterLaws.{store_stays, stays_on}
use Rattle.indexlet.specs.Bits.{bit, bit_zero, lowest_set, lowest_first}
use Rattle.indexlet.specs.Bitmaps.{Turns, word_end, BitsFrom}
use Rattle.indexlet.specs.BitmapLaws.{entry_turns}
use Rattle.indexlet.specs.Promises.{Narrow, Sized, SlotsHeld, SlotsBecome, Going, shifted, Countable, Stands}
use Rattle.indexlet.specs.SeekLaws.{examined_slot}

-- a stored row whose key is an address, if it has an entry
pub sized_store : (ws : SlotRows) (i : ℕ) (s : SlotWords) → Sized ws → i < slot_count → Narrow s → Sized (store ws i s)
sized_store ws i s z h n =
    record {
      size = length_store ws i s ∙ z.size;
      narrow = λ j q. ⊎_elim
          (λ t. subst (λ (x : SlotWords). Narrow x) (sym (ap (row_at (store ws i s)) (same_true j i t) ∙ row_store_same ws i s z.size h)) n)
          (λ t. subst (λ (x : SlotWords). Narrow x) (sym (row_store_other ws i j s (same_false j i t))) (z.narrow j q))
          (cases (same j i));
    }

-- ---- a walk that changes counts

pub going_start : (f : ℕ → ℕ) (ws : SlotRows) (h : ℕ) → Sized ws → Going f ws h ws 0
unfolding count_passed
going_start f ws h z = record { sized = z; view = refl; stays = record { rows = λ j b. refl } }

module _ (f : ℕ → ℕ) (old : SlotRows) (h : ℕ) (ws : SlotRows) (d : ℕ) (g : Going f old h ws d) (hb : h < slot_count) (s : SlotWords) (e : s ≡ row_at ws ((h + d) % slot_count)) where
  -- the row that is read is that of the slots at the start
  going_ahead : d < slot_count → slot_in s ≡ slot_at (slots_of old) (h + d)
  going_ahead db =
      examined_slot ws (h + d) s e
      ∙ ap (λ (l : List Slot). slot_at l (h + d)) g.view
      ∙ count_passed_ahead f (slots_of old) h d (length_slots old) hb db

  own_key : Narrow s
  own_key = subst (λ (x : SlotWords). Narrow x) (sym e) (g.sized.narrow ((h + d) % slot_count) (omega arith))

  -- one slot more has its count changed
  pub going_on : d < slot_count → (n : ℕ) → n ≡ f s.overflow → (us : SlotRows)
      → us ≡ store ws ((h + d) % slot_count) (record { key = s.key; content = s.content; overflow = n }) → Going f old h us (d + 1)
  unfolding set_slot slot_in
  going_on db n q us u =
      record {
        sized = subst Sized (sym u) (sized_store ws i new g.sized ib own_key);
        view =
            ap slots_of u
            ∙ slots_store ws i new g.sized.size ib
            ∙ ap (λ (m : ℕ). set (slots_of ws) i (record { entry = (slot_in s).entry; overflow = m })) q
            ∙ ap (λ (x : Slot). set (slots_of ws) i (counted f x)) (examined_slot ws (h + d) s e)
            ∙ ap (λ (l : List Slot). set l i (counted f (slot_at l (h + d)))) g.view
            ∙ sym (count_passed_next f (slots_of old) h d (length_slots old) hb db)
            ∙ ap (count_passed f (slots_of old) h) (sym (add-one d));
        stays = stays_on g.stays (subst (BehindStays ws) (sym u) (store_stays ws i new ib));
      }
    where
      i : ℕ
      i = (h + d) % slot_count

      ib : i < slot_count
      ib = omega arith

      new : SlotWords
      new = record { key = s.key; content = s.content; overflow = n }

  -- the slot that is reached says something else
  going_ends : (k : ℕ) (c : ContentWords) → (is_idle (content_in c) ≡ false → k < addresses) → (us : SlotRows)
      → us ≡ store ws ((h + d) % slot_count) (record { key = k; content = c; overflow = s.overflow })
      → SlotsBecome old us (with_entry (count_passed f (slots_of old) h d) (h + d) (kept k (content_in c)))
  unfolding with_entry set_slot slot_in
  going_ends k c kb us u =
      record {
        sized = subst Sized (sym u) (sized_store ws i new g.sized ib kb);
        view =
            ap slots_of u
            ∙ slots_store ws i new g.sized.size ib
            ∙ ap (λ (x : Slot). set (slots_of ws) i (record { entry = kept k (content_in c); overflow = x.overflow })) (examined_slot ws (h + d) s e)
            ∙ ap (λ (l : List Slot). set l i (record { entry = kept k (content_in c); overflow = (slot_at l (h + d)).overflow })) g.view;
        stays = stays_on g.stays (subst (BehindStays ws) (sym u) (store_stays ws i new ib));
      }
    where
      i : ℕ
      i = (h + d) % slot_count

      ib : i < slot_count
      ib = omega arith

      new : SlotWords
      new = record { key = k; content = c; overflow = s.overflow }

pub home_inside : (a h : ℕ) → h ≡ home_slot address_size a → h < slot_count
home_inside a h e = subst (λ (n : ℕ). n < slot_count) (sym e) (home_less address_size a)

slot_around : (ss : List Slot) (i j : ℕ) → i + slot_count ≡ j → slot_at ss i ≡ slot_at ss j
unfolding slot_at
slot_around ss i j e = ap (λ (n : ℕ). get_or ss n empty_slot) (let q : i % slot_count ≡ j % slot_count = omega arith in q)

count_most : (ss : List Slot) (i : ℕ) → Good address_size ss → (slot_at ss i).overflow ≤ slot_count
unfolding slot_at
count_most ss i g = overflow_most g (i % slot_count) (omega arith)

-- ---- the counts of slots side by side, and from the last slot on to the first

-- the count that is read is that of the start
pub count_read : (f : ℕ → ℕ) (old : SlotRows) (h : ℕ) (ws : SlotRows) (d : ℕ) → Going f old h ws d → h + d < slot_count → (s : SlotWords) → s ≡ row_at ws (h + d)
    → s.overflow ≡ (slot_at (slots_of old) (h + d)).overflow
unfolding slot_in
count_read f old h ws d g b s e =
    ap (λ (x : Slot). x.overflow) (going_ahead f old h ws d g (omega arith) s (e ∙ ap (row_at ws) (let q : h + d ≡ (h + d) % slot_count = omega arith in q)) (omega arith))

pub count_on : (f : ℕ → ℕ) (old : SlotRows) (h : ℕ) (ws : SlotRows) (d : ℕ) → Going f old h ws d → h + d < slot_count → (s : SlotWords) → s ≡ row_at ws (h + d)
    → (us : SlotRows) → us ≡ store ws (h + d) (record { key = s.key; content = s.content; overflow = f s.overflow }) → Going f old h us (d + 1)
count_on f old h ws d g b s e us u =
    let q : h + d ≡ (h + d) % slot_count = omega arith in
    going_on f old h ws d g (omega arith) s (e ∙ ap (row_at ws) q) (omega arith) (f s.overflow) refl us
    (u ∙ ap (λ (i : ℕ). store ws i (record { key = s.key; content = s.content; overflow = f s.overflow })) q)

pub going_done : (f : ℕ → ℕ) {old ws : SlotRows} (h : ℕ) {d n : ℕ} → Going f old h ws d → d ≡ n → Going f old h ws n
going_done f {old} {ws} h g e = subst (Going f old h ws) e g

pub countable_part : {up down : ℕ} {ss : List Slot} {h n : ℕ} (m : ℕ) → m ≤ n → Countable up down ss h n → Countable up down ss h m
countable_part m l c = record { fits = λ d h. c.fits d (omega arith); enough = λ d h. c.enough d (omega arith) }

gap_before : (h m d : ℕ) → h < slot_count → h + m ≡ slot_count → d < h → gap h d ≡ m + d
unfolding gap
gap_before h m d b e l = omega arith

gap_behind : (h d : ℕ) → h ≤ d → d < slot_count → gap h d ≡ d - h
unfolding gap
gap_behind h d a b = omega arith

-- the slots from h on to the last are passed, and then k from the first on
module _ (f : ℕ → ℕ) (ss : List Slot) (h m : ℕ) (size : length ss ≡ slot_count) (hb : h < slot_count) (all : h + m ≡ slot_count) where
  -- the slots before h are as they were
  passed_first : (d : ℕ) → d < h → slot_at (count_passed f ss h m) (0 + d) ≡ slot_at ss (h + (m + d))
  unfolding slot_at
  passed_first d l =
      let x : (0 + d) % slot_count ≡ d = omega arith in
      let y : (h + (m + d)) % slot_count ≡ d = omega arith in
      let g : gap h d ≡ m + d = gap_before h m d hb all l in
      ap (λ (i : ℕ). get_or (count_passed f ss h m) i empty_slot) x
      ∙ at_count_passed f ss h m d size hb (omega arith) (omega arith)
      ∙ ap (λ (t : Bool). pick t (counted f (get_or ss d empty_slot)) (get_or ss d empty_slot)) (less_no {m = gap h d} {n = m} (omega arith))
      ∙ ap (λ (i : ℕ). get_or ss i empty_slot) (sym y)

  countable_rest : {up down n : ℕ} → m ≤ n → n < slot_count → Countable up down ss h n → Countable up down (count_passed f ss h m) 0 (n - m)
  countable_rest {up} {down} {n} a b c =
      record {
        fits = λ d l. subst (λ (s : Slot). s.overflow + up < 2 ^ 64) (sym (passed_first d (omega arith))) (c.fits (m + d) (omega arith));
        enough = λ d l. subst (λ (s : Slot). down ≤ s.overflow + up) (sym (passed_first d (omega arith))) (c.enough (m + d) (omega arith));
      }

  choice : Bool → Slot → Slot
  choice t s = pick t (counted f s) s

  pub passed_on : (k : ℕ) → k ≤ h → count_passed f (count_passed f ss h m) 0 k ≡ count_passed f ss h (m + k)
  unfolding choice
  passed_on k l =
      ext_get_or empty_slot (count_passed f first 0 k) (count_passed f ss h (m + k))
      (length_count_passed f first 0 k ∙ length_count_passed f ss h m ∙ sym (length_count_passed f ss h (m + k)))
      (λ j q. at j (let z : length (count_passed f first 0 k) ≡ slot_count = length_count_passed f first 0 k ∙ length_count_passed f ss h m ∙ size in omega arith))
    where
      first : List Slot
      first = count_passed f ss h m

      own : (j : ℕ) → j < slot_count → gap 0 j ≡ j
      own j q = gap_behind 0 j (omega arith) q ∙ (let z : j - 0 ≡ j = omega arith in z)

      before : (j : ℕ) → j < h → choice (less (gap 0 j) k) (choice (less (gap h j) m) (get_or ss j empty_slot)) ≡ choice (less (gap h j) (m + k)) (get_or ss j empty_slot)
      before j b =
          let g : gap h j ≡ m + j = gap_before h m j hb all b in
          let o : gap 0 j ≡ j = own j (omega arith) in
          ap (λ (t : Bool). choice (less (gap 0 j) k) (choice t (get_or ss j empty_slot))) (less_no {m = gap h j} {n = m} (omega arith))
          ∙ ap (λ (t : Bool). choice t (get_or ss j empty_slot))
          (⊎_elim
          (λ t. let c : gap 0 j < k = less_true (gap 0 j) k t in t ∙ sym (less_yes {m = gap h j} {n = m + k} (omega arith)))
          (λ t. let c : k ≤ gap 0 j = less_false (gap 0 j) k t in t ∙ sym (less_no {m = gap h j} {n = m + k} (omega arith)))
          (cases (less (gap 0 j) k)))

      behind : (j : ℕ) → j < slot_count → h ≤ j → choice (less (gap 0 j) k) (choice (less (gap h j) m) (get_or ss j empty_slot)) ≡ choice (less (gap h j) (m + k)) (get_or ss j empty_slot)
      behind j q b =
          let g : gap h j ≡ j - h = gap_behind h j b q in
          let o : gap 0 j ≡ j = own j q in
          ap (λ (t : Bool). choice t (choice (less (gap h j) m) (get_or ss j empty_slot))) (less_no {m = gap 0 j} {n = k} (omega arith))
          ∙ ap (λ (t : Bool). choice t (get_or ss j empty_slot))
          (less_yes {m = gap h j} {n = m} (omega arith) ∙ sym (less_yes {m = gap h j} {n = m + k} (omega arith)))

      at : (j : ℕ) → j < slot_count → get_or (count_passed f first 0 k) j empty_slot ≡ get_or (count_passed f ss h (m + k)) j empty_slot
      at j q =
          at_count_passed f first 0 k j (length_count_passed f ss h m ∙ size) (omega arith) (omega arith) q
          ∙ ap (choice (less (gap 0 j) k)) (at_count_passed f ss h m j size hb (omega arith) q)
          ∙ ⊎_elim
          (λ t. before j (less_true j h t))
          (λ t. behind j q (less_false j h t))
          (cases (less j h))
          ∙ sym (at_count_passed f ss h (m + k) j size hb (omega arith) q)

-- in two parts
pub countable_after : (f : ℕ → ℕ) {ws us : SlotRows} {up down n : ℕ} (h m : ℕ) → h < slot_count → h + m ≡ slot_count → m ≤ n → n < slot_count → Going f ws h us m
    → Countable up down (slots_of ws) h n → Countable up down (slots_of us) 0 (n - m)
countable_after f {ws} {us} {up} {down} {n} h m hb all a b g c =
    subst (λ (ss : List Slot). Countable up down ss 0 (n - m)) (sym g.view) (countable_rest f (slots_of ws) h m (length_slots ws) hb all a b c)

pub going_join : (f : ℕ → ℕ) {ws us vs : SlotRows} (h m k n : ℕ) → h < slot_count → h + m ≡ slot_count → k ≤ h → n ≡ m + k → Going f ws h us m → Going f us 0 vs k → Going f ws h vs n
going_join f {ws} {us} {vs} h m k n hb all l e g i =
    record {
      sized = i.sized;
      view = i.view ∙ ap (λ (ss : List Slot). count_passed f ss 0 k) g.view ∙ passed_on f (slots_of ws) h m (length_slots ws) hb all k l ∙ ap (count_passed f (slots_of ws) h) (sym e);
      stays = stays_on g.stays i.stays;
    }

-- ---- taking a slot

-- d slots from h on have entries
pub record Filled (ss : List Slot) (h d : ℕ) : Type 0 where
  pub before : (k : ℕ) → k < d → vacant (slot_at ss (h + k)) ≡ false
  pub most : d < 2 * slot_count

pub filled_start : (ss : List Slot) (h : ℕ) → Filled ss h 0
filled_start ss h = record { before = λ k q. absurd (omega arith); most = omega arith }

module _ (ws : SlotRows) (h d w : ℕ) (g : Filled (slots_of ws) h d) (db : d < slot_count) (free : BitsFrom true ws ((h + d) % slot_count) w) where
  -- a slot of the word without a bit has an entry
  filled_bit : (k : ℕ) → d ≤ k → k < d + (word_end ((h + d) % slot_count) - (h + d) % slot_count) → bit (k - d) w ≡ 0 → vacant (slot_at (slots_of ws) (h + k)) ≡ false
  unfolding slot_at
  filled_bit k a b e =
      let i : (h + k) % slot_count ≡ (h + d) % slot_count + (k - d) = omega arith in
      ⊎_elim
      (λ t. absurd
      (let x : bit ((h + k) % slot_count - (h + d) % slot_count) w ≡ 1 = free.told ((h + k) % slot_count) (omega arith) (omega arith) t in
      let y : (h + k) % slot_count - (h + d) % slot_count ≡ k - d = omega arith in
      let z : bit (k - d) w ≡ 1 = ap (λ (n : ℕ). bit n w) (sym y) ∙ x in
      omega arith))
      (λ t. t)
      (cases (vacant (get_or (slots_of ws) ((h + k) % slot_count) empty_slot)))

  -- no slot of the word is empty
  pub filled_on : (e : ℕ) → w ≡ 0 → e ≡ word_end ((h + d) % slot_count) → Filled (slots_of ws) h (d + (e - (h + d) % slot_count))
  filled_on e q f =
      record {
        before = λ k b.
            ⊎_elim
            (λ t. g.before k (less_true k d t))
            (λ t. let l : d ≤ k = less_false k d t in filled_bit k l (omega arith) (ap (bit (k - d)) q ∙ bit_zero (k - d)))
            (cases (less k d));
        most = omega arith;
      }

  module _ (some : 0 < w) (fits : w < 2 ^ 64) where
    lowest : bit (count_trailing_zeros 64 w) w ≡ 1
    lowest = lowest_set 64 w some fits

    near : (h + d) % slot_count + count_trailing_zeros 64 w < word_end ((h + d) % slot_count)
    near = (free.own (count_trailing_zeros 64 w) lowest).0

    empty_there : vacant (slot_at (slots_of ws) (h + (d + count_trailing_zeros 64 w))) ≡ true
    unfolding slot_at
    empty_there =
        let b : (h + d) % slot_count + count_trailing_zeros 64 w < word_end ((h + d) % slot_count) = near in
        ap (λ (n : ℕ). vacant (get_or (slots_of ws) n empty_slot)) (let e : (h + (d + count_trailing_zeros 64 w)) % slot_count ≡ (h + d) % slot_count + count_trailing_zeros 64 w = omega arith in e)
        ∙ (free.own (count_trailing_zeros 64 w) lowest).1

    -- the lowest bit is that of the first empty slot
    pub filled_first : First vacant (slots_of ws) h 0 (d + count_trailing_zeros 64 w)
    filled_first =
        record {
          from = zero-le;
          passes = empty_there;
          before = λ k a b.
              ⊎_elim
              (λ t. g.before k (less_true k d t))
              (λ t.
              let l : d ≤ k = less_false k d t in
              let n : (h + d) % slot_count + count_trailing_zeros 64 w < word_end ((h + d) % slot_count) = near in
              filled_bit k l (omega arith) (lowest_first 64 w (k - d) (omega arith)))
              (cases (less k d));
        }

    -- which lies less than all slots ahead: else it would have been passed before
    pub filled_less : d + count_trailing_zeros 64 w < slot_count
    filled_less =
        ⊎_elim
        (λ t. less_true (d + count_trailing_zeros 64 w) slot_count t)
        (λ t.
        let l : slot_count ≤ d + count_trailing_zeros 64 w = less_false (d + count_trailing_zeros 64 w) slot_count t in
        let n : (h + d) % slot_count + count_trailing_zeros 64 w < word_end ((h + d) % slot_count) = near in
        clash (ap vacant (around (d + count_trailing_zeros 64 w) l) ∙ empty_there) (g.before (d + count_trailing_zeros 64 w - slot_count) (omega arith)))
        (cases (less (d + count_trailing_zeros 64 w) slot_count))
      where
        around : (n : ℕ) → slot_count ≤ n → slot_at (slots_of ws) (h + (n - slot_count)) ≡ slot_at (slots_of ws) (h + n)
        around n l = slot_around (slots_of ws) (h + (n - slot_count)) (h + n) (omega arith)

pub first_less : {ss : List Slot} {h k n : ℕ} (d : ℕ) → First vacant ss h 0 (d + k) → d + k < slot_count → n ≡ k → (First vacant ss h 0 (d + n)) × (d + n < slot_count)
first_less {ss} {h} d f l e = (subst (λ (m : ℕ). First vacant ss h 0 (d + m)) (sym e) f, subst (λ (m : ℕ). d + m < slot_count) (sym e) l)

-- where there is room, the walk ends before it has passed all slots
pub filled_never {ℓ} : {A : Type ℓ} (ws : SlotRows) (h d : ℕ) → Filled (slots_of ws) h d → h < slot_count → slot_count ≤ d → length (entries (slots_of ws)) < slot_count → A
filled_never ws h d g hb q r =
    let v = vacancy (slots_of ws) h (length_slots ws) hb r in
    let f = distance_some vacant (slots_of ws) h slot_count 0 v.0 v.1 in
    clash f.0.passes (g.before v.0 (let z : v.0 < 0 + slot_count = f.1 in omega arith))

module _ (old : SlotRows) (a h d : ℕ) (e : h ≡ home_slot address_size a) (first : First vacant (slots_of old) h 0 d) (db : d < slot_count) where
  -- a count does not wrap
  pub take_counts : SlotsHeld old → Countable 1 0 (slots_of old) h d
  take_counts z =
      record {
        fits = λ k b. let q : (slot_at (slots_of old) (h + k)).overflow ≤ slot_count = count_most (slots_of old) (h + k) z.good in omega arith;
        enough = λ k b. zero-le;
      }

  module _ (c : ContentWords) where
    taken_as : with_entry (count_passed suc (slots_of old) h d) (h + d) (some (row a (content_in c))) ≡ take address_size (slots_of old) a (content_in c)
    taken_as =
        ap (λ (n : ℕ). with_entry (count_passed suc (slots_of old) n d) (n + d) (some (row a (content_in c)))) e
        ∙ sym (take_at address_size (slots_of old) a (content_in c) d
        (ap (λ (n : ℕ). distance vacant (slots_of old) n slot_count 0) (sym e)
        ∙ distance_first vacant (slots_of old) h slot_count 0 d first (let z : d < slot_count = db in omega arith)))

    pub take_ends : (ws : SlotRows) → Going (shifted 1 0) old h ws d → (s : SlotWords) → s ≡ row_at ws ((h + d) % slot_count) → is_idle (content_in c) ≡ false → a < addresses
        → (us : SlotRows) → us ≡ store ws ((h + d) % slot_count) (record { key = a; content = c; overflow = s.overflow })
        → SlotsBecome old us (take address_size (slots_of old) a (content_in c))
    take_ends ws g s f busy ab us u =
        subst (SlotsBecome old us)
        (ap (λ (o : Option (Row Content)). with_entry (count_passed suc (slots_of old) h d) (h + d) o)
        (ap (λ (t : Bool). pick t none (some (row a (content_in c)))) busy)
        ∙ taken_as)
        (going_ends suc old h ws d (subst (λ (f : ℕ → ℕ). Going f old h ws d) one_more g) (home_inside a h e) s f a c (λ t. ab) us u)
      where
        more_one : (n : ℕ) → shifted 1 0 n ≡ suc n
        more_one n = omega arith

        one_more : shifted 1 0 ≡ suc
        one_more j n = more_one n j

    pub take_turns : Turns true false (slots_of old) (take address_size (slots_of old) a (content_in c)) ((h + d) % slot_count)
    take_turns =
        let t = entry_turns suc (slots_of old) h d (some (row a (content_in c))) (length_slots old) (home_inside a h e) db in
        subst (λ (ss : List Slot). Turns true false (slots_of old) ss ((h + d) % slot_count)) taken_as
        (record { was = t.was ∙ first.passes; is = t.is; others = t.others })

-- the home slot itself is empty
module _ (old : SlotRows) (a h : ℕ) (e : h ≡ home_slot address_size a) (z : SlotsHeld old) (s : SlotWords) (q : s ≡ row_at old h) (t : is_idle (content_in s.content) ≡ true) where
  home_there : (h + 0) % slot_count ≡ h
  home_there = let b : h < slot_count = home_inside a h e in omega arith

  home_first : First vacant (slots_of old) h 0 0
  home_first =
      record {
        from = zero-le;
        passes = ap vacant (slot_there old (h + 0) ∙ ap slot_in (ap (row_at old) home_there ∙ sym q)) ∙ vacant_idle s ∙ t;
        before = λ i x y. absurd (omega arith);
      }

  module _ (c : ContentWords) where
    pub home_ends : is_idle (content_in c) ≡ false → a < addresses → (us : SlotRows) → us ≡ store old h (saying a c (row_at old h)) → SlotsBecome old us (take address_size (slots_of old) a (content_in c))
    home_ends busy ab us u =
        take_ends old a h 0 e home_first (omega arith) c old (going_start (shifted 1 0) old h z.sized) (row_at old h) (ap (row_at old) (sym home_there)) busy ab us
        (u ∙ ap (λ (i : ℕ). store old i (saying a c (row_at old h))) (sym home_there))

    pub home_turns : Turns true false (slots_of old) (take address_size (slots_of old) a (content_in c)) h
    home_turns = subst (Turns true false (slots_of old) (take address_size (slots_of old) a (content_in c))) home_there (take_turns old a h 0 e home_first (omega arith) c)

-- ---- giving a slot back

pub far_less : {ss : List Slot} {k d : ℕ} → Stands ss k d → d < slot_count
far_less {ss} {k} {d} r = subst (λ (n : ℕ). n < slot_count) r.far (gap_less (home_slot address_size k) r.place.at)

-- what is left once the entry of a, m slots after its home slot, is taken out
pub released_as : {ws : SlotRows} (a m : ℕ) → SlotsHeld ws → Stands (slots_of ws) a m
    → release address_size (slots_of ws) a ≡ with_entry (count_passed pred (slots_of ws) (home_slot address_size a) m) (home_slot address_size a + m) none
released_as {ws} a m z r =
    release_at address_size (slots_of ws) a m
    (distance_first (holds a) (slots_of ws) (home_slot address_size a) slot_count 0 m
    (subst (First (holds a) (slots_of ws) (home_slot address_size a) 0) r.far
    (distance_place (slots_of ws) a (home_slot address_size a) (length_slots ws) (home_less address_size a) (z.good.once a) r.place))
    (let y : m < slot_count = far_less r in omega arith))

module _ (old : SlotRows) (a m h : ℕ) (z : SlotsHeld old) (e : h ≡ home_slot address_size a) (r : Stands (slots_of old) a m) where
  -- a slot that was passed has a count
  pub release_counts : Countable 0 1 (slots_of old) h m
  release_counts =
      record {
        fits = λ d b. let q : (slot_at (slots_of old) (h + d)).overflow ≤ slot_count = most d in omega arith;
        enough = λ d b. let q : (slot_at (slots_of old) (h + d)).overflow ≡ 0 → ⊥ = some_there d b in omega arith;
      }
    where
      most : (d : ℕ) → (slot_at (slots_of old) (h + d)).overflow ≤ slot_count
      most d = count_most (slots_of old) (h + d) z.good

      some_there : (d : ℕ) → d < m → (slot_at (slots_of old) (h + d)).overflow ≡ 0 → ⊥
      some_there d b q =
          passed_counts address_size (slots_of old) a z.good r.place d (subst (λ (n : ℕ). d < n) (sym r.far) b)
          (ap (λ (n : ℕ). (slot_at (slots_of old) (n + d)).overflow) (sym e) ∙ q)

  -- all were passed, and the entry goes
  pub release_ends : (ws : SlotRows) → Going (shifted 0 1) old h ws m → (s : SlotWords) → s ≡ row_at ws ((h + m) % slot_count) → (k : ℕ) (c : ContentWords) → is_idle (content_in c) ≡ true
      → (us : SlotRows) → us ≡ store ws ((h + m) % slot_count) (record { key = k; content = c; overflow = s.overflow })
      → SlotsBecome old us (release address_size (slots_of old) a)
  release_ends ws g s f k c t us u =
      subst (SlotsBecome old us)
      (ap (λ (o : Option (Row Content)). with_entry (count_passed pred (slots_of old) h m) (h + m) o)
      (ap (λ (t : Bool). pick t none (some (row k (content_in c)))) t)
      ∙ ap (λ (n : ℕ). with_entry (count_passed pred (slots_of old) n m) (n + m) none) e
      ∙ sym (released_as a m z r))
      (going_ends pred old h ws m (subst (λ (f : ℕ → ℕ). Going f old h ws m) one_less g) (home_inside a h e) s f k c (λ f. clash t f) us u)
    where
      less_one : (n : ℕ) → shifted 0 1 n ≡ pred n
      less_one n = omega arith

      one_less : shifted 0 1 ≡ pred
      one_less j n = less_one n j
