-- The bitmap's laws: which changes of words leave it, how it goes along with an entry that comes or goes, and what it tells a walk.
use Rattle.std.specs.Prelude.{ℕ, ◌+◌, ◌-◌, ◌/◌, ◌%◌, ◌^◌, ◌<◌, ◌≤◌, ◌≡◌, refl, Bool, true, false, not, List, length, get_or}
use Rattle.std.proofs.Common.{arith, sym, ap, ◌∙◌, subst, inl, inr, ⊎_elim, get_or-set_same, get_or-set_other}
use Rattle.std.proofs.Math.Option.{Option}
use Rattle.std.specs.Int.Count.{count_trailing_zeros}
use Rattle.lists.specs.Tests.{pick, present, same, less}
use Rattle.lists.specs.TestLaws.{cases, same_true, same_false}
use Rattle.lists.specs.Rows.{Row}
use Rattle.spec.specs.Slots.{slot_count, Content, Slot, empty_slot, slot_at, vacant, set_slot, count_passed, with_entry}
use Rattle.laws.specs.Probes.{gap, counted, length_count_passed, at_count_passed}
use Rattle.indexlet.specs.Words.{SlotRows, slots_of}
use Rattle.indexlet.specs.Filters.{bucket_count, slot_rows, cell_row, cell_place, cell_put, CellsStay, BehindStays}
use Rattle.indexlet.specs.FilterLaws.{stays_cells, cells_on, word_other, word_lengths}
use Rattle.indexlet.specs.Bits.{bit, bit_zero, bit_above, bit_inside, bit_not, lowest_set, lowest_first, rest, rest_less, rest_other}
use Rattle.indexlet.specs.Bitmaps.{word_bits, bitmap_row, bitmap_at, bitmap_put, Occupied, Turns, word_end, BitsFrom, Unseen}

-- ---- words that stay

pub stays_bits : {ws us : SlotRows} (k : ℕ) → BehindStays ws us → bitmap_at us k ≡ bitmap_at ws k
stays_bits k s = ap (λ (r : List ℕ). get_or r (k + 1) 0) (s.rows bitmap_row (omega arith))

-- a changed word of the bitmap leaves the cells
bitmap_cells : (ws : SlotRows) (k w : ℕ) → length ws ≡ slot_rows → CellsStay ws (bitmap_put ws k w)
bitmap_cells ws k w size =
    record {
      lengths = λ j b. word_lengths ws bitmap_row (k + 1) w size (omega arith) (omega arith) j;
      cells = λ b h. word_other ws bitmap_row (k + 1) w size (omega arith) (omega arith) (cell_row b) (cell_place b) (λ e q. omega arith);
    }

pub put_cells : {ws us vs : SlotRows} → BehindStays ws us → length us ≡ slot_rows → (k w : ℕ) → vs ≡ bitmap_put us k w → CellsStay ws vs
put_cells {ws} {us} s size k w e = cells_on (stays_cells s) (subst (CellsStay us) (sym e) (bitmap_cells us k w size))

-- and a changed cell the bitmap
pub cell_bits : (ws : SlotRows) (b w : ℕ) → length ws ≡ slot_rows → b < bucket_count → (k : ℕ) → bitmap_at (cell_put ws b w) k ≡ bitmap_at ws k
cell_bits ws b w size h k = word_other ws (cell_row b) (cell_place b) w size (omega arith) (omega arith) bitmap_row (k + 1) (λ e q. omega arith)

-- where no entry comes or goes
pub occupied_still : {ws us : SlotRows} {ss ts : List Slot} → Occupied ws ss → ((k : ℕ) → bitmap_at us k ≡ bitmap_at ws k)
    → ((i : ℕ) → i < slot_count → vacant (get_or ts i empty_slot) ≡ vacant (get_or ss i empty_slot)) → Occupied us ts
occupied_still m f g =
    record {
      bits = λ i h. ap (bit (i % word_bits)) (f (i / word_bits)) ∙ m.bits i h ∙ ap (λ (t : Bool). pick t 0 1) (sym (g i h));
    }

-- ---- a bit that turns

bit_was : {ws : SlotRows} {ss ts : List Slot} {p q : Bool} (r : ℕ) → Occupied ws ss → r < slot_count → Turns p q ss ts r → bit (r % word_bits) (bitmap_at ws (r / word_bits)) ≡ pick p 0 1
bit_was r m h t = m.bits r h ∙ ap (λ (t : Bool). pick t 0 1) t.was

-- also after the slots' rows changed
pub bit_is : {ws us : SlotRows} {ss ts : List Slot} {p q : Bool} (r : ℕ) → Occupied ws ss → BehindStays ws us → r < slot_count → Turns p q ss ts r
    → bit (r % word_bits) (bitmap_at us (r / word_bits)) ≡ pick p 0 1
bit_is r m s h t = ap (bit (r % word_bits)) (stays_bits (r / word_bits) s) ∙ bit_was r m h t

module _ {ws us : SlotRows} {ss ts : List Slot} {p q : Bool} (r : ℕ) (m : Occupied ws ss) (h : r < slot_count) (t : Turns p q ss ts r) where
  pub occupied_turns : ((k : ℕ) → (k ≡ r / word_bits → ⊥) → bitmap_at us k ≡ bitmap_at ws k)
      → bit (r % word_bits) (bitmap_at us (r / word_bits)) ≡ pick q 0 1
      → ((i : ℕ) → (i ≡ r % word_bits → ⊥) → bit i (bitmap_at us (r / word_bits)) ≡ bit i (bitmap_at ws (r / word_bits)))
      → Occupied us ts
  occupied_turns words own bits =
      record { bits = λ i b. ⊎_elim (λ e. here i (same_true i r e)) (λ e. there i b (same_false i r e)) (cases (same i r)) }
    where
      here : (i : ℕ) → i ≡ r → bit (i % word_bits) (bitmap_at us (i / word_bits)) ≡ pick (vacant (get_or ts i empty_slot)) 0 1
      here i e =
          ap (λ (n : ℕ). bit (n % word_bits) (bitmap_at us (n / word_bits))) e
          ∙ own
          ∙ ap (λ (t : Bool). pick t 0 1) (sym t.is ∙ ap (λ (n : ℕ). vacant (get_or ts n empty_slot)) (sym e))

      there : (i : ℕ) → i < slot_count → (i ≡ r → ⊥) → bit (i % word_bits) (bitmap_at us (i / word_bits)) ≡ pick (vacant (get_or ts i empty_slot)) 0 1
      there i b n =
          ⊎_elim
          (λ e.
          let f : i / word_bits ≡ r / word_bits = same_true (i / word_bits) (r / word_bits) e in
          ap (λ (k : ℕ). bit (i % word_bits) (bitmap_at us k)) f
          ∙ bits (i % word_bits) (λ g. n (omega arith))
          ∙ ap (λ (k : ℕ). bit (i % word_bits) (bitmap_at ws k)) (sym f))
          (λ e. ap (bit (i % word_bits)) (words (i / word_bits) (same_false (i / word_bits) (r / word_bits) e)))
          (cases (same (i / word_bits) (r / word_bits)))
          ∙ m.bits i b
          ∙ ap (λ (t : Bool). pick t 0 1) (sym (t.others i b n))

-- what an entry leaves that comes to the end of a walk, or goes from there
pub entry_turns : (f : ℕ → ℕ) (ss : List Slot) (h d : ℕ) (o : Option (Row Content)) → length ss ≡ slot_count → h < slot_count → d < slot_count
    → Turns (vacant (slot_at ss (h + d))) (not (present o)) ss (with_entry (count_passed f ss h d) (h + d) o) ((h + d) % slot_count)
unfolding with_entry set_slot slot_at vacant
entry_turns f ss h d o l a b =
    record {
      was = refl;
      is = ap vacant (get_or-set_same old r new empty_slot (let z : length old ≡ length ss = length_count_passed f ss h d in let y : r < slot_count = omega arith in omega arith));
      others = λ j q n.
          ap vacant (get_or-set_other old r j new empty_slot n)
          ∙ ap vacant (at_count_passed f ss h d j l a (let z : d < slot_count = b in omega arith) q)
          ∙ same_entry (less (gap h j) d) (get_or ss j empty_slot);
    }
  where
    r : ℕ
    r = (h + d) % slot_count

    old : List Slot
    old = count_passed f ss h d

    new : Slot
    new = record { entry = o; overflow = (get_or old r empty_slot).overflow }

    same_entry : (t : Bool) (s : Slot) → vacant (pick t (counted f s) s) ≡ vacant s
    same_entry true s = refl
    same_entry false s = refl

-- ---- what a walk is told

-- the bits of a word that stands for a test of its slots, shifted so that the lowest is that of slot `from`
told_by_lem : {ws : SlotRows} (empty : Bool) (from v w : ℕ) → from < slot_count → v < 2 ^ 64 → w ≡ v / 2 ^ (from % word_bits)
    → ((i : ℕ) → i < slot_count → from / word_bits ≡ i / word_bits → vacant (get_or (slots_of ws) i empty_slot) ≡ empty → bit (i % word_bits) v ≡ 1)
    → ((i : ℕ) → i < slot_count → from / word_bits ≡ i / word_bits → bit (i % word_bits) v ≡ 1 → vacant (get_or (slots_of ws) i empty_slot) ≡ empty)
    → BitsFrom empty ws from w
told_by_lem empty from v w h l q forth back =
    record {
      told = λ i a b t.
          above (i - from)
          ∙ ap (λ (n : ℕ). bit n v) (let x : (i - from) + from % word_bits ≡ i % word_bits = omega arith in x)
          ∙ forth i (omega arith) (let x : from / word_bits ≡ i / word_bits = omega arith in x) t;
      own = λ i t.
          let x : bit (i + from % word_bits) v ≡ 1 = sym (above i) ∙ t in
          let b : i + from % word_bits < 64 = bit_inside 64 (i + from % word_bits) v l x in
          let y : bit ((from + i) % word_bits) v ≡ 1 = ap (λ (n : ℕ). bit n v) (let g : (from + i) % word_bits ≡ i + from % word_bits = omega arith in g) ∙ x in
          (omega arith, back (from + i) (omega arith) (let g : from / word_bits ≡ (from + i) / word_bits = omega arith in g) y);
    }
  where
    above : (i : ℕ) → bit i w ≡ bit (i + from % word_bits) v
    above i = ap (bit i) q ∙ bit_above (from % word_bits) i v

module _ {ws : SlotRows} (from v w : ℕ) (m : Occupied ws (slots_of ws)) (h : from < slot_count) (e : v ≡ bitmap_at ws (from / word_bits)) (l : v < 2 ^ 64) where
  here : (i : ℕ) → i < slot_count → from / word_bits ≡ i / word_bits → bit (i % word_bits) v ≡ pick (vacant (get_or (slots_of ws) i empty_slot)) 0 1
  here i b f = ap (bit (i % word_bits)) (e ∙ ap (bitmap_at ws) f) ∙ m.bits i b

  filled_bit : (t : Bool) → ◌≡◌ {A = ℕ} (pick t 0 1) 1 → t ≡ false
  filled_bit true q = absurd (omega arith)
  filled_bit false q = refl

  empty_bit : (t : Bool) → ◌≡◌ {A = ℕ} (pick t 0 1) 0 → t ≡ true
  empty_bit true q = refl
  empty_bit false q = absurd (omega arith)

  pub bits_told : w ≡ v / 2 ^ (from % word_bits) → BitsFrom false ws from w
  bits_told q =
      told_by_lem false from v w h l q (λ i b f t. here i b f ∙ ap (λ (t : Bool). pick t 0 1) t)
      (λ i b f t. filled_bit (vacant (get_or (slots_of ws) i empty_slot)) (sym (here i b f) ∙ t))

  pub free_told : w ≡ ((2 ^ 64 - 1) - v) / 2 ^ (from % word_bits) → BitsFrom true ws from w
  free_told q =
      told_by_lem true from ((2 ^ 64 - 1) - v) w h (omega arith) q
      (λ i b f t.
      let x : bit (i % word_bits) ((2 ^ 64 - 1) - v) + bit (i % word_bits) v ≡ 1 = both i in
      let y : bit (i % word_bits) v ≡ 0 = here i b f ∙ ap (λ (t : Bool). pick t 0 1) t in
      omega arith)
      (λ i b f t.
      let x : bit (i % word_bits) ((2 ^ 64 - 1) - v) + bit (i % word_bits) v ≡ 1 = both i in
      empty_bit (vacant (get_or (slots_of ws) i empty_slot)) (sym (here i b f) ∙ (let y : bit (i % word_bits) v ≡ 0 = omega arith in y)))
    where
      both : (i : ℕ) → bit (i % word_bits) ((2 ^ 64 - 1) - v) + bit (i % word_bits) v ≡ 1
      both i = bit_not 64 (i % word_bits) v (omega arith) l

-- ---- a walk along the bits

module _ {P : ℕ → Type 0} {from : ℕ} where
  pub unseen_start : {ws : SlotRows} (w : ℕ) → BitsFrom false ws from w → from < slot_count → w < 2 ^ 64
      → ((i : ℕ) → i < slot_count → vacant (get_or (slots_of ws) i empty_slot) ≡ true → P i) → Unseen P from w
  unseen_start {ws} w m h l empty =
      record {
        left = λ i a b. ⊎_elim (λ t. inr (empty i (omega arith) t)) (λ t. inl (m.told i a b t)) (cases (vacant (get_or (slots_of ws) i empty_slot)));
        inside = λ i t. (m.own i t).0;
        fits = l;
      }

  pub unseen_end : (w : ℕ) → w ≡ 0 → Unseen P from w → (i : ℕ) → from ≤ i → i < word_end from → P i
  unseen_end w e u i a b =
      ⊎_elim (λ t. absurd (let z : bit (i - from) w ≡ 0 = ap (bit (i - from)) e ∙ bit_zero (i - from) in omega arith)) (λ p. p) (u.left i a b)

  module _ (w : ℕ) (some : 0 < w) (u : Unseen P from w) where
    lowest : bit (count_trailing_zeros 64 w) w ≡ 1
    lowest = lowest_set 64 w some u.fits

    pub unseen_inside : from + count_trailing_zeros 64 w < word_end from
    unseen_inside = u.inside (count_trailing_zeros 64 w) lowest

    -- the slots before that of the lowest bit pass
    pub unseen_before : (i : ℕ) → from ≤ i → i < from + count_trailing_zeros 64 w → P i
    unseen_before i a b =
        let h : from + count_trailing_zeros 64 w < word_end from = unseen_inside in
        ⊎_elim (λ t. absurd (let z : bit (i - from) w ≡ 0 = lowest_first 64 w (i - from) (omega arith) in omega arith)) (λ p. p) (u.left i a (omega arith))

    -- and so does its own
    pub unseen_on : (v j : ℕ) → v ≡ rest w → j ≡ from + count_trailing_zeros 64 w → P j → Unseen P from v
    unseen_on v j e f p =
        record {
          left = λ i a b.
              ⊎_elim
              (λ t. inr (subst P (f ∙ (let z : from + count_trailing_zeros 64 w ≡ i = let q : i - from ≡ count_trailing_zeros 64 w = same_true (i - from) (count_trailing_zeros 64 w) t in omega arith in z)) p))
              (λ t. ⊎_elim (λ g. inl (ap (bit (i - from)) e ∙ rest_other 64 w (i - from) u.fits (same_false (i - from) (count_trailing_zeros 64 w) t) ∙ g)) inr (u.left i a b))
              (cases (same (i - from) (count_trailing_zeros 64 w)));
          inside = λ i t.
              ⊎_elim
              (λ g. subst (λ (n : ℕ). from + n < word_end from) (sym (same_true i (count_trailing_zeros 64 w) g)) unseen_inside)
              (λ g. u.inside i (sym (rest_other 64 w i u.fits (same_false i (count_trailing_zeros 64 w) g)) ∙ ap (bit i) (sym e) ∙ t))
              (cases (same i (count_trailing_zeros 64 w)));
          fits = let a : rest w < w = rest_less w some in let b : w < 2 ^ 64 = u.fits in omega arith;
        }
