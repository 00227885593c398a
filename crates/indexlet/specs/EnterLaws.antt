-- What the public functions rest on: what a search found, what was entered, and slots that are all empty.
use Rattle.std.specs.Prelude.{ℕ, suc, pred, ◌+◌, ◌-◌, ◌*◌, ◌/◌, ◌%◌, ◌^◌, ◌<◌, ◌≤◌, ◌≡◌, Bool, not, get_or, set, replicate}
use Rattle.std.proofs.Common.{add-one, arith, ◌∙◌, subst, ⊎_elim, length-set, get_or-set_same, get_or-set_other, ext_get_or}
use Rattle.std.proofs.Math.Path.{refl, sym, ap}
use Rattle.std.proofs.Math.Bool.{true, false}
use mathlib.Core.List.{List, [], ◌∷◌}
use Rattle.std.proofs.Math.Option.{Option, none, some}
use Rattle.std.proofs.Math.ListN.{length}
use Rattle.std.proofs.lemmas.List.{length-replicate, get_or-replicate}
use Rattle.lists.specs.Tests.{pick, present, same, less}
use Rattle.lists.specs.TestLaws.{cases, clash, same_true, same_false, less_true, less_false, less_yes, less_no}
use Rattle.lists.specs.Rows.{Row, row, look}
use Rattle.lists.specs.Options.{options}
use Rattle.spec.specs.Widths.{address_size, addresses}
use Rattle.spec.specs.Slots.{slot_count, home_slot, Content, idle, is_idle, Slot, empty_slot, empty_slots, entries, content_of, slot_at, vacant, holds, search, Searched, count_passed, with_entry, take, release, enter, kept}
use Rattle.laws.specs.Probes.{gap, gap_less, gap_back, home_less}
use Rattle.laws.specs.SlotCounts.{Good, Place, holds_entry, look_held, absent_count, entries_most}
use Rattle.laws.specs.SlotChanges.{release_none, distance_absent, rewrite_at}
use Rattle.laws.specs.SlotLaws.{EntryRoom, goes, stands, fits, enter_idle, enter_present, enter_absent, enter_good, count_enter, fresh_good, kept_entry, content_none, content_some, present_content}
use Rattle.laws.specs.Searches.{search_finds, search_place}
use Rattle.indexlet.specs.declared.Content.{Content as ContentWords}
use Rattle.indexlet.specs.declared.Slot.{Slot as SlotWords}
use Rattle.indexlet.specs.declared.Sought.{Sought}
use Rattle.indexlet.specs.Words.{SlotRows, pending_in, holder_in, content_in, slot_in, row_in, row_at, store, word_put, slots_of}
use Rattle.indexlet.specs.WordLaws.{length_slots, slots_at, slots_store, idle_zero}
use Rattle.indexlet.specs.Filters.{bucket_count, slot_rows, bucket_of, cell_row, cell_place, cell_at, cell_put, load, Filtered, CellsStay, BehindStays}
use Rattle.indexlet.specs.FilterLaws.{store_stays, stays_cells, word_row, word_slots, word_same, word_other, word_lengths, filter_enter, unloaded_absent, load_most, load_none, bucket_less}
use Rattle.indexlet.specs.Bits.{bit, bit_zero, set_there, set_other, clear_there, clear_other}
use Rattle.indexlet.specs.Bitmaps.{word_bits, bitmap_row, bitmap_at, bitmap_put, Occupied, Turns}
use Rattle.indexlet.specs.BitmapLaws.{stays_bits, put_cells, cell_bits, occupied_still, bit_is, occupied_turns, entry_turns}
use Rattle.indexlet.specs.Promises.{Narrow, unsaid, content_at, Sized, SlotsHeld, SlotsBecome, SlotsFresh, IsSlot, looked_in, Looks, Finds, TakenOut, TakenIn, Enters, sought, Stands}
use Rattle.indexlet.specs.SeekLaws.{search_ends, sought_place, sought_present, sought_absent, sought_holds}
use Rattle.indexlet.specs.WalkLaws.{sized_store, released_as}

-- ---- reading

pub reads_row : (ws : SlotRows) (i : ℕ) (s : SlotWords) → SlotsHeld ws → i < slot_count → s ≡ row_at ws i → IsSlot ws i s
reads_row ws i s z h e =
    record {
      slot = ap slot_in e ∙ sym (slots_at ws i h);
      narrow = subst (λ (x : SlotWords). Narrow x) (sym e) (z.sized.narrow i h);
    }

entry_slot : (s : SlotWords) → (slot_in s).entry ≡ kept s.key (content_in s.content)
unfolding slot_in
entry_slot s = refl

-- the place of an entry that stands in slot j
abbrev place_of : {ws : SlotRows} {a : ℕ} (j : ℕ) → SlotsHeld ws → j < slot_count → holds a (get_or (slots_of ws) j empty_slot) ≡ true → Place (slots_of ws) a
place_of {ws} {a} j z b h =
    let r = holds_entry a (get_or (slots_of ws) j empty_slot) h in
    record { at = j; inside = (let q : length (slots_of ws) ≡ slot_count = z.good.size in omega arith); content = r.0; here = r.1; own = r.2 }

-- the two cases of `content_at`
pub content_there : (ws : SlotRows) (j : ℕ) (s : SlotWords) → j < slot_count → s ≡ row_at ws j → s.content ≡ content_at ws j
unfolding content_at
content_there ws j s b g =
    ap (λ (x : SlotWords). x.content) g
    ∙ sym (ap (λ (x : Bool). pick x (row_at ws j).content unsaid) (less_yes {m = j} {n = slot_count} b))

pub content_nowhere : (ws : SlotRows) (j : ℕ) → slot_count ≤ j → unsaid ≡ content_at ws j
unfolding content_at
content_nowhere ws j b = sym (ap (λ (x : Bool). pick x (row_at ws j).content unsaid) (less_no {m = j} {n = slot_count} b))

-- the slot has the entry
pub at_finds : {ws : SlotRows} {a j : ℕ} → SlotsHeld ws → j < slot_count → holds a (get_or (slots_of ws) j empty_slot) ≡ true → Finds ws a j
at_finds {ws} {a} {j} z b h =
    record {
      content = content_some (slots_of ws) a said found ∙ ap content_in (content_there ws j s b refl);
      hit = λ q. h;
      miss = λ q. absurd (omega arith);
    }
  where
    s : SlotWords
    s = row_at ws j

    said : Content
    said = content_in s.content

    p : Place (slots_of ws) a
    p = place_of j z b h

    own : (is_idle said ≡ false) × (row s.key said ≡ p.content)
    own =
        kept_entry s.key said p.content
        (sym (entry_slot s) ∙ ap (λ (x : Slot). x.entry) (sym (slots_at ws j b)) ∙ p.here)

    found : look (entries (slots_of ws)) a ≡ some said
    found =
        look_held (slots_of ws) j a p.content (z.good.once a) p.inside p.here p.own
        ∙ ap (λ (x : Row Content). some x.item) (sym own.1)

-- there is none
pub none_finds : {ws : SlotRows} {a j : ℕ} → look (entries (slots_of ws)) a ≡ none → slot_count ≤ j → Finds ws a j
unfolding content_in pending_in holder_in
none_finds {ws} {a} {j} e b =
    record { content = content_none (slots_of ws) a e ∙ ap content_in (content_nowhere ws j b); hit = λ q. absurd (omega arith); miss = λ q. e }

-- where a search ended
pub sought_finds : {ws : SlotRows} {a : ℕ} {r : Sought} → SlotsHeld ws → r ≡ sought (slots_of ws) a → Finds ws a r.at
sought_finds {ws} {a} {r} z e =
    ⊎_elim
    (λ t. let b : r.at < slot_count = less_true r.at slot_count t in at_finds z b (sought_holds (slots_of ws) a e b))
    (λ t. let b : slot_count ≤ r.at = less_false r.at slot_count t in none_finds (sought_absent a z.good e b) b)
    (cases (less r.at slot_count))

-- what is read there is what is said of the address
pub said_at : {ws : SlotRows} {a at : ℕ} {c : ContentWords} → Finds ws a at → c ≡ content_at ws at → content_of (slots_of ws) a ≡ content_in c
said_at f e = f.content ∙ ap content_in (sym e)

-- the slot that the filter tried
pub tried : (ws : SlotRows) (a j : ℕ) (s : SlotWords) (b : Bool) → j < slot_count → s ≡ row_at ws j → b ≡ holds a (slot_in s) → b ≡ true → holds a (get_or (slots_of ws) j empty_slot) ≡ true
tried ws a j s b l g h t = ap (holds a) (slots_at ws j l ∙ ap slot_in (sym g)) ∙ sym h ∙ t

-- a bucket without entries
pub filter_miss : (ws : SlotRows) (a b w : ℕ) → SlotsHeld ws → b ≡ bucket_of a → w ≡ cell_at ws b → w < 256 → look (entries (slots_of ws)) a ≡ none
filter_miss ws a b w z e f l =
    unloaded_absent {ws = ws} {ss = slots_of ws} a z.filtered (bucket_less a)
    (subst (λ (n : ℕ). cell_at ws n < 256) e (subst (λ (n : ℕ). n < 256) f l))

-- where a search would end
sought_hit : (ws : SlotRows) (a j : ℕ) → SlotsHeld ws → j < slot_count → holds a (get_or (slots_of ws) j empty_slot) ≡ true
    → record { at = j; examined = suc (gap (home_slot address_size a) j) } ≡ sought (slots_of ws) a
sought_hit ws a j z b h = sought_place z.good (place_of {ws = ws} {a = a} j z b h)

sought_miss : (ws : SlotRows) (a : ℕ) → SlotsHeld ws → look (entries (slots_of ws)) a ≡ none → slot_count ≤ (sought (slots_of ws) a).at
sought_miss ws a z e =
    ⊎_elim
    (λ t. clash (sought_present a z.good refl (less_true (sought (slots_of ws) a).at slot_count t)) (ap present e))
    (λ t. less_false (sought (slots_of ws) a).at slot_count t)
    (cases (less (sought (slots_of ws) a).at slot_count))

-- what is said of an address, told with the slots that a search examines
module _ (ws : SlotRows) (a : ℕ) (c : ContentWords) (z : SlotsHeld ws) (e : content_of (slots_of ws) a ≡ content_in c) where
  idle_said : is_idle idle ≡ true
  unfolding is_idle
  idle_said = refl

  told : look (entries (slots_of ws)) a ≡ pick (is_idle (content_in c)) none (some (content_in c))
  told =
      ⊎_elim
      (λ q. q ∙ sym (ap (λ (t : Bool). pick t none (some (content_in c))) (ap is_idle (sym e ∙ content_none (slots_of ws) a q) ∙ idle_said)))
      (λ q.
      let busy : is_idle (content_in c) ≡ false
      = ⊎_elim
      (λ t. clash (ap present q.1) (present_content z.good a ∙ ap (λ (x : Content). not (is_idle x)) e ∙ ap not t))
      (λ t. t)
      (cases (is_idle (content_in c))) in
      q.1 ∙ ap some (sym (content_some (slots_of ws) a q.0 q.1) ∙ e) ∙ sym (ap (λ (t : Bool). pick t none (some (content_in c))) busy))
      (options (look (entries (slots_of ws)) a))

  looks : (n : ℕ) → (search address_size (slots_of ws) a).examined ≡ n → Looks ws a (record { content = c; examined = n })
  unfolding looked_in
  looks n q =
      record {
        searched = λ j. record { found = (search_finds z.good a ∙ told) j; examined = q j };
        content = e;
      }

  pub look_hit : (j n : ℕ) → j < slot_count → holds a (get_or (slots_of ws) j empty_slot) ≡ true → n ≡ suc (gap (home_slot address_size a) j)
      → Looks ws a (record { content = c; examined = n })
  look_hit j n b h q = looks n (ap (λ (x : Searched). x.examined) (search_place address_size (slots_of ws) a z.good (place_of {ws = ws} {a = a} j z b h)) ∙ sym q)

  pub look_miss : (r : Sought) → r ≡ sought (slots_of ws) a → Looks ws a (record { content = c; examined = r.examined })
  look_miss r q = looks r.examined ((search_ends (slots_of ws) a).examined ∙ sym (ap (λ (x : Sought). x.examined) q))

-- ---- entering

vacant_some : (s : Slot) (e : Row Content) → s.entry ≡ some e → vacant s ≡ false
unfolding vacant
vacant_some s e q = ap (λ (o : Option (Row Content)). not (present o)) q

vacant_held : (a : ℕ) (s : Slot) → holds a s ≡ true → vacant s ≡ false
vacant_held a s h = let r = holds_entry a s h in vacant_some s r.0 r.1

-- the distance of an entry that stands in slot j
stands_there : {ws : SlotRows} (a j : ℕ) → SlotsHeld ws → j < slot_count → holds a (get_or (slots_of ws) j empty_slot) ≡ true → Stands (slots_of ws) a (gap (home_slot address_size a) j)
stands_there {ws} a j z b k = record { place = place_of {ws = ws} {a = a} j z b k; far = refl }

pub stands_at : {ws : SlotRows} (a h j n : ℕ) → SlotsHeld ws → j < slot_count → holds a (get_or (slots_of ws) j empty_slot) ≡ true → h ≡ home_slot address_size a → n ≡ gap h j
    → Stands (slots_of ws) a n
stands_at {ws} a h j n z b k e f = subst (Stands (slots_of ws) a) (ap (λ (x : ℕ). gap x j) (sym e) ∙ sym f) (stands_there a j z b k)

-- the slot of an entry that goes
pub release_turns : {ws : SlotRows} (a j : ℕ) → SlotsHeld ws → j < slot_count → holds a (get_or (slots_of ws) j empty_slot) ≡ true
    → Turns false true (slots_of ws) (release address_size (slots_of ws) a) j
release_turns {ws} a j z b h =
    subst (λ (us : List Slot). Turns false true ss us j) (sym (released_as a d z (stands_there a j z b h)))
    (subst (Turns false true ss (with_entry (count_passed pred ss (home_slot address_size a) d) (home_slot address_size a + d) none)) there
    (record { was = ap (λ (n : ℕ). vacant (get_or ss n empty_slot)) there ∙ vacant_held a (get_or ss j empty_slot) h; is = turns.is; others = turns.others }))
  where
    ss : List Slot
    ss = slots_of ws

    d : ℕ
    d = gap (home_slot address_size a) j

    there : (home_slot address_size a + d) % slot_count ≡ j
    there = gap_back (home_slot address_size a) j (home_less address_size a) b

    turns : Turns (vacant (slot_at ss (home_slot address_size a + d))) true ss (with_entry (count_passed pred ss (home_slot address_size a) d) (home_slot address_size a + d) none) ((home_slot address_size a + d) % slot_count)
    turns = entry_turns pred ss (home_slot address_size a) d none (length_slots ws) (home_less address_size a) (gap_less (home_slot address_size a) j)

-- a changed word behind the slots leaves them
sized_word : (ws : SlotRows) (r p w : ℕ) → Sized ws → slot_count ≤ r → r < slot_rows → Sized (word_put ws r p w)
sized_word ws r p w z l h =
    record {
      size = length-set ws r (set (get_or ws r []) p w) ∙ z.size;
      narrow = λ i q. subst (λ (x : SlotWords). Narrow x) (sym (word_row ws r p w z.size l h i q)) (z.narrow i q);
    }

-- the bucket of an address that has an entry
bucket_has : {ws : SlotRows} (a : ℕ) → SlotsHeld ws → present (look (entries (slots_of ws)) a) ≡ true → 256 ≤ cell_at ws (bucket_of a)
bucket_has {ws} a z e =
    ⊎_elim
    (λ t. clash e (ap present (unloaded_absent {ws = ws} {ss = slots_of ws} a z.filtered (bucket_less a) (less_true (cell_at ws (bucket_of a)) 256 t))))
    (λ t. less_false (cell_at ws (bucket_of a)) 256 t)
    (cases (less (cell_at ws (bucket_of a)) 256))

module _ (ws : SlotRows) (n a : ℕ) (c : ContentWords) (z : SlotsHeld ws) (q : n ≡ length (entries (slots_of ws))) (room : EntryRoom (slots_of ws) a (content_in c)) where
  -- the words hold the slots that `enter` leaves, and the number of entries follows
  enters : (us : SlotRows) (m : ℕ) → Sized us → slots_of us ≡ enter address_size (slots_of ws) a (content_in c) → Filtered us (enter address_size (slots_of ws) a (content_in c))
      → Occupied us (enter address_size (slots_of ws) a (content_in c)) → m ≡ length (entries (enter address_size (slots_of ws) a (content_in c))) → Enters ws a c us m
  enters us m b v f k e =
      record {
        held =
            record {
              sized = b;
              good = subst (Good address_size) (sym v) (enter_good z.good room);
              filtered = subst (Filtered us) (sym v) f;
              occupied = subst (Occupied us) (sym v) k;
            };
        view = v;
        number = e ∙ ap (λ (l : List Slot). length (entries l)) (sym v);
      }

  -- the filter, where no cell changes, since an entry neither comes nor goes
  still_filtered : (us : SlotRows) → BehindStays ws us → is_idle (content_of (slots_of ws) a) ≡ is_idle (content_in c) → Filtered us (enter address_size (slots_of ws) a (content_in c))
  still_filtered us s e =
      filter_enter {ws = ws} {us = us} z.good room z.filtered (λ j p q. ap length (s.rows j p) ∙ z.filtered.wide j p q) (λ b h n. (stays_cells s).cells b h)
      (ap (λ (n : ℕ). n / 256 + pick (is_idle (content_of (slots_of ws) a)) 0 1) ((stays_cells s).cells (bucket_of a) (bucket_less a))
      ∙ ap (λ (t : Bool). cell_at ws (bucket_of a) / 256 + pick t 0 1) e)

  -- the filter, where the cell of the address changes
  cell_filtered : (us : SlotRows) (w : ℕ) → CellsStay ws us → length us ≡ slot_rows
      → w / 256 + pick (is_idle (content_of (slots_of ws) a)) 0 1 ≡ cell_at ws (bucket_of a) / 256 + pick (is_idle (content_in c)) 0 1
      → Filtered (cell_put us (bucket_of a) w) (enter address_size (slots_of ws) a (content_in c))
  cell_filtered us w s l e =
      filter_enter {ws = ws} {us = cell_put us (bucket_of a) w} z.good room z.filtered
      (λ j p q. word_lengths us r (cell_place (bucket_of a)) w l low high j ∙ s.lengths j p ∙ z.filtered.wide j p q)
      (λ b h n. word_other us r (cell_place (bucket_of a)) w l low high (cell_row b) (cell_place b) (λ f g. n (omega arith)) ∙ s.cells b h)
      (ap (λ (n : ℕ). n / 256 + pick (is_idle (content_of (slots_of ws) a)) 0 1)
      (word_same us r (cell_place (bucket_of a)) w l low high (let wide : length (get_or us r []) ≡ 9 = s.lengths r low ∙ z.filtered.wide r low high in omega arith))
      ∙ e)
    where
      r : ℕ
      r = cell_row (bucket_of a)

      low : slot_count ≤ r
      low = omega arith

      high : r < slot_rows
      high = let q : bucket_of a < bucket_count = bucket_less a in omega arith

  -- whether anything is said of the address, by whether it has an entry
  said_idle : (t : Bool) → present (look (entries (slots_of ws)) a) ≡ not t → is_idle (content_of (slots_of ws) a) ≡ t
  said_idle t e = go (is_idle (content_of (slots_of ws) a)) t (sym (present_content z.good a) ∙ e)
    where
      go : (x y : Bool) → not x ≡ not y → x ≡ y
      go true true q = refl
      go true false q = clash q refl
      go false true q = clash refl q
      go false false q = refl

  -- how the number changes, by what was found and what is said
  number : (f g : Bool) → present (look (entries (slots_of ws)) a) ≡ f → is_idle (content_in c) ≡ g
      → length (entries (enter address_size (slots_of ws) a (content_in c))) + pick f 1 0 ≡ n + pick g 0 1
  number f g s t =
      ap (λ (x : Bool). length (entries (enter address_size (slots_of ws) a (content_in c))) + pick x 1 0) (sym s)
      ∙ count_enter z.good room
      ∙ ap (λ (x : Bool). length (entries (slots_of ws)) + pick x 0 1) t
      ∙ ap (λ (m : ℕ). m + pick g 0 1) (sym q)

  pub number_most : n ≤ slot_count
  number_most =
      let x : length (entries (slots_of ws)) ≤ length (slots_of ws) = entries_most (slots_of ws) in
      let y : length (slots_of ws) ≡ slot_count = length_slots ws in
      omega arith

  -- the words after slots `ss` were left, the word of slot i's bit changed to v, and the cell of the address to w
  module _ (i v w : ℕ) (ss : List Slot) (us : SlotRows) (u : SlotsBecome ws us ss) (ms : SlotRows) (k : ms ≡ bitmap_put us (i / word_bits) v) where
    abbrev after : SlotRows
    after = cell_put ms (bucket_of a) w

    low_cell : slot_count ≤ cell_row (bucket_of a)
    low_cell = omega arith

    high_cell : cell_row (bucket_of a) < slot_rows
    high_cell = let q : bucket_of a < bucket_count = bucket_less a in omega arith

    bitmap_sized : Sized ms
    bitmap_sized = subst Sized (sym k) (sized_word us bitmap_row (i / word_bits + 1) v u.sized (omega arith) (omega arith))

    bitmap_stays : CellsStay ws ms
    bitmap_stays = put_cells u.stays u.sized.size (i / word_bits) v k

    after_sized : Sized after
    after_sized = sized_word ms (cell_row (bucket_of a)) (cell_place (bucket_of a)) w bitmap_sized low_cell high_cell

    after_slots : slots_of after ≡ ss
    after_slots =
        word_slots ms (cell_row (bucket_of a)) (cell_place (bucket_of a)) w bitmap_sized.size low_cell high_cell
        ∙ ap slots_of k ∙ word_slots us bitmap_row (i / word_bits + 1) v u.sized.size (omega arith) (omega arith) ∙ u.view

    after_bits : (n : ℕ) → bitmap_at after n ≡ bitmap_at (bitmap_put us (i / word_bits) v) n
    after_bits n = cell_bits ms (bucket_of a) w bitmap_sized.size (bucket_less a) n ∙ ap (λ (xs : SlotRows). bitmap_at xs n) k

    after_own : i < slot_count → bitmap_at after (i / word_bits) ≡ v
    after_own h =
        after_bits (i / word_bits)
        ∙ word_same us bitmap_row (i / word_bits + 1) v u.sized.size (omega arith) (omega arith)
        (let wide : length (get_or us bitmap_row []) ≡ 9 = (stays_cells u.stays).lengths bitmap_row (omega arith) ∙ z.filtered.wide bitmap_row (omega arith) (omega arith) in omega arith)

    after_occupied : {p q : Bool} → i < slot_count → Turns p q (slots_of ws) ss i → bit (i % word_bits) v ≡ pick q 0 1
        → ((j : ℕ) → (j ≡ i % word_bits → ⊥) → bit j v ≡ bit j (bitmap_at us (i / word_bits))) → Occupied after ss
    after_occupied h t own bits =
        occupied_turns {ws = ws} {us = after} i z.occupied h t
        (λ n f. after_bits n ∙ word_other us bitmap_row (i / word_bits + 1) v u.sized.size (omega arith) (omega arith) bitmap_row (n + 1) (λ x y. f (omega arith)) ∙ stays_bits n u.stays)
        (ap (bit (i % word_bits)) (after_own h) ∙ own)
        (λ j f. ap (bit j) (after_own h) ∙ bits j f ∙ ap (bit j) (stays_bits (i / word_bits) u.stays))

    -- these words hold what `enter` leaves
    after_enters : {p q : Bool} (m : ℕ) → i < slot_count → Turns p q (slots_of ws) ss i → bit (i % word_bits) v ≡ pick q 0 1
        → ((j : ℕ) → (j ≡ i % word_bits → ⊥) → bit j v ≡ bit j (bitmap_at us (i / word_bits)))
        → ss ≡ enter address_size (slots_of ws) a (content_in c)
        → w / 256 + pick (is_idle (content_of (slots_of ws) a)) 0 1 ≡ cell_at ws (bucket_of a) / 256 + pick (is_idle (content_in c)) 0 1
        → m ≡ length (entries (enter address_size (slots_of ws) a (content_in c))) → (vs : SlotRows) → vs ≡ after → Enters ws a c vs m
    after_enters m h t own bits e load number vs v =
        subst (λ (xs : SlotRows). Enters ws a c xs m) (sym v)
        (enters after m after_sized (after_slots ∙ e) (cell_filtered ms w bitmap_stays bitmap_sized.size load)
        (subst (Occupied after) e (after_occupied h t own bits)) number)

  module _ (r : Sought) (e : r ≡ sought (slots_of ws) a) where
    -- an entry that goes
    goes_out : is_idle (content_in c) ≡ true → (b : r.at < slot_count) → Turns false true (slots_of ws) (release address_size (slots_of ws) a) r.at
        → (vs : SlotRows) → TakenOut ws a r.at vs → Enters ws a c vs (n - 1)
    goes_out t b turns vs o =
        after_enters r.at v w (release address_size (slots_of ws) a) us o.released ms o.bit_gone (n - 1) b turns
        (clear_there (r.at % word_bits) (bitmap_at us (r.at / word_bits)) is_set)
        (λ j f. clear_other (r.at % word_bits) j (bitmap_at us (r.at / word_bits)) f is_set)
        (sym (enter_idle address_size (slots_of ws) a (content_in c) t))
        less_one
        (let x : length (entries (enter address_size (slots_of ws) a (content_in c))) + 1 ≡ n + 0 = number true true
        (sought_present a z.good e b) t in omega arith)
        vs o.counted
      where
        us : SlotRows
        us = o.middle

        ms : SlotRows
        ms = o.cleared

        v : ℕ
        v = bitmap_at us (r.at / word_bits) - 2 ^ (r.at % word_bits)

        w : ℕ
        w = cell_at ms (bucket_of a) - 256

        is_set : bit (r.at % word_bits) (bitmap_at us (r.at / word_bits)) ≡ 1
        is_set = bit_is r.at z.occupied o.released.stays b turns

        less_one : w / 256 + pick (is_idle (content_of (slots_of ws) a)) 0 1 ≡ cell_at ws (bucket_of a) / 256 + pick (is_idle (content_in c)) 0 1
        less_one =
            let x : ◌≡◌ {A = ℕ} (pick (is_idle (content_of (slots_of ws) a)) 0 1) 1 = ap (λ (t : Bool). pick t 0 1) (said_idle false (sought_present a z.good e b)) in
            let y : ◌≡◌ {A = ℕ} (pick (is_idle (content_in c)) 0 1) 0 = ap (λ (t : Bool). pick t 0 1) t in
            let k : cell_at ms (bucket_of a) ≡ cell_at ws (bucket_of a)
            = (bitmap_stays r.at v w (release address_size (slots_of ws) a) us o.released ms o.bit_gone).cells (bucket_of a) (bucket_less a) in
            let m : 256 ≤ cell_at ws (bucket_of a) = bucket_has a z (sought_present a z.good e b) in
            omega arith

    some_there : is_idle (content_in c) ≡ true → r.at < slot_count → 1 ≤ n
    some_there t b =
        let x : length (entries (enter address_size (slots_of ws) a (content_in c))) + 1 ≡ n + 0 = number true true
        (sought_present a z.good e b) t in omega arith

    -- nothing to do
    none_there : is_idle (content_in c) ≡ true → slot_count ≤ r.at → Enters ws a c ws n
    none_there t b =
        enters ws n z.sized same
        (still_filtered ws (record { rows = λ j b. refl }) (said_idle true (ap present (sought_absent a z.good e b)) ∙ sym t))
        (subst (Occupied ws) same z.occupied)
        (let x : length (entries (enter address_size (slots_of ws) a (content_in c))) + 0 ≡ n + 0 = number false true
        (ap present (sought_absent a z.good e b)) t in omega arith)
      where
        same : slots_of ws ≡ enter address_size (slots_of ws) a (content_in c)
        same =
            sym (enter_idle address_size (slots_of ws) a (content_in c) t
            ∙ release_none address_size (slots_of ws) a (distance_absent (slots_of ws) a (home_slot address_size a) (length_slots ws)
            (absent_count address_size (slots_of ws) a z.good (ap present (sought_absent a z.good e b)))))

    -- an entry that says something else
    goes_over : is_idle (content_in c) ≡ false → r.at < slot_count → a < addresses → (s : SlotWords) → s ≡ row_at ws r.at → (us : SlotRows)
        → us ≡ store ws r.at (record { key = a; content = c; overflow = s.overflow }) → Enters ws a c us n
    unfolding slot_in
    goes_over t b ab s g us u =
        enters us n (subst Sized (sym u) (sized_store ws r.at new z.sized b (λ f. ab)))
        view
        (still_filtered us stays (said_idle false (sought_present a z.good e b) ∙ sym t))
        (occupied_still z.occupied (λ k. stays_bits k stays) (λ i h. ap (λ (l : List Slot). vacant (get_or l i empty_slot)) (sym over) ∙ still i))
        (let x : length (entries (enter address_size (slots_of ws) a (content_in c))) + 1 ≡ n + 1 = number true false
        (sought_present a z.good e b) t in omega arith)
      where
        new : SlotWords
        new = record { key = a; content = c; overflow = s.overflow }

        slot : Slot
        slot = record { entry = some (row a (content_in c)); overflow = (get_or (slots_of ws) r.at empty_slot).overflow }

        inside : r.at < length (slots_of ws)
        inside = let x : length (slots_of ws) ≡ slot_count = length_slots ws in omega arith

        stays : BehindStays ws us
        stays = subst (BehindStays ws) (sym u) (store_stays ws r.at new b)

        over : set (slots_of ws) r.at slot ≡ enter address_size (slots_of ws) a (content_in c)
        over =
            sym (rewrite_at (slots_of ws) a (content_in c) r.at (z.good.once a) inside (sought_holds (slots_of ws) a e b))
            ∙ sym (enter_present address_size (slots_of ws) a (content_in c) t (sought_present a z.good e b))

        view : slots_of us ≡ enter address_size (slots_of ws) a (content_in c)
        view =
            ap slots_of u
            ∙ slots_store ws r.at new z.sized.size b
            ∙ ap (λ (o : Option (Row Content)). set (slots_of ws) r.at (record { entry = o; overflow = s.overflow }))
            (ap (λ (t : Bool). pick t none (some (row a (content_in c)))) t)
            ∙ ap (λ (x : Slot). set (slots_of ws) r.at (record
            { entry = some (row a (content_in c)); overflow = x.overflow })) (ap slot_in g ∙ sym (slots_at ws r.at b))
            ∙ over

        still : (i : ℕ) → vacant (get_or (set (slots_of ws) r.at slot) i empty_slot) ≡ vacant (get_or (slots_of ws) i empty_slot)
        still i =
            ⊎_elim
            (λ q.
            let f : i ≡ r.at = same_true i r.at q in
            ap (λ (n : ℕ). vacant (get_or (set (slots_of ws) r.at slot) n empty_slot)) f
            ∙ ap vacant (get_or-set_same (slots_of ws) r.at slot empty_slot inside)
            ∙ vacant_some slot (row a (content_in c)) refl
            ∙ sym (vacant_held a (get_or (slots_of ws) r.at empty_slot) (sought_holds (slots_of ws) a e b))
            ∙ ap (λ (n : ℕ). vacant (get_or (slots_of ws) n empty_slot)) (sym f))
            (λ q. ap vacant (get_or-set_other (slots_of ws) r.at i slot empty_slot (same_false i r.at q)))
            (cases (same i r.at))

    -- a new entry
    room_there : is_idle (content_in c) ≡ false → slot_count ≤ r.at → length (entries (slots_of ws)) < slot_count
    room_there t b = go room
      where
        go : EntryRoom (slots_of ws) a (content_in c) → length (entries (slots_of ws)) < slot_count
        go (goes x) = clash x t
        go (stands x) = clash x (ap present (sought_absent a z.good e b))
        go (fits x) = x

    goes_in : is_idle (content_in c) ≡ false → slot_count ≤ r.at → (vs : SlotRows) → TakenIn ws a (content_in c) vs → Enters ws a c vs (n + 1)
    goes_in t b vs o =
        after_enters i v w (take address_size (slots_of ws) a (content_in c)) us o.taken ms o.bit_new (n + 1) o.inside o.turns
        (set_there (i % word_bits) (bitmap_at us (i / word_bits)) clear)
        (λ j f. set_other (i % word_bits) j (bitmap_at us (i / word_bits)) f clear)
        (sym (enter_absent address_size (slots_of ws) a (content_in c) t (ap present (sought_absent a z.good e b))))
        one_more
        (let x : length (entries (enter address_size (slots_of ws) a (content_in c))) + 0 ≡ n + 1 = number false false
        (ap present (sought_absent a z.good e b)) t in omega arith)
        vs o.counted
      where
        i : ℕ
        i = o.slot

        us : SlotRows
        us = o.middle

        ms : SlotRows
        ms = o.bit_set

        v : ℕ
        v = bitmap_at us (i / word_bits) + 2 ^ (i % word_bits)

        w : ℕ
        w = (cell_at ms (bucket_of a) / 256 + 1) * 256 + i

        clear : bit (i % word_bits) (bitmap_at us (i / word_bits)) ≡ 0
        clear = bit_is i z.occupied o.taken.stays o.inside o.turns

        one_more : w / 256 + pick (is_idle (content_of (slots_of ws) a)) 0 1 ≡ cell_at ws (bucket_of a) / 256 + pick (is_idle (content_in c)) 0 1
        one_more =
            let x : ◌≡◌ {A = ℕ} (pick (is_idle (content_of (slots_of ws) a)) 0 1) 0 = ap (λ (t : Bool). pick t 0 1) (said_idle true (ap present (sought_absent a z.good e b))) in
            let y : ◌≡◌ {A = ℕ} (pick (is_idle (content_in c)) 0 1) 1 = ap (λ (t : Bool). pick t 0 1) t in
            let k : cell_at ms (bucket_of a) ≡ cell_at ws (bucket_of a)
            = (bitmap_stays i v w (take address_size (slots_of ws) a (content_in c)) us o.taken ms o.bit_new).cells (bucket_of a) (bucket_less a) in
            let l : i < 256 = o.inside in
            omega arith

  -- by the slot that was found
  module _ (j : ℕ) (k : Finds ws a j) where
    abbrev at_slot : Sought
    at_slot = record { at = j; examined = suc (gap (home_slot address_size a) j) }

    ends_there : (b : j < slot_count) → at_slot ≡ sought (slots_of ws) a
    ends_there b = sought_hit ws a j z b (k.hit b)

    ends_nowhere : slot_count ≤ j → slot_count ≤ (sought (slots_of ws) a).at
    ends_nowhere b = sought_miss ws a z (k.miss b)

    pub enter_out : is_idle (content_in c) ≡ true → j < slot_count → (vs : SlotRows) → TakenOut ws a (j) vs → Enters ws a c vs (n - 1)
    enter_out t b vs u = goes_out at_slot (ends_there b) t b (release_turns a (j) z b (k.hit b)) vs u

    pub number_some : is_idle (content_in c) ≡ true → j < slot_count → 1 ≤ n
    number_some t b = some_there at_slot (ends_there b) t b

    pub enter_nothing : is_idle (content_in c) ≡ true → slot_count ≤ j → Enters ws a c ws n
    enter_nothing t b = none_there (sought (slots_of ws) a) refl t (ends_nowhere b)

    pub enter_over : is_idle (content_in c) ≡ false → j < slot_count → a < addresses → (s : SlotWords) → s ≡ row_at ws j → (us : SlotRows)
        → us ≡ store ws j (record { key = a; content = c; overflow = s.overflow }) → Enters ws a c us n
    enter_over t b = goes_over at_slot (ends_there b) t b

    pub enter_room : is_idle (content_in c) ≡ false → slot_count ≤ j → length (entries (slots_of ws)) < slot_count
    enter_room t b = room_there (sought (slots_of ws) a) refl t (ends_nowhere b)

    pub enter_new : is_idle (content_in c) ≡ false → slot_count ≤ j → (vs : SlotRows) → TakenIn ws a (content_in c) vs → Enters ws a c vs (n + 1)
    enter_new t b vs u = goes_in (sought (slots_of ws) a) refl t (ends_nowhere b) vs u

-- its bucket has an entry, also once its slot is given back
pub loaded_still : {ws us : SlotRows} (a j : ℕ) → SlotsHeld ws → j < slot_count → holds a (get_or (slots_of ws) j empty_slot) ≡ true → CellsStay ws us → 256 ≤ cell_at us (bucket_of a)
loaded_still {ws} {us} a j z b h s =
    subst (λ (n : ℕ). 256 ≤ n) (sym (s.cells (bucket_of a) (bucket_less a))) (bucket_has a z (sought_present a z.good (sought_hit ws a j z b h) b))

-- a cell's number does not wrap
pub load_small : {ws us : SlotRows} → SlotsHeld ws → CellsStay ws us → (a : ℕ) → cell_at us (bucket_of a) / 256 ≤ slot_count
load_small {ws} {us} z s a =
    let e : cell_at us (bucket_of a) / 256 ≡ load (bucket_of a) (slots_of ws) = ap (λ (n : ℕ). n / 256) (s.cells (bucket_of a) (bucket_less a)) ∙ z.filtered.loads (bucket_of a) (bucket_less a) in
    let x : load (bucket_of a) (slots_of ws) ≤ length (entries (slots_of ws)) = load_most (bucket_of a) (slots_of ws) in
    let y : length (entries (slots_of ws)) ≤ length (slots_of ws) = entries_most (slots_of ws) in
    let w : length (slots_of ws) ≡ slot_count = length_slots ws in
    omega arith

-- ---- all slots empty

-- the row of a slot without an entry
abbrev pub empty_row : List ℕ
empty_row = 0 ∷ replicate 8 0

abbrev pub empty_rows : SlotRows
empty_rows = replicate slot_rows empty_row

empty_row_lem : (i : ℕ) → i < slot_rows → row_at empty_rows i ≡ record { key = 0; content = unsaid; overflow = 0 }
empty_row_lem i h = ap row_in (get_or-replicate slot_rows i empty_row [] h)

empty_slot_lem : slot_in (record { key = 0; content = unsaid; overflow = 0 }) ≡ empty_slot
unfolding slot_in content_in is_idle pending_in holder_in
empty_slot_lem = refl

empty_view : slots_of empty_rows ≡ empty_slots
empty_view =
    ext_get_or empty_slot (slots_of empty_rows) empty_slots
    (length_slots empty_rows ∙ sym (length-replicate slot_count empty_slot))
    (λ i q. at i (let x : length (slots_of empty_rows) ≡ slot_count = length_slots empty_rows in omega arith))
  where
    at : (i : ℕ) → i < slot_count → get_or (slots_of empty_rows) i empty_slot ≡ get_or empty_slots i empty_slot
    at i h =
        slots_at empty_rows i h
        ∙ ap slot_in (empty_row_lem i (omega arith))
        ∙ empty_slot_lem
        ∙ sym (get_or-replicate slot_count i empty_slot empty_slot h)

-- a cell of fresh rows
empty_cell : (b : ℕ) → b < bucket_count → cell_at empty_rows b ≡ 0
empty_cell b h = ap (λ (r : List ℕ). get_or r (cell_place b) 0) (get_or-replicate slot_rows (cell_row b) empty_row [] (omega arith))
    ∙ ap (λ (n : ℕ). get_or empty_row n 0) (add-one (b % 8)) ∙ get_or-replicate {A = ℕ} 8 (b % 8) 0 0 (omega arith)

empty_bits : (k : ℕ) → k < 4 → bitmap_at empty_rows k ≡ 0
empty_bits k h = ap (λ (r : List ℕ). get_or r (k + 1) 0) (get_or-replicate slot_rows bitmap_row empty_row [] (omega arith))
    ∙ ap (λ (n : ℕ). get_or empty_row n 0) (add-one k) ∙ get_or-replicate {A = ℕ} 8 k 0 0 (omega arith)

empty_vacant : (i : ℕ) → i < slot_count → vacant (get_or empty_slots i empty_slot) ≡ true
unfolding vacant
empty_vacant i h = ap vacant (get_or-replicate slot_count i empty_slot empty_slot h)

pub fresh_words : SlotsFresh empty_rows
fresh_words =
    record {
      held =
          record {
            sized =
                record {
                  size = let e : length empty_rows ≡ slot_rows = length-replicate {A = List ℕ} slot_rows empty_row in e;
                  narrow = λ i h t. clash (ap (λ (x : SlotWords). is_idle (content_in x.content)) (empty_row_lem i (omega arith)) ∙ idle_zero) t;
                };
            good = subst (Good address_size) (sym empty_view) (fresh_good address_size);
            filtered =
                record {
                  wide = λ j p q. ap length (get_or-replicate slot_rows j empty_row [] q);
                  loads = λ b h. ap (λ (n : ℕ). n / 256) (empty_cell b h) ∙ sym (load_none b) ∙ ap (load b) (sym empty_view);
                };
            occupied =
                record {
                  bits = λ i h.
                      ap (bit (i % word_bits)) (empty_bits (i / word_bits) (omega arith)) ∙ bit_zero (i % word_bits)
                      ∙ sym (ap (λ (t : Bool). pick t 0 1) (ap (λ (l : List Slot). vacant (get_or l i empty_slot)) empty_view ∙ empty_vacant i h));
                };
          };
      view = empty_view;
    }
