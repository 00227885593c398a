-- The filter's laws: which changes of words leave it, what a changed cell says, and that it goes along with `enter`.
use Rattle.std.specs.Prelude.{ℕ, zero, suc, ◌+◌, ◌/◌, ◌<◌, ◌≤◌, ◌≡◌, refl, Bool, true, false, List, [], ◌∷◌, length, get_or, set, replicate}
use Rattle.std.proofs.Common.{arith, sym, ap, ◌∙◌, subst, ⊎_elim, length-set, get_or-set_same, get_or-set_other, ext_get_or}
use Rattle.std.proofs.Math.Option.{none}
use Rattle.lists.specs.Tests.{pick, same}
use Rattle.lists.specs.TestLaws.{cases, same_true, same_false, same_yes, same_no}
use Rattle.lists.specs.Rows.{Row, look}
use Rattle.lists.specs.RowLaws.{look_nil, look_there}
use Rattle.lists.specs.Sums.{total}
use Rattle.spec.specs.Widths.{address_size}
use Rattle.spec.specs.Slots.{slot_count, Content, is_idle, Slot, empty_slot, empty_slots, entries, content_of, enter}
use Rattle.laws.specs.SlotLaws.{Good, EntryRoom, weigh, sum_enter}
use Rattle.indexlet.specs.declared.Slot.{Slot as SlotWords}
use Rattle.indexlet.specs.Words.{SlotRows, slot_words, slot_in, row_in, row_at, words_of, store, word_put, slots_of}
use Rattle.indexlet.specs.WordLaws.{length_slots, slots_at}
use Rattle.indexlet.specs.Filters.{bucket_count, slot_rows, bucket_of, cell_row, cell_place, cell_at, cell_put, in_bucket, load, Filtered, CellsStay, BehindStays}

-- ---- rows that stay

pub store_stays : (ws : SlotRows) (i : ℕ) (s : SlotWords) → i < slot_count → BehindStays ws (store ws i s)
store_stays ws i s h = record { rows = λ j b. get_or-set_other ws i j (words_of s) [] (λ e. omega arith) }

pub stays_on : {ws us vs : SlotRows} → BehindStays ws us → BehindStays us vs → BehindStays ws vs
stays_on f g = record { rows = λ j b. g.rows j b ∙ f.rows j b }

pub stays_cells : {ws us : SlotRows} → BehindStays ws us → CellsStay ws us
stays_cells s =
    record {
      lengths = λ j b. ap length (s.rows j b);
      cells = λ b h. ap (λ (r : List ℕ). get_or r (cell_place b) 0) (s.rows (cell_row b) (omega arith));
    }

pub cells_on : {ws us vs : SlotRows} → CellsStay ws us → CellsStay us vs → CellsStay ws vs
cells_on f g = record { lengths = λ j b. g.lengths j b ∙ f.lengths j b; cells = λ b h. g.cells b h ∙ f.cells b h }

-- ---- a changed word behind the slots

module _ (ws : SlotRows) (r p w : ℕ) (size : length ws ≡ slot_rows) (low : slot_count ≤ r) (high : r < slot_rows) where
  -- no slot changes
  pub word_row : (i : ℕ) → i < slot_count → row_at (word_put ws r p w) i ≡ row_at ws i
  word_row i q = ap row_in (get_or-set_other ws r i (set (get_or ws r []) p w) [] (λ e. omega arith))

  pub word_slots : slots_of (word_put ws r p w) ≡ slots_of ws
  word_slots =
      ext_get_or empty_slot (slots_of (word_put ws r p w)) (slots_of ws) (length_slots (word_put ws r p w) ∙ sym (length_slots ws))
      (λ i q. at i (let z : length (slots_of (word_put ws r p w)) ≡ slot_count = length_slots (word_put ws r p w) in omega arith))
    where
      at : (i : ℕ) → i < slot_count → get_or (slots_of (word_put ws r p w)) i empty_slot ≡ get_or (slots_of ws) i empty_slot
      at i q = slots_at (word_put ws r p w) i q ∙ ap slot_in (word_row i q) ∙ sym (slots_at ws i q)

  word_there : get_or (word_put ws r p w) r [] ≡ set (get_or ws r []) p w
  word_there = get_or-set_same ws r (set (get_or ws r []) p w) [] (omega arith)

  pub word_same : p < length (get_or ws r []) → get_or (get_or (word_put ws r p w) r []) p 0 ≡ w
  word_same l = ap (λ (x : List ℕ). get_or x p 0) word_there ∙ get_or-set_same (get_or ws r []) p w 0 l

  pub word_other : (s q : ℕ) → (s ≡ r → q ≡ p → ⊥) → get_or (get_or (word_put ws r p w) s []) q 0 ≡ get_or (get_or ws s []) q 0
  word_other s q n =
      ⊎_elim
      (λ t.
      let e : s ≡ r = same_true s r t in
      ap (λ (j : ℕ). get_or (get_or (word_put ws r p w) j []) q 0) e
      ∙ ap (λ (x : List ℕ). get_or x q 0) word_there
      ∙ get_or-set_other (get_or ws r []) p q w 0 (n e)
      ∙ ap (λ (j : ℕ). get_or (get_or ws j []) q 0) (sym e))
      (λ t. ap (λ (x : List ℕ). get_or x q 0) (get_or-set_other ws r s (set (get_or ws r []) p w) [] (same_false s r t)))
      (cases (same s r))

  pub word_lengths : (j : ℕ) → length (get_or (word_put ws r p w) j []) ≡ length (get_or ws j [])
  word_lengths j =
      ⊎_elim
      (λ t.
      let e : j ≡ r = same_true j r t in
      ap (λ (i : ℕ). length (get_or (word_put ws r p w) i [])) e
      ∙ ap length word_there
      ∙ length-set (get_or ws r []) p w
      ∙ ap (λ (i : ℕ). length (get_or ws i [])) (sym e))
      (λ t. ap length (get_or-set_other ws r j (set (get_or ws r []) p w) [] (same_false j r t)))
      (cases (same j r))

-- ---- the filter after `enter`

load_own : (k : ℕ) (c : Content) → weigh (in_bucket (bucket_of k)) k c ≡ pick (is_idle c) 0 1
unfolding in_bucket
load_own k c = ap (λ (t : Bool). pick (is_idle c) 0 (pick t 1 0)) (same_yes {m = bucket_of k} {n = bucket_of k} refl)

load_else : (b k : ℕ) (c : Content) → (b ≡ bucket_of k → ⊥) → weigh (in_bucket b) k c ≡ 0
unfolding in_bucket
load_else b k c n =
    ap (λ (t : Bool). pick (is_idle c) 0 (pick t 1 0)) (same_no {m = bucket_of k} {n = b} (λ e. n (sym e))) ∙ go (is_idle c)
  where
    go : (t : Bool) → ◌≡◌ {A = ℕ} (pick t 0 0) 0
    go true = refl
    go false = refl

-- words whose cells are those of before, but that of k's bucket has one more or less as its entry comes or goes
pub filter_enter : {ws us : SlotRows} {ss : List Slot} {k : ℕ} {c : Content} → Good address_size ss → EntryRoom ss k c → Filtered ws ss
    → ((j : ℕ) → slot_count ≤ j → j < slot_rows → length (get_or us j []) ≡ slot_words)
    → ((b : ℕ) → b < bucket_count → (b ≡ bucket_of k → ⊥) → cell_at us b ≡ cell_at ws b)
    → cell_at us (bucket_of k) / 256 + pick (is_idle (content_of ss k)) 0 1 ≡ cell_at ws (bucket_of k) / 256 + pick (is_idle c) 0 1
    → Filtered us (enter address_size ss k c)
unfolding load
filter_enter {ws} {us} {ss} {k} {c} good room f wide others own =
    record { wide = wide; loads = λ b h. ⊎_elim (λ t. here b h (same_true b (bucket_of k) t)) (λ t. there b h (same_false b (bucket_of k) t)) (cases (same b (bucket_of k))) }
  where
    sums : (b : ℕ) → total (λ (i : ℕ). in_bucket b) (entries (enter address_size ss k c)) + weigh (in_bucket b) k (content_of ss k) ≡ total (λ (i : ℕ). in_bucket b) (entries ss) + weigh (in_bucket b) k c
    sums b = sum_enter good room (in_bucket b)

    there : (b : ℕ) → b < bucket_count → (b ≡ bucket_of k → ⊥) → cell_at us b / 256 ≡ total (λ (i : ℕ). in_bucket b) (entries (enter address_size ss k c))
    there b h n =
        let old : cell_at ws b / 256 ≡ total (λ (i : ℕ). in_bucket b) (entries ss) = f.loads b h in
        let x : weigh (in_bucket b) k (content_of ss k) ≡ 0 = load_else b k (content_of ss k) n in
        let y : weigh (in_bucket b) k c ≡ 0 = load_else b k c n in
        let z : total (λ (i : ℕ). in_bucket b) (entries (enter address_size ss k c)) + weigh (in_bucket b) k (content_of ss k) ≡ total (λ (i : ℕ). in_bucket b) (entries ss) + weigh (in_bucket b) k c = sums b in
        ap (λ (n : ℕ). n / 256) (others b h n) ∙ old ∙ (let q : total (λ (i : ℕ). in_bucket b) (entries ss) ≡ total (λ (i : ℕ). in_bucket b) (entries (enter address_size ss k c)) = omega arith in q)

    here : (b : ℕ) → b < bucket_count → b ≡ bucket_of k → cell_at us b / 256 ≡ total (λ (i : ℕ). in_bucket b) (entries (enter address_size ss k c))
    here b h e =
        let old : cell_at ws (bucket_of k) / 256 ≡ total (λ (i : ℕ). in_bucket (bucket_of k)) (entries ss) = f.loads (bucket_of k) (subst (λ (n : ℕ). n < bucket_count) e h) in
        let x : weigh (in_bucket (bucket_of k)) k (content_of ss k) ≡ pick (is_idle (content_of ss k)) 0 1 = load_own k (content_of ss k) in
        let y : weigh (in_bucket (bucket_of k)) k c ≡ pick (is_idle c) 0 1 = load_own k c in
        let z : total (λ (i : ℕ). in_bucket (bucket_of k)) (entries (enter address_size ss k c)) + weigh (in_bucket (bucket_of k)) k (content_of ss k)
        ≡ total (λ (i : ℕ). in_bucket (bucket_of k)) (entries ss) + weigh (in_bucket (bucket_of k)) k c = sums (bucket_of k) in
        let o : cell_at us (bucket_of k) / 256 + pick (is_idle (content_of ss k)) 0 1 ≡ cell_at ws (bucket_of k) / 256 + pick (is_idle c) 0 1 = own in
        subst (λ (n : ℕ). cell_at us n / 256 ≡ total (λ (i : ℕ). in_bucket n) (entries (enter address_size ss k c))) (sym e) (omega arith)

-- ---- what an empty bucket tells

look_unloaded : (es : List (Row Content)) (a : ℕ) → total (λ (i : ℕ). in_bucket (bucket_of a)) es ≡ 0 → look es a ≡ none
unfolding total in_bucket
look_unloaded [] a h = look_nil a
look_unloaded (e ∷ es) a h =
    let sum : in_bucket (bucket_of a) e + total (λ (i : ℕ). in_bucket (bucket_of a)) es ≡ 0 = h in
    look_there e es a (λ q.
    let one : in_bucket (bucket_of a) e ≡ 1 = ap (λ (t : Bool). pick t 1 0) (same_yes {m = bucket_of e.key} {n = bucket_of a} (ap bucket_of q)) in
    absurd (let z : ⊥ = omega arith in z))
    ∙ look_unloaded es a (omega arith)

pub unloaded_absent : {ws : SlotRows} {ss : List Slot} (a : ℕ) → Filtered ws ss → bucket_of a < bucket_count → cell_at ws (bucket_of a) < 256 → look (entries ss) a ≡ none
unfolding load
unloaded_absent {ws} {ss} a f h l =
    look_unloaded (entries ss) a
    (let z : cell_at ws (bucket_of a) / 256 ≡ total (λ (i : ℕ). in_bucket (bucket_of a)) (entries ss) = f.loads (bucket_of a) h in omega arith)

pub bucket_less : (a : ℕ) → bucket_of a < bucket_count
unfolding bucket_of
bucket_less a = omega arith

-- ---- bounds

bucket_most : (b : ℕ) (e : Row Content) → in_bucket b e ≤ 1
unfolding in_bucket
bucket_most b e = go (same (bucket_of e.key) b)
  where
    go : (t : Bool) → pick t 1 0 ≤ 1
    go true = omega arith
    go false = omega arith

loads_most : (b : ℕ) (es : List (Row Content)) → total (λ (i : ℕ). in_bucket b) es ≤ length es
unfolding total
loads_most b [] = omega arith
loads_most b (e ∷ es) = let x : in_bucket b e ≤ 1 = bucket_most b e in let y : total (λ (i : ℕ). in_bucket b) es ≤ length es = loads_most b es in omega arith

pub load_most : (b : ℕ) (ss : List Slot) → load b ss ≤ length (entries ss)
unfolding load
load_most b ss = loads_most b (entries ss)

entries_empty : (n : ℕ) → length (entries (replicate n empty_slot)) ≡ 0
unfolding entries
entries_empty zero = refl
entries_empty (suc n) = entries_empty n

pub load_none : (b : ℕ) → load b empty_slots ≡ 0
load_none b = let x : load b empty_slots ≤ length (entries empty_slots) = load_most b empty_slots in let y : length (entries empty_slots) ≡ 0 = entries_empty slot_count in omega arith

-- ---- what the functions on cells leave, by the bucket and the cell that they read

module _ (ws : SlotRows) (b w k : ℕ) (e : b ≡ bucket_of k) (f : w ≡ cell_at ws b) where
  pub cell_own : w ≡ cell_at ws (bucket_of k)
  cell_own = f ∙ ap (cell_at ws) e

  pub cell_changed : (g : ℕ → ℕ) (us : SlotRows) → us ≡ cell_put ws b (g w) → us ≡ cell_put ws (bucket_of k) (g (cell_at ws (bucket_of k)))
  cell_changed g us q = q ∙ ap (λ (n : ℕ). cell_put ws b (g n)) cell_own ∙ ap (λ (n : ℕ). cell_put ws n (g (cell_at ws (bucket_of k)))) e

pub bucket_inside : (b k : ℕ) → b ≡ bucket_of k → b < bucket_count
bucket_inside b k e = subst (λ (n : ℕ). n < bucket_count) (sym e) (bucket_less k)
