-- Slots out of which no entry was ever taken: each slot that was passed has an entry, and so has the slot after it. A search
-- then goes on from entry to entry, and examines no more slots than there are entries, or one.
use Prim.Native.Nat.{ℕ, zero, suc, ◌+◌, ◌%◌, ◌<◌, ◌≤◌, max, zero-le}
use native.Mathlib.Omega.{arith}
use Rattle.std.specs.Prelude.{◌≡◌, refl, ◌⊎◌, Bool, false, not, List, [], ◌∷◌, get_or, set}
use Rattle.std.proofs.Common.{sym, ◌∙◌, subst, inl, inr, length-set, get_or-set_other}
use Rattle.std.proofs.Math.Path.{ap}
use Rattle.std.proofs.Math.Logic.{⊎_elim}
use Rattle.std.proofs.Math.Option.{Option, none, some}
use Rattle.std.proofs.Math.ListN.{length}
use Rattle.std.proofs.lemmas.List.{length-replicate, get_or-replicate}
use Rattle.lists.specs.Tests.{pick, present, same, less}
use Rattle.lists.specs.TestLaws.{cases, clash, same_true, same_false, less_true, less_false}
use Rattle.lists.specs.Options.{options}
use Rattle.lists.specs.Rows.{Row, row, look}
use Rattle.lists.specs.Sums.{total_set}
use Rattle.spec.specs.Records.{Write}
use Rattle.spec.specs.Slots.{slot_count, home_slot, Content, is_idle, Slot, empty_slot, empty_slots, entries, content_of, slot_at, vacant, holds, distance, count_passed, with_entry, Searched, search_from, search, take, rewrite, enter}
use Rattle.spec.specs.Maps.{written_over, locked_for, lock_row, install_row, each}
use Rattle.laws.specs.Probes.{gap, gap_back, home_less, First, distance_some}
use Rattle.laws.specs.SlotCounts.{entry_at, tally, count, filled, length_entries, holds_entry}
use Rattle.laws.specs.SlotChanges.{Changed, moved_changed, moved_count, none_vacant, take_at, take_none}
use Rattle.laws.specs.Searches.{search_here, search_stops, search_on}
use Rattle.laws.specs.Entering.{enter_present, enter_absent}
use Rattle.laws.specs.MapLaws.{locked_busy}

-- slot i has an entry
abbrev Occupied : List Slot → ℕ → Type 0
Occupied ss i = vacant (slot_at ss i) ≡ false

pub record Dense (ss : List Slot) : Type 0 where
  pub size : length ss ≡ slot_count
  -- no entry passed the slot, or there are entries in it and in the next
  pub passed : (i : ℕ) → ((slot_at ss i).overflow ≡ 0) ⊎ (Occupied ss i × Occupied ss (suc i))

pub fresh_dense : Dense empty_slots
unfolding slot_at
fresh_dense =
    record {
      size = length-replicate slot_count empty_slot;
      passed = λ i. inl (ap (λ (s : Slot). s.overflow) (get_or-replicate slot_count (i % slot_count) empty_slot empty_slot (omega arith)));
    }

-- ---- entering

-- slots stay dense if entries stay and counts change only where the slot and the next have entries
grown : {ss ts : List Slot} → Dense ss → length ts ≡ length ss → ((i : ℕ) → Occupied ss i → Occupied ts i)
    → ((i : ℕ) → ((slot_at ts i).overflow ≡ (slot_at ss i).overflow) ⊎ (Occupied ts i × Occupied ts (suc i))) → Dense ts
grown {ss} {ts} d l keeps counts = record { size = l ∙ d.size; passed = λ i. ⊎_elim (λ e. old i e (d.passed i)) inr (counts i) }
  where
    old : (i : ℕ) → (slot_at ts i).overflow ≡ (slot_at ss i).overflow → ((slot_at ss i).overflow ≡ 0) ⊎ (Occupied ss i × Occupied ss (suc i))
        → ((slot_at ts i).overflow ≡ 0) ⊎ (Occupied ts i × Occupied ts (suc i))
    old i e (inl z) = inl (e ∙ z)
    old i e (inr r) = inr (keeps i r.0, keeps (suc i) r.1)

entry_occupied : (s : Slot) (e : Row Content) → s.entry ≡ some e → vacant s ≡ false
unfolding vacant
entry_occupied s e q = ap (λ (o : Option (Row Content)). not (present o)) q

same_entry : (s t : Slot) → s.entry ≡ t.entry → vacant s ≡ vacant t
unfolding vacant
same_entry s t q = ap (λ (o : Option (Row Content)). not (present o)) q

length_rewrite : (ss : List Slot) (k : ℕ) (c : Content) → length (rewrite ss k c) ≡ length ss
unfolding rewrite
length_rewrite [] k c = refl
length_rewrite (s ∷ ss) k c = ap suc (length_rewrite ss k c)

rewritten : (ss : List Slot) (k : ℕ) (c : Content) (i : ℕ)
    → (vacant (get_or (rewrite ss k c) i empty_slot) ≡ vacant (get_or ss i empty_slot))
    × ((get_or (rewrite ss k c) i empty_slot).overflow ≡ (get_or ss i empty_slot).overflow)
unfolding rewrite vacant
rewritten [] k c i = (refl, refl)
rewritten (s ∷ ss) k c zero =
    ⊎_elim
    (λ t. let r = holds_entry k s t in rw t (sym (entry_occupied s r.0 r.1), refl))
    (λ t. rw t (refl, refl))
    (cases (holds k s))
rewritten (s ∷ ss) k c (suc i) = rewritten ss k c i

rewrite_dense : {ss : List Slot} → Dense ss → (k : ℕ) (c : Content) → Dense (rewrite ss k c)
unfolding slot_at
rewrite_dense {ss} d k c =
    grown d (length_rewrite ss k c)
    (λ i e. (rewritten ss k c (i % slot_count)).0 ∙ e)
    (λ i. inl (rewritten ss k c (i % slot_count)).1)

-- A new entry at the first vacant slot from h on: those that it passes have entries, and behind them stands the new one.
module _ {ss : List Slot} (dense : Dense ss) (h d : ℕ) (hb : h < slot_count) (db : d < slot_count) (first : First vacant ss h 0 d) (e : Row Content) where
  ts : List Slot
  ts = with_entry (count_passed suc ss h d) (h + d) (some e)

  changed : Changed ss ts ((h + d) % slot_count) (entry_at ss ((h + d) % slot_count)) (some e)
  unfolding ts
  changed = moved_changed suc ss h d dense.size hb db (some e)

  new_occupied : (i : ℕ) → i % slot_count ≡ (h + d) % slot_count → Occupied ts i
  unfolding slot_at
  new_occupied i q = entry_occupied (slot_at ts i) e (ap (entry_at ts) q ∙ changed.after)

  stays_occupied : (i : ℕ) → Occupied ss i → Occupied ts i
  unfolding slot_at
  stays_occupied i t =
      ⊎_elim
      (λ q. new_occupied i (same_true (i % slot_count) ((h + d) % slot_count) q))
      (λ q. same_entry (slot_at ts i) (slot_at ss i)
      (changed.others (i % slot_count) (let z : length ss ≡ slot_count = dense.size in let y : i % slot_count < slot_count = omega arith in omega arith)
      (same_false (i % slot_count) ((h + d) % slot_count) q)) ∙ t)
      (cases (same (i % slot_count) ((h + d) % slot_count)))

  -- a slot at g from h, the new entry's or one before it
  at_gap : (i g : ℕ) → i % slot_count ≡ (h + g) % slot_count → g ≤ d → Occupied ts i
  unfolding slot_at
  at_gap i g q b =
      ⊎_elim
      (λ t. stays_occupied i (ap (λ (n : ℕ). vacant (get_or ss n empty_slot)) q ∙ first.before g zero-le (less_true g d t)))
      (λ t. new_occupied i (q ∙ ap (λ (n : ℕ). (h + n) % slot_count) (let z : d ≤ g = less_false g d t in let y : g ≡ d = omega arith in y)))
      (cases (less g d))

  passing_dense : Dense ts
  unfolding slot_at ts
  passing_dense = grown dense changed.size stays_occupied counts
    where
      passes : (i : ℕ) → gap h (i % slot_count) < d → Occupied ts i × Occupied ts (suc i)
      passes i b =
          let back : (h + gap h (i % slot_count)) % slot_count ≡ i % slot_count = gap_back h (i % slot_count) hb (omega arith) in
          (at_gap i (gap h (i % slot_count)) (sym back) (omega arith), at_gap (suc i) (suc (gap h (i % slot_count))) (omega arith) b)

      counts : (i : ℕ) → ((slot_at ts i).overflow ≡ (slot_at ss i).overflow) ⊎ (Occupied ts i × Occupied ts (suc i))
      counts i =
          ⊎_elim
          (λ t. inr (passes i (less_true (gap h (i % slot_count)) d t)))
          (λ t. inl (moved_count suc ss h d dense.size hb db (some e) (i % slot_count) (omega arith)
          ∙ ap (λ (t : Bool). pick t (suc (slot_at ss i).overflow) (slot_at ss i).overflow) t))
          (cases (less (gap h (i % slot_count)) d))

take_dense : {ss : List Slot} → Dense ss → (bytes k : ℕ) (c : Content) → Dense (take bytes ss k c)
take_dense {ss} dense bytes k c = ⊎_elim without with (options (distance vacant ss (home_slot bytes k) slot_count 0))
  where
    without : distance vacant ss (home_slot bytes k) slot_count 0 ≡ none → Dense (take bytes ss k c)
    without q = subst Dense (sym (take_none bytes ss k c q)) dense

    with : (d : ℕ) × (distance vacant ss (home_slot bytes k) slot_count 0 ≡ some d) → Dense (take bytes ss k c)
    with q =
        let r = distance_some vacant ss (home_slot bytes k) slot_count 0 q.0 q.1 in
        subst Dense (sym (take_at bytes ss k c q.0 q.1))
        (unfold ts in passing_dense dense (home_slot bytes k) q.0 (home_less bytes k) (let z : q.0 < 0 + slot_count = r.1 in omega arith) r.0 (row k c))

-- no entry goes where something is said of the address
enter_dense : {ss : List Slot} → Dense ss → (bytes k : ℕ) (c : Content) → is_idle c ≡ false → Dense (enter bytes ss k c)
enter_dense {ss} d bytes k c busy =
    ⊎_elim
    (λ t. subst Dense (sym (enter_present bytes ss k c busy t)) (rewrite_dense d k c))
    (λ t. subst Dense (sym (enter_absent bytes ss k c busy t)) (take_dense d bytes k c))
    (cases (present (look (entries ss) k)))

each_dense : {A : Type 0} (f : List Slot → A → List Slot) → ((ss : List Slot) (x : A) → Dense ss → Dense (f ss x))
    → {ss : List Slot} → Dense ss → (xs : List A) → Dense (each f ss xs)
unfolding each
each_dense f h d [] = d
each_dense f h d (x ∷ xs) = each_dense f h (h _ x d) xs

pub lock_dense : {ss : List Slot} → Dense ss → (bytes w : ℕ) (ws : List (Row Write)) → Dense (each (lock_row bytes w) ss ws)
unfolding lock_row
lock_dense d bytes w ws =
    each_dense (lock_row bytes w)
    (λ ss r h. enter_dense h bytes r.key (locked_for w r.item (content_of ss r.key)) (locked_busy w r.item (content_of ss r.key))) d ws

pub install_dense : {ss : List Slot} → Dense ss → (bytes n t : ℕ) (ws : List (Row Write)) → Dense (each (install_row bytes n t) ss ws)
unfolding install_row
install_dense d bytes n t ws =
    each_dense (install_row bytes n t)
    (λ ss r h. enter_dense h bytes r.key (written_over n t r.item (content_of ss r.key)) (unfold is_idle in refl)) d ws

-- ---- searching

-- the n slots from h on have entries
abbrev AllOccupied : List Slot → ℕ → ℕ → Type 0
AllOccupied ss h n = (i : ℕ) → i < n → Occupied ss (h + i)

one_more : (ss : List Slot) (h n : ℕ) → AllOccupied ss h n → Occupied ss (h + n) → AllOccupied ss h (suc n)
one_more ss h n f t i b =
    ⊎_elim
    (λ q. subst (λ (x : ℕ). Occupied ss (h + x)) (sym (same_true i n q)) t)
    (λ q. f i (let z : i ≡ n → ⊥ = same_false i n q in omega arith))
    (cases (same i n))

-- these are different slots, so there are as many entries
all_entries : (n : ℕ) (ss : List Slot) (h : ℕ) → length ss ≡ slot_count → n ≤ slot_count → AllOccupied ss h n → n ≤ count filled ss
all_entries zero ss h l b f = zero-le
all_entries (suc n) ss h l b f =
    let fewer : n ≤ count filled (set ss ((h + n) % slot_count) empty_slot)
    = all_entries n (set ss ((h + n) % slot_count) empty_slot) h (length-set ss ((h + n) % slot_count) empty_slot ∙ l) (omega arith) rest in
    let sum : count filled (set ss ((h + n) % slot_count) empty_slot) + filled (entry_at ss ((h + n) % slot_count)) ≡ count filled ss + 0
    = unfold tally in total_set (λ (i : ℕ) (s : Slot). filled s.entry) ss ((h + n) % slot_count) empty_slot empty_slot
    (let z : (h + n) % slot_count < slot_count = omega arith in omega arith) in
    let one : filled (entry_at ss ((h + n) % slot_count)) ≡ 1 = here in
    omega arith
  where
    rest : AllOccupied (set ss ((h + n) % slot_count) empty_slot) h n
    rest i q =
        unfold slot_at in
        ap vacant (get_or-set_other ss ((h + n) % slot_count) ((h + i) % slot_count) empty_slot empty_slot (λ e. omega arith))
        ∙ f i (omega arith)

    here : filled (entry_at ss ((h + n) % slot_count)) ≡ 1
    here =
        unfold slot_at in
        ⊎_elim
        (λ q. clash (none_vacant (get_or ss ((h + n) % slot_count) empty_slot) q) (f n (omega arith)))
        (λ q. ap filled q.1)
        (options (entry_at ss ((h + n) % slot_count)))

-- A search from h on examined e slots of m at most: one, or slots that all have entries.
record Goes (ss : List Slot) (h m e : ℕ) : Type 0 where
  pub most : e ≤ m
  pub over : (e ≤ 1) ⊎ AllOccupied ss h e

-- d slots have been examined, all with entries, and after the first the next one has an entry too
goes : {ss : List Slot} → Dense ss → (k h n d : ℕ) → AllOccupied ss h d → (d ≡ 0) ⊎ Occupied ss (h + d) → Goes ss h (d + n) (search_from ss k h n d).examined
unfolding search_from
goes dense k h zero d f t = record { most = omega arith; over = inr f }
goes {ss} dense k h (suc n) d f t =
    ⊎_elim
    (λ q. let r = holds_entry k s q in
    subst (Goes ss h (d + suc n)) (sym (ap examined_of (search_here k s d next r.0 q r.1))) stops)
    (λ q. ⊎_elim
    (λ z. subst (Goes ss h (d + suc n)) (sym (ap examined_of (search_stops k s d next q (same_true s.overflow 0 z)))) stops)
    (λ z. subst (Goes ss h (d + suc n)) (sym (ap examined_of (search_on k s d next q (same_false s.overflow 0 z)))) (on (same_false s.overflow 0 z) (goes dense k h n (suc d))))
    (cases (same s.overflow 0)))
    (cases (holds k s))
  where
    s : Slot
    s = slot_at ss (h + d)

    next : Searched
    next = search_from ss k h n (suc d)

    examined_of : Searched → ℕ
    examined_of r = r.examined

    stops : Goes ss h (d + suc n) (suc d)
    stops = record { most = omega arith; over = ⊎_elim (λ z. inl (omega arith)) (λ q. inr (one_more ss h d f q)) t }

    on : (s.overflow ≡ 0 → ⊥) → (AllOccupied ss h (suc d) → (suc d ≡ 0) ⊎ Occupied ss (h + suc d) → Goes ss h (suc d + n) next.examined)
        → Goes ss h (d + suc n) next.examined
    on z ih =
        ⊎_elim
        (λ q. absurd (z q))
        (λ q. subst (λ (m : ℕ). Goes ss h m next.examined) (omega arith)
        (ih (one_more ss h d f q.0) (inr (subst (Occupied ss) (omega arith) q.1))))
        (dense.passed (h + d))

-- a search examines one slot, or no more than there are entries
pub examined_most : {ss : List Slot} → Dense ss → (bytes k : ℕ) → (search bytes ss k).examined ≤ max 1 (length (entries ss))
unfolding search
examined_most {ss} dense bytes k =
    let g : Goes ss (home_slot bytes k) slot_count (search_from ss k (home_slot bytes k) slot_count 0).examined
    = goes dense k (home_slot bytes k) slot_count 0 (λ i b. absurd (omega arith)) (inl refl) in
    let all : length (entries ss) ≡ count filled ss = length_entries ss in
    ⊎_elim
    (λ q. omega arith)
    (λ q. let l : (search_from ss k (home_slot bytes k) slot_count 0).examined ≤ count filled ss
    = all_entries _ ss (home_slot bytes k) dense.size g.most q in omega arith)
    g.over
