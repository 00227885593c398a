-- The loop of a search: what is left of the search is the whole search. And what its end says of the model's search.
use Prim.Native.Nat.{ℕ, zero, suc, ◌+◌, ◌-◌, ◌%◌, ◌<◌, ◌≤◌}
use Rattle.std.proofs.Common.{add-one, arith, ◌∙◌, subst, ⊎_elim}
use Rattle.std.specs.Prelude.{◌≡◌, refl, Bool, true, false, List, length, get_or}
use Rattle.std.proofs.Math.Path.{sym, ap}
use Rattle.std.proofs.Math.Option.{none, some}
use Rattle.lists.specs.Tests.{pick, present, same, less}
use Rattle.lists.specs.TestLaws.{cases, clash, same_true, same_false, same_yes, same_no, less_true, less_false}
use Rattle.lists.specs.Rows.{Row, look}
use Rattle.spec.specs.Widths.{address_size}
use Rattle.spec.specs.Slots.{slot_count, home_slot, Content, Slot, empty_slot, entries, slot_at, holds, Searched, search_from, search}
use Rattle.laws.specs.Probes.{gap}
use Rattle.laws.specs.SlotCounts.{Good, Place, entry_at, holds_entry, holds_yes, only_here}
use Rattle.laws.specs.Searches.{search_here, search_stops, search_on, search_place, search_finds}
use Rattle.indexlet.specs.declared.Slot.{Slot as SlotWords}
use Rattle.indexlet.specs.declared.Sought.{Sought}
use Rattle.indexlet.specs.Words.{SlotRows, slot_in, row_at, slots_of}
use Rattle.indexlet.specs.WordLaws.{slot_there}
use Rattle.indexlet.specs.Promises.{sought_at, sought_from, sought}

-- ---- the loop

-- the search has examined d slots from h
pub record Seeking (ws : SlotRows) (k h d : ℕ) : Type 0 where
  pub bound : d ≤ slot_count
  pub rest : sought_from (slots_of ws) k h (slot_count - d) d ≡ sought (slots_of ws) k

pub seek_start : (ws : SlotRows) (k h : ℕ) → h ≡ home_slot address_size k → Seeking ws k h 0
unfolding sought
seek_start ws k h e =
    record { bound = omega arith; rest = ap (λ (n : ℕ). sought_from (slots_of ws) k n slot_count 0) e }

sought_step : (ss : List Slot) (k h n d : ℕ)
    → sought_from ss k h (suc n) d ≡ sought_at k (slot_at ss (h + d)) ((h + d) % slot_count) d (sought_from ss k h n (suc d))
unfolding sought_from
sought_step ss k h n d = refl

-- the slot that is examined
pub examined_slot : (ws : SlotRows) (m : ℕ) (s : SlotWords) → s ≡ row_at ws (m % slot_count) → slot_in s ≡ slot_at (slots_of ws) m
examined_slot ws m s e = ap slot_in e ∙ sym (slot_there ws m)

overflow_slot : (s : SlotWords) → (slot_in s).overflow ≡ s.overflow
unfolding slot_in
overflow_slot s = refl

module _ (ws : SlotRows) (k h d : ℕ) (g : Seeking ws k h d) (b : d < slot_count) (s : SlotWords) (e : s ≡ row_at ws ((h + d) % slot_count)) where
  rest_step : sought_at k (slot_in s) ((h + d) % slot_count) d (sought_from (slots_of ws) k h (slot_count - (d + 1)) (suc d)) ≡ sought (slots_of ws) k
  rest_step =
      ap (λ (x : Slot). sought_at k x ((h + d) % slot_count) d (sought_from (slots_of ws) k h (slot_count - (d + 1)) (suc d)))
      (examined_slot ws (h + d) s e)
      ∙ sym (sought_step (slots_of ws) k h (slot_count - (d + 1)) d)
      ∙ ap (λ (n : ℕ). sought_from (slots_of ws) k h n d) (let z : suc (slot_count - (d + 1)) ≡ slot_count - d = omega arith in z)
      ∙ g.rest

  -- it has the entry
  pub seek_hit : holds k (slot_in s) ≡ true → ◌≡◌ {A = Sought} (record { at = (h + d) % slot_count; examined = d + 1 }) (sought (slots_of ws) k)
  unfolding sought_at
  seek_hit t =
      ap (λ (n : ℕ). record { at = (h + d) % slot_count; examined = n }) (add-one d)
      ∙ sym (ap (λ (t : Bool). pick t (record { at = (h + d) % slot_count; examined = suc d })
      (pick (same (slot_in s).overflow 0) (record { at = slot_count; examined = suc d })
      (sought_from (slots_of ws) k h (slot_count - (d + 1)) (suc d)))) t)
      ∙ rest_step

  -- its count is 0
  pub seek_stop : holds k (slot_in s) ≡ false → s.overflow ≡ 0 → ◌≡◌ {A = Sought}
      (record { at = slot_count; examined = d + 1 }) (sought (slots_of ws) k)
  unfolding sought_at
  seek_stop t z =
      ap (λ (n : ℕ). record { at = slot_count; examined = n }) (add-one d)
      ∙ sym (ap (λ (t : Bool). pick t (record { at = (h + d) % slot_count; examined = suc d })
      (pick (same (slot_in s).overflow 0) (record { at = slot_count; examined = suc d })
      (sought_from (slots_of ws) k h (slot_count - (d + 1)) (suc d)))) t
      ∙ ap (λ (t : Bool). pick t (record { at = slot_count; examined = suc d }) (sought_from (slots_of ws) k h (slot_count - (d + 1)) (suc d)))
      (same_yes {m = (slot_in s).overflow} {n = 0} (overflow_slot s ∙ z)))
      ∙ rest_step

  -- the search goes on
  pub seek_on : holds k (slot_in s) ≡ false → (s.overflow ≡ 0 → ⊥) → Seeking ws k h (d + 1)
  unfolding sought_at
  seek_on t z =
      record {
        bound = let y : d < slot_count = b in omega arith;
        rest =
            ap (sought_from (slots_of ws) k h (slot_count - (d + 1))) (add-one d)
            ∙ sym (ap (λ (t : Bool). pick t (record { at = (h + d) % slot_count; examined = suc d })
            (pick (same (slot_in s).overflow 0) (record { at = slot_count; examined = suc d })
            (sought_from (slots_of ws) k h (slot_count - (d + 1)) (suc d)))) t
            ∙ ap (λ (t : Bool). pick t (record { at = slot_count; examined = suc d }) (sought_from (slots_of ws) k h (slot_count - (d + 1)) (suc d)))
            (same_no {m = (slot_in s).overflow} {n = 0} (λ q. z (sym (overflow_slot s) ∙ q))))
            ∙ rest_step;
      }

-- all slots were examined
pub seek_end : (ws : SlotRows) (k h d : ℕ) → Seeking ws k h d → slot_count ≤ d → ◌≡◌ {A = Sought}
    (record { at = slot_count; examined = slot_count }) (sought (slots_of ws) k)
unfolding sought_from
seek_end ws k h d g q =
    let e : d ≡ slot_count = (let z : d ≤ slot_count = g.bound in omega arith) in
    let n : slot_count - d ≡ 0 = omega arith in
    sym (ap (λ (m : ℕ). sought_from (slots_of ws) k h m d) n ∙ ap (λ (m : ℕ). record { at = slot_count; examined = m }) e) ∙ g.rest

-- ---- where a search ends, and what the model's search finds

-- r is where the search for k ends whose answer is q
pub record Ends (ss : List Slot) (k : ℕ) (r : Sought) (q : Searched) : Type 0 where
  pub examined : q.examined ≡ r.examined
  pub hit : r.at < slot_count → (e : Row Content) × (entry_at ss r.at ≡ some e) × (e.key ≡ k) × (q.found ≡ some e.item)
  pub miss : slot_count ≤ r.at → q.found ≡ none

ends_by : {ss : List Slot} {k : ℕ} {r r' : Sought} {q q' : Searched} → r ≡ r' → q ≡ q' → Ends ss k r' q' → Ends ss k r q
ends_by {ss} {k} {r} {r'} {q} {q'} e f g = subst (λ (x : Sought). Ends ss k x q) (sym e) (subst (Ends ss k r') (sym f) g)

sought_ends : (ss : List Slot) (k h n d : ℕ) → Ends ss k (sought_from ss k h n d) (search_from ss k h n d)
unfolding sought_from search_from sought_at slot_at
sought_ends ss k h zero d = record { examined = refl; hit = λ q. absurd (omega arith); miss = λ q. refl }
sought_ends ss k h (suc n) d = ⊎_elim here (λ t. ⊎_elim (stops t) (goes t (sought_ends ss k h n (suc d)))
    (cases (same s.overflow 0))) (cases (holds k s))
  where
    i : ℕ
    i = (h + d) % slot_count

    s : Slot
    s = get_or ss i empty_slot

    here : holds k s ≡ true → Ends ss k (sought_from ss k h (suc n) d) (search_from ss k h (suc n) d)
    here t =
        let e = holds_entry k s t in
        ends_by {r' = record { at = i; examined = suc d }} {q' = record { found = some e.0.item; examined = suc d }}
        (rw t) (search_here k s d (search_from ss k h n (suc d)) e.0 t e.1)
        (record { examined = refl; hit = λ q. (e.0, e.1, e.2, refl); miss = λ q. absurd (let z : i < slot_count = omega arith in omega arith) })

    stops : holds k s ≡ false → same s.overflow 0 ≡ true → Ends ss k (sought_from ss k h (suc n) d) (search_from ss k h (suc n) d)
    stops t z =
        ends_by {r' = record { at = slot_count; examined = suc d }} {q' = record { found = none; examined = suc d }}
        (rw (t, z)) (search_stops k s d (search_from ss k h n (suc d)) t (same_true s.overflow 0 z))
        (record { examined = refl; hit = λ q. absurd (omega arith); miss = λ q. refl })

    goes : holds k s ≡ false → Ends ss k (sought_from ss k h n (suc d)) (search_from ss k h n (suc d)) → same s.overflow 0 ≡ false
        → Ends ss k (sought_from ss k h (suc n) d) (search_from ss k h (suc n) d)
    goes t g z =
        ends_by {r' = sought_from ss k h n (suc d)} {q' = search_from ss k h n (suc d)}
        (rw (t, z)) (search_on k s d (search_from ss k h n (suc d)) t (same_false s.overflow 0 z)) g

pub search_ends : (ss : List Slot) (k : ℕ) → Ends ss k (sought ss k) (search address_size ss k)
unfolding sought search
search_ends ss k = sought_ends ss k (home_slot address_size k) slot_count 0

-- a search for an entry that stands there ends there
pub sought_place : {ss : List Slot} {k : ℕ} → Good address_size ss → (p : Place ss k) → record { at = p.at; examined = suc (gap (home_slot address_size k) p.at) } ≡ sought ss k
sought_place {ss} {k} good p =
    λ i. record { at = at i; examined = (sym (ap (λ (q : Searched). q.examined) (search_place address_size ss k good p)) ∙ ends.examined) i }
  where
    ends : Ends ss k (sought ss k) (search address_size ss k)
    ends = search_ends ss k

    long : length ss ≡ slot_count
    long = good.size

    inside : (sought ss k).at < slot_count
    inside =
        ⊎_elim
        (λ t. less_true (sought ss k).at slot_count t)
        (λ f. clash (ap (λ (q : Searched). present q.found) (search_place address_size ss k good p)) (ap present (ends.miss (less_false (sought ss k).at slot_count f))))
        (cases (less (sought ss k).at slot_count))

    at : p.at ≡ (sought ss k).at
    at =
        ⊎_elim
        (λ t. same_true p.at (sought ss k).at t)
        (λ f.
        let h = ends.hit inside in
        clash
        (holds_yes k (get_or ss (sought ss k).at empty_slot) h.0 h.1 h.2)
        (only_here ss k p.at (sought ss k).at (good.once k) p.inside (let b : (sought ss k).at < slot_count = inside in let z : length ss ≡ slot_count = long in omega arith)
        (holds_yes k (get_or ss p.at empty_slot) p.content p.here p.own) (same_false p.at (sought ss k).at f)))
        (cases (same p.at (sought ss k).at))

pub sought_present : {ss : List Slot} (k : ℕ) {r : Sought} → Good address_size ss → r ≡ sought ss k → r.at < slot_count → present (look (entries ss) k) ≡ true
sought_present {ss} k {r} good e b =
    let ends : Ends ss k r (search address_size ss k) = subst (λ (x : Sought). Ends ss k x (search address_size ss k)) (sym e) (search_ends ss k) in
    ap present (sym (search_finds good k) ∙ (ends.hit b).3)

pub sought_absent : {ss : List Slot} (k : ℕ) {r : Sought} → Good address_size ss → r ≡ sought ss k → slot_count ≤ r.at → look (entries ss) k ≡ none
sought_absent {ss} k {r} good e b =
    let ends : Ends ss k r (search address_size ss k) = subst (λ (x : Sought). Ends ss k x (search address_size ss k)) (sym e) (search_ends ss k) in
    sym (search_finds good k) ∙ ends.miss b

pub sought_holds : (ss : List Slot) (k : ℕ) {r : Sought} → r ≡ sought ss k → r.at < slot_count → holds k (get_or ss r.at empty_slot) ≡ true
sought_holds ss k {r} e b =
    let ends : Ends ss k r (search address_size ss k) = subst (λ (x : Sought). Ends ss k x (search address_size ss k)) (sym e) (search_ends ss k) in
    let h = ends.hit b in
    holds_yes k (get_or ss r.at empty_slot) h.0 h.1 h.2
