-- The search rule: a search from the home slot, which may stop at a count of 0, finds what a plain look-up finds.
use Rattle.std.specs.Prelude.{ℕ, zero, suc, ◌+◌, ◌%◌, ◌<◌, ◌≤◌, ◌≡◌, refl, Bool, true, false, List, length, get_or}
use Rattle.std.proofs.Common.{arith, sym, ap, ◌∙◌, subst, ⊎_elim}
use Rattle.std.proofs.Math.Option.{none, some}
use Rattle.lists.specs.Tests.{pick, same}
use Rattle.lists.specs.TestLaws.{cases, same_true, same_false, same_yes, same_no, less_yes}
use Rattle.lists.specs.Rows.{Row, look}
use Rattle.lists.specs.Sums.{total_at}
use Rattle.spec.specs.Slots.{slot_count, home_slot, Content, Slot, empty_slot, entries, slot_at, holds, Searched, search_at, search_from, search}
use Rattle.laws.specs.Probes.{gap, gap_less, gap_at, gap_back, home_less, First}
use Rattle.laws.specs.SlotCounts.{entry_at, tally, passing, Good, Place, absent_slot, lookup}
use Rattle.laws.specs.SlotChanges.{passing_own, distance_place}

-- ---- the search rule

pub search_here : (k : ℕ) (s : Slot) (d : ℕ) (next : Searched) (e : Row Content) → holds k s ≡ true → s.entry ≡ some e
    → search_at k s d next ≡ record { found = some e.item; examined = suc d }
unfolding search_at
search_here k s d next e t q = rw (t, q)

pub search_stops : (k : ℕ) (s : Slot) (d : ℕ) (next : Searched) → holds k s ≡ false → s.overflow ≡ 0
    → search_at k s d next ≡ record { found = none; examined = suc d }
unfolding search_at
search_stops k s d next t q = rw (t, same_yes {m = s.overflow} {n = 0} q)

pub search_on : (k : ℕ) (s : Slot) (d : ℕ) (next : Searched) → holds k s ≡ false → (s.overflow ≡ 0 → ⊥) → search_at k s d next ≡ next
unfolding search_at
search_on k s d next t q = rw (t, same_no {m = s.overflow} {n = 0} q)

search_step : (ss : List Slot) (k h n d : ℕ) → search_from ss k h (suc n) d ≡ search_at k (slot_at ss (h + d)) d (search_from ss k h n (suc d))
unfolding search_from
search_step ss k h n d = refl

-- an address that no slot holds is not found
search_misses : (ss : List Slot) (k h : ℕ) → ((i : ℕ) → holds k (slot_at ss i) ≡ false) → (n d : ℕ) → (search_from ss k h n d).found ≡ none
unfolding search_from
search_misses ss k h f zero d = refl
search_misses ss k h f (suc n) d =
    ⊎_elim
    (λ t. ap (λ (r : Searched). r.found) (search_stops k (slot_at ss (h + d)) d (search_from ss k h n (suc d)) (f (h + d))
    (same_true (slot_at ss (h + d)).overflow 0 t)))
    (λ t. ap (λ (r : Searched). r.found) (search_on k (slot_at ss (h + d)) d (search_from ss k h n (suc d)) (f (h + d))
    (same_false (slot_at ss (h + d)).overflow 0 t))
    ∙ search_misses ss k h f n (suc d))
    (cases (same (slot_at ss (h + d)).overflow 0))

-- one that stands at g from h, behind slots whose counts are not 0, is found
search_reaches : (ss : List Slot) (k h g : ℕ) (e : Row Content) → (slot_at ss (h + g)).entry ≡ some e →
    ((i : ℕ) → i < g → (slot_at ss (h + i)).overflow ≡ 0 → ⊥)
    → (n d : ℕ) → First (holds k) ss h d g → g < d + n → search_from ss k h n d ≡ record { found = some e.item; examined = suc g }
search_reaches ss k h g e q o zero d f b = absurd (let z : d ≤ g = f.from in omega arith)
search_reaches ss k h g e q o (suc n) d f b =
    search_step ss k h n d
    ∙ ⊎_elim
    (λ t. let dg : d ≡ g = same_true d g t in
    search_here k (slot_at ss (h + d)) d (search_from ss k h n (suc d)) e
    (subst (λ (x : ℕ). holds k (slot_at ss (h + x)) ≡ true) (sym dg) f.passes)
    (ap (λ (x : ℕ). (slot_at ss (h + x)).entry) dg ∙ q)
    ∙ ap (λ (x : ℕ). record { found = some e.item; examined = suc x }) dg)
    (λ t. let ne : d ≡ g → ⊥ = same_false d g t in
    let z : d ≤ g = f.from in
    search_on k (slot_at ss (h + d)) d (search_from ss k h n (suc d)) (f.before d (omega arith) (omega arith)) (o d (omega arith))
    ∙ search_reaches ss k h g e q o n (suc d) (record {
      from = omega arith;
      passes = f.passes;
      before = λ i x y. f.before i
          (omega arith) y;
    }) (omega arith))
    (cases (same d g))

-- every slot on the way to an entry has a count
pub passed_counts : (bytes : ℕ) (ss : List Slot) (k : ℕ) → Good bytes ss → (r : Place ss k) (i : ℕ) → i < gap (home_slot bytes k) r.at
    → (slot_at ss (home_slot bytes k + i)).overflow ≡ 0 → ⊥
unfolding slot_at tally
passed_counts bytes ss k good r i b z =
    let j : ℕ = (home_slot bytes k + i) % slot_count in
    let jb : j < slot_count = omega arith in
    let ib : i < slot_count = (let y : gap (home_slot bytes k) r.at < slot_count = gap_less (home_slot bytes k) r.at in omega arith) in
    let least : passing bytes j r.at (entry_at ss r.at) ≤ tally (passing bytes j) ss
    = total_at (λ (n : ℕ) (s : Slot). passing bytes j n s.entry) ss r.at empty_slot r.inside in
    let one : passing bytes j r.at (entry_at ss r.at) ≡ 1
    = ap (passing bytes j r.at) r.here ∙ passing_own bytes j r.at k r.content r.own
    ∙ ap (λ (t : Bool). pick t 1 0) (less_yes {m = gap (home_slot bytes k) j} {n = gap (home_slot bytes k) r.at}
    (subst (λ (x : ℕ). x < gap (home_slot bytes k) r.at) (sym (gap_at (home_slot bytes k) i (home_less bytes k) ib)) b)) in
    let all : (get_or ss j empty_slot).overflow ≡ tally (passing bytes j) ss = good.passed j jb in
    omega arith

pub search_place : (bytes : ℕ) (ss : List Slot) (k : ℕ) → Good bytes ss → (r : Place ss k)
    → search bytes ss k ≡ record { found = some r.content.item; examined = suc (gap (home_slot bytes k) r.at) }
unfolding search slot_at
search_place bytes ss k good r =
    let h : ℕ = home_slot bytes k in
    let g : ℕ = gap h r.at in
    search_reaches ss k h g r.content
    (ap (entry_at ss) (gap_back h r.at (home_less bytes k)
    (let z : r.at < length ss = r.inside in let y : length ss ≡ slot_count = good.size in omega arith)) ∙ r.here)
    (passed_counts bytes ss k good r) slot_count 0
    (distance_place ss k h good.size (home_less bytes k) (good.once k) r)
    (let z : gap h r.at < slot_count = gap_less h r.at in omega arith)

-- a search by the search rule finds what a plain look-up finds
pub search_finds : {bytes : ℕ} {ss : List Slot} → Good bytes ss → (k : ℕ) → (search bytes ss k).found ≡ look (entries ss) k
unfolding search slot_at
search_finds {bytes} {ss} good k =
    ⊎_elim
    (λ q. search_misses ss k (home_slot bytes k)
    (λ i. absent_slot ss k (i % slot_count) q.0 (let z : i % slot_count < slot_count = omega arith in let y : length ss ≡ slot_count = good.size in omega arith)) slot_count 0
    ∙ sym q.1)
    (λ q. ap (λ (r : Searched). r.found) (search_place bytes ss k good q.0) ∙ sym q.1)
    (lookup bytes ss k good)
