-- Going on from a home slot, counted on from 255 to 0: how far a slot lies, which slots a walk passes, and what the first
-- slot is that passes a test.
use Prim.Native.Nat.{ℕ, zero, suc, ◌+◌, ◌-◌, ◌%◌, ◌<◌, ◌≤◌}
use native.Mathlib.Omega.{arith}
use Rattle.std.specs.Prelude.{◌≡◌, ◌⊎◌, Bool, true, List, length, get_or, set}
use Rattle.std.proofs.Math.Path.{refl, subst}
use Rattle.std.proofs.Common.{sym, ap, ◌∙◌, inl, inr, length-set, get_or-set_same, get_or-set_other, ext_get_or}
use Rattle.std.proofs.Math.Logic.{⊎_elim}
use Rattle.std.proofs.Math.Bool.{false}
use Rattle.std.proofs.Math.Option.{none, some}
use Rattle.lists.specs.Tests.{pick, same, less}
use Rattle.lists.specs.TestLaws.{cases, same_true, same_false, less_yes, less_no, less_true, less_false}
use Rattle.lists.specs.Options.{both_options, some_same}
use Rattle.spec.specs.Slots.{slot_count, table_entry, home_from, home_slot, Slot, empty_slot, slot_at, set_slot, count_passed, distance}

-- ---- how far a slot lies

-- how many slots lie from slot h on before slot i
unfoldable pub gap : ℕ → ℕ → ℕ
gap h i = (i + (slot_count - h)) % slot_count

pub gap_less : (h i : ℕ) → gap h i < slot_count
unfolding gap
gap_less h i = omega arith

pub gap_at : (h d : ℕ) → h < slot_count → d < slot_count → gap h ((h + d) % slot_count) ≡ d
unfolding gap
gap_at h d a b = omega arith

pub gap_back : (h i : ℕ) → h < slot_count → i < slot_count → (h + gap h i) % slot_count ≡ i
unfolding gap
gap_back h i a b = omega arith

table_less : (i : ℕ) → table_entry i < slot_count
unfolding table_entry
table_less i = omega arith

home_from_less : (n a h : ℕ) → h < slot_count → home_from n a h < slot_count
unfolding home_from
home_from_less zero a h q = q
home_from_less (suc n) a h q = home_from_less n a _ (table_less _)

pub home_less : (bytes k : ℕ) → home_slot bytes k < slot_count
unfolding home_slot
home_less zero k = omega arith
home_less (suc n) k = home_from_less n k _ (table_less _)

-- ---- the counts of the slots passed

-- the slot with another count
abbrev pub counted : (ℕ → ℕ) → Slot → Slot
counted f s = record { entry = s.entry; overflow = f s.overflow }

pub length_count_passed : (f : ℕ → ℕ) (ss : List Slot) (h d : ℕ) → length (count_passed f ss h d) ≡ length ss
unfolding count_passed set_slot
length_count_passed f ss h zero = refl
length_count_passed f ss h (suc d) =
    length_count_passed f (set_slot ss (h + d) (counted f (slot_at ss (h + d)))) h d
    ∙ length-set ss ((h + d) % slot_count) (counted f (slot_at ss (h + d)))

less_next : (a d : ℕ) → (a ≡ d → ⊥) → less a d ≡ less a (suc d)
less_next a d n =
    ⊎_elim
    (λ e. e ∙ sym (less_yes {m = a} {n = suc d} (let q : a < d = less_true a d e in omega arith)))
    (λ e. e ∙ sym (less_no {m = a} {n = suc d} (let q : d ≤ a = less_false a d e in omega arith)))
    (cases (less a d))

-- the slots at less than d from h have their counts changed, and all others are as before
pub at_count_passed : (f : ℕ → ℕ) (ss : List Slot) (h d j : ℕ) → length ss ≡ slot_count → h < slot_count → d ≤ slot_count → j < slot_count
    → get_or (count_passed f ss h d) j empty_slot ≡ pick (less (gap h j) d) (counted f (get_or ss j empty_slot)) (get_or ss j empty_slot)
unfolding count_passed set_slot slot_at
at_count_passed f ss h zero j l a b q = sym (ap (λ (t : Bool). pick t (counted f (get_or ss j empty_slot)) (get_or ss j empty_slot))
    (less_no {m = gap h j} {n = 0} (omega arith)))
at_count_passed f ss h (suc d) j l a b q =
    at_count_passed f next h d j (length-set ss i (counted f (get_or ss i empty_slot)) ∙ l) a (omega arith) q
    ∙ ⊎_elim here there (cases (same j i))
  where
    i : ℕ
    i = (h + d) % slot_count

    next : List Slot
    next = set ss i (counted f (get_or ss i empty_slot))

    choice : Bool → Slot → Slot
    choice t s = pick t (counted f s) s

    here : same j i ≡ true → choice (less (gap h j) d) (get_or next j empty_slot) ≡ choice (less (gap h j) (suc d)) (get_or ss j empty_slot)
    here e =
        let ji : j ≡ i = same_true j i e in
        let g : gap h j ≡ d = ap (gap h) ji ∙ gap_at h d a (omega arith) in
        let off : less (gap h j) d ≡ false = less_no {m = gap h j} {n = d} (omega arith) in
        let on : less (gap h j) (suc d) ≡ true = less_yes {m = gap h j} {n = suc d} (omega arith) in
        ap (λ (t : Bool). choice t (get_or next j empty_slot)) off
        ∙ ap (λ (n : ℕ). get_or next n empty_slot) ji
        ∙ get_or-set_same ss i (counted f (get_or ss i empty_slot)) empty_slot (let z : i < slot_count = omega arith in omega arith)
        ∙ ap (λ (n : ℕ). counted f (get_or ss n empty_slot)) (sym ji)
        ∙ ap (λ (t : Bool). choice t (get_or ss j empty_slot)) (sym on)

    there : same j i ≡ false → choice (less (gap h j) d) (get_or next j empty_slot) ≡ choice (less (gap h j) (suc d)) (get_or ss j empty_slot)
    there e =
        ap (choice (less (gap h j) d)) (get_or-set_other ss i j (counted f (get_or ss i empty_slot)) empty_slot (same_false j i e))
        ∙ ap (λ (t : Bool). choice t (get_or ss j empty_slot))
        (less_next (gap h j) d (λ g. same_false j i e (sym (gap_back h j a q) ∙ ap (λ (n : ℕ). (h + n) % slot_count) g)))

-- one slot more is passed
pub count_passed_next : (f : ℕ → ℕ) (ss : List Slot) (h d : ℕ) → length ss ≡ slot_count → h < slot_count → d < slot_count
    → count_passed f ss h (suc d) ≡ set_slot (count_passed f ss h d) (h + d) (counted f (slot_at (count_passed f ss h d) (h + d)))
unfolding set_slot slot_at
count_passed_next f ss h d l a b =
    ext_get_or empty_slot (count_passed f ss h (suc d)) (set old i new)
    (length_count_passed f ss h (suc d) ∙ sym (length-set old i new ∙ length_count_passed f ss h d))
    (λ j q. at j (let z : length (count_passed f ss h (suc d)) ≡ length ss = length_count_passed f ss h (suc d) in omega arith))
  where
    i : ℕ
    i = (h + d) % slot_count

    old : List Slot
    old = count_passed f ss h d

    new : Slot
    new = counted f (get_or old i empty_slot)

    choice : Bool → Slot → Slot
    choice t s = pick t (counted f s) s

    before : (j : ℕ) → j < slot_count → get_or old j empty_slot ≡ choice (less (gap h j) d) (get_or ss j empty_slot)
    before j q = at_count_passed f ss h d j l a (let z : d < slot_count = b in omega arith) q

    untouched : get_or old i empty_slot ≡ get_or ss i empty_slot
    untouched =
        before i (omega arith)
        ∙ ap (λ (t : Bool). choice t (get_or ss i empty_slot)) (less_no {m = gap h i} {n = d} (let z : gap h i ≡ d = gap_at h d a b in omega arith))

    at : (j : ℕ) → j < slot_count → get_or (count_passed f ss h (suc d)) j empty_slot ≡ get_or (set old i new) j empty_slot
    at j q =
        at_count_passed f ss h (suc d) j l a b q
        ∙ ⊎_elim
        (λ t. let e : j ≡ i = same_true j i t in
        let g : gap h j ≡ d = ap (gap h) e ∙ gap_at h d a b in
        ap (λ (t : Bool). choice t (get_or ss j empty_slot)) (less_yes {m = gap h j} {n = suc d} (omega arith))
        ∙ ap (λ (n : ℕ). counted f (get_or ss n empty_slot)) e
        ∙ ap (counted f) (sym untouched)
        ∙ sym (ap (λ (n : ℕ). get_or (set old i new) n empty_slot) e
        ∙ get_or-set_same old i new empty_slot (let z : length old ≡ length ss = length_count_passed f ss h d in let y : i < slot_count = omega arith in omega arith)))
        (λ t. ap (λ (t : Bool). choice t (get_or ss j empty_slot))
        (sym (less_next (gap h j) d (λ g. same_false j i t (sym (gap_back h j a q) ∙ ap (λ (n : ℕ). (h + n) % slot_count) g))))
        ∙ sym (get_or-set_other old i j new empty_slot (same_false j i t) ∙ before j q))
        (cases (same j i))

-- the slot that a walk reaches is as it was
pub count_passed_ahead : (f : ℕ → ℕ) (ss : List Slot) (h d : ℕ) → length ss ≡ slot_count → h < slot_count → d < slot_count
    → slot_at (count_passed f ss h d) (h + d) ≡ slot_at ss (h + d)
unfolding slot_at
count_passed_ahead f ss h d l a b =
    at_count_passed f ss h d ((h + d) % slot_count) l a (let z : d < slot_count = b in omega arith) (omega arith)
    ∙ ap (λ (t : Bool). pick t (counted f (slot_at ss (h + d))) (slot_at ss (h + d)))
    (less_no {m = gap h ((h + d) % slot_count)} {n = d} (let z : gap h ((h + d) % slot_count) ≡ d = gap_at h d a b in omega arith))

-- ---- the first slot that passes a test

-- slot e from h on passes the test, and none of those from d to e does
pub record First (p : Slot → Bool) (ss : List Slot) (h d e : ℕ) : Type 0 where
  pub from : d ≤ e
  pub passes : p (slot_at ss (h + e)) ≡ true
  pub before : (i : ℕ) → d ≤ i → i < e → p (slot_at ss (h + i)) ≡ false

module _ (p : Slot → Bool) (ss : List Slot) (h : ℕ) where
  distance_here : (n d : ℕ) → p (slot_at ss (h + d)) ≡ true → distance p ss h (suc n) d ≡ some d
  unfolding distance
  distance_here n d e = rw e

  distance_there : (n d : ℕ) → p (slot_at ss (h + d)) ≡ false → distance p ss h (suc n) d ≡ distance p ss h n (suc d)
  unfolding distance
  distance_there n d e = rw e

  pub distance_some : (n d e : ℕ) → distance p ss h n d ≡ some e → First p ss h d e × (e < d + n)
  unfolding distance
  distance_some zero d e q = both_options q refl
  distance_some (suc n) d e q =
      ⊎_elim
      (λ t. let de : d ≡ e = some_same (sym (distance_here n d t) ∙ q) in (
        record { from = omega arith; passes = subst (λ (x : ℕ). p (slot_at ss (h + x)) ≡ true) de t; before = λ i a b. absurd (omega arith) },
        omega arith,
      ))
      (λ t. let r : First p ss h (suc d) e × (e < suc d + n) = distance_some n (suc d) e (sym (distance_there n d t) ∙ q) in (
        record {
          from = let z : suc d ≤ e = r.0.from in omega arith;
          passes = r.0.passes;
          before = λ i a b. earlier t
              r.0 i a b (cases (same i d));
        },
        let z : e < suc d + n = r.1 in omega arith,
      ))
      (cases (p (slot_at ss (h + d))))
    where
      earlier : p (slot_at ss (h + d)) ≡ false → First p ss h (suc d) e → (i : ℕ) → d ≤ i → i < e → (same i d ≡ true) ⊎
          (same i d ≡ false) → p (slot_at ss (h + i)) ≡ false
      earlier t r i a b (inl g) = subst (λ (x : ℕ). p (slot_at ss (h + x)) ≡ false) (sym (same_true i d g)) t
      earlier t r i a b (inr g) = r.before i (let z : i ≡ d → ⊥ = same_false i d g in omega arith) b

  pub distance_none : (n d : ℕ) → distance p ss h n d ≡ none → (i : ℕ) → d ≤ i → i < d + n → p (slot_at ss (h + i)) ≡ false
  unfolding distance
  distance_none zero d q i a b = absurd (omega arith)
  distance_none (suc n) d q i a b =
      ⊎_elim
      (λ t. both_options (distance_here n d t) q)
      (λ t. ⊎_elim
      (λ g. subst (λ (x : ℕ). p (slot_at ss (h + x)) ≡ false) (sym (same_true i d g)) t)
      (λ g. distance_none n (suc d) (sym (distance_there n d t) ∙ q) i (let z : i ≡ d → ⊥ = same_false i d g in omega arith) (omega arith))
      (cases (same i d)))
      (cases (p (slot_at ss (h + d))))

  pub distance_first : (n d e : ℕ) → First p ss h d e → e < d + n → distance p ss h n d ≡ some e
  distance_first zero d e r b = absurd (let z : d ≤ e = r.from in omega arith)
  distance_first (suc n) d e r b =
      ⊎_elim
      (λ g. let de : d ≡ e = same_true d e g in
      distance_here n d (subst (λ (x : ℕ). p (slot_at ss (h + x)) ≡ true) (sym de) r.passes) ∙ ap some de)
      (λ g. let ne : d ≡ e → ⊥ = same_false d e g in
      let z : d ≤ e = r.from in
      distance_there n d (r.before d (omega arith) (omega arith))
      ∙ distance_first n (suc d) e (record { from = omega arith; passes = r.passes; before = λ i x y. r.before i (omega arith) y }) (omega arith))
      (cases (same d e))
