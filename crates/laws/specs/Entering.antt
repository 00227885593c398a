-- Entering: there is room, what changes, and that the invariant holds of empty slots and after each change.
use Rattle.std.specs.Prelude.{ℕ, ◌+◌, ◌<◌, ◌≤◌, ◌≡◌, refl, ◌⊎◌, Bool, true, false, List, length, get_or, replicate}
use Rattle.std.proofs.Common.{zero-le, arith, sym, ◌∙◌, subst, inl, inr, ⊎_elim}
use Rattle.std.proofs.Math.Path.{ap}
use Rattle.std.proofs.Math.Option.{Option, none, some}
use Rattle.std.proofs.lemmas.List.{length-replicate, get_or-replicate}
use Rattle.std.proofs.Math.ListN.{get_or-eq_default}
use Rattle.lists.specs.Tests.{pick, present, same, less}
use Rattle.lists.specs.TestLaws.{cases, clash, same_true, same_false, same_yes, same_no, less_true, less_false}
use Rattle.lists.specs.Rows.{Row, row, look}
use Rattle.lists.specs.Sums.{total_none}
use Rattle.lists.specs.Options.{both_options, some_same}
use Rattle.spec.specs.Slots.{slot_count, home_slot, Content, is_idle, Slot, empty_slot, empty_slots, entries, take, release, rewrite, enter, kept}
use Rattle.laws.specs.SlotChanges.{changed_tally, Entered, release_none, distance_absent, take_entered, release_entered, rewrite_entered}
use Rattle.laws.specs.SlotCounts.{entry_at, tally, count, keyed, passing, lookup, absent_count, present_place}
use Rattle.laws.specs.SlotCounts.{Good}

-- ---- entering

-- there is room to say c of k
pub data EntryRoom (ss : List Slot) (k : ℕ) (c : Content) : Type 0 where
  -- nothing is to be said
  goes : is_idle c ≡ true → EntryRoom ss k c
  -- it has an entry
  stands : present (look (entries ss) k) ≡ true → EntryRoom ss k c
  -- a slot is empty
  fits : length (entries ss) < slot_count → EntryRoom ss k c

pub enter_idle : (bytes : ℕ) (ss : List Slot) (k : ℕ) (c : Content) → is_idle c ≡ true → enter bytes ss k c ≡ release bytes ss k
unfolding enter
enter_idle bytes ss k c t = rw t

pub enter_present : (bytes : ℕ) (ss : List Slot) (k : ℕ) (c : Content) → is_idle c ≡ false → present (look (entries ss) k) ≡ true
    → enter bytes ss k c ≡ rewrite ss k c
unfolding enter
enter_present bytes ss k c t q = rw (t, q)

pub enter_absent : (bytes : ℕ) (ss : List Slot) (k : ℕ) (c : Content) → is_idle c ≡ false → present (look (entries ss) k) ≡ false
    → enter bytes ss k c ≡ take bytes ss k c
unfolding enter
enter_absent bytes ss k c t q = rw (t, q)

-- what `enter` does: it changes one entry, or has nothing to do
unfoldable pub Entering : (bytes : ℕ) (ss : List Slot) (k : ℕ) (c : Content) → Type 0
Entering bytes ss k c =
    Entered bytes ss k c (enter bytes ss k c) ⊎ ((enter bytes ss k c ≡ ss) × (count (keyed k) ss ≡ 0) × (is_idle c ≡ true))

pub entering : {bytes : ℕ} {ss : List Slot} {k : ℕ} {c : Content} → Good bytes ss → EntryRoom ss k c → Entering bytes ss k c
unfolding Entering
entering {bytes} {ss} {k} {c} good room = ⊎_elim idling busy (cases (is_idle c))
  where
    idling : is_idle c ≡ true → Entered bytes ss k c (enter bytes ss k c) ⊎ ((enter bytes ss k c ≡ ss) × (count (keyed k) ss ≡ 0) × (is_idle c ≡ true))
    idling t =
        ⊎_elim
        (λ q. inr (enter_idle bytes ss k c t ∙ release_none bytes ss k (distance_absent ss k (home_slot bytes k) good.size q.0), q.0, t))
        (λ q. inl (subst (Entered bytes ss k c) (sym (enter_idle bytes ss k c t)) (release_entered bytes ss k c good t q.0)))
        (lookup bytes ss k good)

    free : (r : EntryRoom ss k c) → is_idle c ≡ false → present (look (entries ss) k) ≡ false → length (entries ss) < slot_count
    free (goes q) t a = clash q t
    free (stands q) t a = clash q a
    free (fits q) t a = q

    busy : is_idle c ≡ false → Entered bytes ss k c (enter bytes ss k c) ⊎ ((enter bytes ss k c ≡ ss) × (count (keyed k) ss ≡ 0) × (is_idle c ≡ true))
    busy t =
        inl
        (⊎_elim
        (λ q. subst (Entered bytes ss k c) (sym (enter_present bytes ss k c t q))
        (rewrite_entered bytes ss k c good t (present_place bytes ss k good q)))
        (λ q. subst (Entered bytes ss k c) (sym (enter_absent bytes ss k c t q))
        (take_entered bytes ss k c good.size t (absent_count bytes ss k good q) (free room t q)))
        (cases (present (look (entries ss) k))))

keyed_kept : (k : ℕ) (c : Content) → keyed k (kept k c) ≤ 1
keyed_kept k c = ⊎_elim (λ t. rw t (zero-le)) (λ t. rw t (rw (same_yes {m = k} {n = k} refl) (omega arith))) (cases (is_idle c))

pub keyed_other : (j k : ℕ) (c : Content) → (j ≡ k → ⊥) → keyed j (kept k c) ≡ 0
keyed_other j k c n =
    ⊎_elim (λ t. rw t) (λ t. rw t (ap (λ (t : Bool). pick t 1 0) (same_no {m = k} {n = j} (λ q. n (sym q))))) (cases (is_idle c))

pub kept_entry : (k : ℕ) (c : Content) (e : Row Content) → kept k c ≡ some e → (is_idle c ≡ false) × (row k c ≡ e)
kept_entry k c e q =
    ⊎_elim
    (λ t. both_options q (ap (λ (t : Bool). pick t none (some (row k c))) t))
    (λ t. (t, some_same (sym (ap (λ (t : Bool). pick t none (some (row k c))) t) ∙ q)))
    (cases (is_idle c))

pub entered_good : {bytes : ℕ} {ss : List Slot} {k : ℕ} {c : Content} {ts : List Slot} → Good bytes ss → Entered bytes ss k c ts → Good bytes ts
entered_good {bytes} {ss} {k} {c} {ts} good r =
    record {
      size = r.changed.size ∙ good.size;
      once = λ j. ⊎_elim (λ t. own j (same_true j k t)) (λ t. other j (same_false j k t)) (cases (same j k));
      lively = λ i e q. ⊎_elim (λ t. new i e q (same_true i r.at t)) (λ t. rest i e q (same_false i r.at t)) (cases (same i r.at));
      passed = passed;
    }
  where
    own : (j : ℕ) → j ≡ k → count (keyed j) ts ≤ 1
    own j q =
        subst (λ (n : ℕ). count (keyed n) ts ≤ 1) (sym q)
        (let s : count (keyed k) ts + keyed k r.old ≡ count (keyed k) ss + keyed k (kept k c) = changed_tally r.changed (λ (i : ℕ). keyed k) in
        let a : count (keyed k) ss ≡ keyed k r.old = r.own in
        let b : keyed k (kept k c) ≤ 1 = keyed_kept k c in
        omega arith)

    other : (j : ℕ) → (j ≡ k → ⊥) → count (keyed j) ts ≤ 1
    other j n =
        let s : count (keyed j) ts + keyed j r.old ≡ count (keyed j) ss + keyed j (kept k c) = changed_tally r.changed (λ (i : ℕ). keyed j) in
        let a : keyed j r.old ≡ 0 = r.foreign j n in
        let b : keyed j (kept k c) ≡ 0 = keyed_other j k c n in
        let d : count (keyed j) ss ≤ 1 = good.once j in
        omega arith

    new : (i : ℕ) (e : Row Content) → entry_at ts i ≡ some e → i ≡ r.at → is_idle e.item ≡ false
    new i e q p =
        let z = kept_entry k c e (sym r.changed.after ∙ ap (entry_at ts) (sym p) ∙ q) in
        ap (λ (e : Row Content). is_idle e.item) (sym z.1) ∙ z.0

    rest : (i : ℕ) (e : Row Content) → entry_at ts i ≡ some e → (i ≡ r.at → ⊥) → is_idle e.item ≡ false
    rest i e q n =
        ⊎_elim
        (λ t. good.lively i e (sym (r.changed.others i (less_true i (length ss) t) n) ∙ q))
        (λ t. both_options q (ap (λ (s : Slot). s.entry) (get_or-eq_default ts empty_slot {n = i}
        (let z : length ss ≤ i = less_false i (length ss) t in let y : length ts ≡ length ss = r.changed.size in omega arith))))
        (cases (less i (length ss)))

    passed : (i : ℕ) → i < slot_count → (get_or ts i empty_slot).overflow ≡ tally (passing bytes i) ts
    passed i q =
        let s : tally (passing bytes i) ts + passing bytes i r.at r.old ≡ tally (passing bytes i) ss + passing bytes i r.at (kept k c)
        = changed_tally r.changed (passing bytes i) in
        let a : (get_or ts i empty_slot).overflow + passing bytes i r.at r.old ≡ (get_or ss i empty_slot).overflow + passing bytes i r.at (kept k c)
        = r.counts i q in
        let b : (get_or ss i empty_slot).overflow ≡ tally (passing bytes i) ss = good.passed i q in
        omega arith

pub enter_good : {bytes : ℕ} {ss : List Slot} {k : ℕ} {c : Content} → Good bytes ss → EntryRoom ss k c → Good bytes (enter bytes ss k c)
unfolding Entering
enter_good {bytes} {ss} {k} {c} good room =
    ⊎_elim (λ r. entered_good good r) (λ r. subst (Good bytes) (sym r.0) good) (entering good room)

-- slots that are all empty
module _ (bytes n : ℕ) where
  blank : (i : ℕ) → get_or (replicate n empty_slot) i empty_slot ≡ empty_slot
  blank i =
      ⊎_elim
      (λ t. get_or-replicate n i empty_slot empty_slot (less_true i n t))
      (λ t. get_or-eq_default (replicate n empty_slot) empty_slot {n = i} (rw (length-replicate n empty_slot) (less_false i n t)))
      (cases (less i n))

  blank_tally : (g : ℕ → Option (Row Content) → ℕ) → ((i : ℕ) → g i none ≡ 0) → tally g (replicate n empty_slot) ≡ 0
  unfolding tally
  blank_tally g z =
      total_none (λ (i : ℕ) (s : Slot). g i s.entry) (replicate n empty_slot) empty_slot
      (λ i q. ap (λ (s : Slot). g i s.entry) (blank i) ∙ z i)

  blank_good : n ≡ slot_count → Good bytes (replicate n empty_slot)
  blank_good e =
      record {
        size = length-replicate n empty_slot ∙ e;
        once = λ k. (let z : count (keyed k) (replicate n empty_slot) ≡ 0 = blank_tally (λ (i : ℕ). keyed k) (λ i. refl) in omega arith);
        lively = λ i r q. both_options q (ap (λ (s : Slot). s.entry) (blank i));
        passed = λ i q. ap (λ (s : Slot). s.overflow) (blank i) ∙ sym (blank_tally (passing bytes i) (λ j. refl));
      }

pub fresh_good : (bytes : ℕ) → Good bytes empty_slots
fresh_good bytes = blank_good bytes slot_count refl
