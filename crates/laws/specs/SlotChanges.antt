-- What entering something of an address does to the slots: one slot's entry changes, and the counts of the slots passed.
use Prim.Native.Nat.{ℕ, zero, suc, pred, ◌+◌, ◌%◌, ◌<◌, ◌≤◌, zero-le}
use Rattle.std.proofs.Common.{not-suc-le-zero, le_of_suc-le-suc, arith, sym, ◌∙◌, subst, get_or-set_same, get_or-set_other}
use Rattle.std.specs.Prelude.{◌≡◌, refl, Bool, true, false, not, List, [], ◌∷◌, get_or, set}
use Rattle.std.proofs.Math.Path.{ap}
use Rattle.std.proofs.Math.Logic.{⊎_elim}
use Rattle.std.proofs.Math.Option.{Option, none, some}
use Rattle.std.proofs.Math.ListN.{length, length-set}
use Rattle.lists.specs.Tests.{pick, maybe, present, same, less}
use Rattle.lists.specs.TestLaws.{cases, clash, same_true, same_false}
use Rattle.lists.specs.Rows.{Row, row}
use Rattle.lists.specs.Sums.{total, total_at, total_short, total_change}
use Rattle.lists.specs.Options.{options}
use Rattle.spec.specs.Slots.{slot_count, home_slot, Content, is_idle, Slot, empty_slot, entries, slot_at, vacant, holds, distance, set_slot, count_passed, with_entry, take, release, rewrite, kept}
use Rattle.laws.specs.Probes.{gap, gap_less, gap_at, gap_back, home_less, length_count_passed, at_count_passed, First, distance_some, distance_none, distance_first}
use Rattle.laws.specs.SlotCounts.{entry_at, tally, count, filled, keyed, passing, Good, count_cons, keyed_here, keyed_there, length_entries, Place, keyed_holds, holds_yes, holds_no, only_here, absent_slot}

-- ---- one entry changes

-- the entry of one slot changes, all others stay
pub record Changed (ss ts : List Slot) (p : ℕ) (old new : Option (Row Content)) : Type 0 where
  pub size : length ts ≡ length ss
  pub inside : p < length ss
  pub before : entry_at ss p ≡ old
  pub after : entry_at ts p ≡ new
  pub others : (i : ℕ) → i < length ss → (i ≡ p → ⊥) → entry_at ts i ≡ entry_at ss i

-- so each sum changes by that entry's terms
pub changed_tally : {ss ts : List Slot} {p : ℕ} {old new : Option (Row Content)} → Changed ss ts p old new
    → (g : ℕ → Option (Row Content) → ℕ) → tally g ts + g p old ≡ tally g ss + g p new
unfolding tally
changed_tally {ss} {ts} {p} {old} {new} r g =
    let e : tally g ts + g p (entry_at ss p) ≡ tally g ss + g p (entry_at ts p)
    = total_change (λ (i : ℕ) (s : Slot). g i s.entry) ss ts p empty_slot r.size r.inside (λ j q n. ap (g j) (r.others j q n)) in
    let a : g p (entry_at ss p) ≡ g p old = ap (g p) r.before in
    let b : g p (entry_at ts p) ≡ g p new = ap (g p) r.after in
    omega arith

module _ (f : ℕ → ℕ) (ss : List Slot) (h d : ℕ) (full : length ss ≡ slot_count) (hb : h < slot_count) (db : d < slot_count) (e : Option (Row Content)) where
  pub moved_changed : Changed ss (with_entry (count_passed f ss h d) (h + d) e) ((h + d) % slot_count) (entry_at ss ((h + d) % slot_count)) e
  unfolding with_entry set_slot slot_at
  moved_changed =
      record {
        size = length-set (count_passed f ss h d) p s ∙ length_count_passed f ss h d;
        inside = inside;
        before = refl;
        after = ap (λ (s : Slot). s.entry) (get_or-set_same (count_passed f ss h d) p s empty_slot
            (let z : length (count_passed f ss h d) ≡ length ss = length_count_passed f ss h d in omega arith));
        others = λ i q n. ap (λ (s : Slot). s.entry) (get_or-set_other (count_passed f ss h d) p i s empty_slot n)
            ∙ same_entry i (let z : length ss ≡ slot_count = full in omega arith);
      }
    where
      p : ℕ
      p = (h + d) % slot_count

      inside : p < length ss
      inside = let z : p < slot_count = omega arith in omega arith

      s : Slot
      s = record { entry = e; overflow = (get_or (count_passed f ss h d) p empty_slot).overflow }

      same_entry : (i : ℕ) → i < slot_count → entry_at (count_passed f ss h d) i ≡ entry_at ss i
      same_entry i q =
          ap (λ (s : Slot). s.entry) (at_count_passed f ss h d i full hb (let z : d < slot_count = db in omega arith) q)
          ∙ ⊎_elim (λ t. rw t) (λ t. rw t) (cases (less (gap h i) d))

  pub moved_count : (i : ℕ) → i < slot_count
      → (get_or (with_entry (count_passed f ss h d) (h + d) e) i empty_slot).overflow
      ≡ pick (less (gap h i) d) (f (get_or ss i empty_slot).overflow) (get_or ss i empty_slot).overflow
  unfolding with_entry set_slot slot_at
  moved_count i q =
      ⊎_elim here (λ t. ap (λ (s : Slot). s.overflow) (get_or-set_other (count_passed f ss h d) p i s empty_slot (same_false i p t))) (cases (same i p))
      ∙ ap (λ (s : Slot). s.overflow) (at_count_passed f ss h d i full hb (let z : d < slot_count = db in omega arith) q)
      ∙ ⊎_elim (λ t. rw t) (λ t. rw t) (cases (less (gap h i) d))
    where
      p : ℕ
      p = (h + d) % slot_count

      s : Slot
      s = record { entry = e; overflow = (get_or (count_passed f ss h d) p empty_slot).overflow }

      here : same i p ≡ true → (get_or (set (count_passed f ss h d) p s) i empty_slot).overflow ≡ (get_or (count_passed f ss h d) i empty_slot).overflow
      here t =
          let ip : i ≡ p = same_true i p t in
          ap (λ (n : ℕ). (get_or (set (count_passed f ss h d) p s) n empty_slot).overflow) ip
          ∙ ap (λ (s : Slot). s.overflow) (get_or-set_same (count_passed f ss h d) p s empty_slot
          (let z : length (count_passed f ss h d) ≡ length ss = length_count_passed f ss h d in
          let y : length ss ≡ slot_count = full in
          let x : p < slot_count = omega arith in omega arith))
          ∙ ap (λ (n : ℕ). (get_or (count_passed f ss h d) n empty_slot).overflow) (sym ip)

-- ---- the three changes

-- What `enter` does where it changes anything: one slot's entry, which was that of k or none, becomes that of k or none.
pub record Entered (bytes : ℕ) (ss : List Slot) (k : ℕ) (c : Content) (ts : List Slot) : Type 0 where
  pub at : ℕ
  pub old : Option (Row Content)
  pub changed : Changed ss ts at old (kept k c)
  -- k had no other entry
  pub own : count (keyed k) ss ≡ keyed k old
  pub foreign : (j : ℕ) → (j ≡ k → ⊥) → keyed j old ≡ 0
  -- each count changes as the entries that passed the slot do
  pub counts :
      (i : ℕ) → i < slot_count
      → (get_or ts i empty_slot).overflow + passing bytes i at old ≡ (get_or ss i empty_slot).overflow + passing bytes i at (kept k c)

pub passing_own : (bytes i p k : ℕ) (e : Row Content) → e.key ≡ k
    → passing bytes i p (some e) ≡ pick (less (gap (home_slot bytes k) i) (gap (home_slot bytes k) p)) 1 0
passing_own bytes i p k e h = ap (λ (x : ℕ). pick (less (gap (home_slot bytes x) i) (gap (home_slot bytes x) p)) 1 0) h

-- the entry of k, at slot h + d, passed the slots at less than d from h
passing_from : (bytes i d k : ℕ) (e : Row Content) → e.key ≡ k → d < slot_count
    → passing bytes i ((home_slot bytes k + d) % slot_count) (some e) ≡ pick (less (gap (home_slot bytes k) i) d) 1 0
passing_from bytes i d k e h b =
    passing_own bytes i ((home_slot bytes k + d) % slot_count) k e h
    ∙ ap (λ (x : ℕ). pick (less (gap (home_slot bytes k) i) x) 1 0) (gap_at (home_slot bytes k) d (home_less bytes k) b)

vacant_none : (s : Slot) → vacant s ≡ true → s.entry ≡ none
unfolding vacant
vacant_none s t = go s.entry t
  where
    go : (o : Option (Row Content)) → not (present o) ≡ true → o ≡ none
    go none t = refl
    go (some e) t = clash {b = false} t refl

pub none_vacant : (s : Slot) → s.entry ≡ none → vacant s ≡ true
unfolding vacant
none_vacant s q = ap (λ (o : Option (Row Content)). not (present o)) q

filled_none : (o : Option (Row Content)) → filled o ≡ 0 → o ≡ none
filled_none none h = refl
filled_none (some e) h = absurd (omega arith)

-- where there is room, a walk from h finds a slot with no entry
pub vacancy : (ss : List Slot) (h : ℕ) → length ss ≡ slot_count → h < slot_count → length (entries ss) < slot_count
    → (d : ℕ) × (distance vacant ss h slot_count 0 ≡ some d)
unfolding tally slot_at
vacancy ss h l hb r =
    ⊎_elim
    (λ q. absurd (nowhere q))
    (λ q. q)
    (options (distance vacant ss h slot_count 0))
  where
    gapless : (i : ℕ) × (i < length ss) × (filled (entry_at ss i) ≡ 0)
    gapless =
        total_short (λ (i : ℕ) (s : Slot). filled s.entry) ss empty_slot
        (let z : length (entries ss) ≡ count filled ss = length_entries ss in omega arith)

    nowhere : distance vacant ss h slot_count 0 ≡ none → ⊥
    nowhere q =
        let i : ℕ = gapless.0 in
        let b : i < slot_count = (let z : i < length ss = gapless.1 in omega arith) in
        let f : vacant (get_or ss ((h + gap h i) % slot_count) empty_slot) ≡ false
        = distance_none vacant ss h slot_count 0 q (gap h i) zero-le (let z : gap h i < slot_count = gap_less h i in omega arith) in
        clash (none_vacant (get_or ss i empty_slot) (filled_none (entry_at ss i) gapless.2))
        (subst (λ (n : ℕ). vacant (get_or ss n empty_slot) ≡ false) (gap_back h i hb b) f)

pub take_at : (bytes : ℕ) (ss : List Slot) (k : ℕ) (c : Content) (d : ℕ) → distance vacant ss (home_slot bytes k) slot_count 0 ≡ some d
    → take bytes ss k c ≡ with_entry (count_passed suc ss (home_slot bytes k) d) (home_slot bytes k + d) (some (row k c))
unfolding take
take_at bytes ss k c d q =
    ap (λ (o : Option ℕ). maybe o ss (λ (d : ℕ). with_entry (count_passed suc ss (home_slot bytes k) d) (home_slot bytes k + d) (some (row k c)))) q

pub take_none : (bytes : ℕ) (ss : List Slot) (k : ℕ) (c : Content) → distance vacant ss (home_slot bytes k) slot_count 0 ≡ none → take bytes ss k c ≡ ss
unfolding take
take_none bytes ss k c q =
    ap (λ (o : Option ℕ). maybe o ss (λ (d : ℕ). with_entry (count_passed suc ss (home_slot bytes k) d) (home_slot bytes k + d) (some (row k c)))) q

pub release_at : (bytes : ℕ) (ss : List Slot) (k d : ℕ) → distance (holds k) ss (home_slot bytes k) slot_count 0 ≡ some d
    → release bytes ss k ≡ with_entry (count_passed pred ss (home_slot bytes k) d) (home_slot bytes k + d) none
unfolding release
release_at bytes ss k d q =
    ap (λ (o : Option ℕ). maybe o ss (λ (d : ℕ). with_entry (count_passed pred ss (home_slot bytes k) d) (home_slot bytes k + d) none)) q

pub release_none : (bytes : ℕ) (ss : List Slot) (k : ℕ) → distance (holds k) ss (home_slot bytes k) slot_count 0 ≡ none → release bytes ss k ≡ ss
unfolding release
release_none bytes ss k q =
    ap (λ (o : Option ℕ). maybe o ss (λ (d : ℕ). with_entry (count_passed pred ss (home_slot bytes k) d) (home_slot bytes k + d) none)) q

-- a key with no entry is found nowhere
pub distance_absent : (ss : List Slot) (k h : ℕ) → length ss ≡ slot_count → count (keyed k) ss ≡ 0 → distance (holds k) ss h slot_count 0 ≡ none
unfolding slot_at
distance_absent ss k h l c =
    ⊎_elim (λ q. q)
    (λ q. clash (distance_some (holds k) ss h slot_count 0 q.0 q.1).0.passes
    (absent_slot ss k ((h + q.0) % slot_count) c (let z : (h + q.0) % slot_count < slot_count = omega arith in omega arith)))
    (options (distance (holds k) ss h slot_count 0))

-- the entry of a key is found where it stands
pub distance_place : (ss : List Slot) (k h : ℕ) → length ss ≡ slot_count → h < slot_count → count (keyed k) ss ≤ 1 → (r : Place ss k)
    → First (holds k) ss h 0 (gap h r.at)
unfolding slot_at
distance_place ss k h l hb c r =
    record {
      from = zero-le;
      passes = subst (λ (n : ℕ). holds k (get_or ss n empty_slot) ≡ true) (sym back) here;
      before = λ i a b. only_here ss k r.at ((h + i) % slot_count) c r.inside
          (let z : (h + i) % slot_count < slot_count = omega arith in omega arith) here
          (λ q. let g : gap h r.at ≡ i = ap (gap h) q ∙ gap_at h i hb
          (let z : gap h r.at < slot_count = gap_less h r.at in omega arith) in omega arith);
    }
  where
    back : (h + gap h r.at) % slot_count ≡ r.at
    back = gap_back h r.at hb (let z : r.at < length ss = r.inside in omega arith)

    here : holds k (get_or ss r.at empty_slot) ≡ true
    here = holds_yes k (get_or ss r.at empty_slot) r.content r.here r.own

-- a new entry
pub take_entered : (bytes : ℕ) (ss : List Slot) (k : ℕ) (c : Content) → length ss ≡ slot_count → is_idle c ≡ false → count (keyed k) ss ≡ 0
    → length (entries ss) < slot_count → Entered bytes ss k c (take bytes ss k c)
unfolding slot_at
take_entered bytes ss k c l busy absent room =
    subst (Entered bytes ss k c) (sym (take_at bytes ss k c d free.1))
    (record {
      at = p;
      old = none;
      changed = subst (λ (o : Option (Row Content)). Changed ss ts p o (kept k c)) empty (subst (Changed ss ts p (entry_at ss p)) new changed);
      own = absent;
      foreign = λ j n. refl;
      counts = counts;
    })
  where
    h : ℕ
    h = home_slot bytes k

    free : (d : ℕ) × (distance vacant ss h slot_count 0 ≡ some d)
    free = vacancy ss h l (home_less bytes k) room

    d : ℕ
    d = free.0

    first : First vacant ss h 0 d × (d < 0 + slot_count)
    first = distance_some vacant ss h slot_count 0 d free.1

    db : d < slot_count
    db = let z : d < 0 + slot_count = first.1 in omega arith

    p : ℕ
    p = (h + d) % slot_count

    ts : List Slot
    ts = with_entry (count_passed suc ss h d) (h + d) (some (row k c))

    empty : entry_at ss p ≡ none
    empty = vacant_none (get_or ss p empty_slot) first.0.passes

    new : some (row k c) ≡ kept k c
    new = sym (ap (λ (t : Bool). pick t none (some (row k c))) busy)

    changed : Changed ss ts p (entry_at ss p) (some (row k c))
    changed = moved_changed suc ss h d l (home_less bytes k) db (some (row k c))

    sums : (t : Bool) (n : ℕ) → pick t (suc n) n + 0 ≡ n + pick t 1 0
    sums true n = omega arith
    sums false n = omega arith

    counts : (i : ℕ) → i < slot_count → (get_or ts i empty_slot).overflow + 0 ≡ (get_or ss i empty_slot).overflow + passing bytes i p (kept k c)
    counts i q =
        ap (λ (n : ℕ). n + 0) (moved_count suc ss h d l (home_less bytes k) db (some (row k c)) i q)
        ∙ sums (less (gap h i) d) (get_or ss i empty_slot).overflow
        ∙ ap (λ (n : ℕ). (get_or ss i empty_slot).overflow + n)
        (sym (passing_from bytes i d k (row k c) refl db) ∙ ap (passing bytes i p) new)

-- an entry taken out
pub release_entered : (bytes : ℕ) (ss : List Slot) (k : ℕ) (c : Content) → Good bytes ss → is_idle c ≡ true → Place ss k
    → Entered bytes ss k c (release bytes ss k)
unfolding slot_at tally
release_entered bytes ss k c good gone r =
    subst (Entered bytes ss k c) (sym (release_at bytes ss k d
    (distance_first (holds k) ss h slot_count 0 d first (let z : d < slot_count = db in omega arith))))
    (record {
      at = p;
      old = some e;
      changed = subst (λ (o : Option (Row Content)). Changed ss ts p o (kept k c)) here (subst (Changed ss ts p (entry_at ss p)) new changed);
      own = own;
      foreign = λ j n. keyed_there j (some e) e refl (λ q. n (sym q ∙ r.own));
      counts = counts;
    })
  where
    h : ℕ
    h = home_slot bytes k

    e : Row Content
    e = r.content

    d : ℕ
    d = gap h r.at

    db : d < slot_count
    db = gap_less h r.at

    first : First (holds k) ss h 0 d
    first = distance_place ss k h good.size (home_less bytes k) (good.once k) r

    p : ℕ
    p = (h + d) % slot_count

    ts : List Slot
    ts = with_entry (count_passed pred ss h d) (h + d) none

    inside : p < length ss
    inside = let z : p < slot_count = omega arith in let y : length ss ≡ slot_count = good.size in omega arith

    here : entry_at ss p ≡ some e
    here =
        ap (entry_at ss) (gap_back h r.at (home_less bytes k)
        (let z : r.at < length ss = r.inside in let y : length ss ≡ slot_count = good.size in omega arith))
        ∙ r.here

    new : none ≡ kept k c
    new = sym (ap (λ (t : Bool). pick t none (some (row k c))) gone)

    changed : Changed ss ts p (entry_at ss p) none
    changed = moved_changed pred ss h d good.size (home_less bytes k) db none

    own : count (keyed k) ss ≡ keyed k (some e)
    own =
        let one : keyed k (entry_at ss p) ≡ 1 = keyed_here k (entry_at ss p) e here r.own in
        let one' : keyed k (some e) ≡ 1 = keyed_here k (some e) e refl r.own in
        let least : keyed k (entry_at ss p) ≤ count (keyed k) ss = total_at (λ (i : ℕ) (s : Slot). keyed k s.entry) ss p empty_slot inside in
        let most : count (keyed k) ss ≤ 1 = good.once k in
        omega arith

    sums : (t : Bool) (n : ℕ) → pick t 1 0 ≤ n → pick t (pred n) n + pick t 1 0 ≡ n + 0
    sums true n q = let z : pred n + 1 ≡ n + 0 = omega arith in z
    sums false n q = omega arith

    term : (i : ℕ) → passing bytes i p (some e) ≡ pick (less (gap h i) d) 1 0
    term i = passing_from bytes i d k e r.own db

    enough : (i : ℕ) → i < slot_count → pick (less (gap h i) d) 1 0 ≤ (get_or ss i empty_slot).overflow
    enough i q =
        let least : passing bytes i p (entry_at ss p) ≤ tally (passing bytes i) ss
        = total_at (λ (n : ℕ) (s : Slot). passing bytes i n s.entry) ss p empty_slot inside in
        let same : passing bytes i p (entry_at ss p) ≡ pick (less (gap h i) d) 1 0 = ap (passing bytes i p) here ∙ term i in
        let all : (get_or ss i empty_slot).overflow ≡ tally (passing bytes i) ss = good.passed i q in
        omega arith

    counts : (i : ℕ) → i < slot_count
        → (get_or ts i empty_slot).overflow + passing bytes i p (some e) ≡ (get_or ss i empty_slot).overflow + passing bytes i p (kept k c)
    counts i q =
        ap (λ (n : ℕ). n + passing bytes i p (some e)) (moved_count pred ss h d good.size (home_less bytes k) db none i q)
        ∙ ap (λ (n : ℕ). pick (less (gap h i) d) (pred (get_or ss i empty_slot).overflow) (get_or ss i empty_slot).overflow + n) (term i)
        ∙ sums (less (gap h i) d) (get_or ss i empty_slot).overflow (enough i q)
        ∙ ap (λ (o : Option (Row Content)). (get_or ss i empty_slot).overflow + passing bytes i p o) new

rewrite_absent : (ss : List Slot) (k : ℕ) (c : Content) → count (keyed k) ss ≡ 0 → rewrite ss k c ≡ ss
unfolding rewrite
rewrite_absent [] k c h = refl
rewrite_absent (s ∷ ss) k c h =
    let sum : keyed k s.entry + count (keyed k) ss ≡ 0 = sym (count_cons (keyed k) s ss) ∙ h in
    let off : holds k s ≡ false = holds_no k s (omega arith) in
    ap (λ (t : Bool). pick t (record { entry = some (row k c); overflow = s.overflow }) s ∷ rewrite ss k c) off
    ∙ ap (λ (l : List Slot). s ∷ l) (rewrite_absent ss k c (omega arith))

-- the entry of a key that stands in no two slots is rewritten in its place
pub rewrite_at : (ss : List Slot) (k : ℕ) (c : Content) (i : ℕ) → count (keyed k) ss ≤ 1 → i < length ss → holds k (get_or ss i empty_slot) ≡ true
    → rewrite ss k c ≡ set ss i (record { entry = some (row k c); overflow = (get_or ss i empty_slot).overflow })
unfolding rewrite tally total
rewrite_at [] k c i n b t = absurd (not-suc-le-zero b)
rewrite_at (s ∷ ss) k c zero n b t =
    let sum : keyed k s.entry + count (keyed k) ss ≤ 1 = n in
    let one : keyed k s.entry ≡ 1 = keyed_holds k s ∙ ap (λ (t : Bool). pick t 1 0) t in
    ap (λ (t : Bool). pick t (record { entry = some (row k c); overflow = s.overflow }) s ∷ rewrite ss k c) t
    ∙ ap (λ (l : List Slot). record { entry = some (row k c); overflow = s.overflow } ∷ l) (rewrite_absent ss k c (omega arith))
rewrite_at (s ∷ ss) k c (suc i) n b t =
    let sum : keyed k s.entry + count (keyed k) ss ≤ 1 = n in
    let at : keyed k (entry_at ss i) ≤ count (keyed k) ss = total_at (λ (i : ℕ) (s : Slot). keyed k s.entry) ss i empty_slot (le_of_suc-le-suc b) in
    let one : keyed k (entry_at ss i) ≡ 1 = keyed_holds k (get_or ss i empty_slot) ∙ ap (λ (t : Bool). pick t 1 0) t in
    let off : holds k s ≡ false = holds_no k s (omega arith) in
    ap (λ (t : Bool). pick t (record { entry = some (row k c); overflow = s.overflow }) s ∷ rewrite ss k c) off
    ∙ ap (λ (l : List Slot). s ∷ l) (rewrite_at ss k c i (omega arith) (le_of_suc-le-suc b) t)

-- an entry that says something else
pub rewrite_entered : (bytes : ℕ) (ss : List Slot) (k : ℕ) (c : Content) → Good bytes ss → is_idle c ≡ false → Place ss k
    → Entered bytes ss k c (rewrite ss k c)
unfolding tally
rewrite_entered bytes ss k c good busy r =
    subst (Entered bytes ss k c) (sym (rewrite_at ss k c i (good.once k) r.inside (holds_yes k (get_or ss i empty_slot) e r.here r.own)))
    (record {
      at = i;
      old = some e;
      changed =
          record {
            size = length-set ss i s;
            inside = r.inside;
            before = r.here;
            after = ap (λ (s : Slot). s.entry) (get_or-set_same ss i s empty_slot r.inside) ∙ new;
            others = λ j q n. ap (λ (s : Slot). s.entry) (get_or-set_other ss i j s empty_slot n);
          };
      own = own;
      foreign = λ j n. keyed_there j (some e) e refl (λ q. n (sym q ∙ r.own));
      counts = counts;
    })
  where
    e : Row Content
    e = r.content

    i : ℕ
    i = r.at

    s : Slot
    s = record { entry = some (row k c); overflow = (get_or ss i empty_slot).overflow }

    new : some (row k c) ≡ kept k c
    new = sym (ap (λ (t : Bool). pick t none (some (row k c))) busy)

    own : count (keyed k) ss ≡ keyed k (some e)
    own =
        let one : keyed k (entry_at ss i) ≡ 1 = keyed_here k (entry_at ss i) e r.here r.own in
        let one' : keyed k (some e) ≡ 1 = keyed_here k (some e) e refl r.own in
        let least : keyed k (entry_at ss i) ≤ count (keyed k) ss = total_at (λ (i : ℕ) (s : Slot). keyed k s.entry) ss i empty_slot r.inside in
        let most : count (keyed k) ss ≤ 1 = good.once k in
        omega arith

    overflow : (j : ℕ) → (get_or (set ss i s) j empty_slot).overflow ≡ (get_or ss j empty_slot).overflow
    overflow j =
        ⊎_elim
        (λ t. let ji : j ≡ i = same_true j i t in
        ap (λ (n : ℕ). (get_or (set ss i s) n empty_slot).overflow) ji
        ∙ ap (λ (s : Slot). s.overflow) (get_or-set_same ss i s empty_slot r.inside)
        ∙ ap (λ (n : ℕ). (get_or ss n empty_slot).overflow) (sym ji))
        (λ t. ap (λ (s : Slot). s.overflow) (get_or-set_other ss i j s empty_slot (same_false j i t)))
        (cases (same j i))

    counts : (j : ℕ) → j < slot_count
        → (get_or (set ss i s) j empty_slot).overflow + passing bytes j i (some e) ≡ (get_or ss j empty_slot).overflow + passing bytes j i (kept k c)
    counts j q =
        ap (λ (n : ℕ). n + passing bytes j i (some e)) (overflow j)
        ∙ ap (λ (n : ℕ). (get_or ss j empty_slot).overflow + n)
        (passing_own bytes j i k e r.own ∙ sym (passing_own bytes j i k (row k c) refl) ∙ ap (passing bytes j i) new)
