-- How many different addresses the index, the indexlet and a write set have together: the records, the entries that lie
-- outside of the index, and the addresses of the write set that are new.
use Rattle.std.specs.Prelude.{ℕ, ◌+◌, ◌^◌, ◌<◌, ◌≤◌, ◌≡◌, Bool, false}
use Rattle.std.proofs.Common.{zero-le, suc-le-suc, le_trans, le_antisymm, le_of_eq, ◌∙◌}
use Rattle.std.proofs.Math.Nat.{le_step}
use native.Mathlib.Omega.{arith}
use Rattle.std.proofs.Math.Path.{refl, sym, ap}
use Rattle.std.proofs.Math.Logic.{⊎_elim}
use Rattle.std.proofs.Math.Bool.{true, not}
use mathlib.Core.List.{List, [], ◌∷◌, ◌++◌}
use Rattle.std.proofs.Math.Option.{Option, none, some}
use Rattle.std.proofs.Math.ListN.{length, length-append}
use Rattle.std.proofs.Math.Dec.{ltb}
use Rattle.lists.specs.Tests.{pick, both, either, present, less}
use Rattle.lists.specs.TestLaws.{cases, clash, less_no}
use Rattle.lists.specs.Rows.{Row, look, keys, has, filter, distinct, Rising, Different}
use Rattle.lists.specs.RowLaws.{has_keys, length_keys, rising_different}
use Rattle.lists.specs.Ascending.{mem_filter, filter_mem}
use Rattle.lists.specs.Counting.{has_here, has_there, has_append, Within, distinct_within, different_count}
use Rattle.lists.specs.Memberships.{member_has, has_member, has_left, has_right, has_parts}
use Rattle.lists.specs.Options.{options}
use Rattle.lists.specs.Sums.{total}
use Rattle.spec.specs.Records.{limits, standard, Record}
use Rattle.spec.specs.Slots.{slot_count, Content, is_idle, Slot, entries, content_of}
use Rattle.spec.specs.Maps.{MapState, waiting_with, addresses_with}
use Rattle.laws.specs.SlotCounts.{tally, count_cons, entries_some, entries_none, entries_most}
use Rattle.laws.specs.SlotLaws.{keys_differ}
use Rattle.laws.specs.MapBounds.{entry_busy}
use Rattle.indexlet.specs.Words.{slots_of}
use Rattle.indexlet.specs.Promises as indexlet
use Rattle.index.specs.Views as index
use Rattle.index.specs.Views.{records_of}
use Rattle.index.specs.ViewLaws.{length_records}
use Rattle.map.specs.declared.Sizes.{Sizes}
use Rattle.map.specs.Views.{SlotRows, RecordRows, Lent}
use Rattle.sets.specs.Writes.{WriteRows, write_in, writes_of}
use Rattle.sets.specs.SetLaws.{length_rows}
use Rattle.phantomlet.specs.Phantoms.{weigh, how_many, outside_any}
use Rattle.map.specs.MapHeld.{Tables}
use Rattle.map.specs.EntryLaws.{many_most}
use Rattle.map.specs.WriteWalks.{write_at, rest_keys, keys_all, keys_none, keys_cons}

-- ---- lists without repeats

different_append : (xs ys : List ℕ) → Different xs → Different ys → ((k : ℕ) → has k xs ≡ true → has k ys ≡ false) → Different (xs ++ ys)
unfolding Different
different_append [] ys d e h = e
different_append (x ∷ xs) ys d e h = (
  has_append x xs ys ∙ ap (λ (b : Bool). either b (has x ys)) d.0 ∙ h x (has_here x xs),
  different_append xs ys d.1 e (λ k t. h k (has_there k x xs t)),
)

not-true : {b : Bool} → (b ≡ true → ⊥) → b ≡ false
not-true {b} h = ⊎_elim (λ t. absurd (h t)) (λ t. t) (cases b)

filter_has : (p : ℕ → Bool) (k : ℕ) (xs : List ℕ) → has k (filter p xs) ≡ true → (has k xs ≡ true) × (p k ≡ true)
filter_has p k xs t = let m = mem_filter p xs (has_member k (filter p xs) t) in (member_has m.0, m.1)

has_filter : (p : ℕ → Bool) (k : ℕ) (xs : List ℕ) → has k xs ≡ true → p k ≡ true → has k (filter p xs) ≡ true
has_filter p k xs t e = member_has (filter_mem p xs (has_member k xs t) e)

different_filter : (p : ℕ → Bool) (xs : List ℕ) → Different xs → Different (filter p xs)
unfolding filter Different
different_filter p [] d = d
different_filter p (x ∷ xs) d =
    ⊎_elim
    (λ t. rw t (not-true (λ u. clash (filter_has p x xs u).0 d.0), different_filter p xs d.1))
    (λ t. rw t (different_filter p xs d.1))
    (cases (p x))

same_distinct : (xs ys : List ℕ) → Within xs ys → Within ys xs → distinct xs ≡ distinct ys
same_distinct xs ys h g = le_antisymm (distinct_within xs ys h) (distinct_within ys xs g)

-- p tells which numbers the first list lacks
module _ (xs ys : List ℕ) (p : ℕ → Bool) (dx : Different xs) (dy : Different ys) (lacks : (k : ℕ) → p k ≡ not (has k xs)) where
  fresh_parts : Different (xs ++ filter p ys)
  fresh_parts =
      different_append xs (filter p ys) dx (different_filter p ys dy)
      (λ k t. not-true (λ u. clash (filter_has p k ys u).1 (lacks k ∙ ap not t)))

  pub joined_count : distinct (xs ++ ys) ≡ length xs + length (filter p ys)
  joined_count =
      same_distinct (xs ++ ys) (xs ++ filter p ys) inside outside
      ∙ different_count (xs ++ filter p ys) fresh_parts
      ∙ length-append xs (filter p ys)
    where
      inside : Within (xs ++ ys) (xs ++ filter p ys)
      inside k t =
          ⊎_elim
          (λ u. has_left k xs (filter p ys) u)
          (λ u. ⊎_elim (λ w. has_left k xs (filter p ys) w) (λ w. has_right k xs (filter p ys) (has_filter p k ys u (lacks k ∙ ap not w))) (cases (has k xs)))
          (has_parts k xs ys t)

      outside : Within (xs ++ filter p ys) (xs ++ ys)
      outside k t =
          ⊎_elim (λ u. has_left k xs ys u) (λ u. has_right k xs ys (filter_has p k ys u).0) (has_parts k xs (filter p ys) t)

-- q tells which numbers the first two lists lack
module _ (xs ys ks : List ℕ) (p q : ℕ → Bool) (dx : Different xs) (dy : Different ys) (dk : Different ks) (lacks : (k : ℕ) → p k ≡ not (has k xs)) (lacks_both : (k : ℕ) → q k ≡ both (p k) (not (has k ys))) where
  q_first : (k : ℕ) → q k ≡ true → p k ≡ true
  q_first k e = ⊎_elim (λ t. t) (λ t. clash e (lacks_both k ∙ ap (λ (b : Bool). both b (not (has k ys))) t)) (cases (p k))

  q_second : (k : ℕ) → q k ≡ true → has k ys ≡ false
  q_second k e =
      not-true (λ t. clash e (lacks_both k ∙ ap (λ (b : Bool). both (p k) (not b)) t ∙ ⊎_elim (λ u. rw u) (λ u. rw u) (cases (p k))))

  news : List ℕ
  news = filter p ys ++ filter q ks

  news_parts : (k : ℕ) → has k news ≡ true → p k ≡ true
  unfolding news
  news_parts k t = ⊎_elim (λ u. (filter_has p k ys u).1) (λ u. q_first k (filter_has q k ks u).1) (has_parts k (filter p ys) (filter q ks) t)

  news_differ : Different news
  unfolding news
  news_differ =
      different_append (filter p ys) (filter q ks) (different_filter p ys dy) (different_filter q ks dk)
      (λ k t. not-true (λ u. clash (filter_has p k ys t).0 (q_second k (filter_has q k ks u).1)))

  all_differ : Different (xs ++ news)
  all_differ = different_append xs news dx news_differ (λ k t. not-true (λ u. clash (news_parts k u) (lacks k ∙ ap not t)))

  inside : Within (xs ++ (ys ++ ks)) (xs ++ news)
  unfolding news
  inside k t = ⊎_elim (λ u. has_left k xs news u) (λ u. ⊎_elim (λ w. has_left k xs news w) (λ w. has_right k xs news (new (lacks k ∙ ap not w) u)) (cases (has k xs))) (has_parts k xs (ys ++ ks) t)
    where
      new : p k ≡ true → has k (ys ++ ks) ≡ true → has k (filter p ys ++ filter q ks) ≡ true
      new e u =
          ⊎_elim
          (λ w. has_left k (filter p ys) (filter q ks) (has_filter p k ys w e))
          (λ w. has_right k (filter p ys) (filter q ks)
          (has_filter q k ks (⊎_elim (λ x. clash x w) (λ x. x) (has_parts k ys ks u)) (lacks_both k ∙ (rw (e, w)))))
          (cases (has k ys))

  outside : Within (xs ++ news) (xs ++ (ys ++ ks))
  unfolding news
  outside k t =
      ⊎_elim
      (λ u. has_left k xs (ys ++ ks) u)
      (λ u. has_right k xs (ys ++ ks)
      (⊎_elim (λ w. has_left k ys ks (filter_has p k ys w).0) (λ w. has_right k ys ks (filter_has q k ks w).0) (has_parts k (filter p ys) (filter q ks) u)))
      (has_parts k xs (filter p ys ++ filter q ks) t)

  three_count : distinct (xs ++ (ys ++ ks)) ≡ length xs + (length (filter p ys) + length (filter q ks))
  unfolding news
  three_count =
      same_distinct (xs ++ (ys ++ ks)) (xs ++ news) inside outside
      ∙ different_count (xs ++ news) all_differ
      ∙ length-append xs news
      ∙ ap (λ (n : ℕ). length xs + n) (length-append (filter p ys) (filter q ks))

-- ---- the entries outside of the index

-- the index lacks the address
abbrev pub lacking : List (Row Record) → ℕ → Bool
lacking rs k = not (present (look rs k))

filter_yes : {A : Type 0} (p : A → Bool) (x : A) (xs : List A) → p x ≡ true → filter p (x ∷ xs) ≡ x ∷ filter p xs
unfolding filter
filter_yes p x xs t = rw t

filter_no : {A : Type 0} (p : A → Bool) (x : A) (xs : List A) → p x ≡ false → filter p (x ∷ xs) ≡ filter p xs
unfolding filter
filter_no p x xs t = rw t

-- an element adds one, or none
filter_count : (p : ℕ → Bool) (x : ℕ) (xs : List ℕ) → length (filter p (x ∷ xs)) ≡ pick (p x) 1 0 + length (filter p xs)
filter_count p x xs =
    ⊎_elim
    (λ t. ap length (filter_yes p x xs t) ∙ (rw t (omega arith)))
    (λ t. ap length (filter_no p x xs t) ∙ (rw t (omega arith)))
    (cases (p x))

filter_most : (p : ℕ → Bool) (xs : List ℕ) → length (filter p xs) ≤ length xs
unfolding filter
filter_most p [] = zero-le
filter_most p (x ∷ xs) = ⊎_elim (λ t. rw t (suc-le-suc (filter_most p xs))) (λ t. rw t (le_step (filter_most p xs))) (cases (p x))

many_cons : (p : Row Content → Bool) (s : Slot) (ss : List Slot) → how_many p (s ∷ ss) ≡ weigh p s.entry + how_many p ss
unfolding how_many
many_cons p s ss = count_cons (weigh p) s ss

weigh_outside : (m : MapState) (o : Option (Row Content)) (e : Row Content) → o ≡ some e → weigh (outside_any m) o ≡ pick (lacking m.records e.key) 1 0
unfolding weigh outside_any
weigh_outside m o e q = ap (weigh (outside_any m)) q

weigh_nothing : (p : Row Content → Bool) (o : Option (Row Content)) → o ≡ none → weigh p o ≡ 0
unfolding weigh
weigh_nothing p o q = ap (weigh p) q

keys_first : (e : Row Content) (es : List (Row Content)) → keys (e ∷ es) ≡ e.key ∷ keys es
unfolding keys
keys_first e es = refl

-- the addresses with an entry that the index lacks, counted
pub outside_length : (m : MapState) (ss : List Slot) → length (filter (lacking m.records) (keys (entries ss))) ≡ how_many (outside_any m) ss
outside_length m [] = unfold how_many tally total entries keys filter in refl
outside_length m (s ∷ ss) = ⊎_elim (idle (outside_length m ss)) (busy (outside_length m ss)) (options s.entry)
  where
    idle : length (filter (lacking m.records) (keys (entries ss))) ≡ how_many (outside_any m) ss → s.entry ≡ none
        → length (filter (lacking m.records) (keys (entries (s ∷ ss)))) ≡ how_many (outside_any m) (s ∷ ss)
    idle r e =
        ap (λ (es : List (Row Content)). length (filter (lacking m.records) (keys es))) (entries_none s ss e)
        ∙ r
        ∙ (let c : how_many (outside_any m) (s ∷ ss) ≡ weigh (outside_any m) s.entry + how_many (outside_any m) ss = many_cons (outside_any m) s ss in
        let w : weigh (outside_any m) s.entry ≡ 0 = weigh_nothing (outside_any m) s.entry e in
        omega arith)

    busy : length (filter (lacking m.records) (keys (entries ss))) ≡ how_many (outside_any m) ss → (e : Row Content) × (s.entry ≡ some e)
        → length (filter (lacking m.records) (keys (entries (s ∷ ss)))) ≡ how_many (outside_any m) (s ∷ ss)
    busy r e =
        ap (λ (es : List (Row Content)). length (filter (lacking m.records) (keys es))) (entries_some s ss e.0 e.1)
        ∙ ap (λ (ks : List ℕ). length (filter (lacking m.records) ks)) (keys_first e.0 (entries ss))
        ∙ filter_count (lacking m.records) e.0.key (keys (entries ss))
        ∙ (let c : how_many (outside_any m) (s ∷ ss) ≡ weigh (outside_any m) s.entry + how_many (outside_any m) ss = many_cons (outside_any m) s ss in
        let w : weigh (outside_any m) s.entry ≡ pick (lacking m.records e.0.key) 1 0 = weigh_outside m s.entry e.0 e.1 in
        omega arith)

-- ---- the addresses of a write set that are new

-- `sum` and what the rows from row i on add to it are `goal`
pub record Counting (p : ℕ → Bool) (ws : WriteRows) (n i sum goal : ℕ) : Type 0 where
  pub is : sum + length (filter p (rest_keys ws i n)) ≡ goal
  pub small : goal < 2 ^ 64

module _ (p : ℕ → Bool) (ws : WriteRows) (n : ℕ) where
  pub counting_start : (base : ℕ) → base + n < 2 ^ 64 → Counting p ws n 0 base (base + length (filter p (keys (writes_of ws n))))
  counting_start base h =
      record {
        is = ap (λ (ks : List ℕ). base + length (filter p ks)) (keys_all ws n);
        small =
            let a : length (filter p (keys (writes_of ws n))) ≤ length (keys (writes_of ws n)) = filter_most p (keys (writes_of ws n)) in
            let b : length (keys (writes_of ws n)) ≡ length (writes_of ws n) = length_keys (writes_of ws n) in
            let c : length (writes_of ws n) ≡ n = length_rows write_in ws n in
            omega arith;
      }

  here : (i : ℕ) → i < n → length (filter p (rest_keys ws i n)) ≡ pick (p (write_at ws i).key) 1 0 + length (filter p (rest_keys ws (i + 1) n))
  here i h = ap (λ (ks : List ℕ). length (filter p ks)) (keys_cons ws i n h) ∙ filter_count p (write_at ws i).key (rest_keys ws (i + 1) n)

  pub counting_fits : {i sum goal r : ℕ} → i < n → Counting p ws n i sum goal → r ≡ pick (p (write_at ws i).key) 1 0 → sum + r < 2 ^ 64
  counting_fits {i} {sum} {goal} {r} h q e =
      let a : length (filter p (rest_keys ws i n)) ≡ pick (p (write_at ws i).key) 1 0 + length (filter p (rest_keys ws (i + 1) n)) = here i h in
      let b : sum + length (filter p (rest_keys ws i n)) ≡ goal = q.is in
      let c : goal < 2 ^ 64 = q.small in
      omega arith

  pub counting_on : {i sum goal r : ℕ} → i < n → Counting p ws n i sum goal → r ≡ pick (p (write_at ws i).key) 1 0 → Counting p ws n (i + 1) (sum + r) goal
  counting_on {i} {sum} {goal} {r} h q e =
      record {
        is =
            let a : length (filter p (rest_keys ws i n)) ≡ pick (p (write_at ws i).key) 1 0 + length (filter p (rest_keys ws (i + 1) n)) = here i h in
            let b : sum + length (filter p (rest_keys ws i n)) ≡ goal = q.is in
            omega arith;
        small = q.small;
      }

  pub counting_end : {i sum goal : ℕ} → n ≤ i → Counting p ws n i sum goal → sum ≡ goal
  counting_end {i} {sum} {goal} h q =
      let a : length (filter p (rest_keys ws i n)) ≡ 0 = ap (λ (ks : List ℕ). length (filter p ks)) (keys_none ws i n h) ∙ (unfold filter in refl) in
      let b : sum + length (filter p (rest_keys ws i n)) ≡ goal = q.is in
      omega arith

-- ---- the counts behind refusals 10 and 11

-- the address has no entry
abbrev pub entryless : SlotRows → ℕ → Bool
entryless slots k = is_idle (content_of (slots_of slots) k)

-- it has no entry, and the index lacks it
abbrev pub unknown : RecordRows → ℕ → SlotRows → ℕ → Bool
unknown rows records slots k = both (lacking (records_of rows records) k) (entryless slots k)

module _ (slots : SlotRows) (a k : ℕ) (c : Content) (b : Bool) (e : a ≡ k) (o : content_of (slots_of slots) a ≡ c) (t : b ≡ is_idle c) where
  entryless_is : b ≡ entryless slots k
  entryless_is = t ∙ ap is_idle (sym o) ∙ ap (entryless slots) e

  pub entryless_one : b ≡ true → ◌≡◌ {A = ℕ} 1 (pick (entryless slots k) 1 0)
  entryless_one y = sym (ap (λ (x : Bool). pick x 1 0) (sym entryless_is ∙ y))

  pub entryless_none : b ≡ false → ◌≡◌ {A = ℕ} 0 (pick (entryless slots k) 1 0)
  entryless_none n = sym (ap (λ (x : Bool). pick x 1 0) (sym entryless_is ∙ n))

module _ (rows : RecordRows) (records : ℕ) (slots : SlotRows) (a k : ℕ) (b : Bool) (e : a ≡ k) (t : b ≡ lacking (records_of rows records) a) where
  lacking_is : b ≡ lacking (records_of rows records) k
  lacking_is = t ∙ ap (lacking (records_of rows records)) e

  pub unknown_one : (r : ℕ) → b ≡ true → r ≡ pick (entryless slots k) 1 0 → r ≡ pick (unknown rows records slots k) 1 0
  unknown_one r y q = q ∙ sym (ap (λ (x : Bool). pick (both x (entryless slots k)) 1 0) (sym lacking_is ∙ y))

  pub unknown_none : b ≡ false → ◌≡◌ {A = ℕ} 0 (pick (unknown rows records slots k) 1 0)
  unknown_none n = sym (ap (λ (x : Bool). pick (both x (entryless slots k)) 1 0) (sym lacking_is ∙ n))

-- r is the count that refusal 10 tests, of every map with these slots
pub record Waits (slots : SlotRows) (ws : WriteRows) (n r : ℕ) : Type 0 where
  pub is : (m : MapState) → m.slots ≡ slots_of slots → r ≡ waiting_with m (keys (writes_of ws n))

-- and the one that refusal 11 tests, of every map with these records and slots
pub record Addressed (rows : RecordRows) (slots : SlotRows) (ws : WriteRows) (z : Sizes) (n r : ℕ) : Type 0 where
  pub is : (m : MapState) → m.records ≡ records_of rows z.records → m.slots ≡ slots_of slots → r ≡ addresses_with m (keys (writes_of ws n))

-- r tells whether the one is above the limit, and the other
pub record WaitsBeyond (slots : SlotRows) (ws : WriteRows) (n : ℕ) (r : Bool) : Type 0 where
  pub is : (m : MapState) → m.slots ≡ slots_of slots → r ≡ less standard.waiting_limit (waiting_with m (keys (writes_of ws n)))

pub record AddressedBeyond (rows : RecordRows) (slots : SlotRows) (ws : WriteRows) (z : Sizes) (n : ℕ) (r : Bool) : Type 0 where
  pub is :
      (m : MapState) → m.records ≡ records_of rows z.records → m.slots ≡ slots_of slots
      → r ≡ less limits.map_limit (addresses_with m (keys (writes_of ws n)))

-- the sizes count the records, the entries, and the entries outside of the index
pub record Counted (rows : RecordRows) (slots : SlotRows) (z : Sizes) : Type 0 where
  pub rows_held : index.RecordsSorted rows z.records
  pub slots_held : indexlet.SlotsHeld slots
  pub outside_are : (m : MapState) → m.records ≡ records_of rows z.records → z.outside ≡ how_many (outside_any m) (slots_of slots)

pub counted : {l : Lent} {z : Sizes} {v : ℕ} → Tables l z v → Counted l.rows l.slots z
counted {l} {z} {v} t =
    record {
      rows_held = t.rows;
      slots_held = t.words;
      outside_are =
          λ m e. t.outside_are
          ∙ (unfold outside_any in ap (λ (rs : List (Row Record)). how_many (λ (x : Row Content). not (present (look rs x.key))) (slots_of l.slots)) (sym e));
    }

not_not : (b : Bool) → not (not b) ≡ b
not_not true = refl
not_not false = refl

entryless_lacks : {slots : SlotRows} → indexlet.SlotsHeld slots → (k : ℕ) → entryless slots k ≡ not (has k (keys (entries (slots_of slots))))
entryless_lacks {slots} h k = sym (ap not (entry_busy h.good k) ∙ not_not (entryless slots k))

entry_most : {slots : SlotRows} → indexlet.SlotsHeld slots → length (entries (slots_of slots)) ≤ slot_count
entry_most {slots} h = le_trans (entries_most (slots_of slots)) (le_of_eq h.good.size)

module _ (slots : SlotRows) (ws : WriteRows) (n : ℕ) (h : indexlet.SlotsHeld slots) where
  pub waits_start : (e : ℕ) → e ≡ length (entries (slots_of slots)) → n ≤ 16
      → Counting (entryless slots) ws n 0 e (e + length (filter (entryless slots) (keys (writes_of ws n))))
  waits_start e q few =
      counting_start (entryless slots) ws n e (let a : length (entries (slots_of slots)) ≤ slot_count = entry_most h in omega arith)

  pub waits : (e r : ℕ) → e ≡ length (entries (slots_of slots)) → Rising (writes_of ws n)
      → r ≡ e + length (filter (entryless slots) (keys (writes_of ws n))) → Waits slots ws n r
  waits e r q rising t =
      record {
        is =
            λ m s. unfold waiting_with in
            t ∙ ap (λ (x : ℕ). x + length (filter (entryless slots) (keys (writes_of ws n)))) (q ∙ sym (length_keys (entries (slots_of slots))))
            ∙ sym (joined_count (keys (entries (slots_of slots))) (keys (writes_of ws n)) (entryless slots) (keys_differ h.good) (rising_different (writes_of ws n) rising) (entryless_lacks h))
            ∙ ap (λ (ss : List Slot). distinct (keys (entries ss) ++ keys (writes_of ws n))) (sym s);
      }

-- a count of some addresses of a write set is at most that of its rows
some_keys : (p : ℕ → Bool) (ws : WriteRows) (n : ℕ) → length (filter p (keys (writes_of ws n))) ≤ n
some_keys p ws n =
    let a : length (filter p (keys (writes_of ws n))) ≤ length (keys (writes_of ws n)) = filter_most p (keys (writes_of ws n)) in
    let b : length (keys (writes_of ws n)) ≡ length (writes_of ws n) = length_keys (writes_of ws n) in
    let c : length (writes_of ws n) ≡ n = length_rows write_in ws n in
    omega arith

-- by the count
pub beyond_counted : {slots : SlotRows} {ws : WriteRows} {n r : ℕ} → Waits slots ws n r → WaitsBeyond slots ws n (ltb standard.waiting_limit r)
beyond_counted h = record { is = λ m s. unfold less in ap (λ (x : ℕ). ltb standard.waiting_limit x) (h.is m s) }

pub addressed_counted : {rows : RecordRows} {slots : SlotRows} {ws : WriteRows} {z : Sizes} {n r : ℕ} → Addressed rows slots ws z n r
    → AddressedBeyond rows slots ws z n (ltb limits.map_limit r)
addressed_counted h = record { is = λ m e s. unfold less in ap (λ (x : ℕ). ltb limits.map_limit x) (h.is m e s) }

-- without one: all addresses of the write set could be new, and still there is room
module _ (slots : SlotRows) (ws : WriteRows) (n : ℕ) (h : indexlet.SlotsHeld slots) where
  pub entries_fit : (e : ℕ) → e ≡ length (entries (slots_of slots)) → n ≤ 16 → e + n < 2 ^ 64
  entries_fit e q few = let a : length (entries (slots_of slots)) ≤ slot_count = entry_most h in omega arith

  pub beyond_few : (e : ℕ) → e ≡ length (entries (slots_of slots)) → Rising (writes_of ws n) → e + n ≤ standard.waiting_limit → WaitsBeyond slots ws n false
  beyond_few e q rising few =
      let v = e + length (filter (entryless slots) (keys (writes_of ws n))) in
      let a : length (filter (entryless slots) (keys (writes_of ws n))) ≤ n = some_keys (entryless slots) ws n in
      record {
        is =
            λ m s. sym (less_no {m = standard.waiting_limit} {n = v} (omega arith))
            ∙ ap (less standard.waiting_limit) ((waits slots ws n h e v q rising refl).is m s);
      }

module _ (rows : RecordRows) (slots : SlotRows) (ws : WriteRows) (z : Sizes) (n : ℕ) (h : Counted rows slots z) where
  -- a map with these records and slots
  indexed : MapState
  indexed = record { records = records_of rows z.records; leaves = []; slots = slots_of slots }

  outside_most : z.outside ≤ slot_count
  unfolding indexed
  outside_most =
      let a : z.outside ≡ how_many (outside_any indexed) (slots_of slots) = h.outside_are indexed refl in
      let b : how_many (outside_any indexed) (slots_of slots) ≤ slot_count = many_most h.slots_held.good (outside_any indexed) in
      omega arith

  pub all_fit : n ≤ 16 → z.records + z.outside + n < 2 ^ 64
  all_fit few = let a = h.rows_held.room in let b = outside_most in omega arith

  pub base_fits : z.records + z.outside < 2 ^ 64
  base_fits = let a = h.rows_held.room in let b = outside_most in omega arith

  pub addressed_start : n ≤ 16
      → Counting (unknown rows z.records slots) ws n 0 (z.records + z.outside) (z.records + z.outside + length (filter (unknown rows z.records slots) (keys (writes_of ws n))))
  addressed_start few =
      counting_start (unknown rows z.records slots) ws n (z.records + z.outside) (let a = h.rows_held.room in let b = outside_most in omega arith)

  record_number : length (keys (records_of rows z.records)) ≡ z.records
  record_number = length_keys (records_of rows z.records) ∙ length_records rows z.records h.rows_held.room

  outside_number : length (filter (lacking (records_of rows z.records)) (keys (entries (slots_of slots)))) ≡ z.outside
  unfolding indexed
  outside_number = outside_length indexed (slots_of slots) ∙ sym (h.outside_are indexed refl)

  pub addressed : (r : ℕ) → Rising (writes_of ws n) → r ≡ z.records + z.outside + length (filter (unknown rows z.records slots) (keys (writes_of ws n)))
      → Addressed rows slots ws z n r
  addressed r rising t =
      record {
        is =
            λ m e s. unfold addresses_with in
            total_is
            ∙ (λ i. distinct (keys (sym e i) ++ (keys (entries (sym s i)) ++ keys (writes_of ws n))));
      }
    where
      all : distinct (keys (records_of rows z.records) ++ (keys (entries (slots_of slots)) ++ keys (writes_of ws n)))
          ≡ length (keys (records_of rows z.records)) + (length (filter (lacking (records_of rows z.records)) (keys (entries (slots_of slots)))) + length (filter (unknown rows z.records slots) (keys (writes_of ws n))))
      all =
          three_count (keys (records_of rows z.records)) (keys (entries (slots_of slots))) (keys (writes_of ws n)) (lacking (records_of rows z.records)) (unknown rows z.records slots)
          (rising_different (records_of rows z.records) h.rows_held.rising) (keys_differ h.slots_held.good) (rising_different (writes_of ws n) rising)
          (λ k. sym (ap not (has_keys (records_of rows z.records) k)))
          (λ k. ap (both (lacking (records_of rows z.records) k)) (entryless_lacks h.slots_held k))

      total_is : r ≡ distinct (keys (records_of rows z.records) ++ (keys (entries (slots_of slots)) ++ keys (writes_of ws n)))
      total_is =
          let a = record_number in
          let b = outside_number in
          let c = all in
          omega arith

  pub addressed_few : Rising (writes_of ws n) → z.records + z.outside + n ≤ limits.map_limit → AddressedBeyond rows slots ws z n false
  addressed_few rising few =
      let v = z.records + z.outside + length (filter (unknown rows z.records slots) (keys (writes_of ws n))) in
      let a : length (filter (unknown rows z.records slots) (keys (writes_of ws n))) ≤ n = some_keys (unknown rows z.records slots) ws n in
      record {
        is =
            λ m e s. sym (less_no {m = limits.map_limit} {n = v} (omega arith))
            ∙ ap (less limits.map_limit) ((addressed v rising refl).is m e s);
      }
