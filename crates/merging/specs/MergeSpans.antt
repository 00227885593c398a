-- The rows of the leaf, and the records behind them. A merge writes inside the leaf alone: what stands before it and behind it
-- stays, so the walk needs to see no record behind, and the leaf's rows after the merge are known without a search.
use Rattle.std.specs.Prelude.{ℕ, suc, ◌+◌, ◌-◌, ◌<◌, ◌≤◌, ◌≡◌, Bool, not, get_or}
use Rattle.std.proofs.Common.{zero-le, le_trans, le_of_eq, ◌∙◌, drop_of_length-le, length-drop, length-append, length-take-le, take-add, drop_at}
use Rattle.std.proofs.Math.Nat.{le_refl}
use native.Mathlib.Omega.{arith}
use Rattle.std.proofs.Math.Path.{refl, sym, ap, subst}
use Rattle.std.proofs.Math.Logic.{⊎_elim}
use Rattle.std.proofs.Math.Bool.{true, false}
use mathlib.Core.List.{List, [], ◌∷◌, ◌++◌, append_assoc}
use Rattle.std.proofs.Math.Option.{Option, none, some}
use Rattle.std.proofs.Math.ListN.{length, take, drop, take-append-drop}
use Rattle.std.proofs.Math.Seq.{take-take, take-append-le, take_at}
use Rattle.lists.specs.Tests.{pick, both, maybe, present, less}
use Rattle.lists.specs.TestLaws.{cases, clash, same_true, less_true, less_false}
use Rattle.lists.specs.Rows.{Row, look, assign, keys, has, filter, distinct, From, Rising}
use Rattle.lists.specs.RowLaws.{look_low, from_weaken, rising_assign, rising_different, has_keys, length_keys}
use Rattle.lists.specs.Places.{place, place_most}
use Rattle.lists.specs.Fronts.{assign_front, from_take, keys_append, from_place, place_over, place_under}
use Rattle.lists.specs.Shifts.{over, moved, drop_take}
use Rattle.lists.specs.Sums.{total}
use Rattle.lists.specs.Counting.{Within, distinct_within}
use Rattle.lists.specs.Memberships.{has_left, has_right, has_parts}
use Rattle.spec.specs.Widths.{address_size}
use Rattle.spec.specs.Records.{Record}
use Rattle.spec.specs.Leaves.{Leaf}
use Rattle.spec.specs.Slots.{slot_count, Content, Slot, entries, content_of, enter}
use Rattle.spec.specs.Maps.{MapState, outcome_of, current, each, taken_in, merge_entry}
use Rattle.laws.specs.SlotCounts.{tally, count, count_cons}
use Rattle.laws.specs.SlotLaws.{keys_differ}
use Rattle.indexlet.specs.Words.{slots_of}
use Rattle.index.specs.Views as index
use Rattle.index.specs.Views.{record_places, leaf_places, rows_of, records_of}
use Rattle.index.specs.ViewLaws.{length_rows, length_records, rows_moved, rows_behind}
use Rattle.index.specs.RecordPlaces.{AtPlace}
use Rattle.index.specs.LeafPlaces.{low_place}
use Rattle.merging.specs.declared.merge.Walk.{Walk}
use Rattle.phantomlet.specs.Phantoms.{weigh, how_many, outside_any, hides_some}
use Rattle.phantomlet.specs.LeafTests.{placed, takes, many_same}
use Rattle.phantomlet.specs.LeafCounts.{lacking, hiding_at}
use Rattle.phantomlet.specs.LeafRows.{Lows, Spans, low_from, low_below, spans_next, spans_last}
use Rattle.map.specs.Views.{SlotRows, RecordRows}
use Rattle.map.specs.AddressCounts as map
use Rattle.merging.specs.MergeWalks.{parts, passing, hiders, look_front, look_alike, Starting, StartingFirst, Took, TookFirst, Behind, walk, walk_after, walk_count, clear_end}

-- ---- all entries that are taken in

-- a map with more records behind
abbrev fronted : List (Row Record) → MapState → MapState
fronted behind m = parts (m.records ++ behind) m.leaves m.slots

entry_front : (behind xs : List (Row Record)) (ls : List Leaf) (ss : List Slot) (e : Row Content) → From (suc e.key) behind
    → merge_entry address_size (parts (xs ++ behind) ls ss) e ≡ fronted behind (merge_entry address_size (parts xs ls ss) e)
unfolding merge_entry current
entry_front behind xs ls ss e f =
    let away : look (xs ++ behind) e.key ≡ look xs e.key = look_front xs behind e.key (look_low behind e.key (le_refl (suc e.key)) f) in
    λ i. record {
      records =
          (ap (λ (o : Option Record). assign e.key (maybe (content_of ss e.key).pending o outcome_of) (xs ++ behind)) away
          ∙ assign_front e.key (maybe (content_of ss e.key).pending (look xs e.key) outcome_of) xs behind f) i;
      leaves = ls;
      slots = enter address_size ss e.key (taken_in (content_of ss e.key));
    }

module _ (p : ℕ → Bool) where
  passes : (e : Row Content) → takes p e ≡ true → p e.key ≡ true
  unfolding takes
  passes e t = go (present e.item.pending) t
    where
      go : (b : Bool) → both b (p e.key) ≡ true → p e.key ≡ true
      go true q = q
      go false q = clash q refl

  each_front : (behind : List (Row Record)) → ((k : ℕ) → p k ≡ true → From (suc k) behind) → (es : List (Row Content)) (m : MapState)
      → each (merge_entry address_size) (fronted behind m) (filter (takes p) es) ≡ fronted behind (each (merge_entry address_size) m (filter (takes p) es))
  unfolding each filter
  each_front behind above [] m = refl
  each_front behind above (e ∷ es) m =
      ⊎_elim
      (λ t. rw t
      (ap (λ (x : MapState). each (merge_entry address_size) x (filter (takes p) es)) (entry_front behind m.records m.leaves m.slots e (above e.key (passes e t)))
      ∙ each_front behind above es (merge_entry address_size m e)))
      (λ t. rw t (each_front behind above es m))
      (cases (takes p e))

  -- addresses that pass lie from lo on
  each_over : (lo : ℕ) → ((k : ℕ) → p k ≡ true → lo ≤ k) → (es : List (Row Content)) (m : MapState) → Rising m.records
      → place lo (each (merge_entry address_size) m (filter (takes p) es)).records ≡ place lo m.records
  unfolding each filter merge_entry Rising
  each_over lo low [] m r = refl
  each_over lo low (e ∷ es) m r =
      ⊎_elim
      (λ t. rw t
      (each_over lo low es (merge_entry address_size m e) (rising_assign e.key (current m e.key) m.records r)
      ∙ place_over lo e.key (current m e.key) m.records 0 r (low e.key (passes e t))))
      (λ t. rw t (each_over lo low es m r))
      (cases (takes p e))

  -- ... and below hi
  each_under : (hi : ℕ) → ((k : ℕ) → p k ≡ true → k < hi) → (es : List (Row Content)) (m : MapState) → Rising m.records
      → place hi (each (merge_entry address_size) m (filter (takes p) es)).records + length m.records ≡ place hi m.records + length (each (merge_entry address_size) m (filter (takes p) es)).records
  unfolding each filter merge_entry Rising
  each_under hi high [] m r = refl
  each_under hi high (e ∷ es) m r =
      ⊎_elim
      (λ t.
      let a : place hi (each (merge_entry address_size) (merge_entry address_size m e) (filter (takes p) es)).records + length (merge_entry address_size m e).records ≡ place hi (merge_entry address_size m e).records + length (each (merge_entry address_size) (merge_entry address_size m e) (filter (takes p) es)).records
      = each_under hi high es (merge_entry address_size m e) (rising_assign e.key (current m e.key) m.records r) in
      let b : place hi (merge_entry address_size m e).records + length m.records ≡ place hi m.records + length (merge_entry address_size m e).records
      = place_under hi e.key (current m e.key) m.records 0 r (high e.key (passes e t)) in
      rw t (omega arith))
      (λ t. rw t (each_under hi high es m r))
      (cases (takes p e))

  each_rising : (es : List (Row Content)) (m : MapState) → Rising m.records → Rising (each (merge_entry address_size) m es).records
  unfolding each merge_entry
  each_rising [] m r = r
  each_rising (e ∷ es) m r = each_rising es (merge_entry address_size m e) (rising_assign e.key (current m e.key) m.records r)

-- ---- the rows of the leaf

-- The rows of the leaf at place i: from the place of its low up to that of the next low, or to the end.
pub record LeafSpan (lows : List ℕ) (rows : RecordRows) (n m i from to : ℕ) : Type 0 where
  pub lows_are : Lows lows m
  pub places : length lows ≡ leaf_places
  pub leaf_in_lem : i < m
  pub low : AtPlace rows n (get_or lows i 0) from
  pub next : i + 1 < m → AtPlace rows n (get_or lows (i + 1) 0) to
  pub last : m ≤ i + 1 → to ≡ n

module _ {lows : List ℕ} {rows : RecordRows} {n m i from to : ℕ} (s : LeafSpan lows rows n m i from to) where
  from_low : (k : ℕ) → placed lows m i k ≡ true → get_or lows i 0 ≤ k
  unfolding placed
  from_low k t =
      ⊎_elim
      (λ l.
      let a : low_place k (take m lows) < i = low_below lows m s.lows_are.listed s.places i k s.lows_are.first s.leaf_in_lem (less_true k (get_or lows i 0) l) in
      let b : low_place k (take m lows) ≡ i = same_true (low_place k (take m lows)) i t in
      absurd (let q : ⊥ = omega arith in q))
      (λ f. less_false k (get_or lows i 0) f)
      (cases (less k (get_or lows i 0)))

  below_next : i + 1 < m → (k : ℕ) → placed lows m i k ≡ true → k < get_or lows (i + 1) 0
  unfolding placed
  below_next h k t =
      ⊎_elim
      (λ l. less_true k (get_or lows (i + 1) 0) l)
      (λ f.
      let a : i + 1 ≤ low_place k (take m lows) = low_from lows m s.lows_are.listed s.places (i + 1) k h (less_false k (get_or lows (i + 1) 0) f) in
      let b : low_place k (take m lows) ≡ i = same_true (low_place k (take m lows)) i t in
      absurd (let q : ⊥ = omega arith in q))
      (cases (less k (get_or lows (i + 1) 0)))

  pub span_within : to ≤ n
  span_within = ⊎_elim (λ t. (s.next (less_true (i + 1) m t)).within) (λ f. le_of_eq (s.last (less_false (i + 1) m f))) (cases (less (i + 1) m))

  pub span_rows : index.RecordsSorted rows n → Spans (placed lows m i) rows n from to
  span_rows held =
      ⊎_elim
      (λ t. spans_next lows rows n m i s.lows_are.listed s.places s.leaf_in_lem held s.lows_are.first from to (less_true (i + 1) m t) s.low (s.next (less_true (i + 1) m t)))
      (λ f. subst (λ (x : ℕ). Spans (placed lows m i) rows n from x) (sym (s.last (less_false (i + 1) m f)))
      (spans_last lows rows n m i s.lows_are.listed s.places s.leaf_in_lem held s.lows_are.first from (less_false (i + 1) m f) s.low))
      (cases (less (i + 1) m))

  -- the records behind have larger addresses than any of the leaf
  behind_above : index.RecordsSorted rows n → (k : ℕ) → placed lows m i k ≡ true → From (suc k) (drop to (records_of rows n))
  unfolding Rising From
  behind_above held k t =
      ⊎_elim
      (λ u.
      let h : i + 1 < m = less_true (i + 1) m u in
      from_weaken (drop to (records_of rows n)) (below_next h k t)
      (subst (λ (x : ℕ). From (get_or lows (i + 1) 0) (drop x (records_of rows n))) (sym (s.next h).is) (from_place (get_or lows (i + 1) 0) (records_of rows n) 0 held.rising)))
      (λ u.
      let e : to ≡ n = s.last (less_false (i + 1) m u) in
      let l : length (records_of rows n) ≡ n = length_records rows n held.room in
      subst (From (suc k)) (sym (drop_of_length-le (records_of rows n) (let x : length (records_of rows n) ≤ to = omega arith in x))) tt)
      (cases (less (i + 1) m))

  -- after a merge
  module _ {slots : SlotRows} {rows' : RecordRows} {slots' : SlotRows} {w : Walk} (held : index.RecordsSorted rows n) (took : Took (placed lows m i) rows slots n rows' slots' w) where
    abbrev before : MapState
    before = parts (records_of rows n) [] (slots_of slots)

    merged_is : records_of rows' w.records ≡ (each (merge_entry address_size) before (filter (takes (placed lows m i)) (entries (slots_of slots)))).records
    merged_is = ap (λ (x : MapState). x.records) (took.after [])

    low_stays : place (get_or lows i 0) (records_of rows' w.records) ≡ place (get_or lows i 0) (records_of rows n)
    low_stays = ap (place (get_or lows i 0)) merged_is ∙ each_over (placed lows m i) (get_or lows i 0) from_low (entries (slots_of slots)) before held.rising

    next_moves : i + 1 < m → place (get_or lows (i + 1) 0) (records_of rows' w.records) + length (records_of rows n) ≡ place (get_or lows (i + 1) 0) (records_of rows n) + length (records_of rows' w.records)
    next_moves h =
        ap (λ (rs : List (Row Record)). place (get_or lows (i + 1) 0) rs + length (records_of rows n)) merged_is
        ∙ each_under (placed lows m i) (get_or lows (i + 1) 0) (below_next h) (entries (slots_of slots)) before held.rising
        ∙ ap (λ (rs : List (Row Record)). place (get_or lows (i + 1) 0) (records_of rows n) + length rs) (sym merged_is)

    old_length : length (records_of rows n) ≡ n
    old_length = length_records rows n held.room

    new_length : length (records_of rows' w.records) ≡ w.records
    new_length = length_records rows' w.records took.rows_held.room

    pub rows_fit : n ≤ to + w.records
    rows_fit =
        ⊎_elim
        (λ t.
        let h : i + 1 < m = less_true (i + 1) m t in
        let a : place (get_or lows (i + 1) 0) (records_of rows' w.records) + length (records_of rows n) ≡ place (get_or lows (i + 1) 0) (records_of rows n) + length (records_of rows' w.records) = next_moves h in
        let b : to ≡ place (get_or lows (i + 1) 0) (records_of rows n) = (s.next h).is in
        let c : length (records_of rows n) ≡ n = old_length in
        let d : length (records_of rows' w.records) ≡ w.records = new_length in
        omega arith)
        (λ f. let e : to ≡ n = s.last (less_false (i + 1) m f) in omega arith)
        (cases (less (i + 1) m))

    pub span_after : LeafSpan lows rows' w.records m i from (to + w.records - n)
    span_after =
        let c : length (records_of rows n) ≡ n = old_length in
        let d : length (records_of rows' w.records) ≡ w.records = new_length in
        let most : place (get_or lows i 0) (records_of rows' w.records) ≤ length (records_of rows' w.records) = place_most (get_or lows i 0) (records_of rows' w.records) in
        let low : from ≡ place (get_or lows i 0) (records_of rows' w.records) = s.low.is ∙ sym low_stays in
        let inside : to ≤ n = span_within in
        record {
          lows_are = s.lows_are;
          places = s.places;
          leaf_in_lem = s.leaf_in_lem;
          low = record { is = low; within = omega arith };
          next =
              λ h.
              let a : place (get_or lows (i + 1) 0) (records_of rows' w.records) + length (records_of rows n) ≡ place (get_or lows (i + 1) 0) (records_of rows n) + length (records_of rows' w.records) = next_moves h in
              let b : to ≡ place (get_or lows (i + 1) 0) (records_of rows n) = (s.next h).is in
              record { is = omega arith; within = omega arith };
          last = λ h. let e : to ≡ n = s.last h in omega arith;
        }

-- ---- rows that move

module _ {A : Type 0} (xs : List A) (from to n : ℕ) (fits : from + n ≤ length xs) (room : to + n ≤ length xs) where
  part : length (take n (drop from xs)) ≡ n
  part = let d : length (drop from xs) ≡ length xs - from = length-drop from xs in length-take-le n (drop from xs) (omega arith)

  front : length (take to xs) ≡ to
  front = length-take-le to xs (omega arith)

  take_moved : (k : ℕ) → k ≤ to → take k (moved xs from to n) ≡ take k xs
  unfolding moved over
  take_moved k h = take-append-le k (take to xs) (take n (drop from xs) ++ drop (to + length (take n (drop from xs))) xs) (rw front h) ∙ take-take k to xs h

  part_moved : take n (drop to (moved xs from to n)) ≡ take n (drop from xs)
  unfolding moved over
  part_moved =
      ap (take n) (drop_at (take to xs) (take n (drop from xs) ++ drop (to + length (take n (drop from xs))) xs) to front)
      ∙ take_at (take n (drop from xs)) (drop (to + length (take n (drop from xs))) xs) n part

  all_moved : take (to + n) (moved xs from to n) ≡ take to xs ++ take n (drop from xs)
  unfolding moved over
  all_moved =
      ap (take (to + n)) (sym (append_assoc (take to xs) (take n (drop from xs)) (drop (to + length (take n (drop from xs))) xs)))
      ∙ take_at (take to xs ++ take n (drop from xs)) (drop (to + length (take n (drop from xs))) xs) (to + n)
      (length-append (take to xs) (take n (drop from xs)) ∙ (λ i. front i + part i))

-- n rows from row `from` on stand from the higher row `to` on; the rows before them stay.
pub record Raised (rows rows' : RecordRows) (from to n : ℕ) : Type 0 where
  pub before : records_of rows' from ≡ records_of rows from
  pub behind : take n (drop to (rows_of rows')) ≡ take n (drop from (rows_of rows))

-- n rows from row `from` on follow the first `to` rows.
pub record Lowered (rows rows' : RecordRows) (from to n : ℕ) : Type 0 where
  pub all : records_of rows' (to + n) ≡ records_of rows to ++ take n (drop from (rows_of rows))

pub raised_none : (rows : RecordRows) (from to n : ℕ) → from ≡ to → Raised rows rows from to n
raised_none rows from to n e = record { before = refl; behind = ap (λ (k : ℕ). take n (drop k (rows_of rows))) (sym e) }

pub lowered_none : (rows : RecordRows) (from to n : ℕ) → from ≡ to → Lowered rows rows from to n
unfolding records_of
lowered_none rows from to n e = record { all = take-add to n (rows_of rows) ∙ ap (λ (k : ℕ). take to (rows_of rows) ++ take n (drop k (rows_of rows))) (sym e) }

module _ (rows rows' : RecordRows) (from to n : ℕ) (all : length rows ≡ record_places) (h : from + n ≤ record_places) (g : to + n ≤ record_places) (e : rows' ≡ moved rows from to n) where
  moved_is : rows_of rows' ≡ moved (rows_of rows) from to n
  moved_is = ap rows_of e ∙ rows_moved rows all from to n h g

  pub raised_rows : from ≤ to → Raised rows rows' from to n
  unfolding records_of
  raised_rows l =
      let m : length (rows_of rows) ≡ record_places = length_rows rows in
      record {
        before = ap (take from) moved_is ∙ take_moved (rows_of rows) from to n (omega arith) (omega arith) from l;
        behind = ap (λ (rs : List (Row Record)). take n (drop to rs)) moved_is ∙ part_moved (rows_of rows) from to n (omega arith) (omega arith);
      }

  pub lowered_rows : Lowered rows rows' from to n
  unfolding records_of
  lowered_rows =
      let m : length (rows_of rows) ≡ record_places = length_rows rows in
      record { all = ap (take (to + n)) moved_is ∙ all_moved (rows_of rows) from to n (omega arith) (omega arith) }

-- ---- room

-- a test that lets more pass counts no less
many_least : (p q : Row Content → Bool) (ss : List Slot) → ((e : Row Content) → p e ≡ true → q e ≡ true) → how_many p ss ≤ how_many q ss
unfolding how_many
many_least p q [] h = unfold tally total in le_refl 0
many_least p q (s ∷ ss) h =
    let a : count (weigh p) (s ∷ ss) ≡ weigh p s.entry + count (weigh p) ss = count_cons (weigh p) s ss in
    let b : count (weigh q) (s ∷ ss) ≡ weigh q s.entry + count (weigh q) ss = count_cons (weigh q) s ss in
    let c : count (weigh p) ss ≤ count (weigh q) ss = many_least p q ss h in
    let d : weigh p s.entry ≤ weigh q s.entry = one s.entry in
    omega arith
  where
    least : (a b : Bool) → (a ≡ true → b ≡ true) → pick a 1 0 ≤ pick b 1 0
    least true true f = le_refl 1
    least true false f = clash (f refl) refl
    least false b f = zero-le

    one : (o : Option (Row Content)) → weigh p o ≤ weigh q o
    one none = unfold weigh in le_refl 0
    one (some e) = unfold weigh in least (p e) (q e) (h e)

-- the entries outside of the index, as the map counts them
outside_as : (rs : List (Row Record)) (ss : List Slot) → how_many (lacking rs) ss ≡ how_many (outside_any (parts rs [] ss)) ss
unfolding lacking outside_any
outside_as rs ss = refl

module _ {rows : RecordRows} {slots : SlotRows} {n e o : ℕ} (start : Starting rows slots n e o) where
  -- records and entries outside of the index are different addresses
  all_fit : n + o ≤ record_places
  all_fit =
      let rs = records_of rows n in
      let ks = keys (entries (slots_of slots)) in
      let a : distinct (keys rs ++ ks) ≡ length (keys rs) + length (filter (map.lacking rs) ks)
      = map.joined_count (keys rs) ks (map.lacking rs) (rising_different rs start.rows_held.rising) (keys_differ start.words.good) (λ k. ap not (sym (has_keys rs k))) in
      let b : length (keys rs) ≡ n = length_keys rs ∙ length_records rows n start.rows_held.room in
      let c : o ≡ length (filter (map.lacking rs) ks) = start.outside_is ∙ outside_as rs (slots_of slots) ∙ sym (map.outside_length (parts rs [] (slots_of slots)) (slots_of slots)) in
      let d : distinct (keys rs ++ ks) ≤ record_places = start.bound in
      omega arith

  -- so there is room for a record at each address that is hidden
  pub hiders_fit : (p : ℕ → Bool) → n + hiders p rows n slots ≤ record_places
  unfolding hiders passing hiding_at
  hiders_fit p =
      let a : how_many (passing p (hiding_at (records_of rows n))) (slots_of slots) ≤ how_many (lacking (records_of rows n)) (slots_of slots)
      = many_least (passing p (hiding_at (records_of rows n))) (lacking (records_of rows n)) (slots_of slots)
      (λ x t. go (p x.key) (lacking (records_of rows n) x) (hides_some x.item) t) in
      let b : o ≡ how_many (lacking (records_of rows n)) (slots_of slots) = start.outside_is in
      let c : n + o ≤ record_places = all_fit in
      omega arith
    where
      go : (a b c : Bool) → both a (both b c) ≡ true → b ≡ true
      go true true c t = refl
      go true false c t = t
      go false b c t = clash t refl

-- ---- a walk over the rows up to the leaf's end

module _ {lows : List ℕ} {rows : RecordRows} {slots : SlotRows} {n e o m i from to : ℕ} (start : Starting rows slots n e o) (s : LeafSpan lows rows n m i from to) where
  abbrev p : ℕ → Bool
  p = placed lows m i

  abbrev behind : List (Row Record)
  behind = drop to (records_of rows n)

  first_rows_lem : records_of rows to ++ behind ≡ records_of rows n
  unfolding records_of
  first_rows_lem =
      ap (λ (rs : List (Row Record)). rs ++ drop to (take n (rows_of rows))) (sym (take-take to n (rows_of rows) (span_within s)))
      ∙ take-append-drop to (take n (rows_of rows))

  absent : (k : ℕ) → p k ≡ true → look behind k ≡ none
  absent k t = look_low behind k (le_refl (suc k)) (behind_above s start.rows_held k t)

  -- the rows behind are out of the way
  module _ {rows₁ : RecordRows} {top : ℕ} (up : Raised rows rows₁ to top (n - to)) where
    lifted_rows : records_of rows₁ to ++ behind ≡ records_of rows n
    lifted_rows = ap (λ (rs : List (Row Record)). rs ++ behind) up.before ∙ first_rows_lem

    first_sorted : Rising (records_of rows₁ to)
    unfolding Rising records_of
    first_sorted =
        subst (From 0) (sym (up.before ∙ sym (take-take to n (rows_of rows) (span_within s)))) (from_take to (records_of rows n) 0 start.rows_held.rising)

    first_within : Within (keys (records_of rows₁ to) ++ keys (entries (slots_of slots))) (keys (records_of rows n) ++ keys (entries (slots_of slots)))
    first_within k t =
        ⊎_elim
        (λ u. has_left k (keys (records_of rows n)) (keys (entries (slots_of slots)))
        (subst (λ (rs : List (Row Record)). has k (keys rs) ≡ true) lifted_rows
        (ap (has k) (keys_append (records_of rows₁ to) behind) ∙ has_left k (keys (records_of rows₁ to)) (keys behind) u)))
        (λ u. has_right k (keys (records_of rows n)) (keys (entries (slots_of slots))) u)
        (has_parts k (keys (records_of rows₁ to)) (keys (entries (slots_of slots))) t)

    outer : Behind p (records_of rows₁ to) (slots_of slots) o behind
    outer = record { absent = absent; outside = start.outside_is ∙ ap (λ (rs : List (Row Record)). how_many (lacking rs) (slots_of slots)) (sym lifted_rows) }

    pub first_starts : StartingFirst (placed lows m i) rows₁ slots to e o
    first_starts =
        let r : n ≤ record_places = start.rows_held.room in
        let l : to ≤ n = span_within s in
        record {
          rows_held = record { room = omega arith; rising = first_sorted };
          words = start.words;
          number = start.number;
          bound = le_trans (distinct_within (keys (records_of rows₁ to) ++ keys (entries (slots_of slots))) (keys (records_of rows n) ++ keys (entries (slots_of slots))) first_within) start.bound;
          behind = behind;
          outer = outer;
        }

    -- the leaf's entries that hide their address are the same
    hiders_same : hiders p rows₁ to slots ≡ hiders p rows n slots
    unfolding hiders passing hiding_at lacking
    hiders_same =
        many_same (passing p (hiding_at (records_of rows₁ to))) (passing p (hiding_at (records_of rows n))) (slots_of slots)
        (λ x. ⊎_elim
        (λ t. ap (λ (r : Option Record). both (p x.key) (both (not (present r)) (hides_some x.item)))
        (sym (look_front (records_of rows₁ to) behind x.key (absent x.key t)) ∙ ap (λ (rs : List (Row Record)). look rs x.key) lifted_rows))
        (λ t. rw t)
        (cases (p x.key)))

    module _ {rows₂ : RecordRows} {slots' : SlotRows} {w : Walk} (top_is : top ≡ to + hiders (placed lows m i) rows n slots)
        (took : TookFirst (placed lows m i) rows₁ slots to o rows₂ slots' w) where
      -- the walk stayed below the rows that were moved
      pub walk_below : w.records ≤ top
      walk_below =
          let a : w.records + hiders p rows₂ w.records slots' ≤ to + hiders p rows₁ to slots = took.space.fewer in
          let b : hiders p rows₁ to slots ≡ hiders p rows n slots = hiders_same in
          omega arith

      behind_kept : take (n - to) (drop top (rows_of rows₂)) ≡ behind
      unfolding records_of
      behind_kept =
          let b : hiders p rows₁ to slots ≡ hiders p rows n slots = hiders_same in
          ap (take (n - to)) (rows_behind rows₂ rows₁ top (took.space.stay top (omega arith)))
          ∙ up.behind ∙ sym (drop_take to n (rows_of rows) (span_within s))

      module _ {rows₃ : RecordRows} (down : Lowered rows₂ rows₃ top w.records (n - to)) where
        now_is : records_of rows₃ (w.records + (n - to)) ≡ records_of rows₂ w.records ++ behind
        now_is = down.all ∙ ap (λ (rs : List (Row Record)). records_of rows₂ w.records ++ rs) behind_kept

        after : (ls : List Leaf) → parts (records_of rows₃ (w.records + (n - to))) ls (slots_of slots') ≡ each (merge_entry address_size) (parts (records_of rows n) ls (slots_of slots)) (filter (takes p) (entries (slots_of slots)))
        after ls =
            ap (λ (rs : List (Row Record)). parts rs ls (slots_of slots')) now_is
            ∙ ap (fronted behind) (walk_after took.walking (le_refl slot_count) ls)
            ∙ sym (each_front p behind (behind_above s start.rows_held) (entries (slots_of slots)) (parts (records_of rows₁ to) ls (slots_of slots)))
            ∙ ap (λ (rs : List (Row Record)). each (merge_entry address_size) (parts rs ls (slots_of slots)) (filter (takes p) (entries (slots_of slots)))) lifted_rows

        sorted : index.RecordsSorted rows₃ (w.records + (n - to))
        sorted =
            let a : n + hiders p rows n slots ≤ record_places = hiders_fit start p in
            let b : w.records ≤ top = walk_below in
            let l : to ≤ n = span_within s in
            record {
              room = omega arith;
              rising =
                  subst (Rising {A = Record}) (sym (ap (λ (x : MapState). x.records) (after [])))
                  (each_rising p (filter (takes p) (entries (slots_of slots))) (parts (records_of rows n) [] (slots_of slots)) start.rows_held.rising);
            }

        look_now : (k : ℕ) → p k ≡ false → look (records_of rows₃ (w.records + (n - to))) k ≡ look (records_of rows n) k
        look_now k f =
            ap (λ (rs : List (Row Record)). look rs k) now_is
            ∙ look_alike (records_of rows₂ w.records) (records_of rows₁ to) behind k (took.walking.apart k f)
            ∙ ap (λ (rs : List (Row Record)). look rs k) lifted_rows

        inside : Within (keys (records_of rows₃ (w.records + (n - to)))) (keys (records_of rows n) ++ keys (entries (slots_of slots)))
        inside k t =
            ⊎_elim
            (λ u. first_within k (took.walking.inside k u))
            (λ u. has_left k (keys (records_of rows n)) (keys (entries (slots_of slots)))
            (subst (λ (rs : List (Row Record)). has k (keys rs) ≡ true) lifted_rows
            (ap (has k) (keys_append (records_of rows₁ to) behind) ∙ has_right k (keys (records_of rows₁ to)) (keys behind) u)))
            (has_parts k (keys (records_of rows₂ w.records)) (keys behind)
            (sym (ap (has k) (keys_append (records_of rows₂ w.records) behind)) ∙ ap (λ (rs : List (Row Record)). has k (keys rs)) (sym now_is) ∙ t))

        pub took_all : Took (placed lows m i) rows slots n rows₃ slots' (walk (w.records + (n - to)) w.entries w.count w.left w.outside)
        took_all =
            record {
              rows_held = sorted;
              words = took.walking.words;
              number = took.walking.number;
              inside = inside;
              apart = look_now;
              elsewhere = took.walking.elsewhere;
              after = after;
              count = walk_count took.walking (le_refl slot_count);
              outside_is =
                  took.walking.outside_is behind outer
                  ∙ ap (λ (rs : List (Row Record)). how_many (lacking rs) (slots_of slots')) (sym now_is);
              cleared = clear_end (records_of rows₃ (w.records + (n - to))) took.clear (le_refl slot_count);
            }
