-- What a merge promises, and why its parts keep it: the walk takes the leaf's pending writes in, the leaf settles, and the
-- phantomlet is worked out.
use Rattle.std.specs.Prelude.{ℕ, suc, ◌+◌, ◌-◌, ◌^◌, ◌<◌, ◌≤◌, ◌≡◌, not, take}
use Rattle.std.proofs.Common.{zero-le, not-suc-le-zero, ◌∙◌}
use native.Mathlib.Omega.{arith}
use Rattle.std.proofs.Math.Path.{refl, sym, ap, subst}
use Rattle.std.proofs.Math.Logic.{⊎_elim}
use Rattle.std.proofs.Math.Bool.{Bool, true, false}
use mathlib.Core.List.{List, [], ◌∷◌}
use Rattle.std.proofs.Math.Option.{Option, some}
use Rattle.std.proofs.Math.ListN.{length, get_or}
use Rattle.lists.specs.Tests.{both, present, same, less}
use Rattle.lists.specs.TestLaws.{cases, clash, same_true, same_false, same_yes, same_no, less_true, less_false}
use Rattle.lists.specs.Rows.{Row, look, keys, has, filter}
use Rattle.lists.specs.RowLaws.{length_keys}
use Rattle.lists.specs.Ascending.{Ascends}
use Rattle.lists.specs.Memberships.{has_parts}
use Rattle.spec.specs.Widths.{address_size, addresses}
use Rattle.spec.specs.Records.{limits, Tuning, standard, Record}
use Rattle.spec.specs.Leaves.{Leaf, first_leaf, version_at, settle, versions_taken}
use Rattle.spec.specs.Slots.{slot_count, Content, Slot, entries}
use Rattle.spec.specs.Maps.{MapState, current, each, merges_at, merging, merge_entry, records_in, settle_map, merge_all, merge_at}
use Rattle.spec.specs.Maps as model
use Rattle.laws.specs.LeafVersions.{GoodLeaves}
use Rattle.laws.specs.LeafSwaps.{Kept}
use Rattle.laws.specs.SettleLaws.{InLeaf, records_in_leaf, settle_keeps}
use Rattle.laws.specs.LeafCuts.{standard_cut}
use Rattle.laws.specs.VersionBounds.{versions_per_merge, taken_per}
use Rattle.laws.specs.MergeLaws.{merges}
use Rattle.laws.specs.SlotCounts.{entry_at}
use Rattle.laws.specs.MapBounds.{Bounded, standard_leaves, merge_bounded}
use Rattle.indexlet.specs.Words.{slots_of}
use Rattle.index.specs.Views.{leaf_places, record_places, records_of, leaves_of}
use Rattle.index.specs.ViewLaws.{length_records}
use Rattle.index.specs.LeafPlaces.{low_place, AtLeaf, Listed}
use Rattle.index.specs.LeafViews.{parted}
use Rattle.index.specs.LeafColumns.{lows_of, versions_of, hidden_of, pending_of}
use Rattle.index.specs.LeafColumnLaws.{column_places}
use Rattle.index.specs.Settles.{SettledAs}
use Rattle.index.specs.SettleRows.{Shifted}
use Rattle.map.specs.declared.Sizes.{Sizes}
use Rattle.counters.specs.declared.Counters.{Counters}
use Rattle.counters.specs.Taking.{versioned}
use Rattle.merging.specs.declared.merge.Walk.{Walk}
use Rattle.merging.specs.declared.merge.Merged.{Merged}
use Rattle.phantomlet.specs.Phantoms.{how_many, outside_any, hides_some, hiding_in, pending_in, version_of, Phantomlet}
use Rattle.map.specs.Views.{SlotRows, LeafRows, RecordRows, Lent, by_columns, lent, map_of}
use Rattle.map.specs.MapHeld.{Tables, MapHeld}
use Rattle.phantomlet.specs.LeafTests.{none_left, placed, takes, filter_same, many_same, pending_merging, lows_are, leaves_count, live_at, placed_version, at_version, placed_own}
use Rattle.merging.specs.MergeWalks.{parts, passing, hiders, Starting, Took, both_false}
use Rattle.merging.specs.MergeShortcuts.{Numbered}
use Rattle.phantomlet.specs.MergeCounts.{Recounting, Numbers, Numbering}
use Rattle.phantomlet.specs.LeafCounts.{Ranging, Keeping, Bare, lacking, hiding_at, waiting, in_leaf, many_zero}
use Rattle.phantomlet.specs.LeafRows.{Lows, low_inside}
use Rattle.merging.specs.MergeKeys.{entry_narrow, record_narrow, rows_narrow, low_at, first_low}
use Rattle.merging.specs.MergeKeeps.{Shape, settle_shape, shape_length, shape_early, shape_unjoined, shape_after, kept_test}
use Rattle.merging.specs.MergeSettles.{leaf_keys, Resettling, settle_room, Narrow, settle_narrow, narrow_leaves, narrow_at, keys_narrow, lows_ascend}

-- A merge at address a (document 01: fold): the map, the counters and the answer are the model's, the arrays stay what
-- they must be, and no current record changes.
pub record Merges (l : Lent) (z : Sizes) (k : Counters) (a : ℕ) (l' : Lent) (r : Merged) : Type 0 where
  pub map : map_of l' r.sizes ≡ (merge_at standard k.version (map_of l z) a).map
  pub version : r.counters.version ≡ (merge_at standard k.version (map_of l z) a).version
  pub number : r.counters.number ≡ k.number
  pub installs : r.counters.installs ≡ k.installs
  pub count : r.count ≡ length (merging (map_of l z) a)
  pub held : MapHeld l' r.sizes (merge_at standard k.version (map_of l z) a).version
  pub same_current : (j : ℕ) → current (map_of l' r.sizes) j ≡ current (map_of l z) j

filter_short : {A : Type 0} (p : A → Bool) (xs : List A) → length (filter p xs) ≤ length xs
unfolding filter
filter_short p [] = zero-le
filter_short p (x ∷ xs) =
    let h : length (filter p xs) ≤ length xs = filter_short p xs in
    ⊎_elim (λ t. rw t (omega arith)) (λ t. rw t (omega arith)) (cases (p x))

-- ---- the model's merge, with and without pending writes

merge_none : (s : Tuning) (v : ℕ) (m : MapState) (a : ℕ) → merging m a ≡ [] → merge_at s v m a ≡ record { map = m; version = v }
unfolding merge_at merge_all
merge_none s v m a e = ap (merge_all s v m a) e

all_some : (s : Tuning) (v : ℕ) (m : MapState) (a : ℕ) (es : List (Row Content)) → 1 ≤ length es
    → merge_all s v m a es ≡ settle_map s v (each (merge_entry limits.bytes) m es) a
unfolding merge_all
all_some s v m a [] h = absurd (not-suc-le-zero h)
all_some s v m a (e ∷ es) h = refl

merge_some : (s : Tuning) (v : ℕ) (m : MapState) (a : ℕ) → 1 ≤ length (merging m a) → merge_at s v m a ≡ settle_map s v (each (merge_entry limits.bytes) m (merging m a)) a
unfolding merge_at
merge_some s v m a h = all_some s v m a (merging m a) h

-- ---- counts of kept leaves

-- two tests that agree on addresses, of which those that pass keep their records
hiding_same : (b c : Bool) (rs rs' : List (Row Record)) (e : Row Content) → b ≡ c → (c ≡ true → look rs' e.key ≡ look rs e.key) → both b (hiding_at rs' e) ≡ both c (hiding_at rs e)
unfolding hiding_at lacking
hiding_same b c rs rs' e q h =
    ap (λ (x : Bool). both x (at rs')) q
    ∙ ⊎_elim
    (λ t. (rw t) ∙ ap (λ (o : Option Record). both (not (present o)) (hides_some e.item)) (h t) ∙ sym (ap (λ (x : Bool). both x (at rs)) t))
    (λ f. (rw f) ∙ sym (ap (λ (x : Bool). both x (at rs)) f))
    (cases c)
  where
    at : List (Row Record) → Bool
    at zs = both (not (present (look zs e.key))) (hides_some e.item)

-- a place is one place
placed_one : (lows : List ℕ) (m i o k : ℕ) → (o ≡ i → ⊥) → placed lows m i k ≡ true → placed lows m o k ≡ false
unfolding placed
placed_one lows m i o k n t =
    same_no {m = low_place k (take m lows)} {n = o} (λ e. n (sym e ∙ same_true (low_place k (take m lows)) i t))

-- ---- numbers that moved along with their leaves

module _ (lows : List ℕ) (m : ℕ) (t : Row Content → Bool) (ss : List Slot) {xs xs' : List ℕ} {i old : ℕ} (s : Shifted xs xs' old i m) where
  kept_numbers : i < old → old ≤ m + 1 → ((j : ℕ) → j + 1 < i → get_or xs j 0 ≡ how_many (in_leaf lows m t j) ss)
      → ((y : ℕ) → i + 1 + y < old → get_or xs (i + 1 + y) 0 ≡ how_many (in_leaf lows m t (i + 1 + m - old + y)) ss) → Keeping lows m t ss xs' i (i + 1 + m - old)
  kept_numbers b d before after =
      record {
        before = λ j g. s.before j (omega arith) ∙ before j g;
        after =
            λ j g f.
            let y : i + 1 + m - old + (j - (i + 1 + m - old)) ≡ j = omega arith in
            ap (λ (n : ℕ). get_or xs' n 0) (sym y) ∙ s.after (j - (i + 1 + m - old)) (omega arith) ∙ after (j - (i + 1 + m - old)) (omega arith)
            ∙ ap (λ (n : ℕ). how_many (in_leaf lows m t n) ss) y;
      }

  made_numbers : ((j : ℕ) → j < i → get_or xs j 0 ≡ how_many (in_leaf lows m t j) ss) → ((j : ℕ) → i ≤ j → j < i + 1 + m - old → how_many (in_leaf lows m t j) ss ≡ 0)
      → Bare lows m t ss xs' (i + 1 + m - old)
  made_numbers before made j h =
      ⊎_elim
      (λ c. let g : j < i = less_true j i c in s.before j g ∙ before j g)
      (λ c. let g : i ≤ j = less_false j i c in s.zeros j g h ∙ sym (made j g h))
      (cases (less j i))

-- ---- a merge

module _ {l : Lent} {z : Sizes} (k : Counters) (h : MapHeld l z k.version) (a i : ℕ) (at : AtLeaf l.lows z.leaves a i) where
  good : GoodLeaves k.version (map_of l z).leaves
  good = h.tables.leaves

  own_test : (j : ℕ) → same (version_at (map_of l z).leaves j) (version_at (map_of l z).leaves a) ≡ placed l.lows z.leaves i j
  own_test j = placed_own l.lows l.versions z.leaves h.tables.lows_size h.tables.versions_size h.tables.lows.room good a i j at

  -- the entries that merge are those that the walk takes
  merging_is : merging (map_of l z) a ≡ filter (takes (placed l.lows z.leaves i)) (entries (slots_of l.slots))
  unfolding merging
  merging_is =
      filter_same (merges_at (map_of l z).leaves a) (takes (placed l.lows z.leaves i)) (entries (slots_of l.slots))
      (λ e. unfold merges_at takes in ap (both (present e.item.pending)) (own_test e.key))

  many_leaves : length (map_of l z).leaves ≡ z.leaves
  many_leaves = leaves_count l.lows l.versions z.leaves h.tables.lows_size h.tables.versions_size h.tables.lows.room good

  -- the phantomlet's number of the leaf is how many there are
  pending_count_lem : get_or l.pending i 0 ≡ length (merging (map_of l z) a)
  pending_count_lem =
      h.tables.phantoms.pending_is i (rw many_leaves at.inside)
      ∙ pending_merging (map_of l z) a (version_of (map_of l z) i)
      (at_version l.lows l.versions z.leaves h.tables.lows_size h.tables.versions_size h.tables.lows.room good a i at)

  -- nothing is pending: nothing changes
  pub merges_nothing : get_or l.pending i 0 ≡ 0 → Merges l z k a l (record { sizes = z; counters = k; count = 0 })
  merges_nothing e =
      let n : length (merging (map_of l z) a) ≡ 0 = sym pending_count_lem ∙ e in
      let m : merge_at standard k.version (map_of l z) a ≡ record { map = map_of l z; version = k.version } = merge_none standard k.version (map_of l z) a (none_left (merging (map_of l z) a) n) in
      record {
        map = sym (ap (λ (x : model.Merged). x.map) m);
        version = sym (ap (λ (x : model.Merged). x.version) m);
        number = refl;
        installs = refl;
        count = sym n;
        held = subst (λ (x : ℕ). MapHeld l z x) (sym (ap (λ (x : model.Merged). x.version) m)) h;
        same_current = λ j. refl;
      }

  pub starting : Starting l.rows l.slots z.records z.entries z.outside
  unfolding lacking outside_any
  starting =
      record {
        rows_held = h.tables.rows;
        words = h.tables.words;
        number = h.tables.entries_are;
        bound = h.bounded.addresses;
        outside_is = h.tables.outside_are;
      }

  -- the phantomlet's numbers of the leaf count its pending writes and its entries that hide their address
  pub numbered : (ls : LeafRows) → lows_of ls ≡ l.lows → pending_of ls ≡ l.pending → hidden_of ls ≡ l.hidden → Numbered ls l.rows l.slots z.leaves z.records i
  unfolding hiders passing hiding_in hiding_at outside_any lacking pending_in takes
  numbered ls lows_are pending_are hidden_are =
      let b : i < z.leaves = at.inside in
      let r : z.leaves ≤ leaf_places = h.tables.lows.room in
      record {
        inside = omega arith;
        pending_is =
            ap (λ (x : List ℕ). get_or x i 0) pending_are
            ∙ h.tables.phantoms.pending_is i (rw many_leaves b)
            ∙ many_same (pending_in (map_of l z) (version_of (map_of l z) i)) (takes (placed (lows_of ls) z.leaves i)) (slots_of l.slots)
            (λ x. both_turn (same (version_at (map_of l z).leaves x.key) (version_of (map_of l z) i)) (present x.item.pending)
            ∙ ap (both (present x.item.pending))
            (placed_version l.lows l.versions z.leaves h.tables.lows_size h.tables.versions_size h.tables.lows.room good i x.key b
            ∙ ap (λ (y : List ℕ). placed y z.leaves i x.key) (sym lows_are)));
        hidden_is =
            ap (λ (x : List ℕ). get_or x i 0) hidden_are
            ∙ h.tables.phantoms.hidden_is i (rw many_leaves b)
            ∙ many_same (hiding_in (map_of l z) (version_of (map_of l z) i)) (passing (placed (lows_of ls) z.leaves i) (hiding_at (records_of l.rows z.records))) (slots_of l.slots)
            (λ x. ap (λ (t : Bool). both t (both (not (present (look (records_of l.rows z.records) x.key))) (hides_some x.item)))
            (placed_version l.lows l.versions z.leaves h.tables.lows_size h.tables.versions_size h.tables.lows.room good i x.key b
            ∙ ap (λ (y : List ℕ). placed y z.leaves i x.key) (sym lows_are)));
      }
    where
      both_turn : (b c : Bool) → both b c ≡ both c b
      both_turn true true = refl
      both_turn true false = refl
      both_turn false true = refl
      both_turn false false = refl

  -- what finding the leaf's rows asks
  pub lows_held : Lows l.lows z.leaves
  lows_held =
      record {
        listed = h.tables.lows;
        first = first_low l.lows l.versions z.leaves h.tables.lows_size h.tables.versions_size h.tables.lows.some h.tables.lows.room good;
        narrow = h.tables.lows_narrow;
      }

  -- what finding the leaf's addresses asks
  pub ranging : Ranging l.lows z.leaves i (i + 1)
  ranging =
      record {
        listed = h.tables.lows;
        first = first_low l.lows l.versions z.leaves h.tables.lows_size h.tables.versions_size h.tables.lows.some h.tables.lows.room good;
        inside = at.inside;
        some = omega arith;
      }

  -- something is pending, and was taken in
  module _ (some_pending : get_or l.pending i 0 ≡ 0 → ⊥) (rows : RecordRows) (slots : SlotRows) (w : Walk)
      (took : Took (placed l.lows z.leaves i) l.rows l.slots z.records rows slots w) where
    ks : List ℕ
    ks = leaf_keys l.lows rows w.records z.leaves i

    after : MapState
    after = parts (records_of rows w.records) (map_of l z).leaves (slots_of slots)

    after_is : after ≡ each (merge_entry address_size) (map_of l z) (merging (map_of l z) a)
    unfolding after
    after_is = took.after (map_of l z).leaves ∙ ap (each (merge_entry address_size) (map_of l z)) (sym merging_is)

    keys_in : keys (records_in after a) ≡ ks
    unfolding records_in leaf_keys after ks
    keys_in =
        ap keys
        (filter_same (λ (r : Row Record). same (version_at (map_of l z).leaves r.key) (version_at (map_of l z).leaves a))
        (λ (r : Row Record). placed l.lows z.leaves i r.key) (records_of rows w.records) (λ r. own_test r.key))

    settled_to : List ℕ → model.Merged
    settled_to qs =
        record {
          map = parts (records_of rows w.records) (settle standard k.version (map_of l z).leaves a qs) (slots_of slots);
          version = k.version + versions_taken standard qs;
        }

    merged_is : merge_at standard k.version (map_of l z) a ≡ settled_to ks
    unfolding settled_to settle_map after
    merged_is =
        merge_some standard k.version (map_of l z) a (let e : get_or l.pending i 0 ≡ length (merging (map_of l z) a) = pending_count_lem in omega arith)
        ∙ ap (λ (m : MapState). settle_map standard k.version m a) (sym after_is)
        ∙ ap settled_to keys_in

    bounded : Bounded standard (merge_at standard k.version (map_of l z) a).version (merge_at standard k.version (map_of l z) a).map
    bounded = merge_bounded a standard_cut h.bounded

    ks_short : length ks ≤ record_places
    unfolding ks leaf_keys
    ks_short =
        let p : Row Record → Bool = λ (r : Row Record). placed l.lows z.leaves i r.key in
        let x : length (records_of rows w.records) ≡ w.records = length_records rows w.records took.rows_held.room in
        let y : w.records ≤ record_places = took.rows_held.room in
        let s : length (filter (λ (r : Row Record). placed l.lows z.leaves i r.key) (records_of rows w.records)) ≤ length (records_of rows w.records) = filter_short (λ (r : Row Record). placed l.lows z.leaves i r.key) (records_of rows w.records) in
        let t : length (keys (filter (λ (r : Row Record). placed l.lows z.leaves i r.key) (records_of rows w.records))) ≡ length (filter (λ (r : Row Record). placed l.lows z.leaves i r.key) (records_of rows w.records)) = length_keys (filter (λ (r : Row Record). placed l.lows z.leaves i r.key) (records_of rows w.records)) in
        omega arith

    pub resettling : k.version + versions_per_merge standard < 2 ^ 64 → Resettling l.lows rows w.records z.leaves i k.version
    unfolding ks settled_to
    resettling room =
        let b : length (settle standard k.version (map_of l z).leaves a ks) ≤ leaf_places
        = subst (λ (x : model.Merged). length x.map.leaves ≤ leaf_places) merged_is (standard_leaves bounded) in
        let c : length (map_of l z).leaves ≡ z.leaves = many_leaves in
        let d : z.leaves ≤ leaf_places = h.tables.lows.room in
        let e : length (map_of l z).leaves + versions_taken standard ks ≤ leaf_places + 1 = settle_room k.version (map_of l z).leaves a ks good.covers (omega arith) b in
        let f : versions_taken standard ks ≤ versions_per_merge standard = taken_per standard_cut ks ks_short in
        record {
          rows_held = took.rows_held;
          lows_are = lows_held;
          leaf_in_lem = at.inside;
          room = subst (λ (n : ℕ). n + versions_taken standard ks ≤ leaf_places + 1) c e;
          next = omega arith;
        }

    -- the keys of the index are addresses
    keys_fit : (j : ℕ) → has j (keys (records_of rows w.records)) ≡ true → j < addresses
    keys_fit j e =
        ⊎_elim
        (record_narrow l.rows z.records h.tables.rows h.tables.rows_narrow j)
        (entry_narrow l.slots h.tables.words j)
        (has_parts j (keys (records_of l.rows z.records)) (keys (entries (slots_of l.slots))) (took.inside j e))

    old_narrow : Narrow (map_of l z).leaves
    old_narrow =
        narrow_leaves (map_of l z).leaves (λ j b.
        let g : j < z.leaves = subst (λ (n : ℕ). j < n) many_leaves b in
        subst (λ (x : ℕ). x < addresses) (sym (low_at l.lows l.versions z.leaves j h.tables.lows_size h.tables.versions_size h.tables.lows.room g)) (h.tables.lows_narrow j g))

    -- the leaf has settled
    module _ (ls : LeafRows) (m v : ℕ) (all : length ls ≡ leaf_places)
        (settled : SettledAs l.lows l.versions z.leaves i k.version (leaf_keys l.lows rows w.records z.leaves i) (lows_of ls) (versions_of ls) m v)
        (hidden_shifts : Shifted l.hidden (hidden_of ls) z.leaves i m) (pending_shifts : Shifted l.pending (pending_of ls) z.leaves i m) where
      abbrev lows : List ℕ
      lows = lows_of ls

      abbrev versions : List ℕ
      versions = versions_of ls

      al : length lows ≡ leaf_places
      al = column_places 0 ls all

      av : length versions ≡ leaf_places
      av = column_places 1 ls all

      now : MapState
      now = parts (records_of rows w.records) (leaves_of lows versions m) (slots_of slots)

      leaves_is : leaves_of lows versions m ≡ settle standard k.version (map_of l z).leaves a ks
      unfolding ks
      leaves_is = settled.leaves a at

      map_is : now ≡ (merge_at standard k.version (map_of l z) a).map
      unfolding now settled_to
      map_is =
          ap (λ (ls : List Leaf). parts (records_of rows w.records) ls (slots_of slots)) leaves_is
          ∙ sym (ap (λ (x : model.Merged). x.map) merged_is)

      version_is : v ≡ (merge_at standard k.version (map_of l z) a).version
      unfolding settled_to ks
      version_is = settled.version ∙ sym (ap (λ (x : model.Merged). x.version) merged_is)

      -- so many versions were used
      all_taken : k.version + (v - k.version) ≡ v
      all_taken =
          let e : v ≡ k.version + versions_taken standard (leaf_keys l.lows rows w.records z.leaves i) = settled.version in
          omega arith

      now_bounded : Bounded standard (merge_at standard k.version (map_of l z) a).version now
      now_bounded = subst (Bounded standard (merge_at standard k.version (map_of l z) a).version) (sym map_is) bounded

      now_good : GoodLeaves (merge_at standard k.version (map_of l z) a).version (leaves_of lows versions m)
      unfolding now
      now_good = now_bounded.leaves

      now_narrow : Narrow (leaves_of lows versions m)
      unfolding ks leaf_keys
      now_narrow =
          subst Narrow (sym leaves_is)
          (settle_narrow standard k.version (map_of l z).leaves a ks good.covers old_narrow
          (keys_narrow (λ (r : Row Record). placed l.lows z.leaves i r.key) (records_of rows w.records) keys_fit))

      count_is : length (leaves_of lows versions m) ≡ m
      count_is = leaves_count lows versions m al av settled.room now_good

      now_listed : Listed lows m
      now_listed =
          record {
            some = settled.some;
            room = settled.room;
            rising = subst (Ascends 0) (lows_are lows versions m al av settled.room now_good) (lows_ascend 0 (leaves_of lows versions m) now_good.rising);
          }

      -- the numbers of the leaf at place j, by its place and by its version
      hidden_test : (j : ℕ) → j < m → (e : Row Content) → in_leaf lows m (hiding_at (records_of rows w.records)) j e ≡ hiding_in now (version_of now j) e
      unfolding now in_leaf hiding_in hiding_at outside_any lacking
      hidden_test j g e =
          ap (λ (t : Bool). both t (both (not (present (look (records_of rows w.records) e.key))) (hides_some e.item)))
          (sym (placed_version lows versions m al av settled.room now_good j e.key g))

      pending_test : (j : ℕ) → j < m → (e : Row Content) → in_leaf lows m waiting j e ≡ pending_in now (version_of now j) e
      unfolding now in_leaf pending_in waiting
      pending_test j g e =
          ap (λ (t : Bool). both t (present e.item.pending))
          (sym (placed_version lows versions m al av settled.room now_good j e.key g))

      -- ---- the leaves that the merge keeps

      shape : Shape (map_of l z).leaves (leaves_of lows versions m) i
      shape =
          subst (λ (ls : List Leaf). Shape (map_of l z).leaves ls i) (sym leaves_is)
          (settle_shape standard k.version (map_of l z).leaves a i ks
          (parted a (map_of l z).leaves i (let s : 1 ≤ z.leaves = h.tables.lows.some in let e : length (map_of l z).leaves ≡ z.leaves = many_leaves in omega arith)
          (at.is ∙ ap (low_place a) (sym (lows_are l.lows l.versions z.leaves h.tables.lows_size h.tables.versions_size h.tables.lows.room good))))
          (rw many_leaves at.inside))

      keeps : Kept k.version (map_of l z).leaves (leaves_of lows versions m) a
      unfolding records_in after
      keeps =
          subst (λ (ls : List Leaf). Kept k.version (map_of l z).leaves ls a) (sym leaves_is)
          (settle_keeps standard_cut good
          (subst (InLeaf (map_of l z).leaves a) keys_in (records_in_leaf (map_of l z).leaves a (records_of rows w.records) took.rows_held.rising)))

      -- the leaf at place j is the one that stood at place o: it holds the addresses that it held
      same_leaf : (j o : ℕ) → j < m → o < z.leaves → get_or (leaves_of lows versions m) j first_leaf ≡ get_or (map_of l z).leaves o first_leaf
          → (x : ℕ) → placed lows m j x ≡ placed l.lows z.leaves o x
      same_leaf j o g b e x =
          let u : (get_or (leaves_of lows versions m) j first_leaf).version ≡ (get_or (map_of l z).leaves o first_leaf).version = ap (λ (y : Leaf). y.version) e in
          sym (placed_version lows versions m al av settled.room now_good j x g)
          ∙ kept_test keeps now_good (get_or (leaves_of lows versions m) j first_leaf).version
          (live_at (leaves_of lows versions m) j _ (rw count_is g) refl)
          (subst (λ (y : ℕ). y ≤ k.version) (sym u) (good.old _ (live_at (map_of l z).leaves o _ (rw many_leaves b) refl))) x
          ∙ ap (same (version_at (map_of l z).leaves x)) u
          ∙ placed_version l.lows l.versions z.leaves h.tables.lows_size h.tables.versions_size h.tables.lows.room good o x b

      module _ (j o : ℕ) (g : j < m) (b : o < z.leaves) (n : o ≡ i → ⊥) (e : get_or (leaves_of lows versions m) j first_leaf ≡ get_or (map_of l z).leaves o first_leaf) where
        hidden_kept : get_or l.hidden o 0 ≡ how_many (in_leaf lows m (hiding_at (records_of rows w.records)) j) (slots_of slots)
        unfolding in_leaf hiding_in hiding_at outside_any lacking
        hidden_kept =
            h.tables.phantoms.hidden_is o (rw many_leaves b)
            ∙ many_same (hiding_in (map_of l z) (version_of (map_of l z) o)) (in_leaf l.lows z.leaves (hiding_at (records_of l.rows z.records)) o) (slots_of l.slots)
            (λ x. ap (λ (t : Bool). both t (both (not (present (look (records_of l.rows z.records) x.key))) (hides_some x.item)))
            (placed_version l.lows l.versions z.leaves h.tables.lows_size h.tables.versions_size h.tables.lows.room good o x.key b))
            ∙ sym (took.elsewhere (in_leaf l.lows z.leaves (hiding_at (records_of l.rows z.records)) o)
            (λ x t. ap (λ (c : Bool). both c (both (not (present (look (records_of l.rows z.records) x.key))) (hides_some x.item))) (placed_one l.lows z.leaves i o x.key n t)))
            ∙ many_same (in_leaf l.lows z.leaves (hiding_at (records_of l.rows z.records)) o) (in_leaf lows m (hiding_at (records_of rows w.records)) j) (slots_of slots)
            (λ x. sym (hiding_same (placed lows m j x.key) (placed l.lows z.leaves o x.key) (records_of l.rows z.records) (records_of rows w.records) x
            (same_leaf j o g b e x.key)
            (λ t. took.apart x.key (placed_one l.lows z.leaves o i x.key (λ q. n (sym q)) t))))

        pending_kept : get_or l.pending o 0 ≡ how_many (in_leaf lows m waiting j) (slots_of slots)
        unfolding in_leaf pending_in waiting
        pending_kept =
            h.tables.phantoms.pending_is o (rw many_leaves b)
            ∙ many_same (pending_in (map_of l z) (version_of (map_of l z) o)) (in_leaf l.lows z.leaves waiting o) (slots_of l.slots)
            (λ x. ap (λ (t : Bool). both t (present x.item.pending))
            (placed_version l.lows l.versions z.leaves h.tables.lows_size h.tables.versions_size h.tables.lows.room good o x.key b))
            ∙ sym (took.elsewhere (in_leaf l.lows z.leaves waiting o)
            (λ x t. ap (λ (c : Bool). both c (present x.item.pending)) (placed_one l.lows z.leaves i o x.key n t)))
            ∙ many_same (in_leaf l.lows z.leaves waiting o) (in_leaf lows m waiting j) (slots_of slots)
            (λ x. ap (λ (c : Bool). both c (present x.item.pending)) (sym (same_leaf j o g b e x.key)))

      -- where they stand
      to_is : i + 1 + m - z.leaves ≡ length shape.front
      to_is =
          let e : length (leaves_of lows versions m) ≡ length shape.front + (length (map_of l z).leaves - suc i) = shape_length shape in
          let f : length (leaves_of lows versions m) ≡ m = count_is in
          let c : length (map_of l z).leaves ≡ z.leaves = many_leaves in
          let b : i < z.leaves = at.inside in
          omega arith

      early_leaf : (j : ℕ) → j + 1 < i → j < m
      early_leaf j b =
          let e : length (leaves_of lows versions m) ≡ length shape.front + (length (map_of l z).leaves - suc i) = shape_length shape in
          let f : length (leaves_of lows versions m) ≡ m = count_is in
          let c : i ≤ length shape.front = shape.long in
          omega arith

      later_leaf : (y : ℕ) → i + 1 + y < z.leaves → i + 1 + m - z.leaves + y < m
      later_leaf y b =
          let e : length (leaves_of lows versions m) ≡ length shape.front + (length (map_of l z).leaves - suc i) = shape_length shape in
          let f : length (leaves_of lows versions m) ≡ m = count_is in
          let c : length (map_of l z).leaves ≡ z.leaves = many_leaves in
          let d : i + 1 + m - z.leaves ≡ length shape.front = to_is in
          omega arith

      later_is : (y : ℕ) → get_or (leaves_of lows versions m) (i + 1 + m - z.leaves + y) first_leaf ≡ get_or (map_of l z).leaves (i + 1 + y) first_leaf
      later_is y = ap (λ (q : ℕ). get_or (leaves_of lows versions m) (q + y) first_leaf) to_is ∙ shape_after shape y

      -- ---- no lock is left, and no leaf was joined

      module _ (unlocked : w.left ≡ 0) (unjoined : z.leaves ≤ m) where
        unmoved : (j : ℕ) → j < i → get_or (leaves_of lows versions m) j first_leaf ≡ get_or (map_of l z).leaves j first_leaf
        unmoved =
            shape_unjoined shape
            (let f : length (leaves_of lows versions m) ≡ m = count_is in let c : length (map_of l z).leaves ≡ z.leaves = many_leaves in omega arith)

        -- where an address lay before
        place : ℕ → ℕ
        place x = low_place x (take z.leaves l.lows)

        place_in : (x : ℕ) → place x < z.leaves
        unfolding place
        place_in x = low_inside l.lows z.leaves h.tables.lows h.tables.lows_size x

        place_is : (x : ℕ) → placed l.lows z.leaves (place x) x ≡ true
        unfolding place placed
        place_is x = same_yes {m = low_place x (take z.leaves l.lows)} {n = low_place x (take z.leaves l.lows)} refl

        -- an address of another leaf lies in none that the merge made
        elsewhere : (x : ℕ) → placed l.lows z.leaves i x ≡ false → (j : ℕ) → i ≤ j → j < i + 1 + m - z.leaves → placed lows m j x ≡ false
        elsewhere x f j a b =
            let o : place x < z.leaves = place_in x in
            ⊎_elim
            (λ t. let c : place x < i = less_true (place x) i t in
            placed_one lows m (place x) j x (λ q. let y : ⊥ = omega arith in y)
            (same_leaf (place x) (place x) (omega arith) o (unmoved (place x) c) x ∙ place_is x))
            (λ t. let c : i ≤ place x = less_false (place x) i t in
            ⊎_elim
            (λ u. clash (ap (λ (n : ℕ). placed l.lows z.leaves n x) (sym (same_true (place x) i u)) ∙ place_is x) f)
            (λ u. let n : place x ≡ i → ⊥ = same_false (place x) i u in
            let y : i + 1 + (place x - i - 1) ≡ place x = omega arith in
            let g : i + 1 + (place x - i - 1) < z.leaves = omega arith in
            placed_one lows m (i + 1 + m - z.leaves + (place x - i - 1)) j x (λ q. let r : ⊥ = omega arith in r)
            (same_leaf (i + 1 + m - z.leaves + (place x - i - 1)) (i + 1 + (place x - i - 1)) (later_leaf (place x - i - 1) g) g (later_is (place x - i - 1)) x
            ∙ ap (λ (n : ℕ). placed l.lows z.leaves n x) y ∙ place_is x))
            (cases (same (place x) i)))
            (cases (less (place x) i))

        -- no entry of the leaf that is left counts
        none_made : (t : Row Content → Bool) → ((y : ℕ) → y < slot_count → (e : Row Content) → entry_at (slots_of slots) y ≡ some e → placed l.lows z.leaves i e.key ≡ true → t e ≡ false)
            → (j : ℕ) → i ≤ j → j < i + 1 + m - z.leaves → how_many (in_leaf lows m t j) (slots_of slots) ≡ 0
        unfolding in_leaf
        none_made t quiet j a b =
            many_zero (in_leaf lows m t j) (slots_of slots)
            (λ y g e q.
            ⊎_elim
            (λ c. ap (both (placed lows m j e.key)) (quiet y (let s : length (slots_of slots) ≡ slot_count = took.words.good.size in omega arith) e q c) ∙ both_false (placed lows m j e.key))
            (λ c. ap (λ (d : Bool). both d (t e)) (elsewhere e.key c j a b))
            (cases (placed l.lows z.leaves i e.key)))

        hidden_bare : Bare lows m (hiding_at (records_of rows w.records)) (slots_of slots) (hidden_of ls) (i + 1 + m - z.leaves)
        hidden_bare =
            let b : i < z.leaves = at.inside in
            made_numbers lows m (hiding_at (records_of rows w.records)) (slots_of slots) hidden_shifts (λ j g. hidden_kept j j (omega arith) (omega arith) (λ x. let y : ⊥ = omega arith in y) (unmoved j g))
            (none_made (hiding_at (records_of rows w.records)) (λ y g e q c. (took.cleared unlocked y g e q c).0))

        pending_bare : Bare lows m waiting (slots_of slots) (pending_of ls) (i + 1 + m - z.leaves)
        pending_bare =
            let b : i < z.leaves = at.inside in
            made_numbers lows m waiting (slots_of slots) pending_shifts (λ j g. pending_kept j j (omega arith) (omega arith) (λ x. let y : ⊥ = omega arith in y) (unmoved j g))
            (none_made waiting (λ y g e q c. (took.cleared unlocked y g e q c).1))

      pub recounting : Recounting rows ls slots w.records m i z.leaves w.left
      recounting =
          let e : length (leaves_of lows versions m) ≡ length shape.front + (length (map_of l z).leaves - suc i) = shape_length shape in
          let f : length (leaves_of lows versions m) ≡ m = count_is in
          let c : length (map_of l z).leaves ≡ z.leaves = many_leaves in
          let d : i ≤ length shape.front = shape.long in
          let q : 1 ≤ length shape.front = shape.some in
          let b : i < z.leaves = at.inside in
          record {
            rows_held = took.rows_held;
            listed = now_listed;
            first = first_low lows versions m al av settled.some settled.room now_good;
            words = took.words;
            leaf_in_lem = at.inside;
            old_in = h.tables.lows.room;
            some_made = omega arith;
            one_less = omega arith;
            hidden_kept =
                kept_numbers lows m (hiding_at (records_of rows w.records)) (slots_of slots) hidden_shifts at.inside (omega arith)
                (λ j g. hidden_kept j j (early_leaf j g) (omega arith) (λ x. let y : ⊥ = omega arith in y) (shape_early shape j g))
                (λ y g. hidden_kept (i + 1 + m - z.leaves + y) (i + 1 + y) (later_leaf y g) g (λ x. let u : ⊥ = omega arith in u) (later_is y));
            pending_kept =
                kept_numbers lows m waiting (slots_of slots) pending_shifts at.inside (omega arith)
                (λ j g. pending_kept j j (early_leaf j g) (omega arith) (λ x. let y : ⊥ = omega arith in y) (shape_early shape j g))
                (λ y g. pending_kept (i + 1 + m - z.leaves + y) (i + 1 + y) (later_leaf y g) g (λ x. let u : ⊥ = omega arith in u) (later_is y));
            hidden_bare = hidden_bare;
            pending_bare = pending_bare;
          }

      -- the phantomlet is worked out
      module _ (ls' : LeafRows) (recounted : Numbering rows ls slots w.records m ls') where
        abbrev hidden : List ℕ
        hidden = hidden_of ls'

        abbrev pending : List ℕ
        pending = pending_of ls'

        counting : Numbers rows lows slots w.records m hidden pending
        counting = subst (λ (x : List ℕ). Numbers rows x slots w.records m hidden pending) recounted.same.lows recounted.numbers

        now_phantoms : Phantomlet now hidden pending
        unfolding now
        now_phantoms =
            record {
              hidden_is =
                  λ j b.
                  let g : j < m = subst (λ (n : ℕ). j < n) count_is b in
                  counting.hidden_is j g
                  ∙ many_same (in_leaf lows m (hiding_at (records_of rows w.records)) j) (hiding_in now (version_of now j)) (slots_of slots) (hidden_test j g);
              pending_is =
                  λ j b.
                  let g : j < m = subst (λ (n : ℕ). j < n) count_is b in
                  counting.pending_is j g ∙ many_same (in_leaf lows m waiting j) (pending_in now (version_of now j)) (slots_of slots) (pending_test j g);
            }

        outside_all : w.outside ≡ how_many (outside_any now) (slots_of slots)
        unfolding now lacking outside_any
        outside_all = took.outside_is

        now_tables : Tables (by_columns rows lows versions hidden pending slots) (record { records = w.records; leaves = m; entries = w.entries; outside = w.outside })
            (merge_at standard k.version (map_of l z) a).version
        unfolding now
        now_tables =
            record {
              rows = took.rows_held;
              rows_narrow = rows_narrow rows w.records took.rows_held keys_fit;
              lows = now_listed;
              lows_narrow =
                  λ j g.
                  subst (λ (x : ℕ). x < addresses) (low_at lows versions m j al av settled.room g) (narrow_at (leaves_of lows versions m) j now_narrow (rw count_is g));
              lows_size = al;
              versions_size = av;
              leaves = now_good;
              words = took.words;
              entries_are = took.number;
              hidden_size = counting.hidden_size;
              pending_size = counting.pending_size;
              outside_are = outside_all;
              phantoms = now_phantoms;
            }

        -- what the merge leaves
        abbrev leaving : Counters → Merged
        leaving n = record { sizes = record { records = w.records; leaves = m; entries = w.entries; outside = w.outside }; counters = n; count = w.count }

        -- the versions that settling used are taken
        merges_columns : {n : Counters} → n ≡ versioned k (v - k.version) → Merges l z k a (by_columns rows lows versions hidden pending slots) (leaving n)
        unfolding now
        merges_columns taken =
            record {
              map = map_is;
              version = ap (λ (x : Counters). x.version) taken ∙ all_taken ∙ version_is;
              number = ap (λ (x : Counters). x.number) taken;
              installs = ap (λ (x : Counters). x.installs) taken;
              count = took.count ∙ ap length (sym merging_is);
              held = record { tables = now_tables; bounded = now_bounded };
              same_current =
                  λ j.
                  ap (λ (x : MapState). current x j) map_is
                  ∙ (merges a standard_cut h.bounded.slots h.bounded.records h.bounded.leaves).same_current j;
            }

        pub merges_some : {n : Counters} → n ≡ versioned k (v - k.version) → Merges l z k a (lent rows ls' slots) (leaving n)
        merges_some {n} taken =
            subst (λ (x : List ℕ). Merges l z k a (by_columns rows x (versions_of ls') hidden pending slots) (leaving n)) (sym recounted.same.lows)
            (subst (λ (x : List ℕ). Merges l z k a (by_columns rows lows x hidden pending slots) (leaving n)) (sym recounted.same.versions) (merges_columns taken))
