-- The limits of a map, as one invariant: the slots are good, records rise, leaves are good and each but the first holds
-- a record, and refusals 10 and 11 keep the waiting and locked addresses, and those with the index, within their limits.
-- Lock (under the tests of those refusals), unlock, install and merge keep it. From it follow that the index has at most
-- `map_limit` records and that there is at most one leaf more: document 01's 1,025 leaves are proved, not refused.
use Rattle.std.specs.Prelude.{◌+◌, ℕ, suc, ◌<◌, ◌≤◌, ◌≡◌, refl, Bool, true, false, length}
use Rattle.std.proofs.Common.{zero-le, le_of_eq, lt_of_le_of_lt, arith, sym, ◌∙◌, ⊎_elim}
use Rattle.std.proofs.Math.Nat.{le_trans}
use Rattle.std.proofs.Math.Path.{ap, subst}
use Rattle.std.proofs.Math.Bool.{not}
use mathlib.Core.List.{List, [], ◌∷◌, ◌++◌, Memᴰ}
use Rattle.std.proofs.Math.Option.{Option, none, some}
use Rattle.lists.specs.Tests.{pick, both, maybe, present, same}
use Rattle.lists.specs.TestLaws.{cases, clash, same_false}
use Rattle.lists.specs.Rows.{Row, look, keys, has, filter, distinct, Different, Rising}
use Rattle.lists.specs.RowLaws.{has_keys, length_keys, rising_nil, rising_different}
use Rattle.lists.specs.Ascending.{mem_filter, mem_keys, keys_mem}
use Rattle.lists.specs.Counting.{distinct_within, different_count, different_within}
use Rattle.lists.specs.Memberships.{member_has, has_member, has_left, has_right, has_parts}
use Rattle.spec.specs.Records.{limits, Tuning, standard, Record, Write}
use Rattle.spec.specs.Leaves.{Leaf, version_at, settle}
use Rattle.spec.specs.Slots.{slot_count, Slot, Pending, Content, is_idle, entries, content_of}
use Rattle.spec.specs.Maps.{MapState, fresh_map, waiting_with, addresses_with, without_lock, each, with_slots, lock_all, unlock_all, install_all, merges_at, merging, merge_entry, records_in, settle_map, merge_all, merge_at}
use Rattle.laws.specs.SlotLaws.{Good, fresh_good, present_content, keys_differ}
use Rattle.spec.specs.GoodTuning.{GoodCut}
use Rattle.laws.specs.LeafLaws.{GoodLeaves, fresh_leaves_lem}
use Rattle.laws.specs.SettleLaws.{records_in_leaf}
use Rattle.laws.specs.LeafFills.{Filled, fresh_filled, settle_filled, leaf_count}
use Rattle.laws.specs.MapLaws.{idle_holder, idle_pending, locked_by, unlocked, written_by, LockRoom, Installable, lock_good, lock_says, unlock_good, unlock_says, install_good, install_says}
use Rattle.laws.specs.MergeLaws.{Merges, merges, merging_leaf, merged_good, merged_rising, merged_holder, merged_leaves, merged_look, merged_pending}

-- What holds of a map with the numbers s of its own, v the last version given.
pub record Bounded (s : Tuning) (v : ℕ) (m : MapState) : Type 0 where
  pub slots : Good limits.bytes m.slots
  pub records : Rising m.records
  pub leaves : GoodLeaves v m.leaves
  -- every leaf but the first holds a record
  pub filled : Filled m.records m.leaves
  -- waiting and locked addresses
  pub waiting : length (entries m.slots) ≤ s.waiting_limit
  -- index, waiting and locked addresses
  pub addresses : distinct (keys m.records ++ keys (entries m.slots)) ≤ limits.map_limit

-- ---- what follows

rising_within : (rs : List (Row Record)) (ks : List ℕ) → Rising rs → length rs ≤ distinct (keys rs ++ ks)
rising_within rs ks f =
    le_trans (le_of_eq (sym (length_keys rs)))
    (different_within (keys rs) (keys rs ++ ks) (rising_different rs f) (λ k e. has_left k (keys rs) ks e))

pub record_count : {s : Tuning} {v : ℕ} {m : MapState} → Bounded s v m → length m.records ≤ limits.map_limit
record_count {s} {v} {m} b = le_trans (rising_within m.records (keys (entries m.slots)) b.records) b.addresses

pub leaf_limit_lem : {s : Tuning} {v : ℕ} {m : MapState} → Bounded s v m → length m.leaves ≤ suc limits.map_limit
leaf_limit_lem {s} {v} {m} b =
    let l : length m.leaves ≤ suc (length m.records) = leaf_count b.leaves b.filled in
    let r : length m.records ≤ limits.map_limit = record_count b in
    omega arith

-- there are never more than 1,025 leaves
pub standard_leaves : {v : ℕ} {m : MapState} → Bounded standard v m → length m.leaves ≤ limits.map_limit + 1
standard_leaves {v} {m} b = leaf_limit_lem b

-- ---- an empty map

pub fresh_bounded : (s : Tuning) → Bounded s 0 fresh_map
fresh_bounded s =
    record {
      slots = fresh_good limits.bytes;
      records = rising_nil Record;
      leaves = fresh_leaves_lem;
      filled = fresh_filled [];
      waiting = unfold entries in zero-le;
      addresses = unfold entries keys distinct in zero-le;
    }

-- ---- counts of entries

-- an address is waiting or locked
abbrev Busy : List Slot → ℕ → Type 0
Busy ss k = is_idle (content_of ss k) ≡ false

pub entry_busy : {bytes : ℕ} {ss : List Slot} → Good bytes ss → (k : ℕ) → has k (keys (entries ss)) ≡ not (is_idle (content_of ss k))
entry_busy {bytes} {ss} g k = has_keys (entries ss) k ∙ present_content g k

has_busy : {bytes : ℕ} {ss : List Slot} → Good bytes ss → (k : ℕ) → has k (keys (entries ss)) ≡ true → Busy ss k
has_busy {bytes} {ss} g k e =
    ⊎_elim (λ t. clash e (entry_busy g k ∙ ap not t)) (λ t. t) (cases (is_idle (content_of ss k)))

busy_has : {bytes : ℕ} {ss : List Slot} → Good bytes ss → (k : ℕ) → Busy ss k → has k (keys (entries ss)) ≡ true
busy_has g k e = entry_busy g k ∙ ap not e

-- addresses that all stand in a list are no more than it has different numbers
entries_within : {bytes : ℕ} {ss : List Slot} → Good bytes ss → (ys : List ℕ) → ((k : ℕ) → Busy ss k → has k ys ≡ true)
    → length (entries ss) ≤ distinct ys
entries_within {bytes} {ss} g ys h =
    le_trans (le_of_eq (sym (length_keys (entries ss))))
    (different_within (keys (entries ss)) ys (keys_differ g) (λ k e. h k (has_busy g k e)))

addresses_within : {bytes : ℕ} {ss : List Slot} → Good bytes ss → (rs : List (Row Record)) (zs : List ℕ)
    → ((k : ℕ) → has k (keys rs) ≡ true → has k zs ≡ true) → ((k : ℕ) → Busy ss k → has k zs ≡ true)
    → distinct (keys rs ++ keys (entries ss)) ≤ distinct zs
addresses_within {bytes} {ss} g rs zs a b =
    distinct_within (keys rs ++ keys (entries ss)) zs
    (λ k e. ⊎_elim (a k) (λ t. b k (has_busy g k t)) (has_parts k (keys rs) (keys (entries ss)) e))

-- the entries, counted as different addresses
entry_number : {s : Tuning} {v : ℕ} {m : MapState} → Bounded s v m → distinct (keys (entries m.slots)) ≤ s.waiting_limit
entry_number {s} {v} {m} b =
    le_trans (le_of_eq (different_count (keys (entries m.slots)) (keys_differ b.slots) ∙ length_keys (entries m.slots))) b.waiting

-- other slots, whose addresses all stand in a list within the limits
slots_bounded : {s : Tuning} {v : ℕ} {m : MapState} → Bounded s v m → (ss : List Slot) (ys : List ℕ) → Good limits.bytes ss
    → ((k : ℕ) → Busy ss k → has k ys ≡ true) → distinct ys ≤ s.waiting_limit → distinct (keys m.records ++ ys) ≤ limits.map_limit
    → Bounded s v (with_slots m ss)
slots_bounded {s} {v} {m} b ss ys g h p q =
    unfold with_slots in
    record {
      slots = g;
      records = b.records;
      leaves = b.leaves;
      filled = b.filled;
      waiting = le_trans (entries_within g ys h) p;
      addresses =
          le_trans
          (addresses_within g m.records (keys m.records ++ ys) (λ k e. has_left k (keys m.records) ys e)
          (λ k e. has_right k (keys m.records) ys (h k e)))
          q;
    }

-- other slots that give no further address an entry
fewer_bounded : {s : Tuning} {v : ℕ} {m : MapState} → Bounded s v m → (ss : List Slot) → Good limits.bytes ss
    → ((k : ℕ) → Busy ss k → Busy m.slots k) → Bounded s v (with_slots m ss)
fewer_bounded {s} {v} {m} b ss g h =
    slots_bounded b ss (keys (entries m.slots)) g (λ k e. busy_has b.slots k (h k e)) (entry_number b) b.addresses

-- ---- lock, unlock, install

pub lock_room : (s : Tuning) (m : MapState) (ws : List (Row Write)) → s.waiting_limit < slot_count → Different (keys ws)
    → waiting_with m (keys ws) ≤ s.waiting_limit → LockRoom m.slots ws
unfolding waiting_with
lock_room s m ws r d p = record { room = lt_of_le_of_lt p r; once = d }

-- under the tests of refusals 10 and 11
pub lock_bounded : {s : Tuning} {v : ℕ} {m : MapState} → Bounded s v m → s.waiting_limit < slot_count → (w : ℕ) (ws : List (Row Write)) → Different (keys ws)
    → waiting_with m (keys ws) ≤ s.waiting_limit → addresses_with m (keys ws) ≤ limits.map_limit → Bounded s v (lock_all w m ws)
unfolding waiting_with addresses_with lock_all with_slots
lock_bounded {s} {v} {m} b r w ws d p q =
    slots_bounded b _ (keys (entries m.slots) ++ keys ws) (lock_good w m ws b.slots room) (λ k e. busy k e (look ws k) refl) p q
  where
    room : LockRoom m.slots ws
    room = lock_room s m ws r d p

    busy : (k : ℕ) → Busy (lock_all w m ws).slots k → (o : Option Write) → look ws k ≡ o → has k (keys (entries m.slots) ++ keys ws) ≡ true
    busy k e none t =
        has_left k (keys (entries m.slots)) (keys ws)
        (busy_has b.slots k
        (sym (ap is_idle (lock_says w m ws b.slots room k ∙ ap (λ (x : Option Write). locked_by w x (content_of m.slots k)) t)) ∙ e))
    busy k e (some x) t = has_right k (keys (entries m.slots)) (keys ws) (has_keys ws k ∙ ap present t)

unlocked_idle : (w : ℕ) (c : Content) → is_idle c ≡ true → unlocked w c ≡ c
unfolding unlocked
unlocked_idle w c e =
    ap (λ (o : Option ℕ). maybe o c (λ (h : ℕ). pick (same h w) (without_lock c) c)) (idle_holder c e)

pub unlock_bounded : {s : Tuning} {v : ℕ} {m : MapState} → Bounded s v m → (w : ℕ) (ks : List ℕ) → Bounded s v (unlock_all w m ks)
unfolding unlock_all with_slots
unlock_bounded {s} {v} {m} b w ks = fewer_bounded b _ (unlock_good w m ks b.slots) (λ k e. ⊎_elim (λ t. clash (idles k t) e) (λ t. t) (cases (is_idle (content_of m.slots k))))
  where
    idles : (k : ℕ) → is_idle (content_of m.slots k) ≡ true → is_idle (content_of (unlock_all w m ks).slots k) ≡ true
    idles k t =
        ap is_idle
        (unlock_says w m ks b.slots k
        ∙ ap (λ (c : Content). pick (has k ks) c (content_of m.slots k)) (unlocked_idle w (content_of m.slots k) t)
        ∙ ⊎_elim (λ q. rw q) (λ q. rw q) (cases (has k ks)))
        ∙ t

pub install_bounded : {s : Tuning} {v : ℕ} {m : MapState} → Bounded s v m → (n t : ℕ) (ws : List (Row Write)) → Installable m.slots ws
    → Bounded s v (install_all n t m ws)
unfolding install_all with_slots
install_bounded {s} {v} {m} b n t ws i = fewer_bounded b _ (install_good n t m ws b.slots i) (λ k e. busy k e (look ws k) refl)
  where
    busy : (k : ℕ) → Busy (install_all n t m ws).slots k → (o : Option Write) → look ws k ≡ o → Busy m.slots k
    busy k e none q =
        sym (ap is_idle (install_says n t m ws b.slots i k ∙ ap (λ (x : Option Write). written_by n t x (content_of m.slots k)) q)) ∙ e
    busy k e (some x) q = i.held k (ap present q)

-- ---- merge

-- the map once the entries have entered the index, before the leaves settle
abbrev merged_with : MapState → List (Row Content) → MapState
merged_with m es = each (merge_entry limits.bytes) m es

module _ {s : Tuning} {v : ℕ} {m : MapState} (b : Bounded s v m) (es : List (Row Content)) where
  -- nothing new waits
  busy_after : (k : ℕ) → Busy (merged_with m es).slots k → Busy m.slots k
  busy_after k e = ⊎_elim (λ t. clash (idles t) e) (λ t. t) (cases (is_idle content))
    where
      content : Content
      content = content_of m.slots k

      nothing : is_idle content ≡ true → (content_of (merged_with m es).slots k).pending ≡ none
      nothing t =
          merged_pending limits.bytes m es b.slots k
          ∙ ap (pick (has k (keys es)) none) (idle_pending content t)
          ∙ ⊎_elim (λ q. rw q) (λ q. rw q) (cases (has k (keys es)))

      idles : is_idle content ≡ true → is_idle (content_of (merged_with m es).slots k) ≡ true
      idles t =
          unfold is_idle in
          ap (λ (p : Option Pending). both (not (present p)) (not (present (content_of (merged_with m es).slots k).holder))) (nothing t)
          ∙ ap (λ (h : Option ℕ). not (present h)) (merged_holder limits.bytes m es b.slots k ∙ idle_holder content t)

  waiting_after : length (entries (merged_with m es).slots) ≤ s.waiting_limit
  waiting_after =
      le_trans
      (entries_within (merged_good limits.bytes m es b.slots) (keys (entries m.slots)) (λ k e. busy_has b.slots k (busy_after k e)))
      (entry_number b)

  -- an address of the index was one before, or had an entry
  index_after : ((k : ℕ) → has k (keys es) ≡ true → has k (keys (entries m.slots)) ≡ true)
      → (k : ℕ) → has k (keys (merged_with m es).records) ≡ true → has k (keys m.records ++ keys (entries m.slots)) ≡ true
  index_after i k e =
      ⊎_elim
      (λ t. has_right k (keys m.records) (keys (entries m.slots)) (i k t))
      (λ t. has_left k (keys m.records) (keys (entries m.slots))
      (has_keys m.records k ∙ sym (ap present (merged_look limits.bytes m es b.slots k t)) ∙ sym (has_keys (merged_with m es).records k) ∙ e))
      (cases (has k (keys es)))

  addresses_after : ((k : ℕ) → has k (keys es) ≡ true → has k (keys (entries m.slots)) ≡ true)
      → distinct (keys (merged_with m es).records ++ keys (entries (merged_with m es).slots)) ≤ limits.map_limit
  addresses_after i =
      le_trans
      (addresses_within (merged_good limits.bytes m es b.slots) (merged_with m es).records (keys m.records ++ keys (entries m.slots)) (index_after i)
      (λ k e. has_right k (keys m.records) (keys (entries m.slots)) (busy_has b.slots k (busy_after k e))))
      b.addresses

-- the entries that merge have entries, each
merging_entered : (m : MapState) (a k : ℕ) → has k (keys (merging m a)) ≡ true → has k (keys (entries m.slots)) ≡ true
unfolding merging
merging_entered m a k e =
    let r = mem_keys (filter (merges_at m.leaves a) (entries m.slots)) (has_member k (keys (filter (merges_at m.leaves a) (entries m.slots))) e) in
    let q = mem_filter (merges_at m.leaves a) (entries m.slots) r.1 in
    subst (λ (x : ℕ). has x (keys (entries m.slots)) ≡ true) r.2 (member_has (keys_mem r.0 (entries m.slots) q.0))

module _ {s : Tuning} {v : ℕ} {m : MapState} (a : ℕ) (c : GoodCut s) (b : Bounded s v m) where
  module _ (es : List (Row Content)) (i : (k : ℕ) → has k (keys es) ≡ true → version_at m.leaves k ≡ version_at m.leaves a) where
    -- a record outside of the leaf of a stays
    stays : (k : ℕ) → Memᴰ k (keys m.records) → same (version_at m.leaves k) (version_at m.leaves a) ≡ false
        → Memᴰ k (keys (merged_with m es).records)
    stays k r e =
        ⊎_elim
        (λ t. absurd (same_false (version_at m.leaves k) (version_at m.leaves a) e (i k t)))
        (λ t. has_member k (keys (merged_with m es).records)
        (has_keys (merged_with m es).records k ∙ ap present (merged_look limits.bytes m es b.slots k t)
        ∙ sym (has_keys m.records k) ∙ member_has r))
        (cases (has k (keys es)))

    filled_after :
        Filled (merged_with m es).records (settle s v (merged_with m es).leaves a (keys (records_in (merged_with m es) a)))
    unfolding records_in
    filled_after =
        settle_filled c (subst (GoodLeaves v) (sym same_leaves) b.leaves)
        (records_in_leaf after.leaves a after.records (merged_rising limits.bytes m es b.slots b.records))
        (subst (Filled m.records) (sym same_leaves) b.filled)
        (λ k r e. stays k r (subst (λ (ls : List Leaf). same (version_at ls k) (version_at ls a) ≡ false) same_leaves e))
        (λ k r. let p = mem_keys (filter test after.records) r in
        subst (λ (x : ℕ). Memᴰ x (keys after.records)) p.2 (keys_mem p.0 after.records (mem_filter test after.records p.1).0))
      where
        after : MapState
        after = merged_with m es

        same_leaves : after.leaves ≡ m.leaves
        same_leaves = merged_leaves limits.bytes m es

        test : Row Record → Bool
        test r = same (version_at after.leaves r.key) (version_at after.leaves a)

  -- the three fields that the laws of merges do not have
  rest_bounded : (es : List (Row Content))
      → ((k : ℕ) → has k (keys es) ≡ true → version_at m.leaves k ≡ version_at m.leaves a)
      → ((k : ℕ) → has k (keys es) ≡ true → has k (keys (entries m.slots)) ≡ true)
      → Merges v m (merge_all s v m a es)
      → Bounded s (merge_all s v m a es).version (merge_all s v m a es).map
  unfolding merge_all settle_map
  rest_bounded [] i j g = b
  rest_bounded (e ∷ es) i j g =
      record {
        slots = g.good;
        records = g.rising;
        leaves = g.leaves;
        filled = filled_after (e ∷ es) i;
        waiting = waiting_after b (e ∷ es);
        addresses = addresses_after b (e ∷ es) j;
      }

  pub merge_bounded : Bounded s (merge_at s v m a).version (merge_at s v m a).map
  unfolding merge_at
  merge_bounded = rest_bounded (merging m a) (merging_leaf m a) (merging_entered m a) (merges a c b.slots b.records b.leaves)
