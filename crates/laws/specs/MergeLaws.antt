-- What a merge does, address by address. It alters no current record and no lock; of each address it keeps leaf version
-- and index entry, or the old version is live no more.
use Rattle.std.specs.Prelude.{ℕ, ◌<◌, ◌≤◌, ◌≡◌, Bool, false}
use Rattle.std.proofs.Math.Nat.{le_refl, le-add_right}
use Rattle.std.proofs.Math.Path.{refl, sym, ap}
use Rattle.std.proofs.Common.{◌∙◌, subst}
use Rattle.std.proofs.Math.Logic.{⊎_elim}
use Rattle.std.proofs.Math.Bool.{true}
use mathlib.Core.List.{List, [], ◌∷◌}
use Rattle.std.proofs.Math.Option.{Option, none, some}
use Rattle.lists.specs.Tests.{pick, both, maybe, present, same}
use Rattle.lists.specs.TestLaws.{cases, clash, same_true, same_false, same_yes, same_no}
use Rattle.lists.specs.Rows.{Row, look, keys, has, filter, Rising}
use Rattle.lists.specs.RowLaws.{look_assign, rising_assign}
use Rattle.lists.specs.Counting.{has_nil, has_cons}
use Rattle.spec.specs.Records.{limits, Tuning, Record}
use Rattle.spec.specs.Leaves.{Leaf, version_at, settle, versions_taken}
use Rattle.spec.specs.Slots.{Pending, Content, is_idle, entries, content_of}
use Rattle.spec.specs.Maps.{MapState, outcome_of, current, each, merges_at, merging, taken_in, merge_entry, records_in, Merged, settle_map, merge_all, merge_at}
use Rattle.laws.specs.SlotCounts.{Good}
use Rattle.laws.specs.SlotLaws.{EntryRoom, enter_good, said, said_pending, said_holder, said_kind, content_said}
use Rattle.laws.specs.MapLaws.{idle_holder, room_old}
use Rattle.laws.specs.LeafLaws.{GoodLeaves}
use Rattle.spec.specs.GoodTuning.{GoodCut}
use Rattle.laws.specs.LeafSwaps.{Kept}
use Rattle.laws.specs.SettleLaws.{InLeaf, records_in_leaf, settle_good, settle_keeps}

-- ---- one entry enters the index

module _ (bytes : ℕ) (m : MapState) (e : Row Content) (a : Good bytes m.slots) where
  room : EntryRoom m.slots e.key (taken_in (content_of m.slots e.key))
  room =
      room_old a e.key (taken_in (content_of m.slots e.key))
      (λ i. unfold is_idle in rw (idle_holder (content_of m.slots e.key) i))

  merge_entry_good : Good bytes (merge_entry bytes m e).slots
  unfolding merge_entry
  merge_entry_good = enter_good a room

  merge_entry_says : (j : ℕ)
      → content_of (merge_entry bytes m e).slots j ≡ pick (same e.key j) (said (taken_in (content_of m.slots j))) (content_of m.slots j)
  unfolding merge_entry
  merge_entry_says j =
      content_said a room j
      ∙ ⊎_elim
      (λ t. (rw t) ∙ ap (λ (x : ℕ). said (taken_in (content_of m.slots x))) (same_true e.key j t) ∙ sym (ap (λ (b : Bool). pick b (said (taken_in (content_of m.slots j))) (content_of m.slots j)) t))
      (λ t. (rw t) ∙ sym (ap (λ (b : Bool). pick b (said (taken_in (content_of m.slots j))) (content_of m.slots j)) t))
      (cases (same e.key j))

  merge_entry_look : (j : ℕ) → look (merge_entry bytes m e).records j ≡ pick (same e.key j) (current m j) (look m.records j)
  unfolding merge_entry
  merge_entry_look j =
      look_assign e.key (current m e.key) m.records j
      ∙ ⊎_elim
      (λ t. (rw t) ∙ ap (current m) (same_true e.key j t) ∙ sym (ap (λ (b : Bool). pick b (current m j) (look m.records j)) t))
      (λ t. (rw t) ∙ sym (ap (λ (b : Bool). pick b (current m j) (look m.records j)) t))
      (cases (same e.key j))

  merge_entry_rising : Rising m.records → Rising (merge_entry bytes m e).records
  unfolding merge_entry
  merge_entry_rising f = rising_assign e.key (current m e.key) m.records f

  merge_entry_holder : (j : ℕ) → (content_of (merge_entry bytes m e).slots j).holder ≡ (content_of m.slots j).holder
  merge_entry_holder j =
      ap (λ (c : Content). c.holder) (merge_entry_says j)
      ∙ ⊎_elim (λ t. rw t (said_holder (taken_in (content_of m.slots j)))) (λ t. rw t) (cases (same e.key j))

  merge_entry_kind : (j w : ℕ) → (content_of m.slots j).holder ≡ some w → (content_of (merge_entry bytes m e).slots j).for_put ≡ (content_of m.slots j).for_put
  merge_entry_kind j w q =
      ap (λ (c : Content). c.for_put) (merge_entry_says j)
      ∙ ⊎_elim (λ t. rw t (said_kind (taken_in (content_of m.slots j)) w q)) (λ t. rw t) (cases (same e.key j))

  merge_entry_pending : (j : ℕ) → (content_of (merge_entry bytes m e).slots j).pending ≡ pick (same e.key j) none (content_of m.slots j).pending
  merge_entry_pending j =
      ap (λ (c : Content). c.pending) (merge_entry_says j)
      ∙ ⊎_elim (λ t. rw t (said_pending (taken_in (content_of m.slots j)))) (λ t. rw t) (cases (same e.key j))

  merge_entry_current : (j : ℕ) → current (merge_entry bytes m e) j ≡ current m j
  merge_entry_current j =
      unfold current in
      ap (λ (p : Option Pending). maybe p (look (merge_entry bytes m e).records j) outcome_of) (merge_entry_pending j)
      ∙ ap (λ (r : Option Record). maybe (pick (same e.key j) none (content_of m.slots j).pending) r outcome_of) (merge_entry_look j)
      ∙ ⊎_elim (λ t. rw t) (λ t. rw t) (cases (same e.key j))

-- ---- all entries of a leaf

module _ (bytes : ℕ) where
  pub merged_good : (m : MapState) (es : List (Row Content)) → Good bytes m.slots → Good bytes (each (merge_entry bytes) m es).slots
  unfolding each
  merged_good m [] a = a
  merged_good m (e ∷ es) a = merged_good (merge_entry bytes m e) es (merge_entry_good bytes m e a)

  pub merged_rising : (m : MapState) (es : List (Row Content)) → Good bytes m.slots → Rising m.records → Rising (each (merge_entry bytes) m es).records
  unfolding each
  merged_rising m [] a f = f
  merged_rising m (e ∷ es) a f =
      merged_rising (merge_entry bytes m e) es (merge_entry_good bytes m e a) (merge_entry_rising bytes m e a f)

  pub merged_current : (m : MapState) (es : List (Row Content)) → Good bytes m.slots → (j : ℕ) → current (each (merge_entry bytes) m es) j ≡ current m j
  unfolding each
  merged_current m [] a j = refl
  merged_current m (e ∷ es) a j =
      merged_current (merge_entry bytes m e) es (merge_entry_good bytes m e a) j ∙ merge_entry_current bytes m e a j

  pub merged_holder : (m : MapState) (es : List (Row Content)) → Good bytes m.slots
      → (j : ℕ) → (content_of (each (merge_entry bytes) m es).slots j).holder ≡ (content_of m.slots j).holder
  unfolding each
  merged_holder m [] a j = refl
  merged_holder m (e ∷ es) a j =
      merged_holder (merge_entry bytes m e) es (merge_entry_good bytes m e a) j ∙ merge_entry_holder bytes m e a j

  -- a lock stays for what it is
  merged_kind : (m : MapState) (es : List (Row Content)) → Good bytes m.slots
      → (j w : ℕ) → (content_of m.slots j).holder ≡ some w → (content_of (each (merge_entry bytes) m es).slots j).for_put ≡ (content_of m.slots j).for_put
  unfolding each
  merged_kind m [] a j w q = refl
  merged_kind m (e ∷ es) a j w q =
      merged_kind (merge_entry bytes m e) es (merge_entry_good bytes m e a) j w (merge_entry_holder bytes m e a j ∙ q) ∙ merge_entry_kind bytes m e a j w q

  pub merged_leaves : (m : MapState) (es : List (Row Content)) → (each (merge_entry bytes) m es).leaves ≡ m.leaves
  unfolding each merge_entry
  merged_leaves m [] = refl
  merged_leaves m (e ∷ es) = merged_leaves (merge_entry bytes m e) es

  -- an address that is not among them keeps its index entry and what the indexlet says of it
  pub merged_look : (m : MapState) (es : List (Row Content)) → Good bytes m.slots
      → (j : ℕ) → has j (keys es) ≡ false → look (each (merge_entry bytes) m es).records j ≡ look m.records j
  unfolding each keys
  merged_look m [] a j h = refl
  merged_look m (e ∷ es) a j h =
      merged_look (merge_entry bytes m e) es (merge_entry_good bytes m e a) j (tail_absent h)
      ∙ merge_entry_look bytes m e a j
      ∙ ap (λ (b : Bool). pick b (current m j) (look m.records j)) (same_no {m = e.key} {n = j} (λ q. clash (here q) h))
    where
      here : e.key ≡ j → has j (e.key ∷ keys es) ≡ true
      here q = has_cons j e.key (keys es) ∙ ap (λ (b : Bool). pick b true (has j (keys es))) (same_yes {m = j} {n = e.key} (sym q))

      tail_absent : has j (e.key ∷ keys es) ≡ false → has j (keys es) ≡ false
      tail_absent h = ⊎_elim (λ t. clash (there t) h) (λ t. t) (cases (has j (keys es)))
        where
          there : has j (keys es) ≡ true → has j (e.key ∷ keys es) ≡ true
          there t = has_cons j e.key (keys es) ∙ ⊎_elim (λ q. rw q) (λ q. rw q t) (cases (same j e.key))

  -- at those addresses nothing is pending any more
  pub merged_pending : (m : MapState) (es : List (Row Content)) → Good bytes m.slots
      → (j : ℕ) → (content_of (each (merge_entry bytes) m es).slots j).pending ≡ pick (has j (keys es)) none (content_of m.slots j).pending
  unfolding each keys
  merged_pending m [] a j = sym (ap (λ (b : Bool). pick b none (content_of m.slots j).pending) (has_nil j))
  merged_pending m (e ∷ es) a j =
      merged_pending (merge_entry bytes m e) es (merge_entry_good bytes m e a) j
      ∙ ap (pick (has j (keys es)) none) (merge_entry_pending bytes m e a j)
      ∙ ⊎_elim
      (λ t.
      (rw t (⊎_elim (λ q. rw q) (λ q. rw q) (cases (has j (keys es)))))
      ∙ sym (ap (λ (b : Bool). pick b none (content_of m.slots j).pending) (here (same_true e.key j t))))
      (λ t. (rw t) ∙ sym (ap (λ (b : Bool). pick b none (content_of m.slots j).pending) (there (same_false e.key j t))))
      (cases (same e.key j))
    where
      here : e.key ≡ j → has j (keys (e ∷ es)) ≡ true
      here q = has_cons j e.key (keys es) ∙ ap (λ (b : Bool). pick b true (has j (keys es))) (same_yes {m = j} {n = e.key} (sym q))

      there : (e.key ≡ j → ⊥) → has j (keys (e ∷ es)) ≡ has j (keys es)
      there d = has_cons j e.key (keys es) ∙ ap (λ (b : Bool). pick b true (has j (keys es))) (same_no {m = j} {n = e.key} (λ q. d (sym q)))

-- ---- the merge

both_right : (a b : Bool) → both a b ≡ true → b ≡ true
both_right true b e = e
both_right false b e = clash e refl

merges_in : (ls : List Leaf) (a j : ℕ) (es : List (Row Content)) → has j (keys (filter (merges_at ls a) es)) ≡ true → version_at ls j ≡ version_at ls a
unfolding filter keys
merges_in ls a j [] h = clash h (has_nil j)
merges_in ls a j (e ∷ es) h =
    ⊎_elim
    (λ t. ⊎_elim
    (λ q. ap (version_at ls) (same_true j e.key q) ∙ in_leaf_lem t)
    (λ q. merges_in ls a j es (sym (taken t ∙ (rw q)) ∙ h))
    (cases (same j e.key)))
    (λ t. merges_in ls a j es (sym (skip t) ∙ h))
    (cases (merges_at ls a e))
  where
    skip : merges_at ls a e ≡ false → has j (keys (filter (merges_at ls a) (e ∷ es))) ≡ has j (keys (filter (merges_at ls a) es))
    skip t = ap (λ (b : Bool). has j (keys (pick b (e ∷ filter (merges_at ls a) es) (filter (merges_at ls a) es)))) t

    taken : merges_at ls a e ≡ true → has j (keys (filter (merges_at ls a) (e ∷ es))) ≡ pick (same j e.key) true (has j (keys (filter (merges_at ls a) es)))
    taken t =
        ap (λ (b : Bool). has j (keys (pick b (e ∷ filter (merges_at ls a) es) (filter (merges_at ls a) es)))) t
        ∙ has_cons j e.key (keys (filter (merges_at ls a) es))

    in_leaf_lem : merges_at ls a e ≡ true → version_at ls e.key ≡ version_at ls a
    in_leaf_lem t = same_true (version_at ls e.key) (version_at ls a) (unfold merges_at in both_right (present e.item.pending) (same (version_at ls e.key) (version_at ls a)) t)

-- the entries that merge lie in the leaf of a
pub merging_leaf : (m : MapState) (a : ℕ) (j : ℕ) → has j (keys (merging m a)) ≡ true → version_at m.leaves j ≡ version_at m.leaves a
unfolding merging
merging_leaf m a j h = merges_in m.leaves a j (entries m.slots) h

-- What a merge at address a, from the last version v, makes of a map.
pub record Merges (v : ℕ) (m : MapState) (r : Merged) : Type 0 where
  pub good : Good limits.bytes r.map.slots
  pub rising : Rising r.map.records
  pub leaves : GoodLeaves r.version r.map.leaves
  pub later : v ≤ r.version
  pub same_current : (k : ℕ) → current r.map k ≡ current m k
  pub same_holder : (k : ℕ) → (content_of r.map.slots k).holder ≡ (content_of m.slots k).holder
  pub same_kind : (k w : ℕ) → (content_of m.slots k).holder ≡ some w → (content_of r.map.slots k).for_put ≡ (content_of m.slots k).for_put
  pub gone : ℕ → Bool
  pub renewed : (k : ℕ) → gone (version_at m.leaves k) ≡ true → v < version_at r.map.leaves k
  pub kept_version : (k : ℕ) → gone (version_at m.leaves k) ≡ false → version_at r.map.leaves k ≡ version_at m.leaves k
  pub kept_record : (k : ℕ) → gone (version_at m.leaves k) ≡ false → look r.map.records k ≡ look m.records k

module _ {s : Tuning} {v : ℕ} {m : MapState} (a : ℕ) (c : GoodCut s) (g : Good limits.bytes m.slots) (f : Rising m.records) (l : GoodLeaves v m.leaves) where
  merges_some : (es : List (Row Content)) → ((j : ℕ) → has j (keys es) ≡ true → version_at m.leaves j ≡ version_at m.leaves a)
      → Merges v m (settle_map s v (each (merge_entry limits.bytes) m es) a)
  unfolding settle_map records_in current
  merges_some es inside =
      record {
        good = merged_good limits.bytes m es g;
        rising = merged_rising limits.bytes m es g f;
        leaves = settle_good c l' in_leaf_lem;
        later = le-add_right v (versions_taken s ks);
        same_current = λ k. merged_current limits.bytes m es g k;
        same_holder = λ k. merged_holder limits.bytes m es g k;
        same_kind = λ k w q. merged_kind limits.bytes m es g k w q;
        gone = kept.gone;
        renewed = λ k e. kept.renewed k (subst (λ (ls : List Leaf). kept.gone (version_at ls k) ≡ true) (sym same_leaves) e);
        kept_version =
            λ k e.
            kept.unchanged k (subst (λ (ls : List Leaf). kept.gone (version_at ls k) ≡ false) (sym same_leaves) e)
            ∙ ap (λ (ls : List Leaf). version_at ls k) same_leaves;
        kept_record =
            λ k e. merged_look limits.bytes m es g k (⊎_elim (λ t. clash (own_gone k (inside k t)) e) (λ t. t) (cases (has k (keys es))));
      }
    where
      m' : MapState
      m' = each (merge_entry limits.bytes) m es

      same_leaves : m'.leaves ≡ m.leaves
      same_leaves = merged_leaves limits.bytes m es

      l' : GoodLeaves v m'.leaves
      l' = subst (GoodLeaves v) (sym same_leaves) l

      ks : List ℕ
      ks = keys (filter (λ (r : Row Record). same (version_at m'.leaves r.key) (version_at m'.leaves a)) m'.records)

      in_leaf_lem : InLeaf m'.leaves a ks
      in_leaf_lem = records_in_leaf m'.leaves a m'.records (merged_rising limits.bytes m es g f)

      kept : Kept v m'.leaves (settle s v m'.leaves a ks) a
      kept = settle_keeps c l' in_leaf_lem

      own_gone : (k : ℕ) → version_at m.leaves k ≡ version_at m.leaves a → kept.gone (version_at m.leaves k) ≡ true
      own_gone k q = ap kept.gone (q ∙ ap (λ (ls : List Leaf). version_at ls a) (sym same_leaves)) ∙ kept.own

  pub merges : Merges v m (merge_at s v m a)
  unfolding merge_at
  merges = go (merging m a) (merging_leaf m a)
    where
      go : (es : List (Row Content)) → ((j : ℕ) → has j (keys es) ≡ true → version_at m.leaves j ≡ version_at m.leaves a)
          → Merges v m (merge_all s v m a es)
      go [] inside =
          unfold merge_all in
          record {
            good = g;
            rising = f;
            leaves = l;
            later = le_refl v;
            same_current = λ k. refl;
            same_holder = λ k. refl;
            same_kind = λ k w q. refl;
            gone = λ u. false;
            renewed = λ k e. clash e refl;
            kept_version = λ k e. refl;
            kept_record = λ k e. refl;
          }
      go (e ∷ es) inside = unfold merge_all in merges_some (e ∷ es) inside
