-- How many versions a merge takes: at most `versions_per_merge` (129 under document 01's limits), and each merge that takes
-- any uses up a pending write. So the versions given grow no faster than the pending writes go.
use Prim.Native.Nat.{ℕ, suc, ◌+◌, ◌*◌, ◌/◌, ◌<◌, ◌≤◌}
use Rattle.std.proofs.Math.Nat.{le_refl, mul-suc, mul-le-mul_left, add-div_right}
use Rattle.std.proofs.Common.{le_trans, le_of_eq, le-div_iff_mul-le, sym, ◌∙◌}
use native.Mathlib.Omega.{arith}
use Rattle.std.specs.Prelude.{◌≡◌, Bool, true}
use Rattle.std.proofs.Math.Path.{refl, ap, subst}
use mathlib.Core.List.{List, [], ◌∷◌, Memᴰ}
use Rattle.std.proofs.Math.ListN.{length}
use Rattle.lists.specs.Tests.{present, same}
use Rattle.lists.specs.Rows.{Row, keys, filter}
use Rattle.lists.specs.RowLaws.{length_keys}
use Rattle.lists.specs.Ascending.{mem_filter}
use Rattle.lists.specs.Memberships.{filter_shorter}
use Rattle.spec.specs.Records.{limits, Tuning, standard, Record}
use Rattle.spec.specs.Leaves.{version_at, versions_taken}
use Rattle.spec.specs.Slots.{Content, entries}
use Rattle.spec.specs.Maps.{MapState, each, merges_at, merging, merge_entry, records_in, settle_map, merge_all, merge_at}
use Rattle.laws.specs.SlotLaws.{member_content}
use Rattle.spec.specs.GoodTuning.{GoodCut}
use Rattle.laws.specs.LeafCuts.{taken_most}
use Rattle.laws.specs.MapBounds.{Bounded, record_count, merge_bounded}
use Rattle.laws.specs.PendingCounts.{pending_count, pending_at, merged_fewer}
use Rattle.laws.specs.RecordLaws.{both_left}

-- the most versions that one merge takes
unfoldable pub versions_per_merge : Tuning → ℕ
versions_per_merge s = suc (limits.map_limit / s.run)

pub standard_per : versions_per_merge standard ≡ 129
unfolding versions_per_merge
standard_per = refl

pub taken_per : {s : Tuning} → GoodCut s → (ks : List ℕ) → length ks ≤ limits.map_limit → versions_taken s ks ≤ versions_per_merge s
unfolding versions_per_merge
taken_per {s} c ks h =
    let t : versions_taken s ks * s.run ≤ length ks + s.run = taken_most c ks in
    let q : versions_taken s ks ≤ (limits.map_limit + s.run) / s.run = (le-div_iff_mul-le {k = s.run} c.positive).1 (omega arith) in
    let d : (limits.map_limit + s.run) / s.run ≡ limits.map_limit / s.run + 1 = add-div_right limits.map_limit c.positive in
    omega arith

module _ {s : Tuning} {v : ℕ} {m : MapState} (a : ℕ) (c : GoodCut s) (b : Bounded s v m) where
  -- the records of one leaf are no more than the index may have
  taken_some : (es : List (Row Content)) → length (each (merge_entry limits.bytes) m es).records ≤ limits.map_limit
      → (settle_map s v (each (merge_entry limits.bytes) m es) a).version ≤ v + versions_per_merge s
  unfolding settle_map records_in
  taken_some es h =
      let t : versions_taken s ks ≤ versions_per_merge s = taken_per c ks fits in omega arith
    where
      m' : MapState
      m' = each (merge_entry limits.bytes) m es

      test : Row Record → Bool
      test r = same (version_at m'.leaves r.key) (version_at m'.leaves a)

      ks : List ℕ
      ks = keys (filter test m'.records)

      fits : length ks ≤ limits.map_limit
      fits = le_trans (le_of_eq (length_keys (filter test m'.records))) (le_trans (filter_shorter test m'.records) h)

  merging_pending : (e : Row Content) (es : List (Row Content)) → merging m a ≡ e ∷ es → pending_at m.slots e.key ≡ true
  unfolding merging merges_at
  merging_pending e es q =
      let r = mem_filter {x = e} (merges_at m.leaves a) (entries m.slots) (subst (Memᴰ e) (sym q) (Memᴰ.head refl)) in
      ap (λ (x : Content). present x.pending) (member_content b.slots r.0)
      ∙ both_left (present e.item.pending) (same (version_at m.leaves e.key) (version_at m.leaves a)) r.1

  -- a merge takes versions only as it uses up pending writes
  pub merge_spends :
      (merge_at s v m a).version + versions_per_merge s * pending_count (merge_at s v m a).map.slots
      ≤ v + versions_per_merge s * pending_count m.slots
  unfolding merge_at
  merge_spends = go (merging m a) refl (record_count (merge_bounded a c b))
    where
      go : (es : List (Row Content)) → merging m a ≡ es → length (merge_all s v m a (merging m a)).map.records ≤ limits.map_limit
          → (merge_all s v m a es).version + versions_per_merge s * pending_count (merge_all s v m a es).map.slots ≤ v + versions_per_merge s * pending_count m.slots
      go [] q h = unfold merge_all in le_refl _
      go (e ∷ es) q h =
          let t : (merge_all s v m a (e ∷ es)).version ≤ v + versions_per_merge s
          = unfold merge_all in taken_some (e ∷ es) (unfold settle_map in subst (λ (xs : List (Row Content)). length (merge_all s v m a xs).map.records ≤ limits.map_limit) q h) in
          let f : pending_count (merge_all s v m a (e ∷ es)).map.slots < pending_count m.slots
          = unfold merge_all settle_map in merged_fewer limits.bytes m e es b.slots (merging_pending e es q) in
          let p : versions_per_merge s * suc (pending_count (merge_all s v m a (e ∷ es)).map.slots) ≤ versions_per_merge s * pending_count m.slots
          = mul-le-mul_left (versions_per_merge s) f in
          let d : versions_per_merge s * suc (pending_count (merge_all s v m a (e ∷ es)).map.slots)
          ≡ versions_per_merge s * pending_count (merge_all s v m a (e ∷ es)).map.slots + versions_per_merge s
          = mul-suc (versions_per_merge s) (pending_count (merge_all s v m a (e ∷ es)).map.slots) in
          omega arith
