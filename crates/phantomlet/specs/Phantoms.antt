-- The phantomlet: for each leaf two numbers, how many entries of the indexlet lie in it at addresses that the index lacks
-- and hide them from somebody, and how many pending writes lie in it. A leaf hides a key from worker w exactly if the first
-- number exceeds the count of entries there that hide by nothing but a lock of w's own.
use Rattle.std.specs.Prelude.{◌≡◌, ℕ, ◌+◌, ◌<◌, Bool, true, false, not, List, length, slice_index, slice_index_or, refl}
use Rattle.std.proofs.Math.Option.{Option, none, some}
use Rattle.lists.specs.Tests.{pick, both, either, present, same}
use Rattle.lists.specs.Rows.{Row, row, look}
use Rattle.spec.specs.Leaves.{first_leaf, version_at}
use Rattle.spec.specs.Slots.{Content, is_idle, Slot, content_of, enter, kept}
use Rattle.spec.specs.Maps.{MapState, put_pending}
use Rattle.laws.specs.SlotCounts.{Good, count}
use Rattle.laws.specs.SlotLaws.{EntryRoom}
use Rattle.laws.specs.EnterCounts.{count_change}

-- 1 for an entry that passes the test
unfoldable pub weigh : (Row Content → Bool) → Option (Row Content) → ℕ
weigh p none = 0
weigh p (some e) = pick (p e) 1 0

-- how many entries pass the test
unfoldable pub how_many : (Row Content → Bool) → List Slot → ℕ
how_many p ss = count (weigh p) ss

-- the entry lies at an address that the index lacks
unfoldable pub outside_any : MapState → Row Content → Bool
outside_any m e = not (present (look m.records e.key))

-- what is said hides the address from somebody: a put is pending, or somebody has a lock for a put (request 104)
unfoldable pub hides_some : Content → Bool
hides_some c = either (put_pending c) (both c.for_put (present c.holder))

-- the entry lies at an address that the index lacks, in the leaf with version v, and hides it from somebody
unfoldable pub hiding_in : MapState → ℕ → Row Content → Bool
hiding_in m v e = both (same (version_at m.leaves e.key) v) (both (outside_any m e) (hides_some e.item))

-- a write is pending there, in the leaf with version v
unfoldable pub pending_in : MapState → ℕ → Row Content → Bool
pending_in m v e = both (same (version_at m.leaves e.key) v) (present e.item.pending)

-- the version of the leaf at place i
abbrev pub version_of : MapState → ℕ → ℕ
version_of m i = (slice_index_or m.leaves i first_leaf).version

-- The two columns agree with the map.
pub record Phantomlet (m : MapState) (hidden pending : List ℕ) : Type 0 where
  pub hidden_is : (i : ℕ) → i < length m.leaves → slice_index hidden i ≡ how_many (hiding_in m (version_of m i)) m.slots
  pub pending_is : (i : ℕ) → i < length m.leaves → slice_index pending i ≡ how_many (pending_in m (version_of m i)) m.slots

-- a count before and after c is said of k
pub many_change : {bytes : ℕ} {ss : List Slot} {k : ℕ} {c : Content} → Good bytes ss → EntryRoom ss k c → (p : Row Content → Bool)
    → how_many p (enter bytes ss k c) + weigh p (kept k (content_of ss k)) ≡ how_many p ss + weigh p (kept k c)
unfolding how_many
many_change good room p = count_change good room (weigh p)

pub weigh_kept : (p : Row Content → Bool) (k : ℕ) (c : Content) → weigh p (kept k c) ≡ pick (is_idle c) 0 (pick (p (row k c)) 1 0)
unfolding weigh
weigh_kept p k c = go (is_idle c)
  where
    go : (b : Bool) → weigh p (pick b none (some (row k c))) ≡ pick b 0 (pick (p (row k c)) 1 0)
    go true = refl
    go false = refl
