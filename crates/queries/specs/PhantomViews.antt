-- What a test for phantoms asks and promises.
use Rattle.std.specs.Prelude.{ℕ, ◌+◌, ◌≤◌, ◌≡◌, Bool, true, not, List, length, take}
use Rattle.std.proofs.Math.Option.{some}
use Rattle.lists.specs.Tests.{both, present, same}
use Rattle.lists.specs.Rows.{Row, look, keys, filter, has, Rising}
use Rattle.spec.specs.Records.{Write, is_put}
use Rattle.spec.specs.Leaves.{Leaf, version_at, live}
use Rattle.spec.specs.Slots.{content_of}
use Rattle.spec.specs.Maps.{put_pending}
use Rattle.indexlet.specs.Words.{slots_of}
use Rattle.index.specs.Views.{records_of}
use Rattle.index.specs.LeafPlaces.{low_place}
use Rattle.map.specs.declared.Sizes.{Sizes}
use Rattle.map.specs.Views.{SlotRows, RecordRows, Lent}
use Rattle.map.specs.WriteWalks.{Writing}
use Rattle.map.specs.WriteWalks as walks
use Rattle.sets.specs.Writes.{WriteRows, writes_of}
use Rattle.map.specs.MapHeld.{MapHeld}

-- The arrays hold a map, with some last version.
pub record Holding (l : Lent) (z : Sizes) : Type 0 where
  pub version : ℕ
  pub held : MapHeld l z version

-- Worker w's locks are the addresses of its write set, each for the write that it has there.
pub record Owns (slots : SlotRows) (ws : WriteRows) (n w : ℕ) : Type 0 where
  pub fitting : Writing ws n
  pub rising : Rising (writes_of ws n)
  pub mine : (k : ℕ) → has k (keys (writes_of ws n)) ≡ true → (content_of (slots_of slots) k).holder ≡ some w
  pub only : (k : ℕ) → (content_of (slots_of slots) k).holder ≡ some w → has k (keys (writes_of ws n)) ≡ true
  pub kinds : (k : ℕ) (e : Write) → look (writes_of ws n) k ≡ some e → (content_of (slots_of slots) k).for_put ≡ is_put e

-- A logged leaf: while its version is live, it is the leaf of the low that was logged with it.
pub record Logged (ls : List Leaf) (version low : ℕ) : Type 0 where
  pub stays : live ls version ≡ true → version_at ls low ≡ version

-- the address lies in the leaf at place i, the index lacks it, and no put is pending there
unfoldable pub lock_only_in : RecordRows → List ℕ → SlotRows → ℕ → ℕ → ℕ → ℕ → Bool
lock_only_in rows lows slots n m i a =
    both (same (low_place a (take m lows)) i)
    (both (not (put_pending (content_of (slots_of slots) a))) (not (present (look (records_of rows n) a))))

-- the write is a put at such an address
unfoldable pub own_put : RecordRows → List ℕ → SlotRows → ℕ → ℕ → ℕ → Row Write → Bool
own_put rows lows slots n m i r = both (is_put r.item) (lock_only_in rows lows slots n m i r.key)

-- how many of a write set are so
unfoldable pub lock_only_count : RecordRows → List ℕ → SlotRows → ℕ → ℕ → ℕ → WriteRows → ℕ → ℕ
lock_only_count rows lows slots n m i ws count = length (filter (own_put rows lows slots n m i) (writes_of ws count))

-- x of the writes have been counted, and `own` of them were so
pub record Counting (rows : RecordRows) (lows : List ℕ) (slots : SlotRows) (n m i : ℕ) (ws : WriteRows) (count x own : ℕ) : Type 0 where
  pub within : x ≤ count
  pub small : own ≤ x
  pub rest : own + length (filter (own_put rows lows slots n m i) (walks.rest ws x count)) ≡ lock_only_count rows lows slots n m i ws count
