-- Document 01: the map. Present records, hidden keys, the counts behind refusals 10 and 11, and the four changes: lock,
-- unlock, install, fold.
use Rattle.std.specs.Prelude.{ℕ, ◌+◌, Bool, false, not, List, [], ◌∷◌, ◌++◌, map}
use Rattle.std.proofs.Math.Option.{Option, none, some}
use Rattle.lists.specs.Tests.{pick, both, either, maybe, present, same, less}
use Rattle.lists.specs.Rows.{Row, row, look, assign, lay, between, keys, any, filter, distinct}
use Rattle.spec.specs.Records.{limits, Tuning, Record, Write, is_put, outcome}
use Rattle.spec.specs.Leaves.{Leaf, first_leaf, version_at, settle, versions_taken, live}
use Rattle.spec.specs.Slots.{Slot, Pending, Content, empty_slots, entries, content_of, enter}

-- The index (sorted records and leaves) and the indexlet.
pub record MapState : Type 0 where
  pub records : List (Row Record)
  pub leaves : List Leaf
  pub slots : List Slot

abbrev pub fresh_map : MapState
fresh_map = record { records = []; leaves = first_leaf ∷ []; slots = empty_slots }

-- ---- present records

unfoldable pub outcome_of : Pending → Option Record
outcome_of p = outcome p.commit p.write

-- the present record of an address: what the indexlet says if a write is pending there, else what the index says
unfoldable pub current : MapState → ℕ → Option Record
current m k = maybe (content_of m.slots k).pending (look m.records k) outcome_of

-- the entries at which a write is pending, with what each leaves there
unfoldable pub pending_rows : List (Row Content) → List (Row (Option Record))
pending_rows [] = []
pending_rows (e ∷ es) =
    maybe e.item.pending (pending_rows es) (λ (p : Pending). row e.key (outcome_of p) ∷ pending_rows es)

-- the present contents: all present records by rising address
unfoldable pub contents : MapState → List (Row Record)
contents m = lay (pending_rows (entries m.slots)) m.records

-- the index addresses from lo to hi, each with its present record
unfoldable pub indexed_between : MapState → ℕ → ℕ → List (Row (Option Record))
indexed_between m lo hi =
    map (λ (r : Row Record). row r.key (current m r.key)) (between lo hi m.records)

-- ---- hidden keys

-- another worker than w has the lock
unfoldable pub held_by_other : ℕ → Content → Bool
held_by_other w c = maybe c.holder false (λ (h : ℕ). not (same h w))

unfoldable pub put_pending : Content → Bool
put_pending c = maybe c.pending false (λ (p : Pending). is_put p.write)

-- the entry makes its address a hidden key to worker w, unless the index holds it: a put is pending, or another worker has
-- a lock for a put. A removal hides nothing, whether it is pending or locked for (request 104).
unfoldable pub hiding : ℕ → Content → Bool
hiding w c = either (put_pending c) (both c.for_put (held_by_other w c))

-- the entry's address is a hidden key that lies in the leaf with version v
unfoldable pub hidden_in : MapState → ℕ → ℕ → Row Content → Bool
hidden_in m w v e =
    both (same (version_at m.leaves e.key) v)
    (both (not (present (look m.records e.key))) (hiding w e.item))

-- the leaf with version v hides a key from worker w
unfoldable pub hides : MapState → ℕ → ℕ → Bool
hides m w v = any (hidden_in m w v) (entries m.slots)

-- a logged mark is gone, or its leaf hides a key
unfoldable pub phantom_in : MapState → ℕ → ℕ → Bool
phantom_in m w v = either (not (live m.leaves v)) (hides m w v)

-- ---- counts

-- distinct waiting and locked addresses, those of `ks` included
unfoldable pub waiting_with : MapState → List ℕ → ℕ
waiting_with m ks = distinct (keys (entries m.slots) ++ ks)

-- distinct index, waiting and locked addresses, those of `ks` included
unfoldable pub addresses_with : MapState → List ℕ → ℕ
addresses_with m ks = distinct (keys m.records ++ (keys (entries m.slots) ++ ks))

-- ---- changes of the indexlet

-- what is said of an address that worker w locks for a write
abbrev pub locked_for : ℕ → Write → Content → Content
locked_for w e c = record { pending = c.pending; holder = some w; for_put = is_put e }

unfoldable pub lock_row : ℕ → ℕ → List Slot → Row Write → List Slot
lock_row bytes w ss r = enter bytes ss r.key (locked_for w r.item (content_of ss r.key))

-- what is left once the lock goes
abbrev pub without_lock : Content → Content
without_lock c = record { pending = c.pending; holder = none; for_put = false }

-- the lock of k goes, if worker w has it
unfoldable pub unlock_key : ℕ → ℕ → List Slot → ℕ → List Slot
unlock_key bytes w ss k =
    maybe (content_of ss k).holder ss
    (λ (h : ℕ). pick (same h w) (enter bytes ss k (without_lock (content_of ss k))) ss)

-- the install that began the waiting, once install t has left a write: where one waits already, its waiting goes on
unfoldable pub waiting_since : ℕ → Option Pending → ℕ
waiting_since t p = maybe p t (λ (q : Pending). q.since)

-- what install t says of an address: the write is pending under the commit number n, and the lock goes
abbrev pub written_over : ℕ → ℕ → Write → Content → Content
written_over n t e c =
    record {
      pending = some (record { write = e; commit = n; since = waiting_since t c.pending });
      holder = none;
      for_put = false;
    }

unfoldable pub install_row : ℕ → ℕ → ℕ → List Slot → Row Write → List Slot
install_row bytes n t ss r = enter bytes ss r.key (written_over n t r.item (content_of ss r.key))

unfoldable pub each : {A B : Type 0} → (B → A → B) → B → List A → B
each f b [] = b
each f b (x ∷ xs) = each f (f b x) xs

unfoldable pub with_slots : MapState → List Slot → MapState
with_slots m ss = record { records = m.records; leaves = m.leaves; slots = ss }

-- locks by rising address, as the rows of a write set are
unfoldable pub lock_all : ℕ → MapState → List (Row Write) → MapState
lock_all w m ws = with_slots m (each (lock_row limits.bytes w) m.slots ws)

unfoldable pub unlock_all : ℕ → MapState → List ℕ → MapState
unlock_all w m ks = with_slots m (each (unlock_key limits.bytes w) m.slots ks)

unfoldable pub install_all : ℕ → ℕ → MapState → List (Row Write) → MapState
install_all n t m ws = with_slots m (each (install_row limits.bytes n t) m.slots ws)

-- ---- merge (document 01: fold)

-- the entry's address lies in the leaf of a, and a write is pending there
unfoldable pub merges_at : List Leaf → ℕ → Row Content → Bool
merges_at ls a e = both (present e.item.pending) (same (version_at ls e.key) (version_at ls a))

-- the entries that a merge at address a takes into the index
unfoldable pub merging : MapState → ℕ → List (Row Content)
merging m a = filter (merges_at m.leaves a) (entries m.slots)

-- what is left once the write has entered the index: a lock stays
abbrev pub taken_in : Content → Content
taken_in c = record { pending = none; holder = c.holder; for_put = c.for_put }

-- one entry enters the index
unfoldable pub merge_entry : ℕ → MapState → Row Content → MapState
merge_entry bytes m e =
    record {
      records = assign e.key (current m e.key) m.records;
      leaves = m.leaves;
      slots = enter bytes m.slots e.key (taken_in (content_of m.slots e.key));
    }

-- the records of the leaf of a
unfoldable pub records_in : MapState → ℕ → List (Row Record)
records_in m a = filter (λ (r : Row Record). same (version_at m.leaves r.key) (version_at m.leaves a)) m.records

-- The map after a merge, and the last version given by then.
pub record Merged : Type 0 where
  pub map : MapState
  pub version : ℕ

-- the leaves settle around the records that the leaf of a has now
unfoldable pub settle_map : Tuning → ℕ → MapState → ℕ → Merged
settle_map s v m a =
    let ks : List ℕ = keys (records_in m a) in
    record {
      map = record { records = m.records; leaves = settle s v m.leaves a ks; slots = m.slots };
      version = v + versions_taken s ks;
    }

unfoldable pub merge_all : Tuning → ℕ → MapState → ℕ → List (Row Content) → Merged
merge_all s v m a [] = record { map = m; version = v }
merge_all s v m a (e ∷ es) = settle_map s v (each (merge_entry limits.bytes) m (e ∷ es)) a

-- A merge at address a, v the last version given. With nothing pending in the leaf, nothing changes.
unfoldable pub merge_at : Tuning → ℕ → MapState → ℕ → Merged
merge_at s v m a = merge_all s v m a (merging m a)

-- ---- the write that has waited longest (request 101)

-- the addresses at which a write is pending, each with the install that began the waiting
unfoldable pub ages : List (Row Content) → List (Row ℕ)
ages [] = []
ages (e ∷ es) = maybe e.item.pending (ages es) (λ (p : Pending). row e.key p.since ∷ ages es)

-- a has waited longer than b: since an earlier install, or since the same one and at a lower address
unfoldable pub older : Row ℕ → Row ℕ → Bool
older a b = either (less a.item b.item) (both (same a.item b.item) (less a.key b.key))

-- the oldest of a and those
unfoldable pub oldest_of : Row ℕ → List (Row ℕ) → Row ℕ
oldest_of a [] = a
oldest_of a (b ∷ bs) = oldest_of (pick (older b a) b a) bs

-- the address of the oldest; 0 where there is none
unfoldable pub oldest_key : List (Row ℕ) → ℕ
oldest_key [] = 0
oldest_key (a ∷ bs) = (oldest_of a bs).key

-- the address of the pending write that has waited longest. Where nothing is pending it is 0: a merge there changes nothing,
-- as one at any address.
unfoldable pub oldest : MapState → ℕ
oldest m = oldest_key (ages (entries m.slots))
