-- What holds between the engine and the history read so far, after every step.
--
-- The engine is seen through `Facts`: functions of the key and of the worker, with no lists of slots or leaves. The
-- invariant says of every transaction that goes on, and of every installed one, what makes it serial:
-- - its observations explain its answers: any sorted list that agrees with them gives those answers (`Explains`);
-- - until it is checked, each observation is backed by its log: by a read-set entry, or, for a key that was absent from
--   the index, by a leaf version which, as long as it is live, is still the key's leaf, and the index lacks the key;
-- - once it has number m + 1, each observation equals what the transactions numbered up to m leave, and no checked
--   transaction that may still be installed among those would change it (`Valid`);
-- - in a guarded map, once it is locked, each put fits and has room between what one of its scans saw (`Roomy`).
use Rattle.std.specs.Prelude.{ℕ, suc, ◌+◌, ◌-◌, ◌<◌, ◌≤◌, ◌≡◌, Bool, true, false, length}
use mathlib.Core.List.{List, Memᴰ}
use Rattle.std.proofs.Math.Option.{Option, none, some, get_or}
use Rattle.lists.specs.Tests.{maybe, present}
use Rattle.lists.specs.Rows.{Row, row, look, Rising, keys, Different}
use Rattle.spec.specs.Records.{limits, Payload, Record, Write, written, deleted, is_put, payload_of}
use Rattle.spec.specs.Guards.{Scan, stretch, last_byte, share, unfit}
use Rattle.spec.specs.Steps.{Worker, is_free, is_open, is_checked, Event}
use Rattle.spec.specs.Sequential.{AllAgree}
use Rattle.spec.specs.Claim.{Transaction, Reading, list_after}
use Rattle.serial.specs.Feeding.{event_writes, NoLaterWriter}

-- The engine's state, as far as the theorem looks at it.
pub record Facts : Type 0 where
  pub given : ℕ  -- the last commit number
  pub last_version : ℕ
  pub current : ℕ → Option Record
  pub indexed : ℕ → Bool  -- the index holds the key
  pub holder : ℕ → Option ℕ  -- the worker that has the key's lock
  pub for_put : ℕ → Bool  -- that lock is for a put
  pub version : ℕ → ℕ  -- the version of the key's leaf
  pub worker : ℕ → Worker
  pub guard : Bool  -- the map is guarded

-- What a transaction saw of the keys from lo to hi.
pub record Observation : Type 0 where
  pub lo : ℕ
  pub hi : ℕ
  pub seen : ℕ → Option Record

-- something holds of each key of each observation, and of what was seen there
abbrev pub Throughout : List Observation → (ℕ → Option Record → Type 0) → Type 0
Throughout os P = (o : Observation) → Memᴰ o os → (k : ℕ) → o.lo ≤ k → k ≤ o.hi → P k (o.seen k)

-- the list has at each observed key what was seen there
abbrev pub Matches : List Observation → List (Row Record) → Type 0
Matches os l = Throughout os (λ (k : ℕ) (r : Option Record). look l k ≡ r)

-- any sorted list that agrees with the observations gives the answers that the transaction got
abbrev pub Explains : List Observation → List Event → Type 0
Explains os es = (n : ℕ) (l : List (Row Record)) → Rising l → Matches os l → AllAgree n l es

-- The log backs that r was seen at k.
pub data Backed (F : Facts) (x : Worker) (k : ℕ) (r : Option Record) : Type 0 where
  by_read : Memᴰ (row k r) x.reads → Backed F x k r
  by_leaf : (v : ℕ) → r ≡ none → Memᴰ v x.versions → v ≤ F.last_version
      → ((j : ℕ) → F.version j ≡ v → (F.version k ≡ v) × (F.indexed k ≡ false)) → Backed F x k r

-- A scan that the worker remembers is one of its observations, and the rows that it logged say what was seen.
pub record Saw (reads : List (Row (Option Record))) (os : List Observation) (c : Scan) : Type 0 where
  pub o : Observation
  pub member : Memᴰ o os
  pub lo : o.lo ≡ c.lo
  pub hi : o.hi ≡ c.hi
  pub inside : c.from + c.count ≤ length reads
  pub seen : (k : ℕ) → o.lo ≤ k → k ≤ o.hi → get_or (look (stretch reads c) k) none ≡ o.seen k

abbrev pub AllSaw : Worker → List Observation → Type 0
AllSaw x os = (c : Scan) → Memᴰ c x.scans → Saw x.reads os c

-- The put of p at k fits, and shares no byte with the other puts, nor with what one observation saw from where a section
-- could reach into it to its last byte.
pub record RoomFor (os : List Observation) (ws : List (Row Write)) (k : ℕ) (p : Payload) : Type 0 where
  pub fits : unfit k p.value ≡ false
  pub o : Observation
  pub member : Memᴰ o os
  pub below : o.lo ≤ k - (limits.longest - 1)
  pub above : last_byte k p.value ≤ o.hi
  pub own : (j : ℕ) (q : Payload) → (j ≡ k → ⊥) → look ws j ≡ some (written q) → share j q.value k p.value ≡ false
  pub others :
      (j : ℕ) (q : Payload) → (j ≡ k → ⊥) → look ws j ≡ none → o.lo ≤ j → j ≤ o.hi → payload_of (o.seen j) ≡ some q
      → share j q.value k p.value ≡ false

-- in a guarded map, each put of the write set has room
abbrev pub Roomy : Bool → List Observation → List (Row Write) → Type 0
Roomy g os ws = g ≡ true → (k : ℕ) (p : Payload) → look ws k ≡ some (written p) → RoomFor os ws k p

-- The write set would not change r at k.
pub data Harmless (ws : List (Row Write)) (k : ℕ) (r : Option Record) : Type 0 where
  unwritten : look ws k ≡ none → Harmless ws k r
  already_absent : look ws k ≡ some deleted → r ≡ none → Harmless ws k r

abbrev pub ChecksUpTo : Facts → ℕ → ℕ → Type 0
ChecksUpTo F m w = (is_checked (F.worker w).stage ≡ true) × ((F.worker w).number ≤ m)

-- What makes a transaction numbered m + 1 serial.
pub record Valid (F : Facts) (ts : List (Row Transaction)) (m : ℕ) (os : List Observation) : Type 0 where
  pub before : Matches os (list_after ts m)
  pub unharmed :
      (w : ℕ) → ChecksUpTo F m w → Throughout os (λ (k : ℕ) (r : Option Record). Harmless (F.worker w).writes k r)

-- A checked transaction, with number m + 1.
pub record CheckedAs (F : Facts) (ts : List (Row Transaction)) (x : Worker) (t : Transaction) (os : List Observation) (since : ℕ) : Type 0 where
  pub m : ℕ
  pub number : x.number ≡ suc m
  pub told : t.number ≡ suc m
  pub given : m < F.given
  pub later : since ≤ m
  pub valid : Valid F ts m os
  pub unused : look ts (suc m) ≡ none
  pub latest : (k : ℕ) → present (look x.writes k) ≡ true → NoLaterWriter (suc m) ts k

-- worker w has the lock of k, for a put or not
abbrev pub HasLock : Facts → ℕ → ℕ → Bool → Type 0
HasLock F w k b = (F.holder k ≡ some w) × (F.for_put k ≡ b)

-- the write set has a put at k
abbrev pub put_at : List (Row Write) → ℕ → Bool
put_at ws k = maybe (look ws k) false is_put

-- A worker whose transaction goes on.
pub record Working (F : Facts) (ρ : Reading) (w : ℕ) (x : Worker) : Type 0 where
  pub t : Transaction
  pub running : look ρ.running w ≡ some t
  pub wrote : event_writes t.events ≡ x.writes
  pub os : List Observation
  pub explains : Explains os t.events
  -- the last number given when it began, so that all that were installed before have a smaller one
  pub since : ℕ
  pub since_given : since ≤ F.given
  pub past : (r : Row Transaction) → Memᴰ r ρ.installed → r.item.ended < t.begun → r.key ≤ since
  pub begun : t.begun ≤ ρ.place
  pub backed : is_checked x.stage ≡ false → Throughout os (Backed F x)
  pub locked : is_open x.stage ≡ false → (k : ℕ) → present (look x.writes k) ≡ true → HasLock F w k (put_at x.writes k)
  pub checked : is_checked x.stage ≡ true → CheckedAs F ρ.installed x t os since
  pub saw : is_open x.stage ≡ true → AllSaw x os
  pub room : is_open x.stage ≡ false → Roomy F.guard os x.writes

-- An installed transaction.
pub record Done (F : Facts) (ts : List (Row Transaction)) (r : Row Transaction) : Type 0 where
  pub m : ℕ
  pub number : r.key ≡ suc m
  pub given : m < F.given
  pub os : List Observation
  pub explains : Explains os r.item.events
  pub valid : Valid F ts m os
  pub past : (q : Row Transaction) → Memᴰ q ts → q.item.ended < r.item.begun → q.key ≤ m
  pub room : Roomy F.guard os (event_writes r.item.events)

pub record Invariant (F : Facts) (ρ : Reading) : Type 0 where
  pub numbers : ρ.given ≡ F.given
  -- the current records are what all installed transactions leave, in the order of their numbers
  pub current : (k : ℕ) → F.current k ≡ look (list_after ρ.installed F.given) k
  pub different : Different (keys ρ.installed)
  pub done : (r : Row Transaction) → Memᴰ r ρ.installed → Done F ρ.installed r
  pub begun : (r : Row Transaction) → Memᴰ r ρ.installed → r.item.begun ≤ ρ.place
  pub working : (w : ℕ) → is_free (F.worker w).stage ≡ false → Working F ρ w (F.worker w)
  -- two checked transactions have different numbers
  pub apart :
      (w v : ℕ) → is_checked (F.worker w).stage ≡ true → is_checked (F.worker v).stage ≡ true
      → (F.worker w).number ≡ (F.worker v).number → w ≡ v
