-- Document 01, "Seats and steps" and "Refusals by number": workers, the eleven steps, when each is refused, what a granted
-- one answers and changes, and a run of steps. A step is an act of a worker or a merge; most acts are accesses of an open
-- transaction, which rewrite their own worker and nothing else.
use Rattle.std.specs.Prelude.{ℕ, suc, ◌+◌, min, Bool, true, false, not, List, [], ◌∷◌, ◌++◌, map, length, get_or, set, replicate}
use Rattle.std.proofs.Math.Option.{Option, none, some}
use Rattle.lists.specs.Tests.{pick, both, either, maybe, present, less}
use Rattle.lists.specs.Rows.{Row, row, look, insert, lay, between, keys, map_items, any}
use Rattle.spec.specs.declared.Refusal.{Refusal}
use Rattle.spec.specs.declared.Refusal.TheVariants.{NoWorker, WorkerFree, WorkerTaken, WrongStage, Backward, LogFull, WritesFull, ShortBuffer, Held, IndexletFull, MapFull, Changed, UnderLock, Phantom, Spent, Unfit, Uncovered, Overlap}
use Rattle.spec.specs.declared.Stage.{Stage}
use Rattle.spec.specs.declared.Stage.TheVariants.{Free, Open, Locked, Checked}
use Rattle.spec.specs.Refusals.{ends}
use Rattle.spec.specs.Records.{limits, Made, Payload, Record, Write, written, deleted, own_view, payload_of, same_record}
use Rattle.spec.specs.Leaves.{meeting}
use Rattle.spec.specs.Slots.{content_of, search}
use Rattle.spec.specs.Guards.{Scan, unfit, uncovered, overlapped, any_put}
use Rattle.spec.specs.Maps.{MapState, fresh_map, current, indexed_between, held_by_other, phantom_in, waiting_with, addresses_with, merging, lock_all, unlock_all, install_all, Merged, merge_at, oldest}

-- ---- state

-- A worker and its transaction (document 01: a seat and its job).
pub record Worker : Type 0 where
  pub stage : Stage
  pub reads : List (Row (Option Record))  -- the log's record entries: address and present record, or its absence
  pub versions : List ℕ  -- the log's marks
  pub scans : List Scan  -- its granted scans, in their order (request 102)
  pub writes : List (Row Write)  -- the edits, by rising address
  pub number : ℕ  -- the commit number, once checked

abbrev pub free_worker : Worker
free_worker = record { stage = Free; reads = []; versions = []; scans = []; writes = []; number = 0 }

-- The last commit number and the last leaf version given (document 01: serial number and mark), and how many installs there
-- were (request 101).
pub record Counters : Type 0 where
  pub number : ℕ
  pub version : ℕ
  pub installs : ℕ

pub record State : Type 0 where
  pub made : Made
  pub counters : Counters
  pub map : MapState
  pub workers : List Worker

-- a fresh map: empty, nothing waiting or locked, no number given, every worker free
abbrev pub fresh : Made → State
fresh d =
    record {
      made = d;
      counters = record { number = 0; version = 0; installs = 0 };
      map = fresh_map;
      workers = replicate limits.workers free_worker;
    }

unfoldable pub worker_of : State → ℕ → Worker
worker_of σ w = get_or σ.workers w free_worker

-- ---- steps and answers

-- The places of the three buffers that a scan is lent.
pub record Places : Type 0 where
  pub addresses : ℕ
  pub values : ℕ
  pub owners : ℕ

abbrev pub places : ℕ → ℕ → ℕ → Places
places a v o = record { addresses = a; values = v; owners = o }

-- the shortest buffer decides
unfoldable pub shortest : Places → ℕ
shortest b = min (min b.addresses b.values) b.owners

-- What an open transaction does. A scan has lo, hi and the places of its buffers.
pub data Access : Type 0 where
  read_at : ℕ → Access
  scan_over : ℕ → ℕ → Places → Access
  put_to : ℕ → Payload → Access
  remove_at : ℕ → Access

-- What a worker does.
pub data Act : Type 0 where
  beginning : Act
  access : Access → Act
  locking : Act
  validating : Act
  installing : Act
  aborting : Act

-- An act of a worker, or a merge.
pub data Step : Type 0 where
  act : ℕ → Act → Step
  merge : ℕ → Step
  merge_oldest : Step  -- request 101: a merge at the address that has waited longest

-- document 01's steps by their names
abbrev pub begin : ℕ → Step
begin w = act w beginning

abbrev pub read : ℕ → ℕ → Step
read w k = act w (access (read_at k))

abbrev pub scan : ℕ → ℕ → ℕ → Places → Step
scan w lo hi b = act w (access (scan_over lo hi b))

abbrev pub put : ℕ → ℕ → Payload → Step
put w k p = act w (access (put_to k p))

abbrev pub remove : ℕ → ℕ → Step
remove w k = act w (access (remove_at k))

abbrev pub lock : ℕ → Step
lock w = act w locking

abbrev pub validate : ℕ → Step
validate w = act w validating

abbrev pub install : ℕ → Step
install w = act w installing

abbrev pub abort : ℕ → Step
abort w = act w aborting

-- the worker that a step names
unfoldable pub step_worker : Step → Option ℕ
step_worker (act w a) = some w
step_worker (merge a) = none
step_worker merge_oldest = none

-- what a step does in an open transaction, if it is such a one
unfoldable pub access_of : Step → Option Access
access_of (act w (access a)) = some a
access_of (act w beginning) = none
access_of (act w locking) = none
access_of (act w validating) = none
access_of (act w installing) = none
access_of (act w aborting) = none
access_of (merge a) = none
access_of merge_oldest = none

pub data Answer : Type 0 where
  refused : Refusal → Answer
  done : Answer  -- granted, nothing more to tell
  found : Option Payload → ℕ → Answer  -- a read: value and owner, or absent, and how many slots its look-up examined
  listed : List (Row Payload) → Answer  -- a scan: the first places of its buffers, as many as it counts
  numbered : ℕ → Answer  -- a validation: the commit number
  counted : ℕ → Answer  -- a merge: how many writes entered the index

-- ---- what steps look at

unfoldable pub is_free : Stage → Bool
is_free Free = true
is_free Open = false
is_free Locked = false
is_free Checked = false

unfoldable pub is_open : Stage → Bool
is_open Free = false
is_open Open = true
is_open Locked = false
is_open Checked = false

unfoldable pub is_locked : Stage → Bool
is_locked Free = false
is_locked Open = false
is_locked Locked = true
is_locked Checked = false

unfoldable pub is_checked : Stage → Bool
is_checked Free = false
is_checked Open = false
is_checked Locked = false
is_checked Checked = true

-- the worker's own write at an address
unfoldable pub own_write : State → ℕ → ℕ → Option Write
own_write σ w k = look (worker_of σ w).writes k

-- how many slots the look-up of a read examines (request 103): none, where the worker's own write answers it
unfoldable pub slots_examined : State → ℕ → ℕ → ℕ
slots_examined σ w k =
    maybe (own_write σ w k) (search limits.bytes σ.map.slots k).examined (λ (e : Write). 0)

-- the records a scan shows: index addresses with their present records, and the worker's own writes laid over
unfoldable pub scanned : State → ℕ → ℕ → ℕ → List (Row Payload)
scanned σ w lo hi =
    lay (map_items own_view (between lo hi (worker_of σ w).writes))
    (lay (map_items payload_of (indexed_between σ.map lo hi)) [])

-- what a scan logs
unfoldable pub scan_reads : State → ℕ → ℕ → List (Row (Option Record))
scan_reads σ lo hi = indexed_between σ.map lo hi

unfoldable pub scan_versions : State → ℕ → ℕ → List ℕ
scan_versions σ lo hi = meeting σ.map.leaves lo hi

-- the scan, as the transaction remembers it: its rows come behind those that are logged already
unfoldable pub remembered : State → ℕ → ℕ → ℕ → Scan
remembered σ w lo hi =
    record { lo = lo; hi = hi; from = length (worker_of σ w).reads; count = length (scan_reads σ lo hi) }

-- ---- refusals

pub record Cause : Type 0 where
  pub holds : Bool
  pub refusal : Refusal

abbrev pub cause : Bool → Refusal → Cause
cause b r = record { holds = b; refusal = r }

unfoldable pub no_worker : State → ℕ → Cause
no_worker σ w = cause (not (less w limits.workers)) NoWorker

unfoldable pub worker_free : State → ℕ → Cause
worker_free σ w = cause (is_free (worker_of σ w).stage) WorkerFree

unfoldable pub wrong_stage : (Stage → Bool) → State → ℕ → Cause
wrong_stage right σ w = cause (not (right (worker_of σ w).stage)) WrongStage

unfoldable pub read_log_full : State → ℕ → ℕ → Bool
read_log_full σ w k =
    both (not (present (own_write σ w k))) (not (less (length (worker_of σ w).reads) limits.read_limit))

unfoldable pub scan_log_full : State → ℕ → ℕ → ℕ → Bool
scan_log_full σ w lo hi =
    either
    (less limits.read_limit (length (worker_of σ w).reads + length (scan_reads σ lo hi)))
    (less limits.leaf_set_limit (length (worker_of σ w).versions + length (scan_versions σ lo hi)))

unfoldable pub writes_full : State → ℕ → ℕ → Bool
writes_full σ w k =
    both (not (present (own_write σ w k))) (not (less (length (worker_of σ w).writes) limits.write_limit))

-- another worker has the lock of k
unfoldable pub locked_by_other : State → ℕ → ℕ → Bool
locked_by_other σ w k = held_by_other w (content_of σ.map.slots k)

unfoldable pub write_keys : State → ℕ → List ℕ
write_keys σ w = keys (worker_of σ w).writes

-- a logged address now has another presence, value or stamp
unfoldable pub changed_since : State → Row (Option Record) → Bool
changed_since σ r = not (same_record (current σ.map r.key) r.item)

-- in a guarded map, some put of the worker's write set meets the test
unfoldable pub guard : State → ℕ → (ℕ → ℕ → Bool) → Bool
guard σ w f = both σ.made.guarded (any_put f (worker_of σ w).writes)

unfoldable pub unfit_put : State → ℕ → Bool
unfit_put σ w = guard σ w unfit

unfoldable pub uncovered_put : State → ℕ → Bool
uncovered_put σ w = guard σ w (uncovered (worker_of σ w).scans)

unfoldable pub overlapped_put : State → ℕ → Bool
overlapped_put σ w =
    guard σ w (overlapped (worker_of σ w).reads (worker_of σ w).scans (worker_of σ w).writes)

-- the causes that a step has as one of an open transaction's
unfoldable pub access_causes : State → ℕ → Access → List Cause
access_causes σ w (read_at k) = cause (read_log_full σ w k) LogFull ∷ []
access_causes σ w (scan_over lo hi b) =
    cause (less hi lo) Backward
    ∷ cause (scan_log_full σ w lo hi) LogFull
    ∷ cause (less (shortest b) (length (scanned σ w lo hi))) ShortBuffer
    ∷ []
access_causes σ w (put_to k p) = cause (writes_full σ w k) WritesFull ∷ []
access_causes σ w (remove_at k) = cause (writes_full σ w k) WritesFull ∷ []

-- The causes of a step's refusals, in the order in which they are answered: by their numbers, but where a request gives one
-- its place.
unfoldable pub causes : State → Step → List Cause
causes σ (act w beginning) = no_worker σ w ∷ cause (not (is_free (worker_of σ w).stage)) WorkerTaken ∷ []
causes σ (act w (access a)) = no_worker σ w ∷ worker_free σ w ∷ wrong_stage is_open σ w ∷ access_causes σ w a
causes σ (act w locking) =
    no_worker σ w
    ∷ worker_free σ w
    ∷ wrong_stage is_open σ w
    ∷ cause (unfit_put σ w) Unfit
    ∷ cause (uncovered_put σ w) Uncovered
    ∷ cause (overlapped_put σ w) Overlap
    ∷ cause (any (locked_by_other σ w) (write_keys σ w)) Held
    ∷ cause (less σ.made.tuning.waiting_limit (waiting_with σ.map (write_keys σ w))) IndexletFull
    ∷ cause (less limits.map_limit (addresses_with σ.map (write_keys σ w))) MapFull
    ∷ []
causes σ (act w validating) =
    no_worker σ w
    ∷ worker_free σ w
    ∷ wrong_stage is_locked σ w
    ∷ cause (any (changed_since σ) (worker_of σ w).reads) Changed
    ∷ cause (any (locked_by_other σ w) (keys (worker_of σ w).reads)) UnderLock
    ∷ cause (any (phantom_in σ.map w) (worker_of σ w).versions) Phantom
    ∷ cause (not (less σ.counters.number limits.last_number)) Spent
    ∷ []
causes σ (act w installing) = no_worker σ w ∷ worker_free σ w ∷ wrong_stage is_checked σ w ∷ []
causes σ (act w aborting) = no_worker σ w ∷ worker_free σ w ∷ []
causes σ (merge a) = []
causes σ merge_oldest = []

-- the first cause that holds
unfoldable pub first_cause : List Cause → Option Refusal
first_cause [] = none
first_cause (c ∷ cs) = pick c.holds (some c.refusal) (first_cause cs)

unfoldable pub refusal : State → Step → Option Refusal
refusal σ s = first_cause (causes σ s)

-- ---- granted steps

-- the answer to a merge at address a
abbrev pub merge_count : State → ℕ → Answer
merge_count σ a = counted (length (merging σ.map a))

-- the answer to a granted step of an open transaction
unfoldable pub access_answer : State → ℕ → Access → Answer
access_answer σ w (read_at k) = found (maybe (own_write σ w k) (payload_of (current σ.map k)) own_view) (slots_examined σ w k)
access_answer σ w (scan_over lo hi b) = listed (scanned σ w lo hi)
access_answer σ w (put_to k p) = done
access_answer σ w (remove_at k) = done

unfoldable pub granted : State → Step → Answer
granted σ (act w beginning) = done
granted σ (act w (access a)) = access_answer σ w a
granted σ (act w locking) = done
granted σ (act w validating) = numbered (suc σ.counters.number)
granted σ (act w installing) = done
granted σ (act w aborting) = done
granted σ (merge a) = merge_count σ a
granted σ merge_oldest = merge_count σ (oldest σ.map)

unfoldable pub with_worker : State → ℕ → Worker → State
with_worker σ w x =
    record { made = σ.made; counters = σ.counters; map = σ.map; workers = set σ.workers w x }

unfoldable pub with_map : State → MapState → State
with_map σ m = record { made = σ.made; counters = σ.counters; map = m; workers = σ.workers }

unfoldable pub with_counters : State → ℕ → ℕ → State
with_counters σ n v =
    record {
      made = σ.made;
      counters = record { number = n; version = v; installs = σ.counters.installs };
      map = σ.map;
      workers = σ.workers;
    }

-- one install more is counted
unfoldable pub install_counted : State → State
install_counted σ =
    record {
      made = σ.made;
      counters =
          record {
            number = σ.counters.number;
            version = σ.counters.version;
            installs = suc σ.counters.installs;
          };
      map = σ.map;
      workers = σ.workers;
    }

unfoldable pub at_stage : Stage → Worker → Worker
at_stage st x =
    record { stage = st; reads = x.reads; versions = x.versions; scans = x.scans; writes = x.writes; number = x.number }

-- the worker with more in its log, and with scans more to remember
unfoldable pub logged : List (Row (Option Record)) → List ℕ → List Scan → Worker → Worker
logged rs vs cs x =
    record {
      stage = x.stage;
      reads = x.reads ++ rs;
      versions = x.versions ++ vs;
      scans = x.scans ++ cs;
      writes = x.writes;
      number = x.number;
    }

unfoldable pub writing : ℕ → Write → Worker → Worker
writing k e x =
    record {
      stage = x.stage;
      reads = x.reads;
      versions = x.versions;
      scans = x.scans;
      writes = insert k e x.writes;
      number = x.number;
    }

unfoldable pub checked_as : ℕ → Worker → Worker
checked_as n x =
    record { stage = Checked; reads = x.reads; versions = x.versions; scans = x.scans; writes = x.writes; number = n }

-- what a read logs: nothing, where the worker's own write answered it
unfoldable pub read_rows : State → ℕ → ℕ → List (Row (Option Record))
read_rows σ w k = maybe (own_write σ w k) (row k (current σ.map k) ∷ []) (λ (e : Write). [])

-- the transaction of w is over: its locks go, and the worker is free
unfoldable pub dropped : State → ℕ → State
dropped σ w = with_worker (with_map σ (unlock_all w σ.map (write_keys σ w))) w free_worker

unfoldable pub merged : State → Merged → State
merged σ r = with_counters (with_map σ r.map) σ.counters.number r.version

-- the state after a merge at address a
abbrev pub merged_at : State → ℕ → State
merged_at σ a = merged σ (merge_at σ.made.tuning σ.counters.version σ.map a)

-- the map once the transaction of w is installed
abbrev pub installed_map : State → ℕ → MapState
installed_map σ w =
    install_all (worker_of σ w).number (suc σ.counters.installs) σ.map (worker_of σ w).writes

-- the worker after a step of its open transaction, which changes nothing else
unfoldable pub accessed : State → ℕ → Access → Worker
accessed σ w (read_at k) = logged (read_rows σ w k) [] [] (worker_of σ w)
accessed σ w (scan_over lo hi b) =
    logged (scan_reads σ lo hi) (scan_versions σ lo hi) (remembered σ w lo hi ∷ []) (worker_of σ w)
accessed σ w (put_to k p) = writing k (written p) (worker_of σ w)
accessed σ w (remove_at k) = writing k deleted (worker_of σ w)

-- the state after a granted step
unfoldable pub effect : State → Step → State
effect σ (act w beginning) = with_worker σ w (at_stage Open free_worker)
effect σ (act w (access a)) = with_worker σ w (accessed σ w a)
effect σ (act w locking) =
    with_worker (with_map σ (lock_all w σ.map (worker_of σ w).writes)) w (at_stage Locked (worker_of σ w))
effect σ (act w validating) =
    with_worker (with_counters σ (suc σ.counters.number) σ.counters.version) w
    (checked_as (suc σ.counters.number) (worker_of σ w))
effect σ (act w installing) = install_counted (with_worker (with_map σ (installed_map σ w)) w free_worker)
effect σ (act w aborting) = dropped σ w
effect σ (merge a) = merged_at σ a
effect σ merge_oldest = merged_at σ (oldest σ.map)

-- ---- steps, granted or refused

-- the state after a refused step: 12, 13 and 14 end the transaction, all others leave everything
unfoldable pub after_refusal : State → Step → Refusal → State
after_refusal σ s r = pick (ends r) (maybe (step_worker s) σ (dropped σ)) σ

unfoldable pub answer : State → Step → Answer
answer σ s = maybe (refusal σ s) (granted σ s) refused

unfoldable pub next : State → Step → State
next σ s = maybe (refusal σ s) (effect σ s) (after_refusal σ s)

-- ---- runs

-- A step that was taken, and its answer.
pub record Event : Type 0 where
  pub step : Step
  pub answer : Answer

-- the state after the steps
unfoldable pub final : State → List Step → State
final σ [] = σ
final σ (s ∷ ss) = final (next σ s) ss

-- the steps with their answers, in the order in which they were taken
unfoldable pub history : State → List Step → List Event
history σ [] = []
history σ (s ∷ ss) = record { step = s; answer = answer σ s } ∷ history (next σ s) ss

-- the steps of a history
abbrev pub steps_of : List Event → List Step
steps_of [] = []
steps_of (e ∷ es) = e.step ∷ steps_of es
