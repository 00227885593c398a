-- Lock, as it goes: refused by 1, 2, 4, in a guarded map by 16, 17 or 18, by 9, 10 or 11, or the addresses of the write set are
-- locked.
use Rattle.std.specs.Prelude.{ℕ, Result, Ok, Err, ◌+◌, ◌^◌, ◌<◌, ◌≡◌, refl, Bool, true, false, get_or, set}
use Rattle.std.proofs.Common.{arith, ◌∙◌, subst, inl}
use Rattle.std.proofs.Math.Path.{sym, ap}
use mathlib.Core.List.{List, [], ◌∷◌}
use Rattle.std.proofs.Math.Option.{Option, none, some}
use Rattle.lists.specs.Tests.{pick, both, maybe, less}
use Rattle.lists.specs.TestLaws.{less_false}
use Rattle.lists.specs.Rows.{Row, keys, any, Rising}
use Rattle.lists.specs.RowLaws.{rising_different}
use Rattle.spec.specs.declared.Refusal.{Refusal}
use Rattle.spec.specs.declared.Refusal.TheVariants.{Held, IndexletFull, MapFull, Unfit, Uncovered, Overlap}
use Rattle.spec.specs.declared.Stage.TheVariants.{Locked}
use Rattle.spec.specs.Records.{limits, standard, Record, Write}
use Rattle.spec.specs.Guards.{Scan, unfit, uncovered, overlapped, any_put}
use Rattle.spec.specs.Refusals.{ends}
use Rattle.spec.specs.Leaves.{Leaf}
use Rattle.spec.specs.Slots.{Slot, content_of}
use Rattle.spec.specs.Maps.{MapState, held_by_other, waiting_with, addresses_with, with_slots, lock_all}
use Rattle.spec.specs.Steps as model
use Rattle.spec.specs.Steps.{State, worker_of, lock, is_open, locked_by_other, write_keys, guard, unfit_put, uncovered_put, overlapped_put, Cause, cause, no_worker, worker_free, wrong_stage, causes, first_cause, refusal, granted, effect, with_worker, with_map, at_stage}
use Rattle.laws.specs.WorkerLaws.{cause_passed}
use Rattle.workers.specs.declared.Worker.{Worker}
use Rattle.workers.specs.Workers.{worker_in, at_lock}
use Rattle.workers.proofs.WorkerLaws.{lock_in}
use Rattle.sets.specs.Reads.{ReadRows, reads_in}
use Rattle.sets.specs.Leaves.{LeafSetRows, scans_in}
use Rattle.sets.specs.Writes.{WriteRows, writes_of, writes_in}
use Rattle.map.specs.declared.Sizes.{Sizes}
use Rattle.map.specs.Views.{slots_in, records_in, SlotRows, RecordRows, Lent, map_of}
use Rattle.map.specs.Entries.{MapBecomes}
use Rattle.map.specs.LockLaws.{Lockable}
use Rattle.map.specs.AddressCounts.{WaitsBeyond, AddressedBeyond}
use Rattle.guards.specs.Judging.{refusal_in, guard_causes, Guardable}
use Rattle.transactions.specs.Cores.{Core}
use Rattle.transactions.specs.Answering.{front, front_first, cause_holds, cause_fails, yields_granted, yields_refused}
use Rattle.transactions.specs.Admits.{Turned, Entered}
use Rattle.transactions.specs.Views.{Logs, logs, guarded_in, state_of}
use Rattle.transactions.specs.ViewLaws.{worker_at_lem}
use Rattle.transactions.specs.Ready.{worker_at, Stored, Ready, Refines}
use Rattle.transactions.specs.ReadyLaws.{refines, refines_refused}
use Rattle.transactions.specs.CoreLaws.{worker_is, within, ready_writable, worker_writable}
use Rattle.transactions.specs.Begins.{plain_in}
use Rattle.commits.specs.Commits.{Reaches, with_workers, reached, worker_inside, writes_are, keys_are}
use Rattle.commits.specs.Finishes.{mild}

-- ---- the tests of the write set

-- refusals 9, 10 and 11 of a write set with these addresses
unfoldable pub lock_tests : MapState → List ℕ → ℕ → Option Refusal
lock_tests m ks w =
    first_cause
    (cause (any (λ (k : ℕ). held_by_other w (content_of m.slots k)) ks) Held
    ∷ cause (less standard.waiting_limit (waiting_with m ks)) IndexletFull
    ∷ cause (less limits.map_limit (addresses_with m ks)) MapFull
    ∷ [])

-- what they answer, of every map with these records and slots
pub record Tested (rows : RecordRows) (slots : SlotRows) (us : WriteRows) (z : Sizes) (n w : ℕ) (a : Result Unit Refusal) : Type 0 where
  pub is : (m : MapState) → m.records ≡ records_in rows z.records → m.slots ≡ slots_in slots → lock_tests m (keys (writes_of us n)) w ≡ refusal_in a

module _ (rows : RecordRows) (slots : SlotRows) (us : WriteRows) (z : Sizes) (n w : ℕ) {b : Bool} (held : b ≡ any (λ (k : ℕ). held_by_other w (content_of (slots_in slots) k)) (keys (writes_of us n))) where
  in_map : (m : MapState) → m.slots ≡ slots_in slots → any (λ (k : ℕ). held_by_other w (content_of m.slots k)) (keys (writes_of us n)) ≡ b
  in_map m s = ap (λ (ss : List Slot). any (λ (k : ℕ). held_by_other w (content_of ss k)) (keys (writes_of us n))) s ∙ sym held

  pub tested_held : b ≡ true → Tested rows slots us z n w (Err Held)
  unfolding lock_tests
  tested_held t = record { is = λ m e s. cause_holds _ Held _ (in_map m s ∙ t) }

  module _ (free : b ≡ false) {v : Bool} (waits : WaitsBeyond slots us n v) where
    pub tested_full : v ≡ true → Tested rows slots us z n w (Err IndexletFull)
    unfolding lock_tests
    tested_full l =
        record {
          is = λ m e s. cause_fails _ Held _ (in_map m s ∙ free) ∙ cause_holds _ IndexletFull _ (sym (waits.is m s) ∙ l);
        }

    module _ (few : v ≡ false) {u : Bool} (all : AddressedBeyond rows slots us z n u) where
      past : (m : MapState) → m.slots ≡ slots_in slots
          → lock_tests m (keys (writes_of us n)) w ≡ first_cause (cause (less limits.map_limit (addresses_with m (keys (writes_of us n)))) MapFull ∷ [])
      unfolding lock_tests
      past m s =
          cause_fails _ Held _ (in_map m s ∙ free)
          ∙ cause_fails _ IndexletFull _ (sym (waits.is m s) ∙ few)

      pub tested_map : u ≡ true → Tested rows slots us z n w (Err MapFull)
      tested_map l = record { is = λ m e s. past m s ∙ cause_holds _ MapFull [] (sym (all.is m e s) ∙ l) }

      pub tested_passed : u ≡ false → Tested rows slots us z n w (Ok tt)
      unfolding first_cause
      tested_passed l = record { is = λ m e s. past m s ∙ cause_fails _ MapFull [] (sym (all.is m e s) ∙ l) }

-- the tests are passed
tested_lockable : (m : MapState) (us : List (Row Write)) (w : ℕ) → lock_tests m (keys us) w ≡ none → Rising us → Lockable m us
unfolding lock_tests
tested_lockable m us w e f =
    let a = cause_passed _ _ e in
    let b = cause_passed _ _ a.1 in
    let c = cause_passed _ _ b.1 in
    record {
      waiting = less_false standard.waiting_limit (waiting_with m (keys us)) b.0;
      addresses = less_false limits.map_limit (addresses_with m (keys us)) c.0;
      once = rising_different us f;
    }

pub tested_can : (rows : RecordRows) (slots : SlotRows) (us : WriteRows) (z : Sizes) (n w : ℕ) (ls : List Leaf) (u : Unit) → Tested rows slots us z n w (Ok u) → Rising (writes_of us n)
    → Lockable (record { records = records_in rows z.records; leaves = ls; slots = slots_in slots }) (writes_of us n)
tested_can rows slots us z n w ls u t f = tested_lockable _ (writes_of us n) w (t.is _ refl refl) f

-- a worker's number and one more is a word
pub worker_fits : (w : ℕ) → w < limits.workers → w + 1 < 2 ^ 64
worker_fits w h = omega arith

-- ---- an open worker's lock

-- What comes of it: the causes after the first three, the state, and the arrays.
pub record LocksOpen (l : Lent) (ws : List WriteRows) (c : Core) (w : ℕ) (l' : Lent) (c' : Core) (a : Result Unit Refusal) : Type 0 where
  pub tests : lock_tests (map_of l c.sizes) (keys (writes_in ws w (worker_at c w).writes)) w ≡ refusal_in a
  pub reaches : Reaches (λ (σ : State). maybe (refusal_in a) (effect σ (lock w)) (λ (r : Refusal). σ)) l ws c l' c'

same_tests : (l : Lent) (ws : List WriteRows) (c : Core) (w : ℕ) (x : Worker) (a : Result Unit Refusal) → x ≡ worker_at c w
    → Tested l.rows l.slots (get_or ws w []) c.sizes x.writes w a
    → lock_tests (map_of l c.sizes) (keys (writes_in ws w (worker_at c w).writes)) w ≡ refusal_in a
same_tests l ws c w x a e t =
    ap (λ (u : Worker). lock_tests (map_of l c.sizes) (keys (writes_in ws w u.writes)) w) (sym e) ∙ t.is (map_of l c.sizes) refl refl

pub locks_refused : (l : Lent) (ws : List WriteRows) (c : Core) (w : ℕ) (x : Worker) (r : Refusal) → x ≡ worker_at c w
    → Tested l.rows l.slots (get_or ws w []) c.sizes x.writes w (Err r) → LocksOpen l ws c w l c (Err r)
locks_refused l ws c w x r e t =
    record { tests = same_tests l ws c w x (Err r) e t; reaches = record { state = λ rs ls s. refl; stored = λ rs ls s. s } }

lock_leaves : (w : ℕ) (m : MapState) (us : List (Row Write)) → (lock_all w m us).leaves ≡ m.leaves
unfolding lock_all with_slots
lock_leaves w m us = refl

-- x the worker before it, y after it, xs the workers after it
locks : (l l' : Lent) (ws : List WriteRows) (c : Core) {xs : List Worker} (w : ℕ) (x y : Worker) (z : Sizes) → w < limits.workers → x ≡ worker_at c w → y ≡ at_lock x
    → MapBecomes l' z c.counters.version (lock_all w (map_of l c.sizes) (writes_in ws w x.writes))
    → xs ≡ set c.workers w y → Reaches (λ (σ : State). effect σ (lock w)) l ws c l' (with_workers c xs z)
locks l l' ws c w x y z h e q b p =
    subst (λ (us : List Worker). Reaches (λ (σ : State). effect σ (lock w)) l ws c l' (with_workers c us z))
    (sym (p ∙ ap (set c.workers w) (q ∙ ap at_lock e)))
    (reached (λ (σ : State). effect σ (lock w)) l l' ws c w (at_lock (worker_at c w)) z _ h b
    (lock_leaves w (map_of l c.sizes) (writes_in ws w x.writes)) (inl refl)
    (λ rs ls t. record { reads = (t.counts w h).reads; leaves = (t.counts w h).leaves; writes = (t.counts w h).writes })
    (λ rs ls t.
    (λ i. with_worker (with_map (state_of l (logs rs ls ws) c) (lock_all w (map_of l c.sizes) (us rs ls t i))) w (worker rs ls t i))
    ∙ (unfold effect state_of in refl)))
  where
    us : (rs : List ReadRows) (ls : List LeafSetRows) → Stored l (logs rs ls ws) c → writes_in ws w x.writes ≡ (worker_of (state_of l (logs rs ls ws) c) w).writes
    us rs ls t = ap (λ (u : Worker). writes_in ws w u.writes) e ∙ sym (writes_are l (logs rs ls ws) c w (worker_inside t w h))

    worker : (rs : List ReadRows) (ls : List LeafSetRows) → Stored l (logs rs ls ws) c
        → worker_in (at_lock (worker_at c w)) rs ls ws w ≡ at_stage Locked (worker_of (state_of l (logs rs ls ws) c) w)
    worker rs ls t = lock_in rs ls ws w (worker_at c w) ∙ ap (at_stage Locked) (sym (worker_at_lem l (logs rs ls ws) c w (worker_inside t w h)))

pub locks_granted : (l l' : Lent) (ws : List WriteRows) (c : Core) {xs : List Worker} (w : ℕ) (x y : Worker) (z : Sizes) (u : Unit) → w < limits.workers
    → x ≡ worker_at c w → Tested l.rows l.slots (get_or ws w []) c.sizes x.writes w (Ok u) → y ≡ at_lock x
    → MapBecomes l' z c.counters.version (lock_all w (map_of l c.sizes) (writes_in ws w x.writes))
    → xs ≡ set c.workers w y → LocksOpen l ws c w l' (with_workers c xs z) (Ok u)
locks_granted l l' ws c w x y z u h e t q b v = record { tests = same_tests l ws c w x (Ok u) e t; reaches = locks l l' ws c w x y z h e q b v }

-- ---- the guard

-- refusals 16, 17 and 18 of a worker with these sets, in a guarded map
unfoldable pub guard_tests : Bool → List (Row (Option Record)) → List Scan → List (Row Write) → Option Refusal
guard_tests guarded reads cs ws = pick guarded (first_cause (guard_causes reads cs ws)) none

pub guard_unguarded : (g : Bool) (reads : List (Row (Option Record))) (cs : List Scan) (ws : List (Row Write)) → g ≡ false → none ≡ guard_tests g reads cs ws
unfolding guard_tests
guard_unguarded g reads cs ws e = rw e

pub guard_judged : (g : Bool) (reads : List (Row (Option Record))) (cs : List Scan) (ws : List (Row Write)) (o : Option Refusal) → g ≡ true
    → o ≡ first_cause (guard_causes reads cs ws) → o ≡ guard_tests g reads cs ws
unfolding guard_tests
guard_judged g reads cs ws o e q = q ∙ (rw e)

-- the same, of a worker of the model
guarded_by : Bool → model.Worker → Option Refusal
guarded_by g x =
    first_cause
    (cause (both g (any_put unfit x.writes)) Unfit
    ∷ cause (both g (any_put (uncovered x.scans) x.writes)) Uncovered
    ∷ cause (both g (any_put (overlapped x.reads x.scans x.writes) x.writes)) Overlap
    ∷ [])

guarded_tests : (g : Bool) (x : model.Worker) → guarded_by g x ≡ guard_tests g x.reads x.scans x.writes
unfolding guarded_by guard_tests first_cause
guarded_tests true x = refl
guarded_tests false x = refl

-- ---- the step

-- three causes, and those after them
three_first : (a b c : Cause) (cs : List Cause) → first_cause (a ∷ b ∷ c ∷ cs) ≡ maybe (first_cause (a ∷ b ∷ c ∷ [])) (first_cause cs) some
unfolding first_cause
three_first a b c cs = go a.holds b.holds c.holds
  where
    go : (x y z : Bool)
        → pick x (some a.refusal) (pick y (some b.refusal) (pick z (some c.refusal) (first_cause cs)))
        ≡ maybe (pick x (some a.refusal) (pick y (some b.refusal) (pick z (some c.refusal) none))) (first_cause cs) some
    go true y z = refl
    go false true z = refl
    go false false true = refl
    go false false false = refl

lock_first : (l : Lent) (g : Logs) (c : Core) (w : ℕ)
    → refusal (state_of l g c) (lock w)
    ≡ maybe (front is_open (state_of l g c) w)
    (maybe (guarded_by (guarded_in c.guarded) (worker_of (state_of l g c) w)) (lock_tests (map_of l c.sizes) (write_keys (state_of l g c) w) w) some) some
unfolding refusal causes lock_tests locked_by_other state_of guarded_by unfit_put uncovered_put overlapped_put guard
lock_first l g c w =
    front_first is_open (state_of l g c) w _
    ∙ ap (λ (o : Option Refusal). maybe (front is_open (state_of l g c) w) o some) (three_first _ _ _ _)

lock_mild : (σ : State) (w : ℕ) → any (λ (c : Cause). ends c.refusal) (causes σ (lock w)) ≡ false
unfolding causes no_worker worker_free wrong_stage any
lock_mild σ w = refl

module _ {l : Lent} {rs : List ReadRows} {ls : List LeafSetRows} {ws : List WriteRows} {c : Core} (w : ℕ) (k : Ready l (logs rs ls ws) c) where
  -- the causes after the guard's, and with them
  lock_tests_lem : Option Refusal
  lock_tests_lem = lock_tests (map_of l c.sizes) (write_keys (state_of l (logs rs ls ws) c) w) w

  rest_tests : Option Refusal
  rest_tests = maybe (guarded_by (guarded_in c.guarded) (worker_of (state_of l (logs rs ls ws) c) w)) lock_tests_lem some

  refuses : (r : Refusal) → refusal (state_of l (logs rs ls ws) c) (lock w) ≡ some r
      → Refines l (logs rs ls ws) c (lock w) l (logs rs ls ws) c (plain_in (Err r))
  refuses r e = refines_refused k e (mild (state_of l (logs rs ls ws) c) (lock w) r (lock_mild (state_of l (logs rs ls ws) c) w) e)

  pub lock_refused : (r : Refusal) → Turned is_open c.workers w r → Refines l (logs rs ls ws) c (lock w) l (logs rs ls ws) c (plain_in (Err r))
  unfolding rest_tests lock_tests_lem
  lock_refused r t =
      refuses r
      (lock_first l (logs rs ls ws) c w ∙ ap (λ (o : Option Refusal). maybe o rest_tests some) (t.front_is l (logs rs ls ws) c refl))

  module _ (x : Worker) (t : Entered is_open c.workers w x) where
    -- the worker's rows are what the guard asks
    pub guardable : Guardable (get_or rs w []) (get_or ls w []) (get_or ws w []) x
    guardable =
        let b = within is_open l (logs rs ls ws) c w x k t in
        record {
          reads_held = k.stored.reads.at w t.inside;
          leaves_held = k.stored.leaves.at w t.inside;
          set = worker_writable (ready_writable k) t;
          reads = b.reads;
          leaves = b.leaves;
        }

    -- what the guard says of them
    told : Option Refusal
    told = guard_tests (guarded_in c.guarded) (reads_in rs w x.reads) (scans_in ls w x.leaves) (writes_in ws w x.writes)

    guard_is : guarded_by (guarded_in c.guarded) (worker_of (state_of l (logs rs ls ws) c) w) ≡ told
    unfolding told worker_in
    guard_is =
        guarded_tests (guarded_in c.guarded) (worker_of (state_of l (logs rs ls ws) c) w)
        ∙ ap (λ (y : model.Worker). guard_tests (guarded_in c.guarded) y.reads y.scans y.writes) (worker_is is_open l (logs rs ls ws) c w x k t)

    first_is : refusal (state_of l (logs rs ls ws) c) (lock w) ≡ maybe told lock_tests_lem some
    unfolding rest_tests lock_tests_lem
    first_is =
        lock_first l (logs rs ls ws) c w
        ∙ ap (λ (o : Option Refusal). maybe o rest_tests some) (t.front_is l (logs rs ls ws) c refl)
        ∙ ap (λ (o : Option Refusal). maybe o lock_tests_lem some) guard_is

    -- the guard refuses
    pub lock_barred : (r : Refusal) → some r ≡ guard_tests (guarded_in c.guarded) (reads_in rs w x.reads) (scans_in ls w x.leaves) (writes_in ws w x.writes)
        → Refines l (logs rs ls ws) c (lock w) l (logs rs ls ws) c (plain_in (Err r))
    unfolding told
    lock_barred r q = refuses r (first_is ∙ ap (λ (o : Option Refusal). maybe o lock_tests_lem some) (sym q))

    -- or it passes
    tests_are : told ≡ none
        → refusal (state_of l (logs rs ls ws) c) (lock w) ≡ lock_tests (map_of l c.sizes) (keys (writes_in ws w (worker_at c w).writes)) w
    unfolding lock_tests_lem
    tests_are n =
        first_is
        ∙ ap (λ (o : Option Refusal). maybe o lock_tests_lem some) n
        ∙ ap (λ (ks : List ℕ). lock_tests (map_of l c.sizes) ks w)
        (keys_are l (logs rs ls ws) c w (worker_inside k.stored w t.inside))

    passes : {l' : Lent} {c' : Core} → told ≡ none → (a : Result Unit Refusal) → LocksOpen l ws c w l' c' a
        → Refines l (logs rs ls ws) c (lock w) l' (logs rs ls ws) c' (plain_in a)
    unfolding granted
    passes n (Ok u) q =
        refines k (yields_granted (state_of l (logs rs ls ws) c) (lock w) (tests_are n ∙ q.tests))
        (q.reaches.state rs ls k.stored) (q.reaches.stored rs ls k.stored)
    passes n (Err r) q =
        let e : refusal (state_of l (logs rs ls ws) c) (lock w) ≡ some r = tests_are n ∙ q.tests in
        refines k
        (yields_refused (state_of l (logs rs ls ws) c) (lock w) r e (mild (state_of l (logs rs ls ws) c) (lock w) r (lock_mild (state_of l (logs rs ls ws) c) w) e))
        (q.reaches.state rs ls k.stored) (q.reaches.stored rs ls k.stored)

    pub lock_refines : {l' : Lent} {c' : Core} → none ≡ guard_tests (guarded_in c.guarded) (reads_in rs w x.reads) (scans_in ls w x.leaves) (writes_in ws w x.writes)
        → (a : Result Unit Refusal) → LocksOpen l ws c w l' c' a → Refines l (logs rs ls ws) c (lock w) l' (logs rs ls ws) c' (plain_in a)
    unfolding told
    lock_refines q a h = passes (sym q) a h
