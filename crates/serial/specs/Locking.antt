-- Begin, lock, and the end of a transaction that is not installed keep the invariant.
use Prim.Native.Nat.{ℕ, ◌<◌, ◌≤◌}
use Rattle.std.proofs.Math.Nat.{le_refl, le_step}
use Rattle.std.proofs.Common.{le_trans, le_of_eq, ◌∙◌, subst, ⊎_elim}
use Rattle.std.specs.Prelude.{◌≡◌, Bool, not, length}
use Rattle.std.proofs.Math.Path.{refl, sym, ap}
use Rattle.std.proofs.Math.Bool.{true, false}
use mathlib.Core.List.Memᴰ
use mathlib.Core.List.{List, [], Memᴰ}
use Rattle.std.proofs.Math.Option.{Option, none, some}
use Rattle.lists.specs.Tests.{pick, both, maybe, present, same}
use Rattle.lists.specs.TestLaws.{cases, clash}
use Rattle.lists.specs.Rows.{Row, look, has, Rising}
use Rattle.lists.specs.RowLaws.{has_keys, rising_nil}
use Rattle.spec.specs.declared.Stage.TheVariants.{Open, Locked}
use Rattle.spec.specs.Records.{limits, Record, Write, is_put}
use Rattle.spec.specs.Slots.{Pending, Content, content_of}
use Rattle.spec.specs.Guards.{any_put}
use Rattle.spec.specs.Maps.{MapState, outcome_of, current, held_by_other, with_slots, lock_all, unlock_all}
use Rattle.spec.specs.Steps.{Worker, free_worker, State, worker_of, lock, done, Event, is_open, is_checked, guard, unfit_put, uncovered_put, overlapped_put, locked_by_other, write_keys, with_worker, with_map, at_stage, dropped, access_of}
use Rattle.spec.specs.Sequential.{Agrees, AllAgree}
use Rattle.spec.specs.Claim.{Transaction, Reading, running_now, passed, started, goes_on}
use Rattle.laws.specs.MapLaws.{LockRoom, locked_by, locked_pending, lock_good, lock_says, unlocked, unlocked_other, unlocked_pending, unlock_good, unlock_says}
use Rattle.serial.specs.Stages.{open_open, open_not_checked, free_free}
use Rattle.serial.specs.Feeding.{writes_of_nil, wrote}
use Rattle.serial.specs.Guarding.{lock_room_for}
use Rattle.serial.specs.Invariant.{Throughout, Backed, by_read, by_leaf, AllSaw, Roomy, HasLock, put_at, Working, Invariant}
use Rattle.serial.specs.Observing.{explain_quiet}
use Rattle.serial.specs.Model.{facts, Fine, worker_same, worker_free_lem, fine_worker, read_passed, read_running, running_same, running_other}
use Rattle.serial.specs.Continuing.{Sound, OwnLocks, own_map, own_worker, goes_on_lem, read_goes_on, running_goes_on, IsOpen, g, g_backed, g_saw}

-- ---- begin

pub begin_sound : (σ : State) (ρ : Reading) (w : ℕ) → w < length σ.workers → Sound σ ρ
    → Sound (with_worker σ w (at_stage Open free_worker)) (running_now ρ w (started ρ))
begin_sound σ ρ w l h =
    record {
      fine = fine_worker σ w (at_stage Open free_worker) (unfold at_stage in rising_nil Write) h.fine;
      invariant =
          own_worker σ w (at_stage Open free_worker) ρ (running_now ρ w (started ρ)) l (unfold at_stage is_checked in refl)
          (read_running ρ w (started ρ)) (running_other ρ w (started ρ)) (λ s. new) h.invariant;
    }
  where
    i : Invariant (facts σ) ρ
    i = h.invariant

    earlier : (r : Row Transaction) → Memᴰ r ρ.installed → r.key ≤ σ.counters.number
    earlier r m =
        let d = i.done r m in
        le_trans (le_of_eq d.number) d.given

    new : Working (facts (with_worker σ w (at_stage Open free_worker))) (running_now ρ w (started ρ)) w (at_stage Open free_worker)
    new =
        unfold at_stage with_worker running_now started in
        record {
          t = started ρ;
          running = running_same ρ w (started ρ);
          wrote = writes_of_nil;
          os = [];
          explains = λ n l r m. unfold AllAgree in tt;
          since = σ.counters.number;
          since_given = le_refl σ.counters.number;
          past = λ r m e. earlier r m;
          begun = le_step (le_refl ρ.place);
          backed = λ s o m. absurd (Memᴰ.not-nil m);
          locked = λ s k p. clash open_open s;
          checked = λ s. clash s open_not_checked;
          saw = λ s c m. absurd (Memᴰ.not-nil m);
          room = λ s. clash open_open s;
        }

-- ---- a map in which at most the locks of one worker differ

current_by : (m m' : MapState) → m'.records ≡ m.records → (k : ℕ) → (content_of m'.slots k).pending ≡ (content_of m.slots k).pending → current m' k ≡ current m k
unfolding current
current_by m m' r k e =
    ap (λ (p : Option Pending). maybe p (look m'.records k) outcome_of) e
    ∙ ap (λ (rs : List (Row Record)). maybe (content_of m.slots k).pending (look rs k) outcome_of) r

-- the fine state with other slots
fine_slots : (σ : State) (m' : MapState) → m'.records ≡ σ.map.records → m'.leaves ≡ σ.map.leaves
    → Rattle.laws.specs.SlotCounts.Good limits.bytes m'.slots → Fine σ → Fine (with_map σ m')
unfolding with_map worker_of
fine_slots σ m' r l s f =
    record {
      tuning = f.tuning;
      slots = s;
      records = subst Rising (sym r) f.records;
      leaves = subst (Rattle.laws.specs.LeafVersions.GoodLeaves σ.counters.version) (sym l) f.leaves;
      crew = f.crew;
      writes = f.writes;
    }

-- ---- lock

-- What a granted lock has passed.
pub record Lockable (σ : State) (w : ℕ) : Type 0 where
  pub unheld : (k : ℕ) → has k (write_keys σ w) ≡ true → locked_by_other σ w k ≡ false
  pub room : LockRoom σ.map.slots (worker_of σ w).writes
  pub fit : unfit_put σ w ≡ false
  pub covered : uncovered_put σ w ≡ false
  pub clear : overlapped_put σ w ≡ false

pub other_holds : (w : ℕ) (c : Content) (v : ℕ) → (v ≡ w → ⊥) → c.holder ≡ some v → held_by_other w c ≡ true
unfolding held_by_other
other_holds w c v d e =
    ap (λ (o : Option ℕ). maybe o false (λ (h : ℕ). not (same h w))) e ∙ ap not (Rattle.lists.specs.TestLaws.same_no {m = v} {n = w} d)

module _ {σ : State} {ρ : Reading} {w : ℕ} (h : Sound σ ρ) (o : IsOpen σ w) (l : Lockable σ w) where
  m' : MapState
  m' = lock_all w σ.map (worker_of σ w).writes

  says : (k : ℕ) → content_of m'.slots k ≡ locked_by w (look (worker_of σ w).writes k) (content_of σ.map.slots k)
  unfolding m'
  says k = lock_says w σ.map (worker_of σ w).writes h.fine.slots l.room k

  same_records : m'.records ≡ σ.map.records
  unfolding m' lock_all with_slots
  same_records = refl

  same_leaves : m'.leaves ≡ σ.map.leaves
  unfolding m' lock_all with_slots
  same_leaves = refl

  same_pending : (k : ℕ) → (content_of m'.slots k).pending ≡ (content_of σ.map.slots k).pending
  same_pending k =
      ap (λ (c : Content). c.pending) (says k) ∙ locked_pending w (look (worker_of σ w).writes k) (content_of σ.map.slots k)

  -- a key that another has locked is not written
  same_lock : (v : ℕ) → (v ≡ w → ⊥) → (k : ℕ) → (content_of σ.map.slots k).holder ≡ some v → content_of m'.slots k ≡ content_of σ.map.slots k
  unfolding locked_by_other write_keys
  same_lock v d k e = says k ∙ go (look (worker_of σ w).writes k) refl
    where
      go : (y : Option Write) → look (worker_of σ w).writes k ≡ y → locked_by w y (content_of σ.map.slots k) ≡ content_of σ.map.slots k
      go none q = refl
      go (some x) q =
          clash (other_holds w (content_of σ.map.slots k) v d e) (l.unheld k (has_keys (worker_of σ w).writes k ∙ ap present q))

  own_locks : OwnLocks σ.map m' w
  own_locks =
      record {
        records = same_records;
        leaves = same_leaves;
        current = λ k. current_by σ.map m' same_records k (same_pending k);
        locks = same_lock;
      }

  locked : (k : ℕ) → present (look (worker_of σ w).writes k) ≡ true
      → ((content_of m'.slots k).holder ≡ some w) × ((content_of m'.slots k).for_put ≡ put_at (worker_of σ w).writes k)
  locked k p =
      let q = go (look (worker_of σ w).writes k) p in
      (ap (λ (c : Content). c.holder) (says k) ∙ q.0, ap (λ (c : Content). c.for_put) (says k) ∙ q.1)
    where
      go : (y : Option Write) → present y ≡ true
          → ((locked_by w y (content_of σ.map.slots k)).holder ≡ some w) × ((locked_by w y (content_of σ.map.slots k)).for_put ≡ maybe y false is_put)
      go none p = clash p refl
      go (some e) p = (refl, refl)

  x' : Worker
  x' = at_stage Locked (worker_of σ w)

  σ' : State
  σ' = with_worker (with_map σ m') w x'

  -- what was backed is still backed: no version and no index key changed
  still_backed : (k : ℕ) (r : Option Record) → Backed (facts σ) (worker_of σ w) k r → Backed (facts σ') x' k r
  unfolding σ' x' at_stage with_worker with_map m' lock_all with_slots
  still_backed k r (by_read m) = by_read m
  still_backed k r (by_leaf v e m b f) = by_leaf v e m b f

  e : Event
  e = record { step = lock w; answer = done }

  pub lock_sound : Sound (with_worker (with_map σ (lock_all w σ.map (worker_of σ w).writes)) w (at_stage Locked (worker_of σ w)))
      (goes_on ρ w (record { step = lock w; answer = done }))
  unfolding σ' x' m' e
  lock_sound =
      record {
        fine = fine_worker (with_map σ m') w x' (unfold at_stage in h.fine.writes w) (fine_slots σ m' same_records same_leaves (lock_good w σ.map (worker_of σ w).writes h.fine.slots l.room) h.fine);
        invariant =
            own_map σ m' w x' ρ (goes_on ρ w e) own_locks (worker_same (with_map σ m') w x' (unfold with_map in o.inside)) unchecked
            (read_goes_on (facts σ) ρ w (worker_of σ w) e (w_working)) (running_goes_on (facts σ) ρ w (worker_of σ w) e w_working)
            (λ s. goes_on_lem (facts σ) (facts σ') ρ w (worker_of σ w) x' e w_working.os w_working same_given
            (explain_quiet w_working.os w_working.t.events (lock w) done (λ l. unfold Agrees access_of in tt) w_working.explains)
            (unfold wrote access_of at_stage in refl)
            (λ o' m k lo hi. still_backed k (o'.seen k) (w_backed o' m k lo hi))
            (λ c k p. holds k p) unchecked (λ c. clash c shut) (λ c. unfold with_worker with_map at_stage in roomy))
            h.invariant;
      }
    where
      w_working : Working (facts σ) ρ w (worker_of σ w)
      w_working = unfold Rattle.serial.specs.Continuing.x in g h o

      w_backed : Throughout w_working.os (Backed (facts σ) (worker_of σ w))
      w_backed = unfold Rattle.serial.specs.Continuing.x in g_backed h o

      unchecked : is_checked x'.stage ≡ false
      unchecked = unfold at_stage is_checked in refl

      shut : is_open x'.stage ≡ false
      shut = unfold at_stage is_open in refl

      w_saw : AllSaw (worker_of σ w) w_working.os
      w_saw = unfold Rattle.serial.specs.Continuing.x in g_saw h o

      -- in a guarded map each put passed the three tests
      roomy : Roomy (facts σ).guard w_working.os (worker_of σ w).writes
      roomy q =
          lock_room_for (worker_of σ w).reads (worker_of σ w).scans (worker_of σ w).writes w_working.os w_saw
          (unguarded _ q (unfold unfit_put in l.fit)) (unguarded _ q (unfold uncovered_put in l.covered)) (unguarded _ q (unfold overlapped_put in l.clear))
        where
          unguarded : (f : ℕ → ℕ → Bool) → σ.made.guarded ≡ true → guard σ w f ≡ false → any_put f (worker_of σ w).writes ≡ false
          unguarded f t c = unfold guard in sym (ap (λ (b : Bool). both b (any_put f (worker_of σ w).writes)) t) ∙ (unfold guard in c)

      same_given : (facts σ').given ≡ (facts σ).given
      same_given = unfold with_worker with_map in refl

      holds : (k : ℕ) → present (look x'.writes k) ≡ true → HasLock (facts σ') w k (put_at x'.writes k)
      holds k p = unfold with_worker with_map at_stage in locked k (unfold at_stage in p)

-- ---- the end of a transaction that is not installed

module _ {σ : State} {ρ : Reading} (w : ℕ) (h : Sound σ ρ) where
  free' : MapState
  free' = unlock_all w σ.map (write_keys σ w)

  free_says : (k : ℕ) → content_of free'.slots k ≡ pick (has k (write_keys σ w)) (unlocked w (content_of σ.map.slots k)) (content_of σ.map.slots k)
  unfolding free'
  free_says k = unlock_says w σ.map (write_keys σ w) h.fine.slots k

  free_records : free'.records ≡ σ.map.records
  unfolding free' unlock_all with_slots
  free_records = refl

  free_leaves : free'.leaves ≡ σ.map.leaves
  unfolding free' unlock_all with_slots
  free_leaves = refl

  free_pending : (k : ℕ) → (content_of free'.slots k).pending ≡ (content_of σ.map.slots k).pending
  free_pending k =
      ap (λ (c : Content). c.pending) (free_says k)
      ∙ ⊎_elim (λ t. (rw t) ∙ unlocked_pending w (content_of σ.map.slots k)) (λ t. rw t) (cases (has k (write_keys σ w)))

  free_locks : (v : ℕ) → (v ≡ w → ⊥) → (k : ℕ) → (content_of σ.map.slots k).holder ≡ some v → content_of free'.slots k ≡ content_of σ.map.slots k
  free_locks v d k e =
      free_says k
      ∙ ⊎_elim (λ t. (rw t) ∙ unlocked_other w (content_of σ.map.slots k) v d e) (λ t. rw t) (cases (has k (write_keys σ w)))

  pub dropped_sound : Sound (dropped σ w) (passed ρ)
  unfolding dropped free'
  dropped_sound =
      record {
        fine =
            fine_worker (with_map σ free') w free_worker (rising_nil Write)
            (fine_slots σ free' free_records free_leaves (unlock_good w σ.map (write_keys σ w) h.fine.slots) h.fine);
        invariant =
            own_map σ free' w free_worker ρ (passed ρ)
            (record {
              records = free_records;
              leaves = free_leaves;
              current = λ k. current_by σ.map free' free_records k (free_pending k);
              locks = free_locks;
            })
            (worker_free_lem (with_map σ free') w) (unfold is_checked in refl) (read_passed ρ)
            (λ v d. unfold passed in refl)
            (λ s. clash free_free s) h.invariant;
      }
