-- Begin, read, scan, put, remove, lock, and the end of a transaction that is not installed keep the invariant: each only
-- rewrites its own worker, and of the map at most its own locks.
use Prim.Native.Nat.{ℕ, ◌<◌, ◌≤◌, zero-le}
use Rattle.std.proofs.Math.Nat.{le_trans, le_step}
use Rattle.std.proofs.Common.{le_of_eq, arith, sym, ◌∙◌}
use Rattle.std.specs.Prelude.{◌≡◌, Bool, true, length}
use Rattle.std.proofs.Math.Path.{refl, ap, subst}
use Rattle.std.proofs.Math.Logic.{⊎_elim}
use Rattle.std.proofs.Math.Bool.{false}
use mathlib.Core.List.Memᴰ
use mathlib.Core.List.{List, [], ◌∷◌, ◌++◌, Memᴰ}
use Rattle.std.proofs.Math.Option.{Option, none, some, get_or}
use Rattle.lists.specs.Tests.{pick, both, maybe, present, within}
use Rattle.lists.specs.TestLaws.{cases, clash, at_most_yes}
use Rattle.lists.specs.Rows.{Row, row, look, insert, Rising}
use Rattle.lists.specs.RowLaws.{from_insert}
use Rattle.spec.specs.Records.{Payload, Record, Write, written, deleted, payload_of, own_view}
use Rattle.spec.specs.Leaves.{Leaf, version_at}
use Rattle.spec.specs.Slots.{Content, content_of}
use Rattle.spec.specs.Guards.{Scan}
use Rattle.spec.specs.Maps.{MapState, current, indexed_between}
use Rattle.spec.specs.Steps.{Worker, State, Places, worker_of, Step, read, scan, put, remove, Answer, done, found, listed, Event, is_free, is_open, is_checked, own_write, slots_examined, scanned, scan_reads, scan_versions, remembered, with_worker, with_map, logged, writing, read_rows, access_of, Access, access, read_at, scan_over, put_to, remove_at, act, access_answer, accessed}
use Rattle.spec.specs.Sequential.{Agrees, AccessAgrees}
use Rattle.spec.specs.Claim.{Reading, running_now, extended, goes_on, is_granted}
use Rattle.laws.specs.ContentLaws.{look_indexed_between}
use Rattle.laws.specs.LeafLaws.{version_old, meeting_covers}
use Rattle.serial.specs.Stages.{open_unchecked, open_busy}
use Rattle.serial.specs.Feeding.{event_writes, writes_of_snoc, wrote, look_member, wrote_by}
use Rattle.serial.specs.Invariant.{Facts, Observation, Throughout, Explains, Backed, by_read, by_leaf, Saw, AllSaw, Roomy, HasLock, put_at, Working, Invariant}
use Rattle.serial.specs.Keeping.{ReadOn, own_step}
use Rattle.serial.specs.Guarding.{saw_longer, saw_now}
use Rattle.serial.specs.Observing.{explain_quiet, explain_own_read, read_of, explain_read, ScanOf, scan_of, shown, explain_scan}
use Rattle.serial.specs.Model.{facts, Fine, worker_same, worker_other, fine_worker, read_running, running_same, running_other, goes_on_some}

-- The state is fine, and the invariant holds between it and what was read.
pub record Sound (σ : State) (ρ : Reading) : Type 0 where
  pub fine : Fine σ
  pub invariant : Invariant (facts σ) ρ

-- ---- a step of worker w: the worker and its locks

-- A map in which at most the locks of worker w differ.
pub record OwnLocks (m m' : MapState) (w : ℕ) : Type 0 where
  pub records : m'.records ≡ m.records
  pub leaves : m'.leaves ≡ m.leaves
  pub current : (k : ℕ) → current m' k ≡ current m k
  pub locks : (v : ℕ) → (v ≡ w → ⊥) → (k : ℕ) → (content_of m.slots k).holder ≡ some v → content_of m'.slots k ≡ content_of m.slots k

pub own_map : (σ : State) (m' : MapState) (w : ℕ) (x : Worker) (ρ ρ' : Reading) → OwnLocks σ.map m' w
    → worker_of (with_worker (with_map σ m') w x) w ≡ x → is_checked x.stage ≡ false → ReadOn ρ ρ'
    → ((v : ℕ) → (v ≡ w → ⊥) → look ρ'.running v ≡ look ρ.running v)
    → (is_free x.stage ≡ false → Working (facts (with_worker (with_map σ m') w x)) ρ' w x)
    → Invariant (facts σ) ρ → Invariant (facts (with_worker (with_map σ m') w x)) ρ'
unfolding with_map with_worker worker_of
own_map σ m' w x ρ ρ' o e c r n mine i =
    own_step {F = facts σ} {F' = facts (with_worker (with_map σ m') w x)} {ρ = ρ} {ρ' = ρ'} {w = w}
    (record {
      given = refl;
      guard = refl;
      last_version = refl;
      current = o.current;
      indexed = λ k. ap (λ (rs : List (Row Record)). present (look rs k)) o.records;
      version = λ k. ap (λ (ls : List Leaf). version_at ls k) o.leaves;
      others = λ v d. worker_other (with_map σ m') w x v d;
      locks =
          λ v d k b q.
          let e : content_of m'.slots k ≡ content_of σ.map.slots k = o.locks v d k q.0 in
          (ap (λ (c : Content). c.holder) e ∙ q.0, ap (λ (c : Content). c.for_put) e ∙ q.1);
      unchecked = ap (λ (y : Worker). is_checked y.stage) e ∙ c;
      reading = r;
      running = n;
      mine =
          λ s.
          subst (Working (facts (with_worker (with_map σ m') w x)) ρ' w) (sym e)
          (mine (ap (λ (y : Worker). is_free y.stage) (sym e) ∙ s));
    })
    i

same_locks : (m : MapState) (w : ℕ) → OwnLocks m m w
same_locks m w = record { records = refl; leaves = refl; current = λ k. refl; locks = λ v d k e. refl }

-- the worker alone
pub own_worker : (σ : State) (w : ℕ) (x : Worker) (ρ ρ' : Reading) → w < length σ.workers
    → is_checked x.stage ≡ false → ReadOn ρ ρ'
    → ((v : ℕ) → (v ≡ w → ⊥) → look ρ'.running v ≡ look ρ.running v)
    → (is_free x.stage ≡ false → Working (facts (with_worker σ w x)) ρ' w x)
    → Invariant (facts σ) ρ → Invariant (facts (with_worker σ w x)) ρ'
unfolding with_map
own_worker σ w x ρ ρ' l c r n mine i =
    own_map σ σ.map w x ρ ρ' (same_locks σ.map w) (worker_same σ w x l) c r n mine i

-- ---- the transaction goes on

-- with one event more
pub goes_on_lem : (F F' : Facts) (ρ : Reading) (w : ℕ) (x x' : Worker) (e : Event) (os : List Observation) (g : Working F ρ w x)
    → F'.given ≡ F.given
    → Explains os (g.t.events ++ (e ∷ []))
    → wrote x.writes e.step ≡ x'.writes
    → Throughout os (Backed F' x')
    → (is_open x'.stage ≡ false → (k : ℕ) → present (look x'.writes k) ≡ true → HasLock F' w k (put_at x'.writes k))
    → is_checked x'.stage ≡ false
    → (is_open x'.stage ≡ true → AllSaw x' os)
    → (is_open x'.stage ≡ false → Roomy F'.guard os x'.writes)
    → Working F' (goes_on ρ w e) w x'
goes_on_lem F F' ρ w x x' e os g n h q b l c a r =
    subst (λ (ρ' : Reading). Working F' ρ' w x') (sym (goes_on_some ρ w e g.t g.running))
    (unfold running_now in
    record {
      t = extended e g.t;
      running = running_same ρ w (extended e g.t);
      wrote = unfold extended in writes_of_snoc g.t.events e ∙ ap (λ (ws : List (Row Write)). wrote ws e.step) g.wrote ∙ q;
      os = os;
      explains = unfold extended in h;
      since = g.since;
      since_given = le_trans g.since_given (le_of_eq (sym n));
      past = unfold extended in g.past;
      begun = unfold extended in le_step g.begun;
      backed = λ s. b;
      locked = l;
      checked = λ s. clash s c;
      saw = a;
      room = r;
    })

pub read_goes_on : (F : Facts) (ρ : Reading) (w : ℕ) (x : Worker) (e : Event) → Working F ρ w x → ReadOn ρ (goes_on ρ w e)
read_goes_on F ρ w x e g =
    subst (ReadOn ρ) (sym (goes_on_some ρ w e g.t g.running)) (read_running ρ w (extended e g.t))

pub running_goes_on : (F : Facts) (ρ : Reading) (w : ℕ) (x : Worker) (e : Event) → Working F ρ w x
    → (v : ℕ) → (v ≡ w → ⊥) → look (goes_on ρ w e).running v ≡ look ρ.running v
running_goes_on F ρ w x e g v d =
    ap (λ (ρ' : Reading). look ρ'.running v) (goes_on_some ρ w e g.t g.running) ∙ running_other ρ w (extended e g.t) v d

-- What a step of an open worker has passed.
pub record IsOpen (σ : State) (w : ℕ) : Type 0 where
  pub inside : w < length σ.workers
  pub stage : is_open (worker_of σ w).stage ≡ true

-- the answer to a granted step of an open transaction is none of a refusal
pub access_granted : (σ : State) (w : ℕ) (a : Access) → is_granted (access_answer σ w a) ≡ true
unfolding access_answer is_granted
access_granted σ w (read_at k) = refl
access_granted σ w (scan_over lo hi b) = refl
access_granted σ w (put_to k p) = refl
access_granted σ w (remove_at k) = refl

module _ {σ : State} {ρ : Reading} {w : ℕ} (h : Sound σ ρ) (o : IsOpen σ w) where
  unfoldable pub x : Worker
  x = worker_of σ w

  pub g : Working (facts σ) ρ w x
  unfolding x
  g = h.invariant.working w (open_busy (worker_of σ w).stage o.stage)

  pub g_backed : Throughout g.os (Backed (facts σ) x)
  unfolding x
  g_backed = g.backed (open_unchecked (worker_of σ w).stage o.stage)

  pub g_saw : AllSaw x g.os
  unfolding x
  g_saw = g.saw o.stage

  -- a step that stays in the open stage and adds to the worker's log or write set
  stays_open : (x' : Worker) (e : Event) (os : List Observation) → x'.stage ≡ x.stage → Rising x'.writes
      → Explains os (g.t.events ++ (e ∷ []))
      → wrote x.writes e.step ≡ x'.writes
      → Throughout os (Backed (facts σ) x')
      → AllSaw x' os
      → Sound (with_worker σ w x') (goes_on ρ w e)
  unfolding x
  stays_open x' e os s r n q b a =
      record {
        fine = fine_worker σ w x' r h.fine;
        invariant =
            own_worker σ w x' ρ (goes_on ρ w e) o.inside unchecked (read_goes_on (facts σ) ρ w x e g) (running_goes_on (facts σ) ρ w x e g)
            (λ f. goes_on_lem (facts σ) (facts (with_worker σ w x')) ρ w x x' e os g (unfold with_worker in refl) n q
            (λ o' m k lo hi. moved k (o'.seen k) (b o' m k lo hi))
            (λ c. clash (ap is_open s ∙ o.stage) c) unchecked (λ c. a) (λ c. clash (ap is_open s ∙ o.stage) c))
            h.invariant;
      }
    where
      unchecked : is_checked x'.stage ≡ false
      unchecked = ap is_checked s ∙ open_unchecked (worker_of σ w).stage o.stage

      moved : (k : ℕ) (r : Option Record) → Backed (facts σ) x' k r → Backed (facts (with_worker σ w x')) x' k r
      moved k r (by_read m) = by_read m
      moved k r (by_leaf v e m l f) = unfold with_worker in by_leaf v e m l f

  -- ---- put and remove

  backed_writing : (k : ℕ) (e : Write) (j : ℕ) (r : Option Record) → Backed (facts σ) x j r → Backed (facts σ) (writing k e x) j r
  unfolding writing
  backed_writing k e j r (by_read m) = by_read m
  backed_writing k e j r (by_leaf v q m l f) = by_leaf v q m l f

  writes_on : (k : ℕ) (e : Write) (s : Step) (a : Answer) → ((l : List (Row Record)) → Agrees l s a) → wrote x.writes s ≡ insert k e x.writes
      → Sound (with_worker σ w (writing k e x)) (goes_on ρ w (record { step = s; answer = a }))
  writes_on k e s a quiet q =
      stays_open (writing k e x) (record { step = s; answer = a }) g.os (unfold writing in refl)
      (unfold writing Rising x in from_insert k e (worker_of σ w).writes zero-le (h.fine.writes w))
      (explain_quiet g.os g.t.events s a quiet g.explains)
      (unfold writing in q)
      (λ o' m j lo hi. backed_writing k e j (o'.seen j) (g_backed o' m j lo hi))
      (unfold writing in g_saw)

  put_sound : (k : ℕ) (p : Payload) → Sound (with_worker σ w (writing k (written p) (worker_of σ w))) (goes_on ρ w (record { step = put w k p; answer = done }))
  unfolding x
  put_sound k p = writes_on k (written p) (put w k p) done (λ l. unfold Agrees AccessAgrees access_of in tt) (unfold wrote wrote_by access_of in refl)

  remove_sound : (k : ℕ) → Sound (with_worker σ w (writing k deleted (worker_of σ w))) (goes_on ρ w (record { step = remove w k; answer = done }))
  unfolding x
  remove_sound k = writes_on k deleted (remove w k) done (λ l. unfold Agrees AccessAgrees access_of in tt) (unfold wrote wrote_by access_of in refl)

  -- ---- read and scan

  backed_logged : (rs : List (Row (Option Record))) (vs : List ℕ) (cs : List Scan) (j : ℕ) (r : Option Record) → Backed (facts σ) x j r → Backed (facts σ) (logged rs vs cs x) j r
  unfolding logged
  backed_logged rs vs cs j r (by_read m) = by_read (Memᴰ.append_left rs m)
  backed_logged rs vs cs j r (by_leaf v q m l f) = by_leaf v q (Memᴰ.append_left vs m) l f

  observes : (rs : List (Row (Option Record))) (vs : List ℕ) (cs : List Scan) (s : Step) (a : Answer) (os : List Observation)
      → Explains os (g.t.events ++ (record { step = s; answer = a } ∷ []))
      → wrote x.writes s ≡ x.writes
      → Throughout os (Backed (facts σ) (logged rs vs cs x))
      → ((o' : Observation) → Memᴰ o' g.os → Memᴰ o' os)
      → ((c : Scan) → Memᴰ c cs → Saw (x.reads ++ rs) os c)
      → Sound (with_worker σ w (logged rs vs cs x)) (goes_on ρ w (record { step = s; answer = a }))
  observes rs vs cs s a os n q b i new =
      stays_open (logged rs vs cs x) (record { step = s; answer = a }) os (unfold logged in refl)
      (unfold logged x in h.fine.writes w) n (unfold logged in q) b
      (unfold logged in λ c m. ⊎_elim (λ l. saw_longer x.reads rs i c (g_saw c l)) (λ r. new c r) (Memᴰ.append_cases x.scans m))

  -- what the worker wrote is what its events wrote
  own_is : (k : ℕ) → look (event_writes g.t.events) k ≡ own_write σ w k
  unfolding own_write x
  own_is k = ap (λ (ws : List (Row Write)). look ws k) g.wrote

  read_by : (k n : ℕ) (y : Option Write) → own_write σ w k ≡ y
      → Sound (with_worker σ w (logged (maybe y (row k (current σ.map k) ∷ []) (λ (e : Write). [])) [] [] x))
      (goes_on ρ w (record { step = read w k; answer = found (maybe y (payload_of (current σ.map k)) own_view) n }))
  read_by k n none q =
      observes (row k (current σ.map k) ∷ []) [] [] (read w k) (found (payload_of (current σ.map k)) n) (read_of k (current σ.map k) ∷ g.os)
      (explain_read g.os g.t.events w k n (current σ.map k) (own_is k ∙ q) g.explains)
      (unfold wrote wrote_by access_of in refl)
      (λ o' m j lo hi. ⊎_elim (λ e. new o' e j lo hi) (λ e. backed_logged _ _ _ j (o'.seen j) (g_backed o' e j lo hi)) (Memᴰ.cases_cons m))
      (λ o' m. Memᴰ.tail m)
      (λ c m. absurd (Memᴰ.not-nil m))
    where
      rs : List (Row (Option Record))
      rs = row k (current σ.map k) ∷ []

      at_k : (j : ℕ) → k ≤ j → j ≤ k → row j (current σ.map k) ≡ row k (current σ.map k)
      at_k j lo hi = let e : j ≡ k = omega arith in ap (λ (i : ℕ). row i (current σ.map k)) e

      seen_k : (j : ℕ) → k ≤ j → j ≤ k → Backed (facts σ) (logged rs [] [] x) j (current σ.map k)
      seen_k j lo hi = unfold logged in by_read (Memᴰ.append_right x.reads (Memᴰ.head (at_k j lo hi)))

      new : (o' : Observation) → o' ≡ read_of k (current σ.map k) → (j : ℕ) → o'.lo ≤ j → j ≤ o'.hi → Backed (facts σ) (logged rs [] [] x) j (o'.seen j)
      new o' e j lo hi =
          subst (λ (r : Option Record). Backed (facts σ) (logged rs [] [] x) j r) (sym (ap (λ (y : Observation). y.seen j) e))
          (seen_k j (subst (λ (y : Observation). y.lo ≤ j) e lo) (subst (λ (y : Observation). j ≤ y.hi) e hi))
  read_by k n (some e) q =
      observes [] [] [] (read w k) (found (own_view e) n) g.os
      (explain_own_read g.os g.t.events w k n e (own_is k ∙ q) g.explains)
      (unfold wrote wrote_by access_of in refl)
      (λ o' m j lo hi. backed_logged [] [] [] j (o'.seen j) (g_backed o' m j lo hi))
      (λ o' m. m)
      (λ c m. absurd (Memᴰ.not-nil m))

  read_sound : (k : ℕ)
      → Sound (with_worker σ w (logged (read_rows σ w k) [] [] (worker_of σ w)))
      (goes_on ρ w (record { step = read w k; answer = found (maybe (own_write σ w k) (payload_of (current σ.map k)) own_view) (slots_examined σ w k) }))
  unfolding read_rows x
  read_sound k = read_by k (slots_examined σ w k) (own_write σ w k) refl

  scan_is : (lo hi : ℕ) → ScanOf (facts σ).indexed (facts σ).current lo hi (scan_reads σ lo hi)
  unfolding scan_reads
  scan_is lo hi = record { looks = look_indexed_between σ.map lo hi }

  scan_sound : (lo hi : ℕ) (b : Places)
      → Sound (with_worker σ w (logged (scan_reads σ lo hi) (scan_versions σ lo hi) (remembered σ w lo hi ∷ []) (worker_of σ w)))
      (goes_on ρ w (record { step = scan w lo hi b; answer = listed (scanned σ w lo hi) }))
  unfolding x
  scan_sound lo hi b =
      observes (scan_reads σ lo hi) (scan_versions σ lo hi) (remembered σ w lo hi ∷ []) (scan w lo hi b) (listed (scanned σ w lo hi)) (new ∷ g.os)
      (subst (λ (rs : List (Row Payload)). Explains (new ∷ g.os) (g.t.events ++ (record { step = scan w lo hi b; answer = listed rs } ∷ []))) shows
      (explain_scan (scan_is lo hi) g.os g.t.events w b g.explains))
      (unfold wrote wrote_by access_of in refl)
      (λ o' m j l u. ⊎_elim (λ e. seen_new o' e j l u) (λ e. backed_logged _ _ _ j (o'.seen j) (g_backed o' e j l u)) (Memᴰ.cases_cons m))
      (λ o' m. Memᴰ.tail m)
      (λ c m. subst (Saw (x.reads ++ scan_reads σ lo hi) (new ∷ g.os)) (sym (Memᴰ.eq_of_singleton m)) saw_new)
    where
      new : Observation
      new = scan_of (facts σ).indexed (facts σ).current lo hi

      shows : shown (event_writes g.t.events) lo hi (scan_reads σ lo hi) ≡ scanned σ w lo hi
      shows = unfold scanned scan_reads in ap (λ (ws : List (Row Write)). shown ws lo hi (indexed_between σ.map lo hi)) g.wrote

      inside : (j : ℕ) → lo ≤ j → j ≤ hi → within lo hi j ≡ true
      inside j l u = unfold within in rw (at_most_yes l, at_most_yes u)

      x' : Worker
      x' = logged (scan_reads σ lo hi) (scan_versions σ lo hi) (remembered σ w lo hi ∷ []) x

      found_there : (j : ℕ) → lo ≤ j → j ≤ hi → (facts σ).indexed j ≡ true → Backed (facts σ) x' j ((facts σ).current j)
      found_there j l u e =
          unfold logged in
          by_read (Memᴰ.append_right x.reads (look_member (scan_reads σ lo hi) j ((facts σ).current j)
          ((scan_is lo hi).looks j ∙ ap (λ (c : Bool). pick (both c ((facts σ).indexed j)) (some ((facts σ).current j)) none) (inside j l u) ∙ ap (λ (c : Bool). pick c (some ((facts σ).current j)) none) e)))

      absent_there : (j : ℕ) → lo ≤ j → j ≤ hi → (facts σ).indexed j ≡ false → Backed (facts σ) x' j none
      absent_there j l u e =
          unfold logged scan_versions in
          by_leaf (version_at σ.map.leaves j) refl
          (Memᴰ.append_right x.versions (meeting_covers h.fine.leaves lo j hi l u))
          (version_old h.fine.leaves j)
          (λ i q. (refl, e))

      saw_new : Saw (x.reads ++ scan_reads σ lo hi) (new ∷ g.os) (remembered σ w lo hi)
      saw_new =
          unfold remembered x in
          saw_now (worker_of σ w).reads (scan_reads σ lo hi) new g.os
          (λ j l u.
          ap (λ (y : Option (Option Record)). get_or y none)
          ((scan_is lo hi).looks j ∙ ap (λ (c : Bool). pick (both c ((facts σ).indexed j)) (some ((facts σ).current j)) none) (inside j l u))
          ∙ ⊎_elim (λ e. rw e) (λ e. rw e) (cases ((facts σ).indexed j)))

      both_ways : (j : ℕ) → lo ≤ j → j ≤ hi → Backed (facts σ) x' j (new.seen j)
      both_ways j l u =
          ⊎_elim
          (λ e. subst (Backed (facts σ) x' j) (sym (ap (λ (c : Bool). pick c ((facts σ).current j) none) e)) (found_there j l u e))
          (λ e. subst (Backed (facts σ) x' j) (sym (ap (λ (c : Bool). pick c ((facts σ).current j) none) e)) (absent_there j l u e))
          (cases ((facts σ).indexed j))

      seen_new : (o' : Observation) → o' ≡ new → (j : ℕ) → o'.lo ≤ j → j ≤ o'.hi → Backed (facts σ) x' j (o'.seen j)
      seen_new o' e j l u =
          subst (λ (r : Option Record). Backed (facts σ) x' j r) (sym (ap (λ (y : Observation). y.seen j) e))
          (both_ways j (subst (λ (y : Observation). y.lo ≤ j) e l) (subst (λ (y : Observation). j ≤ y.hi) e u))

  -- any step of an open transaction
  pub access_sound : (a : Access) → Sound (with_worker σ w (accessed σ w a)) (goes_on ρ w (record { step = act w (access a); answer = access_answer σ w a }))
  unfolding accessed access_answer
  access_sound (read_at k) = read_sound k
  access_sound (scan_over lo hi b) = scan_sound lo hi b
  access_sound (put_to k p) = put_sound k p
  access_sound (remove_at k) = remove_sound k
