-- Validate, install and merge keep the invariant.
use Rattle.std.specs.Prelude.{ℕ, suc, ◌<◌, ◌≡◌, Bool, true, not, length}
use Rattle.std.proofs.Common.{le_refl, ◌∙◌, ⊎_elim}
use Rattle.std.proofs.Math.Nat.{le_step}
use Rattle.std.proofs.Math.Path.{refl, sym, ap, subst}
use Rattle.std.proofs.Math.Bool.{false}
use mathlib.Core.List.{List, ◌∷◌, Memᴰ}
use Rattle.std.proofs.Math.Option.{Option, none, some}
use Rattle.lists.specs.Tests.{pick, both, either, maybe, present, same}
use Rattle.lists.specs.TestLaws.{cases, clash, same_yes, same_no}
use Rattle.lists.specs.Rows.{Row, row, look, keys, any, Rising}
use Rattle.lists.specs.RowLaws.{any_false, member_keys, look_delete, some_not_none, rising_nil, rising_different}
use Rattle.spec.specs.Records.{Record, Write, written, deleted, is_put, outcome, same_record}
use Rattle.spec.specs.Leaves.{Leaf, version_at, live}
use Rattle.spec.specs.Slots.{Pending, Content, is_idle, content_of, entries}
use Rattle.spec.specs.Maps.{MapState, outcome_of, current, held_by_other, put_pending, hiding, hidden_in, hides, with_slots, install_all, Merged, merge_at, phantom_in}
use Rattle.spec.specs.Steps.{Worker, free_worker, State, worker_of, validate, numbered, Event, is_free, is_locked, is_checked, locked_by_other, changed_since, with_worker, with_map, with_counters, install_counted, checked_as, installed_map, merged, access_of}
use Rattle.spec.specs.Sequential.{Agrees}
use Rattle.spec.specs.Claim.{Transaction, Reading, running_now, passed, extended, with_number, number_in, one_more_given, validated, installed_now}
use Rattle.laws.specs.SlotLaws.{content_member}
use Rattle.laws.specs.MapLaws.{idle_holder, idle_pending, Installable, written_by, install_good, install_says}
use Rattle.laws.specs.RecordLaws.{same_record_true}
use Rattle.laws.specs.LeafLaws.{GoodLeaves, live_version}
use Rattle.laws.specs.MergeLaws.{Merges, merges}
use Rattle.serial.specs.Stages.{locked_busy, locked_unchecked, locked_not_open, checked_busy, checked_not_open, free_free}
use Rattle.serial.specs.Feeding.{event_writes, writes_of_snoc, wrote, laid}
use Rattle.serial.specs.Invariant.{Observation, Explains, Harmless, unwritten, already_absent, Working, Invariant}
use Rattle.serial.specs.Keeping.{Rearranged, merge_step}
use Rattle.serial.specs.Validating.{OthersHarmless, Passed, Checks, validate_step}
use Rattle.serial.specs.Installing.{Installs, install_step}
use Rattle.serial.specs.Observing.{explain_quiet}
use Rattle.serial.specs.Model.{facts, Fine, worker_same, worker_other, worker_free_lem, fine_worker, read_passed, read_running, running_same, running_other, not-false}
use Rattle.serial.specs.Continuing.{Sound}
use Rattle.serial.specs.Locking.{other_holds}

pub either_left : (a b : Bool) → either a b ≡ false → a ≡ false
either_left true b e = e
either_left false b e = refl

either_right : (a b : Bool) → either a b ≡ false → b ≡ false
either_right true b e = clash refl e
either_right false b e = e

-- ---- validate

-- What a granted validation has passed, but for the numbers that are left.
pub record Validatable (σ : State) (w : ℕ) : Type 0 where
  pub inside : w < length σ.workers
  pub stage : is_locked (worker_of σ w).stage ≡ true
  pub unchanged : any (changed_since σ) (worker_of σ w).reads ≡ false
  pub unlocked : any (locked_by_other σ w) (keys (worker_of σ w).reads) ≡ false
  pub no_phantom : any (phantom_in σ.map w) (worker_of σ w).versions ≡ false

module _ (σ : State) (ρ : Reading) (w : ℕ) (i : Invariant (facts σ) ρ) (k : ℕ) where
  said : Content
  said = content_of σ.map.slots k

  -- what another checked worker writes it has locked, for that write
  locked_for_lem : (v : ℕ) → (v ≡ w → ⊥) → is_checked (worker_of σ v).stage ≡ true → (e : Write) → look (worker_of σ v).writes k ≡ some e
      → (held_by_other w said ≡ true) × (said.for_put ≡ is_put e)
  unfolding said
  locked_for_lem v d c e q =
      let l = (i.working v (checked_busy (worker_of σ v).stage c)).locked (checked_not_open (worker_of σ v).stage c) k (ap present q) in
      (other_holds w (content_of σ.map.slots k) v d l.0, l.1 ∙ ap (λ (o : Option Write). maybe o false is_put) q)

  -- a key that no other worker has locked is changed by no checked transaction
  untouched : (r : Option Record) → held_by_other w said ≡ false → OthersHarmless (facts σ) w k r
  untouched r e v d c = go (look (worker_of σ v).writes k) refl
    where
      go : (o : Option Write) → look (worker_of σ v).writes k ≡ o → Harmless (worker_of σ v).writes k r
      go none q = unwritten q
      go (some x) q = clash (locked_for_lem v d c x q).0 e

  -- an absent key that no other worker has locked for a put stays absent: what others have there are removals
  stays_absent : both said.for_put (held_by_other w said) ≡ false → OthersHarmless (facts σ) w k none
  stays_absent e v d c = go (look (worker_of σ v).writes k) refl
    where
      go : (o : Option Write) → look (worker_of σ v).writes k ≡ o → Harmless (worker_of σ v).writes k none
      go none q = unwritten q
      go (some deleted) q = already_absent q refl
      go (some (written p)) q =
          let l = locked_for_lem v d c (written p) q in
          clash (ap (λ (b : Bool). both b (held_by_other w said)) l.1 ∙ (unfold is_put in l.0)) e

-- nothing is said of the key that worker w would have to know: no put is pending, no other worker has the lock for a put
abbrev Quiet : ℕ → Content → Type 0
Quiet w c = (put_pending c ≡ false) × (both c.for_put (held_by_other w c) ≡ false)

idle_quiet : (w : ℕ) (c : Content) → is_idle c ≡ true → Quiet w c
unfolding put_pending held_by_other
idle_quiet w c e = (
  ap (λ (p : Option Pending). maybe p false (λ (p : Pending). is_put p.write)) (idle_pending c e),
  ap (λ (h : Option ℕ). both c.for_put (maybe h false (λ (h : ℕ). not (same h w)))) (idle_holder c e) ∙ never c.for_put,
)
  where
    never : (b : Bool) → both b false ≡ false
    never true = refl
    never false = refl

-- where no put is pending and the index lacks the key, it is absent
absent : (m : MapState) (k : ℕ) → present (look m.records k) ≡ false → put_pending (content_of m.slots k) ≡ false → current m k ≡ none
unfolding current put_pending
absent m k n q = go (content_of m.slots k).pending q
  where
    gone : (o : Option Record) → present o ≡ false → o ≡ none
    gone none e = refl
    gone (some a) e = clash refl e

    removed : (p : Pending) (e : Write) → is_put e ≡ false → outcome p.commit e ≡ none
    removed p (written x) e = unfold is_put in clash refl e
    removed p deleted e = unfold outcome in refl

    go : (o : Option Pending) → maybe o false (λ (p : Pending). is_put p.write) ≡ false → maybe o (look m.records k) outcome_of ≡ none
    go none e = gone (look m.records k) n
    go (some p) e = unfold outcome_of in removed p p.write e

module _ {σ : State} {ρ : Reading} {w : ℕ} (h : Sound σ ρ) (p : Validatable σ w) where
  -- a key of a logged leaf that the index lacks is not hidden: what that means is told here, and nowhere else
  unhidden : (v : ℕ) → Memᴰ v (worker_of σ w).versions → (k : ℕ) → version_at σ.map.leaves k ≡ v
      → present (look σ.map.records k) ≡ false → Quiet w (content_of σ.map.slots k)
  unhidden v m k e n =
      ⊎_elim
      (λ t. idle_quiet w (content_of σ.map.slots k) t)
      (λ t. quiet (content_of σ.map.slots k) (tested t))
      (cases (is_idle (content_of σ.map.slots k)))
    where
      quiet : (c : Content) → hiding w c ≡ false → Quiet w c
      quiet c q = (
        either_left (put_pending c) (both c.for_put (held_by_other w c)) (unfold hiding in q),
        either_right (put_pending c) (both c.for_put (held_by_other w c)) (unfold hiding in q),
      )

      no_hide : hides σ.map w v ≡ false
      no_hide = unfold phantom_in in either_right (not (live σ.map.leaves v)) (hides σ.map w v) (any_false (phantom_in σ.map w) (worker_of σ w).versions p.no_phantom v m)

      tested : is_idle (content_of σ.map.slots k) ≡ false → hiding w (content_of σ.map.slots k) ≡ false
      tested t = last (row_tested t)
        where
          row_tested : is_idle (content_of σ.map.slots k) ≡ false → hidden_in σ.map w v (row k (content_of σ.map.slots k)) ≡ false
          row_tested t = unfold hides in any_false (hidden_in σ.map w v) (entries σ.map.slots) (unfold hides in no_hide) (row k (content_of σ.map.slots k)) (content_member h.fine.slots k t)

          last : hidden_in σ.map w v (row k (content_of σ.map.slots k)) ≡ false → hiding w (content_of σ.map.slots k) ≡ false
          last q =
              unfold hidden_in in
              sym (ap (λ (b : Bool). both b (both (not (present (look σ.map.records k))) (hiding w (content_of σ.map.slots k)))) (same_yes e)
              ∙ ap (λ (b : Bool). both (not b) (hiding w (content_of σ.map.slots k))) n)
              ∙ q

  passes : Passed (facts σ) w (worker_of σ w)
  passes =
      record {
        read_same =
            λ k r m.
            same_record_true (current σ.map k) r
            (not-false (same_record (current σ.map k) r) (unfold changed_since in any_false (changed_since σ) (worker_of σ w).reads p.unchanged (row k r) m));
        read_free =
            λ k r m.
            untouched σ ρ w h.invariant k r
            (unfold said locked_by_other in any_false (locked_by_other σ w) (keys (worker_of σ w).reads) p.unlocked k (member_keys (worker_of σ w).reads k r m));
        leaf_live =
            λ v m.
            live_version h.fine.leaves v
            (not-false (live σ.map.leaves v)
            (unfold phantom_in in either_left (not (live σ.map.leaves v)) (hides σ.map w v) (any_false (phantom_in σ.map w) (worker_of σ w).versions p.no_phantom v m)));
        leaf_empty = λ v m k e n. absent σ.map k n (unhidden v m k e n).0;
        leaf_free = λ v m k e n. stays_absent σ ρ w h.invariant k (unfold said in (unhidden v m k e n).1);
      }

  n : ℕ
  n = suc σ.counters.number

  σ-checked : State
  unfolding n
  σ-checked = with_worker (with_counters σ n σ.counters.version) w (checked_as n (worker_of σ w))

  now_worker : worker_of σ-checked w ≡ checked_as n (worker_of σ w)
  unfolding σ-checked
  now_worker = worker_same (with_counters σ n σ.counters.version) w (checked_as n (worker_of σ w)) (unfold with_counters in p.inside)

  other_worker : (v : ℕ) → (v ≡ w → ⊥) → worker_of σ-checked v ≡ worker_of σ v
  unfolding σ-checked
  other_worker v d = worker_other (with_counters σ n σ.counters.version) w (checked_as n (worker_of σ w)) v d ∙ (unfold with_counters worker_of in refl)

  g_locked : Working (facts σ) ρ w (worker_of σ w)
  g_locked = h.invariant.working w (locked_busy (worker_of σ w).stage p.stage)

  e_validate : Event
  unfolding n
  e_validate = record { step = validate w; answer = numbered n }

  ρ-checked : Reading
  ρ-checked = one_more_given (running_now ρ w (with_number n (extended e_validate g_locked.t)))

  reads_so : validated ρ w e_validate ≡ ρ-checked
  unfolding ρ-checked e_validate n validated
  reads_so =
      ap (λ (o : Option Transaction). one_more_given (maybe o (passed ρ) (λ (t : Transaction). running_now ρ w (with_number (number_in (numbered n)) (extended e_validate t))))) g_locked.running
      ∙ (unfold number_in in refl)

  checks : Checks (facts σ) (facts σ-checked) ρ ρ-checked w
  unfolding σ-checked ρ-checked n e_validate
  checks =
      record {
        given = unfold with_worker with_counters in refl;
        guard = unfold with_worker with_counters in refl;
        last_version = unfold with_worker with_counters in refl;
        current = λ k. unfold with_worker with_counters in refl;
        indexed = λ k. unfold with_worker with_counters in refl;
        version = λ k. unfold with_worker with_counters in refl;
        locks = λ v k b q. unfold with_worker with_counters in q;
        others = other_worker;
        writes = ap (λ (y : Worker). y.writes) now_worker ∙ (unfold checked_as in refl);
        number = ap (λ (y : Worker). y.number) now_worker ∙ (unfold checked_as in refl);
        is_checked_lem = ap (λ (y : Worker). is_checked y.stage) now_worker ∙ (unfold checked_as is_checked in refl);
        was_working = locked_busy (worker_of σ w).stage p.stage;
        was_unchecked = locked_unchecked (worker_of σ w).stage p.stage;
        was_locked = locked_not_open (worker_of σ w).stage p.stage;
        place = unfold one_more_given in (read_running ρ w (with_number n (extended e_validate g_locked.t))).place;
        read_given = unfold one_more_given running_now in refl;
        installed = unfold one_more_given running_now in refl;
        running = λ v d. unfold one_more_given in running_other ρ w (with_number n (extended e_validate g_locked.t)) v d;
        now = with_number n (extended e_validate g_locked.t);
        now_running = unfold one_more_given in running_same ρ w (with_number n (extended e_validate g_locked.t));
        now_number = unfold with_number in refl;
        now_events = λ t q. same_transaction t q;
      }
    where
      is_t : (t : Transaction) → look ρ.running w ≡ some t → g_locked.t ≡ t
      is_t t q = let a : some g_locked.t ≡ some t = sym g_locked.running ∙ q in cc

      same_transaction : (t : Transaction) → look ρ.running w ≡ some t
          → ((with_number n (extended e_validate g_locked.t)).begun ≡ t.begun)
          × (event_writes (with_number n (extended e_validate g_locked.t)).events ≡ event_writes t.events)
          × ((os : List Observation) → Explains os t.events → Explains os (with_number n (extended e_validate g_locked.t)).events)
      same_transaction t q =
          subst
          (λ (u : Transaction).
          ((with_number n (extended e_validate g_locked.t)).begun ≡ u.begun)
          × (event_writes (with_number n (extended e_validate g_locked.t)).events ≡ event_writes u.events)
          × ((os : List Observation) → Explains os u.events → Explains os (with_number n (extended e_validate g_locked.t)).events))
          (is_t t q)
          (unfold with_number extended in
          (refl, writes_of_snoc g_locked.t.events e_validate ∙ (unfold wrote access_of in refl), λ os x. explain_quiet os g_locked.t.events (validate w) (numbered n) (λ l. unfold Agrees access_of in tt) x))

  fine_counted : Fine (with_counters σ n σ.counters.version)
  unfolding with_counters worker_of
  fine_counted =
      let f : Fine σ = h.fine in
      record { tuning = f.tuning; slots = f.slots; records = f.records; leaves = f.leaves; crew = f.crew; writes = f.writes }

  pub validate_sound : Sound
      (with_worker (with_counters σ (suc σ.counters.number) σ.counters.version) w (checked_as (suc σ.counters.number) (worker_of σ w)))
      (validated ρ w (record { step = validate w; answer = numbered (suc σ.counters.number) }))
  unfolding σ-checked n e_validate
  validate_sound =
      record {
        fine = fine_worker (with_counters σ n σ.counters.version) w (checked_as n (worker_of σ w)) (unfold checked_as in h.fine.writes w) fine_counted;
        invariant = subst (Invariant (facts σ-checked)) (sym reads_so) (validate_step checks passes h.invariant);
      }

-- ---- install

module _ {σ : State} {ρ : Reading} (h : Sound σ ρ) (w : ℕ) (s : is_checked (worker_of σ w).stage ≡ true) where
  g_checked : Working (facts σ) ρ w (worker_of σ w)
  g_checked = h.invariant.working w (checked_busy (worker_of σ w).stage s)

  holds_locks : (k : ℕ) → present (look (worker_of σ w).writes k) ≡ true → (content_of σ.map.slots k).holder ≡ some w
  holds_locks k q = (g_checked.locked (checked_not_open (worker_of σ w).stage s) k q).0

  installable : Installable σ.map.slots (worker_of σ w).writes
  installable =
      record {
        held = λ k q. ⊎_elim (λ t. absurd (some_not_none (sym (holds_locks k q) ∙ idle_holder (content_of σ.map.slots k) t))) (λ t. t) (cases (is_idle (content_of σ.map.slots k)));
        once = rising_different (worker_of σ w).writes (h.fine.writes w);
      }

  m_installed : MapState
  m_installed = installed_map σ w

  says_installed : (k : ℕ) → content_of m_installed.slots k ≡ written_by (worker_of σ w).number (suc σ.counters.installs) (look (worker_of σ w).writes k) (content_of σ.map.slots k)
  unfolding m_installed
  says_installed k = install_says (worker_of σ w).number (suc σ.counters.installs) σ.map (worker_of σ w).writes h.fine.slots installable k

  records_installed : m_installed.records ≡ σ.map.records
  unfolding m_installed install_all with_slots
  records_installed = refl

  leaves_installed : m_installed.leaves ≡ σ.map.leaves
  unfolding m_installed install_all with_slots
  leaves_installed = refl

  current_installed : (k : ℕ) → current m_installed k ≡ laid (worker_of σ w).number (worker_of σ w).writes k (current σ.map k)
  current_installed k = start ∙ go (look (worker_of σ w).writes k)
    where
      number : ℕ
      number = (worker_of σ w).number

      start : current m_installed k
          ≡ maybe (written_by number (suc σ.counters.installs) (look (worker_of σ w).writes k) (content_of σ.map.slots k)).pending (look σ.map.records k) outcome_of
      start =
          unfold current in
          ap (λ (c : Content). maybe c.pending (look m_installed.records k) outcome_of) (says_installed k)
          ∙ ap (λ (rs : List (Row Record)). maybe (written_by number (suc σ.counters.installs) (look (worker_of σ w).writes k) (content_of σ.map.slots k)).pending (look rs k) outcome_of) records_installed

      go : (o : Option Write)
          → maybe (written_by number (suc σ.counters.installs) o (content_of σ.map.slots k)).pending (look σ.map.records k) outcome_of ≡ maybe o (current σ.map k) (outcome number)
      go none = unfold current in refl
      go (some e) = unfold outcome_of in refl

  locks_installed : (v : ℕ) → (v ≡ w → ⊥) → (k : ℕ) (b : Bool)
      → ((content_of σ.map.slots k).holder ≡ some v) × ((content_of σ.map.slots k).for_put ≡ b)
      → ((content_of m_installed.slots k).holder ≡ some v) × ((content_of m_installed.slots k).for_put ≡ b)
  locks_installed v d k b l =
      (ap (λ (c : Content). c.holder) same_content ∙ l.0, ap (λ (c : Content). c.for_put) same_content ∙ l.1)
    where
      go : (o : Option Write) → look (worker_of σ w).writes k ≡ o
          → written_by (worker_of σ w).number (suc σ.counters.installs) o (content_of σ.map.slots k) ≡ content_of σ.map.slots k
      go none q = refl
      go (some x) q = absurd (d (let a : some v ≡ some w = sym l.0 ∙ holds_locks k (ap present q) in cc))

      same_content : content_of m_installed.slots k ≡ content_of σ.map.slots k
      same_content = says_installed k ∙ go (look (worker_of σ w).writes k) refl

  σ-installed : State
  σ-installed = install_counted (with_worker (with_map σ m_installed) w free_worker)

  ρ-installed : Reading
  ρ-installed = installed_now ρ w g_checked.t

  installs : Installs (facts σ) (facts σ-installed) ρ ρ-installed w
  unfolding σ-installed ρ-installed install_counted with_worker with_map installed_now worker_of
  installs =
      record {
        given = refl;
        guard = refl;
        last_version = refl;
        current = current_installed;
        indexed = λ k. ap (λ (rs : List (Row Record)). present (look rs k)) records_installed;
        version = λ k. ap (λ (ls : List Leaf). version_at ls k) leaves_installed;
        locks = locks_installed;
        others = λ v d. worker_other (with_map σ m_installed) w free_worker v d ∙ (unfold worker_of in refl);
        is_free_lem = ap (λ (y : Worker). is_free y.stage) (worker_free_lem (with_map σ m_installed) w) ∙ free_free;
        was_checked = s;
        place = le_step (le_refl ρ.place);
        read_given = refl;
        running = λ v d. look_delete w ρ.running v ∙ ap (λ (b : Bool). pick b none (look ρ.running v)) (same_no {m = w} {n = v} (λ e. d (sym e)));
        now = record { begun = g_checked.t.begun; ended = ρ.place; number = g_checked.t.number; events = g_checked.t.events };
        now_ended = refl;
        now_same = λ t q. let e : g_checked.t ≡ t = is_t t q in (ap (λ (u : Transaction). u.begun) e, ap (λ (u : Transaction). u.events) e);
        installed =
            λ t q.
            ap
            (λ (j : ℕ). row j (record { begun = g_checked.t.begun; ended = ρ.place; number = g_checked.t.number; events = g_checked.t.events }) ∷ ρ.installed)
            (ap (λ (u : Transaction). u.number) (is_t t q));
      }
    where
      is_t : (t : Transaction) → look ρ.running w ≡ some t → g_checked.t ≡ t
      is_t t q = let a : some g_checked.t ≡ some t = sym g_checked.running ∙ q in cc

  fine_installed : Fine (with_map σ m_installed)
  unfolding with_map worker_of m_installed
  fine_installed =
      let f : Fine σ = h.fine in
      record {
        tuning = f.tuning;
        slots = install_good (worker_of σ w).number (suc σ.counters.installs) σ.map (worker_of σ w).writes f.slots installable;
        records = subst Rising (sym records_installed) f.records;
        leaves = subst (GoodLeaves σ.counters.version) (sym leaves_installed) f.leaves;
        crew = f.crew;
        writes = f.writes;
      }

  install_fine : {τ : State} → Fine τ → Fine (install_counted τ)
  unfolding install_counted worker_of
  install_fine f =
      record {
        tuning = f.tuning;
        slots = f.slots;
        records = f.records;
        leaves = f.leaves;
        crew = f.crew;
        writes = f.writes;
      }

  pub install_sound : Sound
      (install_counted (with_worker (with_map σ (installed_map σ w)) w free_worker))
      (maybe (look ρ.running w) (passed ρ) (installed_now ρ w))
  unfolding σ-installed m_installed ρ-installed
  install_sound =
      record {
        fine = install_fine (fine_worker (with_map σ m_installed) w free_worker (rising_nil Write) fine_installed);
        invariant =
            subst (Invariant (facts σ-installed)) (sym (ap (λ (o : Option Transaction). maybe o (passed ρ) (installed_now ρ w)) g_checked.running))
            (install_step installs h.invariant);
      }

-- ---- merge

module _ {σ : State} {ρ : Reading} (h : Sound σ ρ) (a : ℕ) where
  r_merged : Merged
  r_merged = merge_at σ.made.tuning σ.counters.version σ.map a

  does : Merges σ.counters.version σ.map r_merged
  unfolding r_merged
  does = merges a h.fine.tuning.cut h.fine.slots h.fine.records h.fine.leaves

  σ-merged : State
  σ-merged = merged σ r_merged

  rearranged : Rearranged (facts σ) (facts σ-merged)
  unfolding σ-merged merged with_counters with_map worker_of
  rearranged =
      record {
        given = refl;
        guard = refl;
        last_version = does.later;
        current = does.same_current;
        locks = λ w k b l. (does.same_holder k ∙ l.0, does.same_kind k w l.0 ∙ l.1);
        worker = λ w. refl;
        gone = does.gone;
        fresh = does.renewed;
        kept = λ k e. (does.kept_version k e, ap (λ (o : Option Record). present o) (does.kept_record k e));
      }

  fine_merged : Fine σ-merged
  unfolding σ-merged merged with_counters with_map worker_of
  fine_merged =
      let f : Fine σ = h.fine in
      record { tuning = f.tuning; slots = does.good; records = does.rising; leaves = does.leaves; crew = f.crew; writes = f.writes }

  pub merge_sound : Sound (merged σ (merge_at σ.made.tuning σ.counters.version σ.map a)) (passed ρ)
  unfolding σ-merged r_merged
  merge_sound = record { fine = fine_merged; invariant = merge_step rearranged (read_passed ρ) (unfold passed in refl) h.invariant }

-- ---- a step that changes nothing

pub same_sound : {σ : State} {ρ : Reading} → Sound σ ρ → Sound σ (passed ρ)
same_sound {σ} {ρ} h =
    record {
      fine = h.fine;
      invariant =
          merge_step
          (record {
            given = refl;
            guard = refl;
            last_version = le_refl σ.counters.version;
            current = λ k. refl;
            locks = λ w k b l. l;
            worker = λ w. refl;
            gone = λ v. false;
            fresh = λ k e. clash e refl;
            kept = λ k e. (refl, refl);
          })
          (read_passed ρ) (unfold passed in refl) h.invariant;
    }
