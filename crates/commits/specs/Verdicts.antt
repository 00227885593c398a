-- Validate, as it goes: refused by 1, 2 or 4; ended by 12, 13 or 14; refused by 15; or the worker has its commit number.
use Rattle.std.specs.Prelude.{ℕ, suc, ◌+◌, ◌≡◌, Bool, not, get_or}
use Rattle.std.proofs.Common.{add-one, ◌∙◌, ⊎_elim}
use Rattle.std.proofs.Math.Path.{refl, sym, ap, subst}
use Rattle.std.proofs.Math.Bool.{true, false}
use mathlib.Core.List.{List, [], ◌∷◌}
use Rattle.std.proofs.Math.Option.{Option, none, some}
use Rattle.lists.specs.Tests.{pick, maybe, less}
use Rattle.lists.specs.TestLaws.{cases, less_true, less_false}
use Rattle.lists.specs.Rows.{Row, look, keys, has, any}
use Rattle.spec.specs.declared.Refusal.{Refusal}
use Rattle.spec.specs.declared.Refusal.TheVariants.{Changed, UnderLock, Phantom, Spent}
use Rattle.spec.specs.declared.Stage.{Stage}
use Rattle.spec.specs.Refusals.{ends}
use Rattle.spec.specs.Records.{limits, Record, Write}
use Rattle.spec.specs.Slots.{content_of}
use Rattle.spec.specs.Maps.{current, phantom_in}
use Rattle.spec.specs.Steps as model
use Rattle.spec.specs.Steps.{State, Answer, validate, refused, numbered, is_locked, worker_of, write_keys, changed_since, locked_by_other, Cause, cause, no_worker, worker_free, wrong_stage, causes, first_cause, refusal, granted, effect, with_worker, with_counters, checked_as, dropped, after_refusal, answer, next}
use Rattle.laws.specs.WorkerLaws.{mild_cause, has_locks, locked_locks}
use Rattle.workers.specs.declared.Worker.{Worker}
use Rattle.workers.specs.Workers.{worker_in, at_check}
use Rattle.workers.proofs.WorkerLaws.{check_in}
use Rattle.sets.specs.Reads.{ReadRows, reads_of, reads_in}
use Rattle.sets.specs.Leaves.{LeafSetRows, versions_of, versions_in}
use Rattle.sets.specs.Writes.{WriteRows, writes_in}
use Rattle.map.specs.declared.Sizes.{Sizes}
use Rattle.map.specs.Views.{slots_in, map_of, Lent}
use Rattle.queries.specs.PhantomViews.{Owns}
use Rattle.transactions.specs.Cores.{Core}
use Rattle.std.specs.Prelude.{Ok, Err}
use Rattle.transactions.specs.Answering.{Yields, yields_granted, cause_holds, cause_fails, front, front_first}
use Rattle.transactions.specs.Admits.{Turned, Entered}
use Rattle.transactions.specs.Views.{logs, model_worker, state_of}
use Rattle.transactions.specs.ViewLaws.{same_logs, state_with}
use Rattle.transactions.specs.Ready.{Within, Stored, Ready, Refines}
use Rattle.transactions.specs.ReadyLaws.{refines, refines_refused}
use Rattle.transactions.specs.CoreLaws.{ready_writable, worker_is, within, worker_writable, stored_worker}
use Rattle.commits.specs.Commits.{Reaches, writing}
use Rattle.commits.specs.Validates.{changed_in, locked_in, LoggedAll, Examinable, first_of, judged, Validated, with_number, numbering, number_spent, number_left}
use Rattle.commits.specs.Answers.{validate_in}

-- ---- the tests, in their order

module _ (a b c : Bool) where
  first_changed : a ≡ true → some Changed ≡ first_of a b c
  unfolding first_of
  first_changed e = sym (cause_holds a Changed _ e)

  first_locked : a ≡ false → b ≡ true → some UnderLock ≡ first_of a b c
  unfolding first_of
  first_locked e f = sym (cause_fails a Changed _ e ∙ cause_holds b UnderLock _ f)

  first_phantom : a ≡ false → b ≡ false → c ≡ true → some Phantom ≡ first_of a b c
  unfolding first_of
  first_phantom e f g = sym (cause_fails a Changed _ e ∙ cause_fails b UnderLock _ f ∙ cause_holds c Phantom [] g)

  pub first_none : a ≡ false → b ≡ false → c ≡ false → none ≡ first_of a b c
  unfolding first_of
  first_none e f g = sym (cause_fails a Changed _ e ∙ cause_fails b UnderLock _ f ∙ cause_fails c Phantom [] g ∙ (unfold first_cause in refl))

-- what they refuse ends the transaction
first_ends : (a b c : Bool) (r : Refusal) → first_of a b c ≡ some r → ends r ≡ true
first_ends a b c r e = sym (ap (λ (o : Option Refusal). maybe o true ends) e) ∙ by a b c
  where
    by : (p q s : Bool) → maybe (first_of p q s) true ends ≡ true
    by true q s = unfold first_of first_cause in refl
    by false true s = unfold first_of first_cause in refl
    by false false true = unfold first_of first_cause in refl
    by false false false = unfold first_of first_cause in refl

first_then : (a b c : Bool) (cs : List Cause)
    → first_cause (cause a Changed ∷ cause b UnderLock ∷ cause c Phantom ∷ cs) ≡ maybe (first_of a b c) (first_cause cs) some
unfolding first_of first_cause
first_then true b c cs = refl
first_then false true c cs = refl
first_then false false true cs = refl
first_then false false false cs = refl

-- ---- the model's refusal

-- what the model's tests say
abbrev tested : State → ℕ → Option Refusal
tested σ w =
    first_of (any (changed_since σ) (worker_of σ w).reads) (any (locked_by_other σ w) (keys (worker_of σ w).reads)) (any (phantom_in σ.map w) (worker_of σ w).versions)

abbrev spent : State → Option Refusal
spent σ = first_cause (cause (not (less σ.counters.number limits.last_number)) Spent ∷ [])

refusal_is : (σ : State) (w : ℕ) → refusal σ (validate w) ≡ maybe (front is_locked σ w) (maybe (tested σ w) (spent σ) some) some
unfolding refusal causes
refusal_is σ w =
    front_first is_locked σ w _
    ∙ ap (λ (o : Option Refusal). maybe (front is_locked σ w) o some)
    (first_then (any (changed_since σ) (worker_of σ w).reads) (any (locked_by_other σ w) (keys (worker_of σ w).reads)) (any (phantom_in σ.map w) (worker_of σ w).versions) _)

-- the causes that most steps share do not end a transaction
front_mild : (right : Stage → Bool) (σ : State) (w : ℕ) (r : Refusal) → front right σ w ≡ some r → ends r ≡ false
unfolding front no_worker worker_free wrong_stage any
front_mild right σ w r e = mild_cause (no_worker σ w ∷ worker_free σ w ∷ wrong_stage right σ w ∷ []) r refl e

-- an ended transaction
yields_ended : (σ : State) (w : ℕ) (r : Refusal) → refusal σ (validate w) ≡ some r → ends r ≡ true → Yields σ (validate w) (refused r) (dropped σ w)
yields_ended σ w r e t =
    record {
      answers = unfold answer in ap (λ (o : Option Refusal). maybe o (granted σ (validate w)) refused) e;
      leaves =
          unfold next after_refusal model.step_worker in
          (ap (λ (o : Option Refusal). maybe o (effect σ (validate w)) (after_refusal σ (validate w))) e
          ∙ ap (λ (b : Bool). pick b (dropped σ w) σ) t);
    }

-- ---- what the tests over the arrays say

module _ (l : Lent) (reads : ReadRows) (leaves : LeafSetRows) (z : Sizes) (x : Worker) (w : ℕ) where
  abbrev changed_now : Bool
  changed_now = any (changed_in l.rows z.records l.slots) (reads_of reads x.reads)

  abbrev locked_now : Bool
  locked_now = any (locked_in l.slots w) (keys (reads_of reads x.reads))

  abbrev phantom_now : Bool
  phantom_now = any (phantom_in (map_of l z) w) (versions_of leaves x.leaves)

  pub judge_changed : (a : Bool) → a ≡ changed_now → a ≡ true → some Changed ≡ judged l reads leaves z x w
  unfolding judged
  judge_changed a e t = first_changed changed_now locked_now phantom_now (sym e ∙ t)

  pub judge_locked : (a b : Bool) → a ≡ changed_now → a ≡ false → b ≡ locked_now → b ≡ true
      → some UnderLock ≡ judged l reads leaves z x w
  unfolding judged
  judge_locked a b e t f u = first_locked changed_now locked_now phantom_now (sym e ∙ t) (sym f ∙ u)

  pub judge_phantom : (a b c : Bool) → a ≡ changed_now → a ≡ false → b ≡ locked_now → b ≡ false → c ≡ phantom_now → c ≡ true
      → some Phantom ≡ judged l reads leaves z x w
  unfolding judged
  judge_phantom a b c e t f u g v = first_phantom changed_now locked_now phantom_now (sym e ∙ t) (sym f ∙ u) (sym g ∙ v)

  pub judge_passed : (a b c : Bool) → a ≡ changed_now → a ≡ false → b ≡ locked_now → b ≡ false → c ≡ phantom_now → c ≡ false
      → none ≡ judged l reads leaves z x w
  unfolding judged
  judge_passed a b c e t f u g v = first_none changed_now locked_now phantom_now (sym e ∙ t) (sym f ∙ u) (sym g ∙ v)

-- the worker's locks are the addresses of its write set
pub examined_owns : {l : Lent} {reads : ReadRows} {leaves : LeafSetRows} {writes : WriteRows} {z : Sizes} {x : Worker} {w : ℕ}
    → Examinable l reads leaves writes z x w → Owns l.slots writes x.writes w
examined_owns e = record { fitting = writing e.writes_set; rising = e.writes_set.rising; mine = e.mine; only = e.only; kinds = e.kinds }

-- ---- the worker in the locked stage

module _ {l : Lent} {rs : List ReadRows} {ls : List LeafSetRows} {ws : List WriteRows} {c : Core} (w : ℕ) (k : Ready l (logs rs ls ws) c) where
  abbrev now : State
  now = state_of l (logs rs ls ws) c

  pub validate_refused : (r : Refusal) → Turned is_locked c.workers w r
      → Refines l (logs rs ls ws) c (validate w) l (logs rs ls ws) c (validate_in (Err r))
  validate_refused r t =
      let f : front is_locked now w ≡ some r = t.front_is l (logs rs ls ws) c refl in
      refines_refused k
      (refusal_is now w ∙ ap (λ (o : Option Refusal). maybe o (maybe (tested now w) (spent now) some) some) f)
      (front_mild is_locked now w r f)

  module _ (x : Worker) (t : Entered is_locked c.workers w x) where
    here : worker_of now w ≡ model_worker (logs rs ls ws) x w
    here = worker_is is_locked l (logs rs ls ws) c w x k t

    counts : Within x
    counts = within is_locked l (logs rs ls ws) c w x k t

    locks : has_locks (worker_of now w).stage ≡ true
    locks = ap (λ (y : model.Worker). has_locks y.stage) here ∙ stage_locks
      where
        stage_locks : has_locks (model_worker (logs rs ls ws) x w).stage ≡ true
        stage_locks = unfold worker_in in locked_locks x.stage t.stage

    writes_of_lem : (worker_of now w).writes ≡ writes_in ws w x.writes
    writes_of_lem = ap (λ (y : model.Worker). y.writes) here ∙ (unfold worker_in in refl)

    pub examinable : Examinable l (get_or rs w []) (get_or ls w []) (get_or ws w []) c.sizes x w
    unfolding write_keys
    examinable =
        record {
          counts = counts;
          held = record { version = c.counters.version; held = k.stored.map };
          reads_held = k.stored.reads.at w t.inside;
          leaves_held = k.stored.leaves.at w t.inside;
          writes_set = worker_writable (ready_writable k) t;
          logged_all =
              subst (λ (y : Worker). LoggedAll l (get_or ls w []) c.sizes y.leaves) (sym t.is)
              (record { at = λ i h. record { stays = k.stored.lows w t.inside i h } });
          mine = λ a h. slots_are a (k.kept.holds w a locks (subst (λ (us : List (Row Write)). has a (keys us) ≡ true) (sym writes_of_lem) h));
          only = λ a h. subst (λ (us : List (Row Write)). has a (keys us) ≡ true) writes_of_lem (k.kept.held_by_lem w a (slots_from a h)).1;
          kinds = λ a e h. kind_from a (k.kept.kinds w a e locks (ap (λ (us : List (Row Write)). look us a) writes_of_lem ∙ h));
        }
      where
        slots_are : (a : ℕ) → (content_of now.map.slots a).holder ≡ some w → (content_of (slots_in l.slots) a).holder ≡ some w
        slots_are a h = unfold state_of in h

        kind_from : (a : ℕ) {b : Bool} → (content_of now.map.slots a).for_put ≡ b → (content_of (slots_in l.slots) a).for_put ≡ b
        kind_from a h = unfold state_of in h

        slots_from : (a : ℕ) → (content_of (slots_in l.slots) a).holder ≡ some w → (content_of now.map.slots a).holder ≡ some w
        slots_from a h = unfold state_of in h

    -- the arrays say what the model's tests say
    changed_same : (us : List (Row (Option Record))) → any (changed_in l.rows c.sizes.records l.slots) us ≡ any (changed_since now) us
    unfolding changed_in changed_since state_of current
    changed_same us = refl

    locked_same : (us : List ℕ) → any (locked_in l.slots w) us ≡ any (locked_by_other now w) us
    unfolding locked_in locked_by_other state_of
    locked_same us = refl

    phantom_same : (us : List ℕ)
        → any (phantom_in (map_of l c.sizes) w) us ≡ any (phantom_in now.map w) us
    unfolding state_of
    phantom_same us = refl

    reads_of_lem : reads_in rs w x.reads ≡ (worker_of now w).reads
    reads_of_lem = sym (ap (λ (y : model.Worker). y.reads) here ∙ (unfold worker_in in refl))

    versions_of_lem : versions_in ls w x.leaves ≡ (worker_of now w).versions
    versions_of_lem = sym (ap (λ (y : model.Worker). y.versions) here ∙ (unfold worker_in in refl))

    judged_is : judged l (get_or rs w []) (get_or ls w []) c.sizes x w ≡ tested now w
    unfolding judged
    judged_is =
        λ i.
        first_of
        ((changed_same (reads_in rs w x.reads) ∙ ap (any (changed_since now)) reads_of_lem) i)
        ((locked_same (keys (reads_in rs w x.reads)) ∙ ap (λ (us : List (Row (Option Record))). any (locked_by_other now w) (keys us)) reads_of_lem) i)
        ((phantom_same (versions_in ls w x.leaves) ∙ ap (any (phantom_in now.map w)) versions_of_lem) i)

    refusal_by : (o : Option Refusal) → o ≡ judged l (get_or rs w []) (get_or ls w []) c.sizes x w
        → refusal now (validate w) ≡ maybe o (spent now) some
    refusal_by o q =
        refusal_is now w
        ∙ ap (λ (p : Option Refusal). maybe p (maybe (tested now w) (spent now) some) some) (t.front_is l (logs rs ls ws) c refl)
        ∙ ap (λ (p : Option Refusal). maybe p (spent now) some) (sym (q ∙ judged_is))

    pub validate_ended : {l' : Lent} {c' : Core} (r : Refusal) → some r ≡ judged l (get_or rs w []) (get_or ls w []) c.sizes x w
        → Reaches (λ (σ : State). dropped σ w) l ws c l' c'
        → Refines l (logs rs ls ws) c (validate w) l' (logs rs ls ws) c' (validate_in (Err r))
    validate_ended r q d =
        refines k
        (yields_ended now w r (refusal_by (some r) q) (first_ends _ _ _ r (sym (q ∙ judged_is))))
        (d.state rs ls k.stored) (d.stored rs ls k.stored)

    -- ---- the next commit number

    spent_is : (b : Bool) → less c.counters.number limits.last_number ≡ b → spent now ≡ first_cause (cause (not b) Spent ∷ [])
    unfolding state_of
    spent_is b e = ap (λ (u : Bool). first_cause (cause (not u) Spent ∷ [])) e

    -- the core with the counters of a granted validation
    abbrev counted : ℕ → Core
    counted n = record { workers = c.workers; sizes = c.sizes; counters = record { number = n; version = c.counters.version; installs = c.counters.installs }; guarded = c.guarded }

    counted_state : (n : ℕ) → state_of l (logs rs ls ws) (counted n) ≡ with_counters now n c.counters.version
    unfolding state_of with_counters
    counted_state n = refl

    counted_stored : (n : ℕ) → Stored l (logs rs ls ws) (counted n)
    counted_stored n =
        record {
          map = k.stored.map;
          reads = k.stored.reads;
          leaves = k.stored.leaves;
          writes = k.stored.writes;
          workers = k.stored.workers;
          counts = k.stored.counts;
          lows = k.stored.lows;
        }

    granted_is : granted now (validate w) ≡ numbered (suc c.counters.number)
    unfolding granted state_of
    granted_is = refl

    effect_is : with_worker (with_counters now (suc c.counters.number) c.counters.version) w (checked_as (suc c.counters.number) (worker_of now w))
        ≡ effect now (validate w)
    unfolding effect state_of
    effect_is = refl

    checked_state : (n : ℕ) → state_of l (logs rs ls ws) (with_number c w (at_check x n) n)
        ≡ with_worker (with_counters now n c.counters.version) w (checked_as n (worker_of now w))
    checked_state n =
        state_with l (logs rs ls ws) (logs rs ls ws) (counted n) w (at_check x n)
        (same_logs (logs rs ls ws) w)
        ∙ ap (λ (σ : State). with_worker σ w (model_worker (logs rs ls ws) (at_check x n) w)) (counted_state n)
        ∙ ap (with_worker (with_counters now n c.counters.version) w)
        (check_in rs ls ws w x n ∙ ap (checked_as n) (sym here))

    checked_stored : (n : ℕ) → Stored l (logs rs ls ws) (with_number c w (at_check x n) n)
    checked_stored n =
        stored_worker l rs ls ws rs ws (counted n) w (at_check x n) t.inside (counted_stored n) k.stored.reads k.stored.writes
        (record { reads = counts.reads; leaves = counts.leaves; writes = counts.writes })
        (ap (λ (y : Worker). y.leaves) t.is)

    numbered_refines : (n : ℕ) → n ≡ suc c.counters.number → refusal now (validate w) ≡ none
        → Refines l (logs rs ls ws) c (validate w) l (logs rs ls ws) (with_number c w (at_check x n) n) (validate_in (Ok n))
    numbered_refines n e q =
        subst
        (λ (m : ℕ). Refines l (logs rs ls ws) c (validate w) l (logs rs ls ws) (with_number c w (at_check x m) m) (validate_in (Ok m))) (sym e)
        (refines k
        (subst (λ (a : Answer). Yields now (validate w) a (effect now (validate w))) granted_is (yields_granted now (validate w) q))
        (checked_state (suc c.counters.number) ∙ effect_is)
        (checked_stored (suc c.counters.number)))

    pub validate_passed : (y : Validated) → none ≡ judged l (get_or rs w []) (get_or ls w []) c.sizes x w → y ≡ numbering c w x
        → Refines l (logs rs ls ws) c (validate w) l (logs rs ls ws) y.core (validate_in y.answer)
    validate_passed y q e =
        ⊎_elim
        (λ b. subst Taken (number_left c w x (less_true c.counters.number limits.last_number b) ∙ sym e)
        (numbered_refines (c.counters.number + 1) (add-one c.counters.number)
        (refusal_by none q ∙ spent_is true b ∙ cause_fails false Spent [] refl ∙ (unfold first_cause in refl))))
        (λ b. subst Taken (number_spent c w x (less_false c.counters.number limits.last_number b) ∙ sym e)
        (refines_refused k (refusal_by none q ∙ spent_is false b ∙ cause_holds true Spent [] refl) refl))
        (cases (less c.counters.number limits.last_number))
      where
        Taken : Validated → Type 0
        Taken r = Refines l (logs rs ls ws) c (validate w) l (logs rs ls ws) r.core (validate_in r.answer)
