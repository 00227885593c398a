-- The model seen through the theorem's facts, and what holds of its state after every step: the slots are good, records
-- and write sets rise, and the leaves are good.
use Rattle.std.specs.Prelude.{ℕ, zero, suc, ◌<◌, ◌≤◌, ◌≡◌, refl, Bool, true, false, not, List, ◌∷◌, length, get_or, replicate}
use Rattle.std.proofs.Common.{le_refl, sym, ap, ◌∙◌, get_or-set_same, get_or-set_other}
use Rattle.std.proofs.Math.Nat.{le_step}
use Rattle.std.proofs.Math.Path.{subst}
use Rattle.std.proofs.Math.Logic.{⊎_elim}
use Rattle.std.proofs.Math.Option.{Option, none, some}
use Rattle.std.proofs.Math.ListN.{length-set, get_or-eq_default}
use Rattle.std.proofs.lemmas.List.{length-replicate}
use Rattle.std.proofs.Math.Seq.{set_out}
use Rattle.lists.specs.Tests.{pick, maybe, present, same, less}
use Rattle.lists.specs.TestLaws.{cases, same_true, same_false, less_true, less_false}
use Rattle.lists.specs.Rows.{look, Rising}
use Rattle.lists.specs.RowLaws.{look_insert, some_not_none, rising_nil}
use Rattle.spec.specs.Records.{limits, Made, Record, Write}
use Rattle.spec.specs.Leaves.{version_at}
use Rattle.spec.specs.Slots.{content_of}
use Rattle.spec.specs.Maps.{current}
use Rattle.spec.specs.Steps.{Worker, free_worker, State, fresh, worker_of, Cause, first_cause, with_worker, Event}
use Rattle.spec.specs.Claim.{Transaction, Reading, running_now, passed, extended, goes_on}
use Rattle.laws.specs.SlotCounts.{Good}
use Rattle.laws.specs.SlotLaws.{fresh_good}
use Rattle.laws.specs.LeafLaws.{GoodLeaves, fresh_leaves_lem}
use Rattle.spec.specs.GoodTuning.{GoodTuning}
use Rattle.serial.specs.Invariant.{Facts}
use Rattle.serial.specs.Keeping.{ReadOn}

abbrev pub facts : State → Facts
facts σ =
    record {
      given = σ.counters.number;
      last_version = σ.counters.version;
      current = current σ.map;
      indexed = λ (k : ℕ). present (look σ.map.records k);
      holder = λ (k : ℕ). (content_of σ.map.slots k).holder;
      for_put = λ (k : ℕ). (content_of σ.map.slots k).for_put;
      version = version_at σ.map.leaves;
      worker = worker_of σ;
      guard = σ.made.guarded;
    }

pub record Fine (σ : State) : Type 0 where
  pub tuning : GoodTuning σ.made.tuning
  pub slots : Good limits.bytes σ.map.slots
  pub records : Rising σ.map.records
  pub leaves : GoodLeaves σ.counters.version σ.map.leaves
  pub crew : length σ.workers ≡ limits.workers
  pub writes : (w : ℕ) → Rising (worker_of σ w).writes

-- ---- workers

pub worker_same : (σ : State) (w : ℕ) (x : Worker) → w < length σ.workers → worker_of (with_worker σ w x) w ≡ x
unfolding worker_of with_worker
worker_same σ w x h = get_or-set_same σ.workers w x free_worker h

pub worker_other : (σ : State) (w : ℕ) (x : Worker) (v : ℕ) → (v ≡ w → ⊥) → worker_of (with_worker σ w x) v ≡ worker_of σ v
unfolding worker_of with_worker
worker_other σ w x v d = get_or-set_other σ.workers w v x free_worker d

-- a worker that there is not is free, whatever is said of it
worker_out : (σ : State) (w : ℕ) (x : Worker) → length σ.workers ≤ w → worker_of (with_worker σ w x) w ≡ free_worker
unfolding worker_of with_worker
worker_out σ w x h =
    ap (λ (ws : List Worker). get_or ws w free_worker) (set_out σ.workers w x h) ∙ get_or-eq_default σ.workers free_worker h

pub worker_free_lem : (σ : State) (w : ℕ) → worker_of (with_worker σ w free_worker) w ≡ free_worker
worker_free_lem σ w =
    ⊎_elim
    (λ e. worker_same σ w free_worker (less_true w (length σ.workers) e))
    (λ e. worker_out σ w free_worker (less_false w (length σ.workers) e))
    (cases (less w (length σ.workers)))

pub worker_fresh : (d : Made) (w : ℕ) → worker_of (fresh d) w ≡ free_worker
unfolding worker_of
worker_fresh d w = go limits.workers w
  where
    go : (n w : ℕ) → get_or (replicate n free_worker) w free_worker ≡ free_worker
    go zero w = refl
    go (suc n) zero = refl
    go (suc n) (suc w) = go n w

pub fine_fresh : (d : Made) → GoodTuning d.tuning → Fine (fresh d)
fine_fresh d h =
    record {
      tuning = h;
      slots = fresh_good limits.bytes;
      records = rising_nil Record;
      leaves = fresh_leaves_lem;
      crew = length-replicate limits.workers free_worker;
      writes = λ w. subst (λ (x : Worker). Rising x.writes) (sym (worker_fresh d w)) (rising_nil Write);
    }

-- another worker, and nothing else
pub fine_worker : (σ : State) (w : ℕ) (x : Worker) → Rising x.writes → Fine σ → Fine (with_worker σ w x)
fine_worker σ w x r f =
    unfold with_worker in
    record {
      tuning = f.tuning;
      slots = f.slots;
      records = f.records;
      leaves = f.leaves;
      crew = length-set σ.workers w x ∙ f.crew;
      writes = λ v. ⊎_elim (λ e. mine v (same_true v w e)) (λ e. other v (same_false v w e)) (cases (same v w));
    }
  where
    other : (v : ℕ) → (v ≡ w → ⊥) → Rising (worker_of (with_worker σ w x) v).writes
    other v d = subst (λ (y : Worker). Rising y.writes) (sym (worker_other σ w x v d)) (f.writes v)

    at_w : Rising (worker_of (with_worker σ w x) w).writes
    at_w =
        ⊎_elim
        (λ l. subst (λ (y : Worker). Rising y.writes) (sym (worker_same σ w x (less_true w (length σ.workers) l))) r)
        (λ l. subst (λ (y : Worker). Rising y.writes) (sym (worker_out σ w x (less_false w (length σ.workers) l))) (rising_nil Write))
        (cases (less w (length σ.workers)))

    mine : (v : ℕ) → v ≡ w → Rising (worker_of (with_worker σ w x) v).writes
    mine v e = subst (λ (u : ℕ). Rising (worker_of (with_worker σ w x) u).writes) (sym e) at_w

-- ---- what a granted step has passed

pub cause_passed : (c : Cause) (cs : List Cause) → first_cause (c ∷ cs) ≡ none → (c.holds ≡ false) × (first_cause cs ≡ none)
unfolding first_cause
cause_passed c cs e =
    ⊎_elim
    (λ t. absurd (some_not_none (sym (ap (λ (b : Bool). pick b (some c.refusal) (first_cause cs)) t) ∙ e)))
    (λ t. (t, sym (ap (λ (b : Bool). pick b (some c.refusal) (first_cause cs)) t) ∙ e))
    (cases c.holds)

pub not-false : (b : Bool) → not b ≡ false → b ≡ true
not-false true e = refl
not-false false e = sym e

-- ---- the reading

pub read_passed : (ρ : Reading) → ReadOn ρ (passed ρ)
unfolding passed
read_passed ρ = record { place = le_step (le_refl ρ.place); given = refl; installed = refl }

pub read_running : (ρ : Reading) (w : ℕ) (t : Transaction) → ReadOn ρ (running_now ρ w t)
unfolding running_now
read_running ρ w t = record { place = le_step (le_refl ρ.place); given = refl; installed = refl }

pub running_same : (ρ : Reading) (w : ℕ) (t : Transaction) → look (running_now ρ w t).running w ≡ some t
unfolding running_now
running_same ρ w t = look_insert w t ρ.running w ∙ (rw (Rattle.lists.specs.TestLaws.same_refl w))

pub running_other : (ρ : Reading) (w : ℕ) (t : Transaction) (v : ℕ) → (v ≡ w → ⊥) → look (running_now ρ w t).running v ≡ look ρ.running v
unfolding running_now
running_other ρ w t v d =
    look_insert w t ρ.running v ∙ (rw (Rattle.lists.specs.TestLaws.same_no {m = w} {n = v} (λ e. d (sym e))))

pub goes_on_some : (ρ : Reading) (w : ℕ) (e : Event) (t : Transaction) → look ρ.running w ≡ some t → goes_on ρ w e ≡ running_now ρ w (extended e t)
unfolding goes_on
goes_on_some ρ w e t q = ap (λ (o : Option Transaction). maybe o (passed ρ) (λ (x : Transaction). running_now ρ w (extended e x))) q
