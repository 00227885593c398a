-- Workers, stages and causes: what stands at a worker after a change of one, that a stage is one of four, what a granted
-- step has passed and what a refused one has met.
use Rattle.std.specs.Prelude.{ℕ, zero, suc, ◌<◌, ◌≡◌, refl, ◌⊎◌, Bool, true, false, not, List, [], ◌∷◌, length, get_or, set, replicate}
use Rattle.std.proofs.Common.{arith, sym, ap, ◌∙◌, inl, inr, ⊎_elim, get_or-set_same, get_or-set_other}
use Rattle.std.proofs.Math.Option.{Option, none, some}
use Rattle.lists.specs.Tests.{pick, either, less}
use Rattle.lists.specs.TestLaws.{cases, clash, less_true, less_yes}
use Rattle.lists.specs.Rows.{any}
use Rattle.lists.specs.RowLaws.{some_not_none}
use Rattle.lists.specs.Options.{some_same}
use Rattle.spec.specs.declared.Refusal.{Refusal}
use Rattle.spec.specs.declared.Stage.{Stage}
use Rattle.spec.specs.declared.Stage.TheVariants.{Free, Open, Locked, Checked}
use Rattle.spec.specs.Refusals.{ends}
use Rattle.spec.specs.Records.{limits, standard, Made}
use Rattle.spec.specs.Steps.{Worker, free_worker, State, fresh, worker_of, is_free, is_open, is_locked, is_checked, Cause, no_worker, worker_free, wrong_stage, first_cause}
use Rattle.spec.specs.GoodTuning.{GoodTuning}
use Rattle.laws.specs.LeafCuts.{standard_cut}

pub standard_tuning : GoodTuning standard
standard_tuning = record { cut = standard_cut; roomy = omega arith }

-- ---- workers

pub set_same : (xs : List Worker) (w : ℕ) (x : Worker) → w < length xs → get_or (set xs w x) w free_worker ≡ x
set_same xs w x h = get_or-set_same xs w x free_worker h

pub set_other : (xs : List Worker) (w : ℕ) (x : Worker) (v : ℕ) → (v ≡ w → ⊥) → get_or (set xs w x) v free_worker ≡ get_or xs v free_worker
set_other xs w x v d = get_or-set_other xs w v x free_worker d

pub worker_fresh : (d : Made) (w : ℕ) → worker_of (fresh d) w ≡ free_worker
unfolding worker_of
worker_fresh d w = go limits.workers w
  where
    go : (n w : ℕ) → get_or (replicate n free_worker) w free_worker ≡ free_worker
    go zero w = refl
    go (suc n) zero = refl
    go (suc n) (suc w) = go n w

-- ---- stages

-- a worker in the stage has the locks of its write set
unfoldable pub has_locks : Stage → Bool
has_locks st = either (is_locked st) (is_checked st)

free_stage : (st : Stage) → is_free st ≡ true → st ≡ Free
unfolding is_free
free_stage Free e = refl
free_stage Open e = clash e refl
free_stage Locked e = clash e refl
free_stage Checked e = clash e refl

open_stage : (st : Stage) → is_open st ≡ true → st ≡ Open
unfolding is_open
open_stage Free e = clash e refl
open_stage Open e = refl
open_stage Locked e = clash e refl
open_stage Checked e = clash e refl

pub locked_stage : (st : Stage) → is_locked st ≡ true → st ≡ Locked
unfolding is_locked
locked_stage Free e = clash e refl
locked_stage Open e = clash e refl
locked_stage Locked e = refl
locked_stage Checked e = clash e refl

checked_stage : (st : Stage) → is_checked st ≡ true → st ≡ Checked
unfolding is_checked
checked_stage Free e = clash e refl
checked_stage Open e = clash e refl
checked_stage Locked e = clash e refl
checked_stage Checked e = refl

pub free_no_locks : (st : Stage) → is_free st ≡ true → has_locks st ≡ false
unfolding has_locks is_locked is_checked
free_no_locks st e = ap has_locks (free_stage st e)

pub open_no_locks : (st : Stage) → is_open st ≡ true → has_locks st ≡ false
unfolding has_locks is_locked is_checked
open_no_locks st e = ap has_locks (open_stage st e)

pub locked_locks : (st : Stage) → is_locked st ≡ true → has_locks st ≡ true
unfolding has_locks is_locked is_checked
locked_locks st e = ap has_locks (locked_stage st e)

pub checked_locks : (st : Stage) → is_checked st ≡ true → has_locks st ≡ true
unfolding has_locks is_locked is_checked
checked_locks st e = ap has_locks (checked_stage st e)

pub no_locks_unchecked : (st : Stage) → has_locks st ≡ false → is_checked st ≡ false
no_locks_unchecked st e = ⊎_elim (λ t. clash (checked_locks st t) e) (λ t. t) (cases (is_checked st))

pub locked_unchecked : (st : Stage) → is_locked st ≡ true → is_checked st ≡ false
unfolding is_checked
locked_unchecked st e = ap is_checked (locked_stage st e)

pub open_busy : (st : Stage) → is_open st ≡ true → is_free st ≡ false
unfolding is_free
open_busy st e = ap is_free (open_stage st e)

pub checked_busy : (st : Stage) → is_checked st ≡ true → is_free st ≡ false
unfolding is_free
checked_busy st e = ap is_free (checked_stage st e)

-- ---- causes

pub not-false : (b : Bool) → not b ≡ false → b ≡ true
not-false true e = refl
not-false false e = sym e

-- the first cause holds, or a later one is answered
cause_first : (c : Cause) (cs : List Cause) (o : Option Refusal) → first_cause (c ∷ cs) ≡ o
    → ((c.holds ≡ true) × (some c.refusal ≡ o)) ⊎ ((c.holds ≡ false) × (first_cause cs ≡ o))
unfolding first_cause
cause_first c cs o e =
    ⊎_elim
    (λ t. inl (t, sym (ap (λ (b : Bool). pick b (some c.refusal) (first_cause cs)) t) ∙ e))
    (λ t. inr (t, sym (ap (λ (b : Bool). pick b (some c.refusal) (first_cause cs)) t) ∙ e))
    (cases c.holds)

pub cause_passed : (c : Cause) (cs : List Cause) → first_cause (c ∷ cs) ≡ none → (c.holds ≡ false) × (first_cause cs ≡ none)
cause_passed c cs e = ⊎_elim (λ t. absurd (some_not_none t.1)) (λ t. t) (cause_first c cs none e)

pub no_causes : first_cause [] ≡ none
unfolding first_cause
no_causes = refl

pub cause_passes : (c : Cause) (cs : List Cause) → c.holds ≡ false → first_cause cs ≡ none → first_cause (c ∷ cs) ≡ none
unfolding first_cause
cause_passes c cs t e = rw t e

-- the causes of every step at a worker that is in the right stage
pub stage_passed : (σ : State) (right : Stage → Bool) (w : ℕ) (cs : List Cause)
    → first_cause (no_worker σ w ∷ worker_free σ w ∷ wrong_stage right σ w ∷ cs) ≡ none
    → (w < limits.workers) × (right (worker_of σ w).stage ≡ true) × (first_cause cs ≡ none)
unfolding no_worker worker_free wrong_stage
stage_passed σ right w cs e =
    let a = cause_passed _ _ e in
    let b = cause_passed _ _ a.1 in
    let c = cause_passed _ _ b.1 in (
      less_true w limits.workers (not-false (less w limits.workers) a.0),
      not-false (right (worker_of σ w).stage) c.0,
      c.1,
    )

pub stage_passes : (σ : State) (right : Stage → Bool) (w : ℕ) (cs : List Cause)
    → w < limits.workers → is_free (worker_of σ w).stage ≡ false → right (worker_of σ w).stage ≡ true → first_cause cs ≡ none
    → first_cause (no_worker σ w ∷ worker_free σ w ∷ wrong_stage right σ w ∷ cs) ≡ none
unfolding no_worker worker_free wrong_stage
stage_passes σ right w cs i f r e = cause_passes _ _ (ap not (less_yes i)) (cause_passes _ _ f (cause_passes _ _ (ap not r) e))

-- a cause that ends no transaction is not the one that did
pub ended_later : (c : Cause) (cs : List Cause) (r : Refusal) → ends c.refusal ≡ false → ends r ≡ true → first_cause (c ∷ cs) ≡ some r
    → (c.holds ≡ false) × (first_cause cs ≡ some r)
ended_later c cs r m t e =
    ⊎_elim (λ q. clash (ap ends (some_same q.1) ∙ t) m) (λ q. q) (cause_first c cs (some r) e)

-- causes of which none ends the transaction
pub mild_cause : (cs : List Cause) (r : Refusal) → any (λ (c : Cause). ends c.refusal) cs ≡ false → first_cause cs ≡ some r → ends r ≡ false
unfolding any first_cause
mild_cause [] r m e = absurd (some_not_none (sym e))
mild_cause (c ∷ cs) r m e =
    ⊎_elim
    (λ t. clash (rw t) m)
    (λ t. ⊎_elim
    (λ q. ap ends (sym (some_same q.1)) ∙ t)
    (λ q. mild_cause cs r (sym (ap (λ (b : Bool). pick b true (any (λ (x : Cause). ends x.refusal) cs)) t) ∙ m) q.1)
    (cause_first c cs (some r) e))
    (cases (ends c.refusal))
