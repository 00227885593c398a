-- What the first tests of a step tell: the refusal, or the worker, whose stage is right.
use Rattle.std.specs.Prelude.{ℕ, Result, Ok, Err, ◌<◌, ◌≤◌, ◌≡◌, Bool, true, false, length, get_or}
use Rattle.std.proofs.Math.Path.{refl, ap}
use Rattle.std.proofs.Common.{sym, ◌∙◌, subst}
use Rattle.std.proofs.Math.Bool.{not}
use mathlib.Core.List.{List, [], ◌∷◌}
use Rattle.lists.specs.Tests.{maybe, less}
use Rattle.lists.specs.TestLaws.{less_yes, less_no}
use Rattle.std.proofs.Math.Option.{Option, none, some}
use denote.Enum.Bare.{sameb}
use Rattle.spec.specs.contracts.Stage.{the_type}
use Rattle.spec.specs.declared.Stage.{Stage}
use Rattle.spec.specs.declared.Stage.TheVariants.{Free, Open, Locked, Checked}
use Rattle.spec.specs.declared.Refusal.{Refusal}
use Rattle.spec.specs.declared.Refusal.TheVariants.{NoWorker, WorkerFree, WorkerTaken, WrongStage}
use Rattle.spec.specs.Records.{limits}
use Rattle.spec.specs.Refusals.{ends}
use Rattle.spec.specs.Steps.{worker_of, is_free, is_open, is_locked, is_checked, begin, cause, no_worker, wrong_stage, causes, first_cause, refusal}
use Rattle.workers.specs.declared.Worker.{Worker}
use Rattle.workers.specs.Workers.{worker_in, freed}
use Rattle.map.specs.Views.{Lent}
use Rattle.transactions.specs.Cores.{Core}
use Rattle.transactions.specs.Answering.{cause_holds, cause_fails, front, front_last, front_none, front_free, front_passed}
use Rattle.transactions.specs.Views.{Logs, state_of}
use Rattle.transactions.specs.ViewLaws.{worker_at_lem}

-- the model's test of each
abbrev pub is_at : Stage → Stage → Bool
is_at Free = is_free
is_at Open = is_open
is_at Locked = is_locked
is_at Checked = is_checked

-- abort has no wrong stage
abbrev pub any_stage : Stage → Bool
any_stage s = true

-- The tests refuse, by r.
pub record Turned (right : Stage → Bool) (workers : List Worker) (w : ℕ) (r : Refusal) : Type 0 where
  pub front_is : (l : Lent) (g : Logs) (c : Core) → c.workers ≡ workers → front right (state_of l g c) w ≡ some r

-- They pass, and x is the worker.
pub record Entered (right : Stage → Bool) (workers : List Worker) (w : ℕ) (x : Worker) : Type 0 where
  pub inside : w < limits.workers
  pub is : x ≡ get_or workers w freed
  pub stage : right x.stage ≡ true
  pub front_is : (l : Lent) (g : Logs) (c : Core) → c.workers ≡ workers → front right (state_of l g c) w ≡ none

abbrev pub Admitted : (Stage → Bool) → List Worker → ℕ → Result Worker Refusal → Type 0
Admitted right workers w (Err r) = Turned right workers w r
Admitted right workers w (Ok x) = Entered right workers w x

-- The tests of begin refuse, by r.
pub record Barred (workers : List Worker) (w : ℕ) (r : Refusal) : Type 0 where
  pub refuses : (l : Lent) (g : Logs) (c : Core) → c.workers ≡ workers → refusal (state_of l g c) (begin w) ≡ some r
  pub mild : ends r ≡ false

-- They pass, and x is the free worker.
pub record Vacant (workers : List Worker) (w : ℕ) (x : Worker) : Type 0 where
  pub inside : w < limits.workers
  pub is : x ≡ get_or workers w freed
  pub passes : (l : Lent) (g : Logs) (c : Core) → c.workers ≡ workers → refusal (state_of l g c) (begin w) ≡ none

abbrev pub Begun : List Worker → ℕ → Result Worker Refusal → Type 0
Begun workers w (Err r) = Barred workers w r
Begun workers w (Ok x) = Vacant workers w x

-- ---- by cases of the tests

-- what `==` says of two stages
pub stage_eq : {b : Bool} (s t : Stage) → b ≡ sameb the_type s t → b ≡ is_at t s
unfolding is_free is_open is_locked is_checked
stage_eq s t e = e ∙ eq_is s t
  where
    eq_is : (s t : Stage) → sameb the_type s t ≡ is_at t s
    eq_is Free Free = refl
    eq_is Free Open = refl
    eq_is Free Locked = refl
    eq_is Free Checked = refl
    eq_is Open Free = refl
    eq_is Open Open = refl
    eq_is Open Locked = refl
    eq_is Open Checked = refl
    eq_is Locked Free = refl
    eq_is Locked Open = refl
    eq_is Locked Locked = refl
    eq_is Locked Checked = refl
    eq_is Checked Free = refl
    eq_is Checked Open = refl
    eq_is Checked Locked = refl
    eq_is Checked Checked = refl

-- ... and `!=`
pub stage_ne : {b : Bool} (s t : Stage) → b ≡ not (sameb the_type s t) → not b ≡ is_at t s
stage_ne s t e = ap not e ∙ twice (sameb the_type s t) ∙ stage_eq s t refl
  where
    twice : (b : Bool) → not (not b) ≡ b
    twice true = refl
    twice false = refl

stage_is : (l : Lent) (g : Logs) (c : Core) (workers : List Worker) (w : ℕ) → c.workers ≡ workers → w < length workers
    → (worker_of (state_of l g c) w).stage ≡ (get_or workers w freed).stage
unfolding worker_in
stage_is l g c workers w e h =
    ap (λ (x : Rattle.spec.specs.Steps.Worker). x.stage) (worker_at_lem l g c w (subst (λ (xs : List Worker). w < length xs) (sym e) h))
    ∙ ap (λ (xs : List Worker). (get_or xs w freed).stage) e

pub turned_none : (right : Stage → Bool) (workers : List Worker) (w : ℕ) → limits.workers ≤ w → Turned right workers w NoWorker
turned_none right workers w h =
    record { front_is = λ l g c e. front_none right (state_of l g c) w h }

-- worker x at its place
module _ {workers : List Worker} {w : ℕ} (x : Worker) (all : length workers ≡ limits.workers) (h : w < limits.workers) (is : x ≡ get_or workers w freed) where
  here : (l : Lent) (g : Logs) (c : Core) → c.workers ≡ workers → (worker_of (state_of l g c) w).stage ≡ x.stage
  here l g c e =
      stage_is l g c workers w e (subst (λ (n : ℕ). w < n) (sym all) h) ∙ ap (λ (y : Worker). y.stage) (sym is)

  pub turned_free : (right : Stage → Bool) → is_free x.stage ≡ true → Turned right workers w WorkerFree
  turned_free right z =
      record { front_is = λ l g c e. front_free right (state_of l g c) w h (ap is_free (here l g c e) ∙ z) }

  pub entered : is_free x.stage ≡ false → Entered any_stage workers w x
  entered f =
      record {
        inside = h;
        is = is;
        stage = refl;
        front_is =
            λ l g c e. front_passed any_stage (state_of l g c) w h
            (ap is_free (here l g c e) ∙ f) refl;
      }

-- whatever the stage has to be, the first two tests come before it
pub turned_first : (right : Stage → Bool) {workers : List Worker} {w : ℕ} {r : Refusal} → Turned any_stage workers w r → Turned right workers w r
turned_first right {workers} {w} {r} t =
    record {
      front_is = λ l g c e.
          let σ = state_of l g c in
          front_last any_stage right σ w refl ∙ ap (λ (o : Option Refusal). maybe o (first_cause (wrong_stage right σ w ∷ [])) some) (t.front_is l g c e);
    }

module _ (right : Stage → Bool) {workers : List Worker} {w : ℕ} {x : Worker} (all : length workers ≡ limits.workers) (t : Entered any_stage workers w x) where
  last_test : (b : Bool) → right x.stage ≡ b → (l : Lent) (g : Logs) (c : Core) → c.workers ≡ workers
      → front right (state_of l g c) w ≡ first_cause (cause (not b) WrongStage ∷ [])
  unfolding wrong_stage
  last_test b f l g c e =
      let σ = state_of l g c in
      front_last any_stage right σ w refl
      ∙ ap (λ (o : Option Refusal). maybe o (first_cause (wrong_stage right σ w ∷ [])) some) (t.front_is l g c e)
      ∙ ap (λ (b : Bool). first_cause (cause (not b) WrongStage ∷ [])) (ap right (here x all t.inside t.is l g c e) ∙ f)

  pub turned_wrong : right x.stage ≡ false → Turned right workers w WrongStage
  unfolding first_cause
  turned_wrong f = record { front_is = λ l g c e. last_test false f l g c e }

  pub admitted : right x.stage ≡ true → Entered right workers w x
  unfolding first_cause
  admitted f =
      record {
        inside = t.inside;
        is = t.is;
        stage = f;
        front_is = λ l g c e. last_test true f l g c e;
      }

-- ---- begin

begin_first : (l : Lent) (g : Logs) (c : Core) (w : ℕ) → limits.workers ≤ w → refusal (state_of l g c) (begin w) ≡ some NoWorker
unfolding refusal causes no_worker state_of
begin_first l g c w h = cause_holds (not (less w limits.workers)) NoWorker _ (ap not (less_no {m = w} {n = limits.workers} h))

pub barred_none : (workers : List Worker) (w : ℕ) → limits.workers ≤ w → Barred workers w NoWorker
barred_none workers w h = record { refuses = λ l g c e. begin_first l g c w h; mild = refl }

begin_then : (l : Lent) (g : Logs) (c : Core) (w : ℕ) → w < limits.workers
    → refusal (state_of l g c) (begin w) ≡ first_cause (cause (not (is_free (worker_of (state_of l g c) w).stage)) WorkerTaken ∷ [])
unfolding refusal causes no_worker state_of
begin_then l g c w h = cause_fails (not (less w limits.workers)) NoWorker _ (ap not (less_yes {m = w} {n = limits.workers} h))

module _ {workers : List Worker} {w : ℕ} (x : Worker) (all : length workers ≡ limits.workers) (h : w < limits.workers) (is : x ≡ get_or workers w freed) where
  pub barred_taken : is_free x.stage ≡ false → Barred workers w WorkerTaken
  barred_taken f =
      record {
        refuses =
            λ l g c e. begin_then l g c w h
            ∙ cause_holds _ WorkerTaken [] (ap (λ (s : Stage). not (is_free s)) (here x all h is l g c e) ∙ ap not f);
        mild = refl;
      }

  pub vacant_free : is_free x.stage ≡ true → Vacant workers w x
  unfolding first_cause
  vacant_free z =
      record {
        inside = h;
        is = is;
        passes =
            λ l g c e. begin_then l g c w h
            ∙ cause_fails _ WorkerTaken [] (ap (λ (s : Stage). not (is_free s)) (here x all h is l g c e) ∙ ap not z);
      }
