-- How a step's refusals are found one after the other: the causes that the code has tested, in their order.
use Rattle.std.specs.Prelude.{ℕ, ◌<◌, ◌≤◌, ◌≡◌, refl, Bool, true, false, not, List, [], ◌∷◌}
use Rattle.std.proofs.Math.Path.{ap}
use Rattle.std.proofs.Common.{sym, ◌∙◌}
use Rattle.std.proofs.Math.Option.{Option, none, some}
use Rattle.lists.specs.Tests.{pick, maybe, less}
use Rattle.lists.specs.TestLaws.{less_yes, less_no}
use Rattle.spec.specs.declared.Refusal.{Refusal}
use Rattle.spec.specs.declared.Refusal.TheVariants.{NoWorker, WorkerFree, WrongStage}
use Rattle.spec.specs.declared.Stage.{Stage}
use Rattle.spec.specs.Refusals.{ends}
use Rattle.spec.specs.Steps.{State, worker_of, Step, Answer, refused, is_free, Cause, cause, no_worker, worker_free, wrong_stage, first_cause, refusal, granted, effect, answer, next}
use Rattle.spec.specs.Records.{limits}
use Rattle.limits.specs.Refusing.{next_granted, refused_same}

-- What a step comes to: its answer, and the state after it.
pub record Yields (σ : State) (s : Step) (a : Answer) (σ' : State) : Type 0 where
  pub answers : answer σ s ≡ a
  pub leaves : next σ s ≡ σ'

pub yields_granted : (σ : State) (s : Step) → refusal σ s ≡ none → Yields σ s (granted σ s) (effect σ s)
yields_granted σ s e =
    record {
      answers = unfold answer in ap (λ (o : Option Refusal). maybe o (granted σ s) refused) e;
      leaves = next_granted σ s e;
    }

pub yields_refused : (σ : State) (s : Step) (r : Refusal) → refusal σ s ≡ some r → ends r ≡ false → Yields σ s (refused r) σ
yields_refused σ s r e t =
    record {
      answers = unfold answer in ap (λ (o : Option Refusal). maybe o (granted σ s) refused) e;
      leaves = refused_same σ s r e t;
    }

-- ---- one cause after the other

pub cause_holds : (b : Bool) (r : Refusal) (cs : List Cause) → b ≡ true → first_cause (cause b r ∷ cs) ≡ some r
unfolding first_cause
cause_holds b r cs e = ap (λ (x : Bool). pick x (some r) (first_cause cs)) e

pub cause_fails : (b : Bool) (r : Refusal) (cs : List Cause) → b ≡ false → first_cause (cause b r ∷ cs) ≡ first_cause cs
unfolding first_cause
cause_fails b r cs e = ap (λ (x : Bool). pick x (some r) (first_cause cs)) e

-- ---- the causes that most steps share: no worker, a free worker, a wrong stage

-- what they answer
unfoldable pub front : (Stage → Bool) → State → ℕ → Option Refusal
front right σ w = first_cause (no_worker σ w ∷ worker_free σ w ∷ wrong_stage right σ w ∷ [])

pick_first : (b : Bool) (r : Refusal) (o : Option Refusal) (rest : Option Refusal)
    → pick b (some r) (maybe o rest some) ≡ maybe (pick b (some r) o) rest some
pick_first true r o rest = refl
pick_first false r o rest = refl

-- the further causes are looked at if none of them holds
pub front_first : (right : Stage → Bool) (σ : State) (w : ℕ) (cs : List Cause)
    → first_cause (no_worker σ w ∷ worker_free σ w ∷ wrong_stage right σ w ∷ cs) ≡ maybe (front right σ w) (first_cause cs) some
unfolding front first_cause
front_first right σ w cs =
    ap (λ (x : Option Refusal). pick (no_worker σ w).holds (some (no_worker σ w).refusal) (pick (worker_free σ w).holds (some (worker_free σ w).refusal) x))
    (pick_first (wrong_stage right σ w).holds (wrong_stage right σ w).refusal none (first_cause cs))
    ∙ ap (pick (no_worker σ w).holds (some (no_worker σ w).refusal))
    (pick_first (worker_free σ w).holds (worker_free σ w).refusal (pick (wrong_stage right σ w).holds (some (wrong_stage right σ w).refusal) none) (first_cause cs))
    ∙ pick_first (no_worker σ w).holds (no_worker σ w).refusal
    (pick (worker_free σ w).holds (some (worker_free σ w).refusal) (pick (wrong_stage right σ w).holds (some (wrong_stage right σ w).refusal) none)) (first_cause cs)

-- the test of the stage comes last
pub front_last : (any right : Stage → Bool) (σ : State) (w : ℕ) → any (worker_of σ w).stage ≡ true
    → front right σ w ≡ maybe (front any σ w) (first_cause (wrong_stage right σ w ∷ [])) some
unfolding front first_cause wrong_stage
front_last any right σ w e =
    ap (λ (b : Bool). pick (no_worker σ w).holds (some (no_worker σ w).refusal) (pick (worker_free σ w).holds (some (worker_free σ w).refusal)
    (pick (not b) (some WrongStage) (pick (not (right (worker_of σ w).stage)) (some WrongStage) none)))) (sym e)
    ∙ front_first any σ w (wrong_stage right σ w ∷ [])

-- no worker
pub front_none : (right : Stage → Bool) (σ : State) (w : ℕ) → limits.workers ≤ w → front right σ w ≡ some NoWorker
unfolding front no_worker
front_none right σ w h = cause_holds (not (less w limits.workers)) NoWorker _ (ap not (less_no {m = w} {n = limits.workers} h))

past_none : (right : Stage → Bool) (σ : State) (w : ℕ) → w < limits.workers
    → front right σ w ≡ first_cause (worker_free σ w ∷ wrong_stage right σ w ∷ [])
unfolding front no_worker
past_none right σ w h = cause_fails (not (less w limits.workers)) NoWorker _ (ap not (less_yes {m = w} {n = limits.workers} h))

pub front_free : (right : Stage → Bool) (σ : State) (w : ℕ) → w < limits.workers → is_free (worker_of σ w).stage ≡ true → front right σ w ≡ some WorkerFree
unfolding worker_free
front_free right σ w h e = past_none right σ w h ∙ cause_holds (is_free (worker_of σ w).stage) WorkerFree _ e

past_free : (right : Stage → Bool) (σ : State) (w : ℕ) → w < limits.workers → is_free (worker_of σ w).stage ≡ false
    → front right σ w ≡ first_cause (wrong_stage right σ w ∷ [])
unfolding worker_free
past_free right σ w h e = past_none right σ w h ∙ cause_fails (is_free (worker_of σ w).stage) WorkerFree _ e

pub front_passed : (right : Stage → Bool) (σ : State) (w : ℕ) → w < limits.workers → is_free (worker_of σ w).stage ≡ false
    → right (worker_of σ w).stage ≡ true → front right σ w ≡ none
unfolding wrong_stage first_cause
front_passed right σ w h e q = past_free right σ w h e ∙ cause_fails (not (right (worker_of σ w).stage)) WrongStage [] (ap not q)
