-- What a step in numbers promises: what its code means is done with the first places of the buffers, or nothing.
use Rattle.std.specs.Prelude.{ℕ, Result, ◌≡◌, List, None}
use Rattle.spec.specs.Steps.{Places}
use Rattle.map.specs.Views.{Lent}
use Rattle.buffers.specs.Buffers.{Buffers, places_of, first_of, others_of}
use Rattle.transactions.specs.Cores.{Core}
use Rattle.transactions.specs.Views.{Logs, core_of}
use Rattle.engine.specs.declared.steps.Op.{Op}
use Rattle.engine.specs.Performs.{Performed}
use Rattle.spec.specs.declared.Refusal.{Refusal}
use Rattle.engine.specs.declared.steps.Told.{Told}
use Rattle.transactions.specs.declared.Globals.{Globals}
use Rattle.engine.specs.Performs.{Performs}
use Rattle.codes.specs.declared.Code.{Code}
use Rattle.codes.specs.declared.Coded.{Coded}
use Rattle.codes.specs.Codes.{meant_with, decoded, coded_of, no_meaning}

-- A step performed with the first places of the buffers, as many of each as it wants; the others are as they were.
pub record PerformsFirst (l : Lent) (g : Logs) (c : Core) (o : Op) (w : Places) (b : Buffers) (l' : Lent) (g' : Logs) (b' : Buffers) (r : Performed) : Type 0 where
  pub performs : Performs l g c o (first_of w b) l' g' (first_of w b') r
  pub others : others_of w b' ≡ others_of w b

-- The core after a step in numbers, and its answer.
pub record StepEnd : Type 0 where
  pub core : Core
  pub answer : Coded

abbrev pub step_end_of : List ℕ → Globals → Coded → StepEnd
step_end_of ws c a = record { core = core_of ws c; answer = a }

-- a step that was taken, and its answer in numbers
pub record CodeTaken (l : Lent) (g : Logs) (c : Core) (o : Op) (w : Places) (b : Buffers) (l' : Lent) (g' : Logs) (b' : Buffers) (r : StepEnd) : Type 0 where
  pub reply : Result Told Refusal
  pub performs : PerformsFirst l g c o w b l' g' b' (record { core = r.core; reply = reply })
  pub answer : r.answer ≡ coded_of reply

-- nothing was done
pub record Unchanged (l : Lent) (g : Logs) (c : Core) (b : Buffers) (l' : Lent) (g' : Logs) (b' : Buffers) (r : StepEnd) : Type 0 where
  pub map : l' ≡ l
  pub logs : g' ≡ g
  pub buffers : b' ≡ b
  pub outcome : r ≡ record { core = c; answer = no_meaning }

-- A step in coded form: the arrays, the core and the buffers before it, and those after it.
pub record CodedStep (l : Lent) (g : Logs) (c : Core) (k : Code) (b : Buffers) (l' : Lent) (g' : Logs) (b' : Buffers) (r : StepEnd) : Type 0 where
  pub meant : (o : Op) (w : Places) → decoded (places_of b) k ≡ meant_with o w → CodeTaken l g c o w b l' g' b' r
  pub meaningless : decoded (places_of b) k ≡ None → Unchanged l g c b l' g' b' r
