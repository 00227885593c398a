-- Calls of the engine, one after the other, by any caller: each keeps the promise of `perform` (`Performs`), on the arrays and
-- the core that the call before it left. Each has an operation of its own, and scan buffers of its own, of any lengths and
-- with any contents. What was called and what was answered is their history; demand 3 is said of it.
use Rattle.std.specs.Prelude.{◌≡◌, List, [], ◌∷◌}
use Rattle.spec.specs.Records.{Made}
use Rattle.spec.specs.Maps.{contents}
use Rattle.spec.specs.Steps.{fresh, final, history, Event, steps_of}
use Rattle.spec.specs.Claim.{SerialRun}
use Rattle.map.specs.Views.{Lent, map_of}
use Rattle.transactions.specs.Cores.{Core}
use Rattle.transactions.specs.Views.{Logs, state_of}
use Rattle.transactions.specs.Ready.{Ready}
use Rattle.buffers.specs.Buffers.{Buffers, places_of}
use Rattle.engine.specs.declared.steps.Op.{Op}
use Rattle.engine.specs.Performs.{Performed}
use Rattle.engine.specs.Performs.{step_in, reply_in, Performs}

-- The step that a call takes, with the lengths of the buffers lent to it, and the answer that it gives, with what it left in them.
abbrev pub event_of : Op → Buffers → Buffers → Performed → Event
event_of o b b' p = record { step = step_in o (places_of b); answer = reply_in p.reply b' }

-- The arrays and the core before the calls, their history, and the arrays and the core after them.
pub data Calls : Lent → Logs → Core → List Event → Lent → Logs → Core → Type 0 where
  no_call : {l : Lent} {g : Logs} {c : Core} → Calls l g c [] l g c
  call : {l l' l'' : Lent} {g g' g'' : Logs} {c c'' : Core} {h : List Event} (o : Op) (b b' : Buffers) (p : Performed)
      → Performs l g c o b l' g' b' p → Calls l' g' p.core h l'' g'' c'' → Calls l g c (event_of o b b' p ∷ h) l'' g'' c''

-- What holds of a history from a fresh map and of the arrays and the core after it.
pub record SerialCalls (made : Made) (h : List Event) (l : Lent) (g : Logs) (c : Core) : Type 0 where
  -- demand 3, of the calls, their answers and the contents left
  pub serial : SerialRun h (contents (map_of l c.sizes))
  -- demands 1 and 2: every answer is the model's, and so is the state left
  pub answers : h ≡ history (fresh made) (steps_of h)
  pub state : state_of l g c ≡ final (fresh made) (steps_of h)
  -- and more calls may follow
  pub ready : Ready l g c
