-- A step that is performed lists no more records than a scan's buffers have places.
use Rattle.std.specs.Prelude.{ℕ, ◌≤◌, min, ◌≡◌, List, length}
use Rattle.std.proofs.Common.{arith, ◌∙◌}
use Rattle.spec.specs.Steps as model
use Rattle.spec.specs.Steps.{shortest}
use Rattle.transactions.specs.Cores.{Core}
use Rattle.map.specs.Views.{Lent}
use Rattle.transactions.specs.Views.{Logs, state_of}
use Rattle.buffers.specs.Buffers.{Buffers, buffers, places_of}
use Rattle.engine.specs.declared.steps.Op.{Op}
use Rattle.engine.specs.Performs.{step_in, places_in, Performed, Performs}
use Rattle.engine.specs.Listings as listings
use Rattle.script.specs.declared.Line.{Line}
use Rattle.script.specs.Grammar.{step_of}
use Rattle.console.specs.Program.{places}
use Rattle.console.specs.Replies.{Asks}

-- ---- a line performed

-- the step is the line's, when the buffers have their places
pub step_is : {u : Line} {o : Op} (ks vs os : List ℕ) → Asks u o → length ks ≡ places → length vs ≡ places → length os ≡ places
    → step_in o (places_of (buffers ks vs os)) ≡ step_of places u
step_is {u} {o} ks vs os a e f h = (λ i. step_in o (model.places (e i) (f i) (h i))) ∙ a.step places

pub places_fit : {l l' : Lent} {g g' : Logs} {x : Core} {u : Line} {o : Op} {ks vs os : List ℕ} {b : Buffers} {d : Performed}
    → Asks u o → length ks ≡ places → length vs ≡ places → length os ≡ places → Performs l g x o (buffers ks vs os) l' g' b d → places_in d.reply ≤ places
unfolding shortest
places_fit {l} {g = g} {x = x} {o = o} {ks} {vs} {os} {b} {d} a e f m p =
    let h : places_in d.reply ≤ min (min (length ks) (length vs)) (length os)
    = listings.places_fit (state_of l g x) o (places_of (buffers ks vs os)) d.reply b p.refines.says in
    omega arith
