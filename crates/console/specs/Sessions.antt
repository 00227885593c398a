-- A session: the engine's arrays and core, the parser, and the places in the input and in the output. What is promised of
-- running it on: what was written and what is still due are what was due.
use Rattle.std.specs.Prelude.{ℕ, ◌+◌, ◌-◌, ◌<◌, ◌≤◌, ◌≡◌, Bool, true, false, not, List, [], ◌++◌, length, drop}
use Rattle.lists.specs.Tests.{pick, both, less, at_most}
use Rattle.lists.specs.Texts.{Wrote}
use Rattle.spec.specs.Records.{standard_map}
use Rattle.spec.specs.Steps.{State, fresh}
use Rattle.map.specs.Views.{Lent}
use Rattle.transactions.specs.Cores.{Core}
use Rattle.transactions.specs.Views.{Logs, state_of, core_of}
use Rattle.transactions.specs.Ready.{Ready}
use Rattle.transactions.specs.Starts.{Fresh, guarded_core}
use Rattle.script.specs.declared.Parser.{Parser}
use Rattle.script.specs.Parsing.{After}
use Rattle.answers.specs.Output.{guarded_answer, malformed_line}
use Rattle.console.specs.declared.session.Session.{Session}
use Rattle.console.specs.Program.{written_from, longest_line, output}

-- a session with the core of the lent workers
pub record Standing : Type 0 where
  pub core : Core
  pub parser : Parser
  pub next : ℕ
  pub at : ℕ
  pub stopped : Bool
  pub first : Bool

abbrev pub session_of : List ℕ → Session → Standing
session_of ws x =
    record { core = core_of ws x.globals; parser = x.parser; next = x.next; at = x.at; stopped = x.stopped; first = x.first }

-- The parser has read some bytes of a line. As long as no line has been read through, the map is fresh, and not guarded.
pub record Started (l : Lent) (g : Logs) (x : Standing) : Type 0 where
  pub seen : List ℕ
  pub after : After seen x.parser
  pub opening : x.first ≡ true → state_of l g x.core ≡ fresh (standard_map false)

-- What is written for the bytes that come, when the bytes `line` of the current line are read. The first line may still turn
-- out to be G.
unfoldable pub due_for : State → Bool → List ℕ → List ℕ → List ℕ
due_for σ true line rest = output (line ++ rest)
due_for σ false line rest = written_from σ line rest

-- What is still to be written, when the bytes `line` of the current line are read, which may be the first, the input from a
-- place on comes next, and then whatever follows the input. After a malformed line, nothing.
unfoldable pub due : State → Bool → List ℕ → Bool → List ℕ → ℕ → List ℕ → List ℕ
due σ first line stopped input next future = pick stopped [] (due_for σ first line (drop next input ++ future))

-- From x to y: `text` was written, and it comes before all that is still due.
pub record Continues (l : Lent) (g : Logs) (x : Standing) (input old : List ℕ) (l' : Lent) (g' : Logs) (y : Standing) (new seen : List ℕ) : Type 0 where
  pub text : List ℕ
  pub wrote : Wrote old x.at text new y.at
  pub line : List ℕ
  pub after : After line y.parser
  pub rest : (future : List ℕ)
      → due (state_of l g x.core) x.first seen x.stopped input x.next future
      ≡ text ++ due (state_of l' g' y.core) y.first line y.stopped input y.next future

-- the same, whatever bytes of the current line were read before
pub record Feeds (l : Lent) (g : Logs) (x : Standing) (input old : List ℕ) (l' : Lent) (g' : Logs) (y : Standing) (new : List ℕ) : Type 0 where
  pub ready : Ready l' g' y.core
  pub started : Started l' g' y
  pub size : length new ≡ length old
  pub room : y.at ≤ length new
  pub continues : (seen : List ℕ) → After seen x.parser → Continues l g x input old l' g' y new seen

-- ---- lines that are no steps: from x to y, when the parser p goes on at a place of the input

-- a malformed line: no more is run
pub record EndsMalformed (x : Standing) (p : Parser) (next : ℕ) (old new : List ℕ) (y : Standing) : Type 0 where
  pub wrote : Wrote old x.at malformed_line new y.at
  pub after : y ≡ record { core = x.core; parser = p; next = next; at = y.at; stopped = true; first = false }

-- the first line is G: the map is a guarded one
pub record BeginsGuarded (x : Standing) (p : Parser) (next : ℕ) (old new : List ℕ) (y : Standing) : Type 0 where
  pub wrote : Wrote old x.at guarded_answer new y.at
  pub after : y ≡ record { core = guarded_core x.core; parser = p; next = next; at = y.at; stopped = false; first = false }

-- a line G: any other is malformed
pub record RunsGuard (x : Standing) (p : Parser) (next : ℕ) (old new : List ℕ) (y : Standing) : Type 0 where
  pub begins : x.first ≡ true → BeginsGuarded x p next old new y
  pub ends : x.first ≡ false → EndsMalformed x p next old new y

-- ---- lines

-- how much there is to do
abbrev pub left : List ℕ → Standing → ℕ
left input x = pick x.stopped 0 1 + (length input - x.next)

-- a line run: the same, and there is less to do
pub record RunsLine (l : Lent) (g : Logs) (x : Standing) (input old : List ℕ) (l' : Lent) (g' : Logs) (y : Standing) (new : List ℕ) : Type 0 where
  pub feeds : Feeds l g x input old l' g' y new
  pub fewer : left input y < left input x

-- a session can go on: no malformed line was met, there is input, and there is room for the longest line
unfoldable pub can_go_on : Bool → ℕ → ℕ → ℕ → ℕ → Bool
can_go_on stopped next size at room = both (not stopped) (both (less next size) (at_most (at + longest_line) room))

-- run on until it cannot
pub record Runs (l : Lent) (g : Logs) (x : Standing) (input old : List ℕ) (l' : Lent) (g' : Logs) (y : Standing) (new : List ℕ) : Type 0 where
  pub feeds : Feeds l g x input old l' g' y new
  pub ends : can_go_on y.stopped y.next (length input) y.at (length new) ≡ false

-- ---- a session begins, and its buffers are filled and emptied

-- a fresh map that is not guarded, at the start of the first line
pub record Begins (l : Lent) (g : Logs) (x : Standing) : Type 0 where
  pub fresh : Fresh l g (standard_map false) x.core
  pub after : After [] x.parser
  pub next_is : x.next ≡ 0
  pub at_is : x.at ≡ 0
  pub goes : x.stopped ≡ false
  pub first_is : x.first ≡ true

abbrev pub with_places : Session → ℕ → ℕ → Session
with_places x next at =
    record { globals = x.globals; parser = x.parser; next = next; at = at; stopped = x.stopped; first = x.first }

-- A run over the input `whole` stands at session x: the bytes `line` of the current line are read, the piece `input` is
-- read up to the session's place, `future` has not come yet, and `told` was written.
pub record Told (whole : List ℕ) (l : Lent) (g : Logs) (x : Standing) (line input future told : List ℕ) : Type 0 where
  pub after : After line x.parser
  pub is : output whole ≡ told ++ due (state_of l g x.core) x.first line x.stopped input x.next future
