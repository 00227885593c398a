-- Calls of the library, one after the other, by any caller: each keeps the promise of its entry (`StepEntry`, `ExportEntry`), on
-- what the call before it left. Each has a step of its own, and buffers and bytes of its own, of any lengths and with any
-- contents. What was called and what was answered is their history; it has no call of a step with no meaning.
use Rattle.std.specs.Prelude.{ℕ, ◌≡◌, List, [], ◌∷◌, Result, None}
use Rattle.spec.specs.Records.{Made}
use Rattle.spec.specs.Steps.{Places, fresh}
use Rattle.spec.specs.Claim.{SerialRun}
use Rattle.spec.specs.Exports.{ExportStep, Exchange, job_told, export_told, final_of, exchanges, starting_at, job_events}
use Rattle.map.specs.Views.{Lent}
use Rattle.buffers.specs.Buffers.{Buffers, places_of}
use Rattle.exports.specs.Exporting.{ExportedRows, Space, export_answer_in}
use Rattle.transactions.specs.Views.{Logs}
use Rattle.transactions.specs.Starts.{Fresh}
use Rattle.engine.specs.declared.steps.Op.{Op}
use Rattle.spec.specs.declared.Refusal.{Refusal}
use Rattle.engine.specs.declared.steps.Told.{Told}
use Rattle.engine.specs.Performs.{step_in, reply_in}
use Rattle.codes.specs.declared.Code.{Code}
use Rattle.codes.specs.Codes.{meant_with, decoded}
use Rattle.replay.specs.ToldExports.{requests_of}
use Rattle.replay.specs.Replays.{Whole, whole, exporting_in, WholeReady, run_of}
use Rattle.sections.specs.Saved.{saved_core, saved_export}
use Rattle.sections.specs.Entries.{StepEntry, ReplayEntry, contents_in, NoneIn, ExportEntry}

-- ---- what a caller keeps

-- The arrays, the words of the workers and of the globals, and the rows and the words of the export.
pub record Library : Type 0 where
  pub map : Lent
  pub logs : Logs
  pub workers : List ℕ
  pub globals : List ℕ
  pub exported : ExportedRows
  pub export : List ℕ

abbrev pub library : Lent → Logs → List ℕ → List ℕ → ExportedRows → List ℕ → Library
library l g workers globals rows words = record { map = l; logs = g; workers = workers; globals = globals; exported = rows; export = words }

-- how it is read
abbrev pub whole_of : Library → Whole
whole_of a = whole a.map a.logs (saved_core a.workers a.globals) a.exported (saved_export a.export)

-- ---- how calls begin

-- what was told before: nothing by a fresh start, its steps by a list of them
pub data Begun : Made → List Exchange → Library → Type 0 where
  fresh_begun : {made : Made} {a : Library} → Fresh a.map a.logs made (saved_core a.workers a.globals) → NoneIn a.export → Begun made [] a
  replay_begun : {made : Made} {words : List ℕ} {s s' : Space} {out out' : List ℕ} {l : Lent} {g : Logs} {rows : ExportedRows} {workers globals export counts : List ℕ} {n : ℕ}
      → ReplayEntry made words s out l g rows s' out' workers globals export counts n
      → Begun made (run_of made words s out).told (library l g workers globals rows export)

-- ---- calls

-- the step that a call takes, and the answer that it gives, with what it left in the buffers
abbrev pub step_told : Op → Places → Buffers → Result Told Refusal → Exchange
step_told o w b r = job_told (record { step = step_in o w; answer = reply_in r b })

-- What is kept before the calls, their history, and what is kept after them.
pub data LibraryCalls : Library → List Exchange → Library → Type 0 where
  no_call : {a : Library} → LibraryCalls a [] a
  -- a step in numbers, of which `o` and `w` are the meaning
  step_call : {a z : Library} {l : Lent} {g : Logs} {workers globals answer : List ℕ} {b b' : Buffers} {k : Code} {h : List Exchange} (o : Op) (w : Places)
      (e : decoded (places_of b) k ≡ meant_with o w) (s : StepEntry a.map a.logs a.workers a.globals k b l g workers globals b' answer)
      → LibraryCalls (library l g workers globals a.exported a.export) h z
      → LibraryCalls a (step_told o w b' (s.step.meant o w e).reply ∷ h) z
  -- one that means nothing
  void_call : {a z : Library} {l : Lent} {g : Logs} {workers globals answer : List ℕ} {b b' : Buffers} {k : Code} {h : List Exchange}
      → decoded (places_of b) k ≡ None → StepEntry a.map a.logs a.workers a.globals k b l g workers globals b' answer
      → LibraryCalls (library l g workers globals a.exported a.export) h z → LibraryCalls a h z
  -- a step of the export
  export_call : {a z : Library} {rows : ExportedRows} {words told : List ℕ} {h : List Exchange} (step : ExportStep) (s s' : Space)
      (e : ExportEntry (contents_in a.map a.globals) step a.exported a.export s rows words s' told)
      → LibraryCalls (library a.map a.logs a.workers a.globals rows words) h z
      → LibraryCalls a (export_told step (export_answer_in e.answer s') ∷ h) z

-- ---- what is claimed

-- What holds of a history from a fresh map and of what is kept after it.
pub record SerialLibrary (made : Made) (h : List Exchange) (z : Library) : Type 0 where
  -- demand 3, of the jobs' steps, their answers and the contents left
  pub serial : SerialRun (job_events h) (contents_in z.map z.globals)
  -- every answer is the model's, and so is what is left
  pub answers : h ≡ exchanges (starting_at (fresh made)) (requests_of h)
  pub state : exporting_in (whole_of z) ≡ final_of (starting_at (fresh made)) (requests_of h)
  -- and more calls may follow
  pub ready : WholeReady (whole_of z)
