-- One step, whichever it is: what an operation and a reply mean, and what performing one promises.
use Rattle.std.specs.Prelude.{ℕ, ◌≡◌, List, Result, Ok, Err}
use Rattle.spec.specs.declared.Refusal.{Refusal}
use Rattle.spec.specs.Steps as model
use Rattle.spec.specs.Steps.{Places, Step, Answer}
use Rattle.map.specs.Views.{Lent}
use Rattle.transactions.specs.Cores.{Core}
use Rattle.accesses.specs.declared.reads.Found.{Found}
use Rattle.accesses.specs.Answers.{found_by}
use Rattle.transactions.specs.declared.Globals.{Globals}
use Rattle.engine.specs.declared.steps.Access.{Access}
use Rattle.engine.specs.declared.steps.Access.TheVariants as access
use Rattle.engine.specs.declared.steps.Ending.{Ending}
use Rattle.engine.specs.declared.steps.Ending.TheVariants as ending
use Rattle.engine.specs.declared.steps.Op.{Op}
use Rattle.engine.specs.declared.steps.Op.TheVariants as op
use Rattle.engine.specs.declared.steps.Told.{Told}
use Rattle.engine.specs.declared.steps.Told.TheVariants as told
use Rattle.buffers.specs.Buffers.{Buffers, places_of, rows_in, Beyond}
use Rattle.transactions.specs.Views.{Logs, core_of}
use Rattle.transactions.specs.Ready.{Refines}

-- document 01's step, with the places of the lent buffers
abbrev pub step_in : Op → Places → Step
step_in (op.Begin w) b = model.begin w
step_in (op.Access w (access.Read a)) b = model.read w a
step_in (op.Access w (access.Scan lo hi)) b = model.scan w lo hi b
step_in (op.Access w (access.Put a v o)) b = model.put w a (record { value = v; owner = o })
step_in (op.Access w (access.Remove a)) b = model.remove w a
step_in (op.Ending w ending.Lock) b = model.lock w
step_in (op.Ending w ending.Validate) b = model.validate w
step_in (op.Ending w ending.Install) b = model.install w
step_in (op.Ending w ending.Abort) b = model.abort w
step_in (op.Merge a) b = model.merge a
step_in op.MergeOldest b = model.merge_oldest

-- document 01's answer: of a scan, the first places of the buffers after it
abbrev pub reply_in : Result Told Refusal → Buffers → Answer
reply_in (Ok told.Nothing) b = model.done
reply_in (Ok (told.Found f)) b = found_by f
reply_in (Ok (told.Listed n)) b = model.listed (rows_in n b)
reply_in (Ok (told.Numbered n)) b = model.numbered n
reply_in (Ok (told.Counted n)) b = model.counted n
reply_in (Err r) b = model.refused r

-- how many places of each buffer a step may write
abbrev pub places_in : Result Told Refusal → ℕ
places_in (Ok told.Nothing) = 0
places_in (Ok (told.Found f)) = 0
places_in (Ok (told.Listed n)) = n
places_in (Ok (told.Numbered n)) = 0
places_in (Ok (told.Counted n)) = 0
places_in (Err r) = 0

-- The core after a step, and its answer.
pub record Performed : Type 0 where
  pub core : Core
  pub reply : Result Told Refusal

-- an answer, with the core of the lent workers
abbrev pub performed_of : List ℕ → Globals → Result Told Refusal → Performed
performed_of ws c r = record { core = core_of ws c; reply = r }

-- A step taken: the arrays, the core and the buffers before it, and those after it. Every place of a buffer past those
-- that a scan filled is as it was.
pub record Performs (l : Lent) (g : Logs) (c : Core) (o : Op) (b : Buffers) (l' : Lent) (g' : Logs) (b' : Buffers) (r : Performed) : Type 0 where
  pub refines : Refines l g c (step_in o (places_of b)) l' g' r.core (reply_in r.reply b')
  pub beyond : Beyond (places_in r.reply) b b'

-- A step that looks at no buffer, whatever they hold.
pub record Quiet (l : Lent) (g : Logs) (c : Core) (o : Op) (l' : Lent) (g' : Logs) (r : Performed) : Type 0 where
  pub refines : (b : Buffers) → Refines l g c (step_in o (places_of b)) l' g' r.core (reply_in r.reply b)
  pub places : places_in r.reply ≡ 0
