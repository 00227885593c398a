-- Demand 3, of what the script program reads and writes: the history is read off the lines of the input and the lines of the
-- output, and the contents off the last line.
use Rattle.std.specs.Prelude.{ℕ, ◌≡◌, List, [], ◌∷◌, ◌++◌, drop}
use Rattle.std.proofs.Math.Option.{Option, none, some}
use Rattle.lists.specs.Tests.{pick, maybe, same}
use Rattle.lists.specs.Rows.{Row}
use Rattle.spec.specs.declared.Refusal.{Refusal}
use Rattle.spec.specs.Records.{Payload, Record}
use Rattle.spec.specs.Steps.{Answer, refused, done, found, listed, numbered, counted, Event}
use Rattle.spec.specs.Claim.{SerialRun}
use Rattle.script.specs.declared.Line.{Line}
use Rattle.script.specs.declared.Line.TheVariants.{Begin, Read, Scan, Put, Remove, Lock, Validate, Install, Abort, Merge, MergeOldest}
use Rattle.script.specs.Grammar.{meaning, step_of}
use Rattle.script.specs.Parsing.{filled}
use Rattle.answers.specs.Output.{end_line, guarded_answer}
use Rattle.console.specs.Program.{places, answer_line, starts_guarded}

-- ---- the input

-- What the lines of an input say, when the bytes `line` of the current line are read; none if a line is malformed, or the last
-- one has no line feed.
unfoldable pub lines_from : List ℕ → List ℕ → Option (List Line)
lines_from line [] = pick (filled line) none (some [])
lines_from line (b ∷ bs) =
    pick (same b 10)
    (maybe (meaning line) none (λ (l : Line). maybe (lines_from [] bs) none (λ (ls : List Line). some (l ∷ ls))))
    (lines_from (line ++ (b ∷ [])) bs)

-- of a whole input, without a first line G
abbrev pub lines_of : List ℕ → Option (List Line)
lines_of input = lines_from [] (pick (starts_guarded input) (drop 2 input) input)

-- ---- the output

-- what stands before all answers of steps: that to a first line G
abbrev pub opening : List ℕ → List ℕ
opening input = pick (starts_guarded input) guarded_answer []

-- what a line can be answered: any refusal, or what its step tells when it is granted
pub data Answers : Line → Answer → Type 0 where
  not_granted : (l : Line) (r : Refusal) → Answers l (refused r)
  begun : (w : ℕ) → Answers (Begin w) done
  value : (w k : ℕ) (o : Option Payload) (n : ℕ) → Answers (Read w k) (found o n)
  records : (w lo hi : ℕ) (rs : List (Row Payload)) → Answers (Scan w lo hi) (listed rs)
  written : (w k v o : ℕ) → Answers (Put w k v o) done
  removed : (w k : ℕ) → Answers (Remove w k) done
  locked : (w : ℕ) → Answers (Lock w) done
  number : (w n : ℕ) → Answers (Validate w) (numbered n)
  installed : (w : ℕ) → Answers (Install w) done
  aborted : (w : ℕ) → Answers (Abort w) done
  count : (a n : ℕ) → Answers (Merge a) (counted n)
  oldest_count : (n : ℕ) → Answers MergeOldest (counted n)

-- The lines of an input and the bytes of an output, read side by side: each line of the input with the line of the output that
-- tells its answer, and at the end the line of the contents.
pub data Transcript : List Line → List ℕ → List Event → List (Row Record) → Type 0 where
  end_line_lem : (rs : List (Row Record)) → Transcript [] (end_line rs) [] rs
  answer_line_lem : {ls : List Line} {text : List ℕ} {h : List Event} {rs : List (Row Record)} (l : Line) (a : Answer) → Answers l a
      → Transcript ls text h rs → Transcript (l ∷ ls) (answer_line l a ++ text) (record { step = step_of places l; answer = a } ∷ h) rs

-- The output for these lines is that of a serial run.
pub record SerialOutput (ls : List Line) (text : List ℕ) : Type 0 where
  pub events : List Event
  pub contents : List (Row Record)
  pub transcript : Transcript ls text events contents
  -- no other history can be read off them
  pub only : (h : List Event) (rs : List (Row Record)) → Transcript ls text h rs → h ≡ events
  pub serial : SerialRun events contents
