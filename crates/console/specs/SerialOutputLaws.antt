-- What the program writes for an input without a malformed line is the output of a serial run.
use Rattle.std.specs.Prelude.{ℕ, ◌≡◌, refl, Bool, true, false, List, [], ◌∷◌, ◌++◌, drop}
use Rattle.std.proofs.Common.{arith, subst}
use Rattle.std.proofs.Math.Option.{Option, none, some}
use Rattle.lists.specs.Tests.{pick, maybe, same}
use Rattle.spec.specs.declared.Refusal.{Refusal}
use Rattle.spec.specs.Records.{standard_map}
use Rattle.spec.specs.Maps.{contents}
use Rattle.spec.specs.Steps.{State, Step, refused, fresh, refusal, access_answer, granted, answer, next, final, history}
use Rattle.serial.specs.Theorem.{theorem}
use Rattle.script.specs.declared.Line.{Line}
use Rattle.script.specs.declared.Line.TheVariants.{Begin, Read, Scan, Put, Remove, Lock, Validate, Install, Abort, Merge, MergeOldest}
use Rattle.script.specs.Grammar.{meaning, step_of}
use Rattle.script.specs.Parsing.{filled}
use Rattle.answers.specs.Output.{end_line, guarded_answer, malformed_line}
use Rattle.console.specs.Program.{places, answer_line, written_from, starts_guarded, output}
use Rattle.console.specs.TranscriptLaws.{one_history}
use Rattle.console.specs.SerialOutput.{lines_from, lines_of, opening, Answers, not_granted, begun, value, records, written, removed, locked, number, installed, aborted, count, oldest_count, Transcript, end_line_lem, answer_line_lem, SerialOutput}

-- ---- what the model answers is an answer to the step

granted_answers : (σ : State) (l : Line) → Answers l (granted σ (step_of places l))
unfolding granted access_answer
granted_answers σ (Begin w) = begun w
granted_answers σ (Read w k) = value w k _ _
granted_answers σ (Scan w lo hi) = records w lo hi _
granted_answers σ (Put w k v o) = written w k v o
granted_answers σ (Remove w k) = removed w k
granted_answers σ (Lock w) = locked w
granted_answers σ (Validate w) = number w _
granted_answers σ (Install w) = installed w
granted_answers σ (Abort w) = aborted w
granted_answers σ (Merge a) = count a _
granted_answers σ MergeOldest = oldest_count _

answers : (σ : State) (l : Line) → Answers l (answer σ (step_of places l))
unfolding answer
answers σ l = go (refusal σ (step_of places l))
  where
    go : (o : Option Refusal) → Answers l (maybe o (granted σ (step_of places l)) refused)
    go none = granted_answers σ l
    go (some r) = not_granted l r

-- ---- the lines of the output, from any state

abbrev pub steps_in : List Line → List Step
steps_in [] = []
steps_in (l ∷ ls) = step_of places l ∷ steps_in ls

abbrev pub Transcribes : State → List Line → List ℕ → Type 0
Transcribes σ ls text = Transcript ls text (history σ (steps_in ls)) (contents (final σ (steps_in ls)).map)

transcribes_none : (σ : State) (ls : List Line) → some [] ≡ some ls → Transcribes σ ls (end_line (contents σ.map))
unfolding history final
transcribes_none σ [] e = end_line_lem (contents σ.map)
transcribes_none σ (l ∷ ls) e = let z : ◌≡◌ {A = ℕ} 0 1 = cc in absurd (omega arith)

transcribes_line : (σ : State) (l : Line) (ls ms : List Line) (text : List ℕ) → some (l ∷ ls) ≡ some ms → Transcribes (next σ (step_of places l)) ls text
    → Transcribes σ ms (answer_line l (answer σ (step_of places l)) ++ text)
unfolding history final
transcribes_line σ l ls ms text e t =
    subst (λ (xs : List Line). Transcribes σ xs (answer_line l (answer σ (step_of places l)) ++ text)) (let q : l ∷ ls ≡ ms = cc in q)
    (answer_line_lem l (answer σ (step_of places l)) (answers σ l) t)

no_lines : {A : Type 0} (ls : List Line) → none ≡ some ls → A
no_lines ls e = let z : ◌≡◌ {A = ℕ} 0 1 = cc in absurd (omega arith)

pub transcribes : (σ : State) (line bs : List ℕ) (ls : List Line) → lines_from line bs ≡ some ls → Transcribes σ ls (written_from σ line bs)
unfolding lines_from written_from
transcribes σ line [] ls e = go (filled line) e
  where
    go : (b : Bool) → pick b none (some []) ≡ some ls → Transcribes σ ls (pick b malformed_line (end_line (contents σ.map)))
    go true q = no_lines ls q
    go false q = transcribes_none σ ls q
transcribes σ line (b ∷ bs) ls e =
    go (same b 10) (meaning line) (lines_from [] bs) e (λ l ms q. transcribes (next σ (step_of places l)) [] bs ms q) (λ q. transcribes σ (line ++ (b ∷ [])) bs ls q)
  where
    go : (x : Bool) (o : Option Line) (p : Option (List Line))
        → pick x (maybe o none (λ (l : Line). maybe p none (λ (ms : List Line). some (l ∷ ms)))) (lines_from (line ++ (b ∷ [])) bs) ≡ some ls
        → ((l : Line) (ms : List Line) → p ≡ some ms → Transcribes (next σ (step_of places l)) ms (written_from (next σ (step_of places l)) [] bs))
        → (lines_from (line ++ (b ∷ [])) bs ≡ some ls → Transcribes σ ls (written_from σ (line ++ (b ∷ [])) bs))
        → Transcribes σ ls
        (pick x
        (maybe o malformed_line
        (λ (l : Line). answer_line l (answer σ (step_of places l)) ++ written_from (next σ (step_of places l)) [] bs))
        (written_from σ (line ++ (b ∷ [])) bs))
    go true none p q f g = no_lines ls q
    go true (some l) none q f g = no_lines ls q
    go true (some l) (some ms) q f g = transcribes_line σ l ms ls (written_from (next σ (step_of places l)) [] bs) q (f l ms refl)
    go false o p q f g = g q

pub written_serial : (g : Bool) (bs : List ℕ) (ls : List Line) → lines_from [] bs ≡ some ls → SerialOutput ls (written_from (fresh (standard_map g)) [] bs)
written_serial g bs ls e =
    let t : Transcribes (fresh (standard_map g)) ls (written_from (fresh (standard_map g)) [] bs) = transcribes (fresh (standard_map g)) [] bs ls e in
    record {
      events = history (fresh (standard_map g)) (steps_in ls);
      contents = contents (final (fresh (standard_map g)) (steps_in ls)).map;
      transcript = t;
      only = λ h rs q. one_history q t;
      serial = theorem g (steps_in ls);
    }

-- Demand 3 of the program's output: behind the answer to a first line G, it is that of a serial run.
pub output_serial : (input : List ℕ) (ls : List Line) → lines_of input ≡ some ls
    → (text : List ℕ) × (output input ≡ opening input ++ text) × SerialOutput ls text
unfolding output
output_serial input ls e = go (starts_guarded input) e
  where
    go : (g : Bool) → lines_from [] (pick g (drop 2 input) input) ≡ some ls
        → (text : List ℕ)
        × (pick g (guarded_answer ++ written_from (fresh (standard_map true)) [] (drop 2 input)) (written_from (fresh (standard_map false)) [] input) ≡ pick g guarded_answer [] ++ text)
        × SerialOutput ls text
    go true q = (written_from (fresh (standard_map true)) [] (drop 2 input), refl, written_serial true (drop 2 input) ls q)
    go false q = (written_from (fresh (standard_map false)) [] input, refl, written_serial false input ls q)
