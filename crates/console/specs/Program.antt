-- Document 01, "The script program": what the program writes, as a function of the bytes that it reads.
-- A line feed ends a line. Each line is a step, and its answer is written. At the first malformed line, or a last line
-- without its line feed, `?` is written and nothing more; else, at the end of the input, the present records. Request 102: a
-- first line G asks for a guarded map.
use Rattle.std.specs.Prelude.{ℕ, ◌+◌, ◌*◌, Bool, true, false, List, [], ◌∷◌, ◌++◌, drop}
use Rattle.lists.specs.Tests.{pick, both, maybe, same}
use Rattle.spec.specs.Records.{standard_map}
use Rattle.spec.specs.Maps.{contents}
use Rattle.spec.specs.Steps.{State, Answer, fresh, answer, next}
use Rattle.script.specs.declared.Line.{Line}
use Rattle.script.specs.Grammar.{meaning, letter_of, step_of}
use Rattle.script.specs.Parsing.{filled}
use Rattle.answers.specs.Output.{answer_text, end_line, guarded_answer, malformed_line}

-- the places of a scan's three buffers
abbrev pub places : ℕ
places = 64

-- the line written for a step: the letter of its line, and the answer
unfoldable pub answer_line : Line → Answer → List ℕ
answer_line l a = letter_of l ∷ answer_text a ++ (10 ∷ [])

-- The bytes written from a state on, when the bytes `line` of the current line are read, and the input's other bytes are
-- still to come.
unfoldable pub written_from : State → List ℕ → List ℕ → List ℕ
written_from σ line [] = pick (filled line) malformed_line (end_line (contents σ.map))
written_from σ line (b ∷ bs) =
    pick (same b 10)
    (maybe (meaning line) malformed_line
    (λ (l : Line). answer_line l (answer σ (step_of places l)) ++ written_from (next σ (step_of places l)) [] bs))
    (written_from σ (line ++ (b ∷ [])) bs)

-- the first line is G
unfoldable pub starts_guarded : List ℕ → Bool
starts_guarded [] = false
starts_guarded (b ∷ []) = false
starts_guarded (b ∷ c ∷ bs) = both (same b 71) (same c 10)

-- What the program writes for an input. A first line G is answered, and the lines behind it are run on a guarded map; any
-- other G is a malformed line.
unfoldable pub output : List ℕ → List ℕ
output input =
    pick (starts_guarded input)
    (guarded_answer ++ written_from (fresh (standard_map true)) [] (drop 2 input))
    (written_from (fresh (standard_map false)) [] input)

-- the longest line: a letter, two numbers, a scan's triples and a line feed
abbrev pub longest_line : ℕ
longest_line = 44 + 63 * places
