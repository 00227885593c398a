-- Document 01's full run as text: each line read, what it says, and the line written for its answer, which crate `console`
-- compares. The steps and answers are those of the model's run, which is proved in `spec`. Then lines that are malformed, each
-- for one cause.
use Rattle.std.specs.Prelude.{ℕ, ◌≡◌, refl, true, false, List, [], ◌∷◌, ◌++◌, map}
use Prim.Native.Char.{code}
use Prim.Native.String.{String}
use Prim.Native.String as text
use Rattle.std.proofs.Math.Option.{none, some}
use Rattle.lists.specs.Tests.{same, less, at_most, within}
use Rattle.lists.specs.Rows.{row}
use Rattle.spec.specs.Records.{Payload}
use Rattle.spec.specs.Steps.{Answer, refused, done, found, listed, numbered, counted, Event}
use Rattle.spec.specs.Events.{value, event}
use Rattle.spec.specs.Runs.{full_run, oldest_merged}
use Rattle.spec.specs.declared.Refusal.TheVariants.{NoWorker, Phantom}
use Rattle.script.specs.declared.Line.{Line}
use Rattle.script.specs.declared.Line.TheVariants.{Begin, Read, Scan, Put, Remove, Lock, Validate, Install, Abort, Merge, MergeOldest}
use Rattle.script.specs.Grammar.{first_word, more_words, is_digit, extend, number, numbers, no_number, seat_line, one_number, two_numbers, three_numbers, four_numbers, line_of, lettered, meaning, step_of, guard_line, is_guard}

-- the bytes of a text; every character here is one byte
abbrev pub bytes : String → List ℕ
bytes text.[] = []
bytes (text.◌∷◌ c s) = code c ∷ bytes s

-- a line read, what it says, the answer, and the line written
pub record Case : Type 0 where
  pub reads : String
  pub line : Line
  pub answer : Answer
  pub writes : String

abbrev case : String → Line → Answer → String → Case
case r l a w = record { reads = r; line = l; answer = a; writes = w }

-- document 01's run
abbrev pub run : List Case
run =
    case "B 0" (Begin 0) done "B 0\n"
    ∷ case "P 0 4096 32 0" (Put 0 4096 32 0) done "P 0\n"
    ∷ case "L 0" (Lock 0) done "L 0\n"
    ∷ case "V 0" (Validate 0) (numbered 1) "V 0 1\n"
    ∷ case "I 0" (Install 0) done "I 0\n"
    ∷ case "B 1" (Begin 1) done "B 0\n"
    ∷ case "S 1 4000 5000" (Scan 1 4000 5000) (listed []) "S 0 0\n"
    ∷ case "L 1" (Lock 1) done "L 0\n"
    ∷ case "V 1" (Validate 1) (refused Phantom) "V 14\n"
    ∷ case "M 4096" (Merge 4096) (counted 1) "M 0 1\n"
    ∷ case "B 1" (Begin 1) done "B 0\n"
    ∷ case "S 1 4000 5000" (Scan 1 4000 5000) (listed (row 4096 (value 32) ∷ [])) "S 0 1 4096 32 0\n"
    ∷ case "L 1" (Lock 1) done "L 0\n"
    ∷ case "V 1" (Validate 1) (numbered 2) "V 0 2\n"
    ∷ case "I 1" (Install 1) done "I 0\n"
    ∷ []

-- request 101's line: a merge of the leaf that has waited longest, and one with nothing waiting
abbrev pub oldest : List Case
oldest = case "T" MergeOldest (counted 2) "T 0 2\n" ∷ case "T" MergeOldest (counted 0) "T 0 0\n" ∷ []

-- more lines: the other letters, leading zeros, the widest numbers, and a read's two answers, with the slots examined
abbrev pub more : List Case
more =
    case "R 0007 0" (Read 7 0) (found (some (value 18446744073709551615)) 1) "R 0 18446744073709551615 0 1\n"
    ∷ case "R 1 4294967295" (Read 1 4294967295) (found none 256) "R 0 - 256\n"
    ∷ case "D 8 10" (Remove 8 10) (refused NoWorker) "D 1\n"
    ∷ case "A 3" (Abort 3) done "A 0\n"
    ∷ case "P 4294967295 1 18446744073709551615 65535" (Put 4294967295 1 18446744073709551615 65535) done "P 0\n"
    ∷ []

-- a payload with an owner
abbrev owned : ℕ → ℕ → Payload
owned v o = record { value = v; owner = o }

-- request 106's lines: a put's owner, and the owner in a read's answer and in a scan's
abbrev pub owners : List Case
owners =
    case "P 0 4096 32 7" (Put 0 4096 32 7) done "P 0\n"
    ∷ case "R 0 4096" (Read 0 4096) (found (some (owned 32 7)) 1) "R 0 32 7 1\n"
    ∷ case "S 0 4000 5000" (Scan 0 4000 5000) (listed (row 4096 (owned 32 7) ∷ [])) "S 0 1 4096 32 7\n"
    ∷ case "S 0 0 9" (Scan 0 0 9) (listed (row 3 (owned 30 65535) ∷ row 5 (owned 50 0) ∷ [])) "S 0 2 3 30 65535 5 50 0\n"
    ∷ []

abbrev pub cases : List Case
cases = run ++ oldest ++ more ++ owners

-- malformed lines
abbrev pub malformed : List String
malformed =
    ""
    ∷ "B"
    ∷ "B "
    ∷ " B 0"
    ∷ "B  0"
    ∷ "B 0 "
    ∷ "B 0\r"
    ∷ "B\t0"
    ∷ "B +0"
    ∷ "B -0"
    ∷ "b 0"
    ∷ "E 0"
    ∷ "BB 0"
    ∷ "B0"
    ∷ "B x"
    ∷ "R 0"
    ∷ "R 0 0 0"
    ∷ "G "
    ∷ "G 0"
    ∷ "GG"
    ∷ "g"
    ∷ "T "
    ∷ "T 0"
    ∷ "TT"
    ∷ "t"
    ∷ "P 0 0 0"
    ∷ "P 0 0 0 "
    ∷ "P 0 0 0 0 0"
    ∷ "S 0 0 0 0"
    ∷ "B 4294967296"
    ∷ "R 0 4294967296"
    ∷ "S 0 0 4294967296"
    ∷ "P 4294967296 0 0 0"
    ∷ "P 0 4294967296 0 0"
    ∷ "P 0 0 18446744073709551616 0"
    ∷ "P 0 0 0 65536"
    ∷ "P 0 0 0 18446744073709551616"
    ∷ []

-- the step that the line asks for, with its answer
abbrev event_of : Case → Event
event_of c = event (step_of 64 c.line) c.answer

pub record Understood : Type 0 where
  -- the run is the model's
  pub model : map event_of run ≡ full_run
  pub oldest_step : map event_of oldest ≡ oldest_merged 2 ++ oldest_merged 0
  pub said : map (λ (c : Case). meaning (bytes c.reads)) cases ≡ map (λ (c : Case). some c.line) cases
  pub wrong : map (λ (s : String). meaning (bytes s)) malformed ≡ map (λ (s : String). none) malformed
  -- request 102's line, which is no step, and no malformed line is it
  pub guard : guard_line ≡ bytes "G"
  pub guard_no_step : meaning guard_line ≡ none
  pub guard_is : is_guard guard_line ≡ true
  pub not_guard : map (λ (s : String). is_guard (bytes s)) malformed ≡ map (λ (s : String). false) malformed

pub understood : Understood
unfolding same less at_most within first_word more_words is_digit extend number numbers no_number seat_line one_number two_numbers three_numbers four_numbers line_of lettered meaning is_guard
understood =
    record {
      model = refl;
      oldest_step = refl;
      said = refl;
      wrong = refl;
      guard = refl;
      guard_no_step = refl;
      guard_is = refl;
      not_guard = refl;
    }
