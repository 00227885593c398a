-- Document 01's full run, from the bytes of its input to those of its output; short inputs; and the line that is written for
-- each of the lines of `script`'s examples.
use Rattle.std.specs.Prelude.{◌≡◌, refl, [], map}
use Rattle.lists.specs.Tests.{same, less, at_most, within}
use Rattle.spec.specs.Computing.{model}
use Rattle.script.specs.Grammar.{first_word, more_words, is_digit, extend, number, numbers, no_number, seat_line, one_number, two_numbers, three_numbers, four_numbers, line_of, lettered, meaning}
use Rattle.script.specs.Examples.{bytes, Case, cases}
use Rattle.answers.specs.Output.{digits_within, decimal, field, triple, triples, answer_text, end_line}
use Rattle.console.specs.Program.{answer_line, written_from, starts_guarded, output}

pub record Answered : Type 0 where
  pub full_run_lem :
      output (bytes "B 0\nP 0 4096 32 0\nL 0\nV 0\nI 0\nB 1\nS 1 4000 5000\nL 1\nV 1\nM 4096\nB 1\nS 1 4000 5000\nL 1\nV 1\nI 1\n")
      ≡ bytes "B 0\nP 0\nL 0\nV 0 1\nI 0\nB 0\nS 0 0\nL 0\nV 14\nM 0 1\nB 0\nS 0 1 4096 32 0\nL 0\nV 0 2\nI 0\nE 1 4096 32 0\n"
  pub nothing : output [] ≡ bytes "E 0\n"
  -- a merge of the oldest has no number
  pub oldest : output (bytes "B 0\nP 0 9 1 0\nL 0\nV 0\nI 0\nT\nT\n") ≡ bytes "B 0\nP 0\nL 0\nV 0 1\nI 0\nT 0 1\nT 0 0\nE 1 9 1 0\n"
  -- request 106: a read, a scan and the end tell the owner; one of 65,536 is too wide
  pub owned :
      output (bytes "B 0\nP 0 4096 32 7\nL 0\nV 0\nI 0\nB 1\nR 1 4096\nR 1 4097\nM 0\nS 1 0 5000\n")
      ≡ bytes "B 0\nP 0\nL 0\nV 0 1\nI 0\nB 0\nR 0 32 7 1\nR 0 - 1\nM 0 1\nS 0 1 4096 32 7\nE 1 4096 32 7\n"
  pub owner_wide : output (bytes "B 0\nP 0 9 1 65536\n") ≡ bytes "B 0\n?\n"
  -- on a guarded map a put without a scan is not locked
  pub guarded :
      output (bytes "G\nB 0\nP 0 4096 32 0\nL 0\nS 0 0 4127\nL 0\nV 0\nI 0\n")
      ≡ bytes "G 0\nB 0\nP 0\nL 17\nS 0 1 4096 32 0\nL 0\nV 0 1\nI 0\nE 1 4096 32 0\n"
  pub guarded_alone : output (bytes "G\n") ≡ bytes "G 0\nE 0\n"
  -- G is the whole first line, or malformed
  pub guarded_late : output (bytes "B 0\nG\n") ≡ bytes "B 0\n?\n"
  pub guarded_twice : output (bytes "G\nG\n") ≡ bytes "G 0\n?\n"
  pub guarded_numbered : output (bytes "G 0\n") ≡ bytes "?\n"
  pub guarded_unended : output (bytes "G") ≡ bytes "?\n"
  -- after a malformed line nothing more is read
  pub malformed : output (bytes "B 0\nB\nB 1\n") ≡ bytes "B 0\n?\n"
  -- a line without its line feed takes no effect
  pub unended : output (bytes "B 0\nB 1") ≡ bytes "B 0\n?\n"
  pub lines : map (λ (c : Case). answer_line c.line c.answer) cases ≡ map (λ (c : Case). bytes c.writes) cases

pub answered : Answered
unfolding model same less at_most within first_word more_words is_digit extend number numbers no_number seat_line one_number two_numbers three_numbers four_numbers line_of lettered meaning digits_within decimal field triple triples answer_text answer_line end_line written_from starts_guarded output
answered =
    record {
      full_run_lem = refl;
      nothing = refl;
      oldest = refl;
      owned = refl;
      owner_wide = refl;
      guarded = refl;
      guarded_alone = refl;
      guarded_late = refl;
      guarded_twice = refl;
      guarded_numbered = refl;
      guarded_unended = refl;
      malformed = refl;
      unended = refl;
      lines = refl;
    }
