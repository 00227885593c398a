-- What the end of an output says: in a guarded map its last line tells sections that do not overlap, and a malformed line costs
-- no guarantee for the lines before it.
use Rattle.std.specs.Prelude.{ℕ, ◌≡◌, true, List, ◌++◌}
use Rattle.std.proofs.Math.Option.{some}
use Rattle.lists.specs.Rows.{Row}
use Rattle.spec.specs.Records.{Record}
use Rattle.spec.specs.Guards.{NoOverlap}
use Rattle.script.specs.declared.Line.{Line}
use Rattle.answers.specs.Output.{end_line, malformed_line}
use Rattle.console.specs.Program.{starts_guarded, output}
use Rattle.console.specs.SerialOutput.{lines_of, opening, SerialOutput}

-- The output ends with the line of some sections. Whatever sections are read off its end (it tells address, length and owner, and
-- no commit number), they fit, and no two of them overlap.
pub record EndsApart (written : List ℕ) : Type 0 where
  pub before : List ℕ
  pub sections : List (Row Record)
  pub last_line : written ≡ before ++ end_line sections
  pub apart : (other : List ℕ) (rs : List (Row Record)) → written ≡ other ++ end_line rs → NoOverlap rs

-- An input with a malformed line, or a last line without its line feed: its output is that of the lines before, which is serial,
-- with `?` in place of the line of the end.
pub record SerialUntilMalformed (input : List ℕ) : Type 0 where
  -- the lines before the malformed one, and what follows
  pub whole : List ℕ
  pub rest : List ℕ
  pub cut : input ≡ whole ++ rest
  pub lines : List Line
  pub well_formed : lines_of whole ≡ some lines
  -- the answers to these lines, and the contents after them
  pub text : List ℕ
  pub contents : List (Row Record)
  pub alone : output whole ≡ opening input ++ (text ++ end_line contents)
  pub stopped : output input ≡ opening input ++ (text ++ malformed_line)
  -- what is promised of an input without a malformed line holds of these lines
  pub serial : SerialOutput lines (text ++ end_line contents)
  pub apart : starts_guarded input ≡ true → EndsApart (output whole)
