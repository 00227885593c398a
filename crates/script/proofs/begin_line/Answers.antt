-- `script::begin_line` meets its contract: it passes a letter of a line of numbers and the space after it, or nothing.
use Rattle.script.specs.Tokens.{goes_none}
use Rattle.script.specs.TokenLaws.{letter_begins}
use Rattle.std.proofs.Common.{arith, sym, ◌∙◌}
use Rattle.script.proofs.begin_line.Goals as goal

pub returns-then-s-i-eq-SPACE : goal.returns-then-s-i-eq-SPACE
returns-then-s-i-eq-SPACE c = letter_begins (sym c.if-at_line_start.true ∙ c.at_line_start.ensures.value) (omega arith) c.if-s-i-gt-SPACE.true c.if-s-i-eq-SPACE.true

pub returns-else-at_line_start : goal.returns-else-at_line_start
returns-else-at_line_start c = goes_none _ _ _
