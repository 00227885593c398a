-- `script::after_letter` meets its contract: the byte after the letter is a space, or the line is malformed.
use Rattle.script.specs.TokenLaws.{turn_byte, letter_good, letter_bad}
use Rattle.script.proofs.after_letter.Goals as goal

pub returns-then-s-i-eq-SPACE-clause-parses_part : goal.returns-then-s-i-eq-SPACE-clause-parses_part
returns-then-s-i-eq-SPACE-clause-parses_part c = (turn_byte _ _ _ c.requires (letter_good _ _ c.if-s-i-eq-SPACE.true))

pub returns-else-s-i-eq-SPACE-clause-parses_part : goal.returns-else-s-i-eq-SPACE-clause-parses_part
returns-else-s-i-eq-SPACE-clause-parses_part c = rw c.malformed.ensures (turn_byte _ _ _ c.requires (letter_bad _ _ c.if-s-i-eq-SPACE.false))
