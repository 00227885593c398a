-- `script::start` meets its contract: the first byte is the letter, T, G or another one, or the line is malformed.
use Rattle.script.specs.TokenLaws.{turn_byte, start_bad, start_oldest, start_guard, start_good}
use Rattle.std.proofs.Common.{arith, inl, inr, ⊎_elim}
use Rattle.script.proofs.start.Goals as goal
use Rattle.script.proofs.start.Goals.{in-84, in-71, in_default}

pub returns-in-32-clause-parses_part : goal.returns-in-32-clause-parses_part
returns-in-32-clause-parses_part c = rw c.malformed.ensures (turn_byte _ _ _ c.requires (start_bad _ (⊎_elim (λ e. inr e) (λ e. inl e) c.in-32.is)))

pub returns-clause-parses_part : goal.returns-clause-parses_part
returns-clause-parses_part c =
    elim c.match-s-i.branch [
      | in-84 w ↦ rw w.parser-is (turn_byte _ _ _ c.requires (start_oldest _ w.in-84.is))
      | in-71 w ↦ rw w.parser-is (turn_byte _ _ _ c.requires (start_guard _ w.in-71.is))
      | in_default w ↦ rw w.parser-is (turn_byte _ _ _ c.requires (start_good _ (grind arith) (grind arith) (grind arith) (grind arith)))
    ]
