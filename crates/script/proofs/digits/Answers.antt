use Rattle.script.specs.TokenLaws.{spells_none, spells_digit}
use Rattle.script.proofs.digits.Goals as goal

pub loop-i-init : goal.loop-i-init
loop-i-init c = spells_none _ _ _ _

pub loop-i-preserved : goal.loop-i-preserved
loop-i-preserved c = rw c.in-Some.ensures.1 (spells_digit c.loop-i.invariant c.loop-i-test.true c.in-Some.ensures.0)
