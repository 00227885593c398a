-- `script::digits` meets its contract. The invariant: the bytes passed are digits, and take the number begun to what it is now.
use Rattle.script.specs.Tokens.{Spells}
use Rattle.script.proofs.digits.Given as goal

abbrev pub invariant-loop-i : goal.invariant-loop-i
invariant-loop-i l = Spells l.s l.from l.fn.digit l.fn.value l.i l.digit l.value
