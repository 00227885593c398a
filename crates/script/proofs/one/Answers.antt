-- `script::one` meets its contract: at each `return` the test and the letter say which line it is.
use Rattle.lists.specs.Tests.{same}
use Rattle.script.specs.Grammar.{seat_line}
use Rattle.script.specs.LetterLaws.{one_wide, merge_letter, seat_letter, seat_other}
use Rattle.std.proofs.Common.{arith}
use Rattle.script.proofs.one.Goals as goal

pub returns-in_default : goal.returns-in_default
returns-in_default c = one_wide _ _ (omega (arith, c.in_default.ensures))

pub returns-then-letter-eq77 : goal.returns-then-letter-eq77
returns-then-letter-eq77 c = rw c.in-Ok.ensures.1 (merge_letter _ _ c.if-letter-eq77.true c.in-Ok.ensures.0)

pub returns-in_default-try_from : goal.returns-in_default-try_from
returns-in_default-try_from c = one_wide _ _ (omega (arith, c.in_default-try_from.ensures))

pub returns-in-66 : goal.returns-in-66
unfolding seat_line same
returns-in-66 c = rw c.in-Ok-try_from.ensures.1 (seat_letter _ _ (omega arith) 66 c.in-66.is c.in-Ok-try_from.ensures.0)

pub returns-in-76 : goal.returns-in-76
unfolding seat_line same
returns-in-76 c = rw c.in-Ok-try_from.ensures.1 (seat_letter _ _ (omega arith) 76 c.in-76.is c.in-Ok-try_from.ensures.0)

pub returns-in-86 : goal.returns-in-86
unfolding seat_line same
returns-in-86 c = rw c.in-Ok-try_from.ensures.1 (seat_letter _ _ (omega arith) 86 c.in-86.is c.in-Ok-try_from.ensures.0)

pub returns-in-73 : goal.returns-in-73
unfolding seat_line same
returns-in-73 c = rw c.in-Ok-try_from.ensures.1 (seat_letter _ _ (omega arith) 73 c.in-73.is c.in-Ok-try_from.ensures.0)

pub returns-in-65 : goal.returns-in-65
unfolding seat_line same
returns-in-65 c = rw c.in-Ok-try_from.ensures.1 (seat_letter _ _ (omega arith) 65 c.in-65.is c.in-Ok-try_from.ensures.0)

pub returns-in_default-letter : goal.returns-in_default-letter
returns-in_default-letter c = seat_other _ _ (omega arith) (omega arith) (omega arith) (omega arith) (omega arith) (omega arith) c.in-Ok-try_from.ensures.0
