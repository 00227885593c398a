-- `script::last_number` meets its contract: the run of digits, and then what the byte after it says.
use Rattle.script.specs.Parsing.{three_before, in_number}
use Rattle.script.specs.TokenLaws.{field_ended, field_fed, field_turn, last_bad}
use Rattle.std.proofs.Common.{arith}
use Rattle.script.proofs.last_number.Goals as goal
use Rattle.script.proofs.last_number.Goals.{in_default-via-in-10+else-run, in_default-via-in_default-1}

pub returns-then-next-s-clause-parses_part : goal.returns-then-next-s-clause-parses_part
unfolding in_number
returns-then-next-s-clause-parses_part c = (field_ended _ (three_before _ _ _) c.digits-run.ensures)

pub returns-in-10-clause-parses_part : goal.returns-in-10-clause-parses_part
returns-in-10-clause-parses_part c =
    (field_fed _ (three_before _ _ _) _ c.digits-run.ensures c.if-next-s.false c.if-run.true c.in-10.is c.four.ensures)

pub returns-in_default-clause-parses_part : goal.returns-in_default-clause-parses_part
returns-in_default-clause-parses_part c =
    rw c.malformed.ensures
    (field_turn _ _ _ _ c.digits-run.ensures c.if-next-s.false
    (last_bad _ _ _ _ _ _ _ (λ q. elim c.in_default.branch [ in_default-via-in-10+else-run w ↦ w.if-run.false | in_default-via-in_default-1 w ↦ absurd (omega arith) ])
    (c.digits-run.ensures.stops c.if-next-s.false)))
