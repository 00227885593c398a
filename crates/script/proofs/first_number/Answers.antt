-- `script::first_number` meets its contract: the run of digits, and then what the byte after it says.
use Rattle.script.specs.Parsing.{none_before, one_before, in_number}
use Rattle.script.specs.TokenLaws.{field_ended, field_spaced, field_fed, field_refused}
use Rattle.std.proofs.Common.{refl, inl, inr, arith}
use Rattle.script.proofs.first_number.Goals as goal
use Rattle.script.proofs.first_number.Goals.{in_default-via-in-32+else-run, in_default-via-in-10+else-run-2, in_default-via-in_default-1}

pub returns-then-next-s-clause-parses_part : goal.returns-then-next-s-clause-parses_part
unfolding in_number
returns-then-next-s-clause-parses_part c = (field_ended _ (none_before) c.digits-run.ensures)

pub returns-in-32-clause-parses_part : goal.returns-in-32-clause-parses_part
unfolding in_number
returns-in-32-clause-parses_part c =
    (field_spaced _ (none_before) (one_before _) c.digits-run.ensures c.if-next-s.false c.if-run.true c.in-32.is refl)

pub returns-in-10-clause-parses_part : goal.returns-in-10-clause-parses_part
returns-in-10-clause-parses_part c =
    (field_fed _ (none_before) _ c.digits-run.ensures c.if-next-s.false c.if-run-2.true c.in-10.is c.one.ensures)

pub returns-in_default-clause-parses_part : goal.returns-in_default-clause-parses_part
returns-in_default-clause-parses_part c =
    rw c.malformed.ensures
    (field_refused _ (none_before) c.digits-run.ensures c.if-next-s.false
    (elim c.in_default.branch [
      | in_default-via-in-32+else-run w ↦ inr w.if-run.false
      | in_default-via-in-10+else-run-2 w ↦ inr w.if-run-2.false
      | in_default-via-in_default-1 w ↦ inl (omega arith, omega arith)
    ]))
