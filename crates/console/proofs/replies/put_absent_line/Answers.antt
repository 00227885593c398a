-- `replies::put_absent_line` meets its contract: an answer, the mark of absence, a field and a byte.
use native.Mathlib.Omega.{arith}
use Rattle.lists.specs.TextLaws.{wrote_join}
use Rattle.answers.specs.OutputLaws.{field_most}
use Rattle.console.proofs.replies.put_absent_line.Goals as goal

pub put_absent-count-requires : goal.put_absent-count-requires
put_absent-count-requires c = omega (arith, c.put_answer-next.ensures, field_most 0 (omega arith))

pub put_field-last-requires : goal.put_field-last-requires
put_field-last-requires c = omega (arith, c.requires, c.put_answer-next.ensures, c.put_absent-count.ensures, field_most 0 (omega arith))

pub put_byte-requires : goal.put_byte-requires
put_byte-requires c = omega (
  arith,
  c.requires,
  c.put_answer-next.ensures,
  c.put_absent-count.ensures,
  c.put_field-last.ensures,
  field_most 0 (omega arith),
  field_most c.args.examined c.ranges.examined.fits,
)

pub returns : goal.returns
returns c = wrote_join
    (wrote_join
    (wrote_join c.put_answer-next.ensures c.put_absent-count.ensures)
    c.put_field-last.ensures)
    c.put_byte.ensures
