-- `replies::put_value_line` meets its contract: an answer, three fields and a byte.
use native.Mathlib.Omega.{arith}
use Rattle.lists.specs.TextLaws.{wrote_join}
use Rattle.answers.specs.OutputLaws.{field_most}
use Rattle.console.proofs.replies.put_value_line.Goals as goal

pub put_field-then-requires : goal.put_field-then-requires
put_field-then-requires c = omega (arith, c.put_answer-next.ensures, field_most 0 (omega arith))

pub put_field-count-requires : goal.put_field-count-requires
put_field-count-requires c = omega (arith, c.requires, c.put_answer-next.ensures, c.put_field-then.ensures, field_most 0 (omega arith), field_most c.args.v c.ranges.v.fits)

pub put_field-last-requires : goal.put_field-last-requires
put_field-last-requires c = omega (
  arith,
  c.requires,
  c.put_answer-next.ensures,
  c.put_field-then.ensures,
  c.put_field-count.ensures,
  field_most 0 (omega arith),
  field_most c.args.v c.ranges.v.fits,
  field_most c.args.owner (omega (arith, c.ranges.owner.fits)),
)

pub put_byte-requires : goal.put_byte-requires
put_byte-requires c = omega (
  arith,
  c.requires,
  c.put_answer-next.ensures,
  c.put_field-then.ensures,
  c.put_field-count.ensures,
  c.put_field-last.ensures,
  field_most 0 (omega arith),
  field_most c.args.v c.ranges.v.fits,
  field_most c.args.owner (omega (arith, c.ranges.owner.fits)),
  field_most c.args.examined c.ranges.examined.fits,
)

pub returns : goal.returns
returns c = wrote_join
    (wrote_join
    (wrote_join
    (wrote_join c.put_answer-next.ensures c.put_field-then.ensures)
    c.put_field-count.ensures)
    c.put_field-last.ensures)
    c.put_byte.ensures
