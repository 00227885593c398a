-- `answers::put_granted_line` meets its contract: an answer, a field and a byte.
use native.Mathlib.Omega.{arith}
use Rattle.lists.specs.TextLaws.{wrote_join}
use Rattle.answers.specs.OutputLaws.{field_most}
use Rattle.answers.proofs.put_granted_line.Goals as goal

pub put_field-last-requires : goal.put_field-last-requires
put_field-last-requires c = omega (arith, c.put_answer-next.ensures, field_most 0 (omega arith))

pub put_byte-requires : goal.put_byte-requires
put_byte-requires c = omega (arith, c.put_answer-next.ensures, c.put_field-last.ensures, field_most 0 (omega arith), field_most c.args.n c.ranges.n.fits)

pub returns : goal.returns
returns c = wrote_join (wrote_join c.put_answer-next.ensures c.put_field-last.ensures) c.put_byte.ensures
