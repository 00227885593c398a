-- `answers::put_line` meets its contract: an answer and a byte.
use native.Mathlib.Omega.{arith}
use Rattle.lists.specs.TextLaws.{wrote_join}
use Rattle.answers.specs.OutputLaws.{field_most}
use Rattle.answers.proofs.put_line.Goals as goal

pub put_byte-requires : goal.put_byte-requires
put_byte-requires c = omega (arith, c.put_answer-next.ensures, field_most c.args.number c.ranges.number.fits)

pub returns : goal.returns
returns c = wrote_join c.put_answer-next.ensures c.put_byte.ensures
