-- `answers::put_triple` meets its contract: three fields; each leaves room for the next.
use native.Mathlib.Omega.{arith}
use Rattle.lists.specs.TextLaws.{wrote_join}
use Rattle.answers.specs.Output.{triple}
use Rattle.answers.specs.OutputLaws.{field_most}
use Rattle.answers.proofs.put_triple.Goals as goal

pub put_field-last-requires : goal.put_field-last-requires
put_field-last-requires c = omega (arith, c.put_field-next.ensures, field_most c.args.address c.ranges.address.fits)

pub put_field-requires : goal.put_field-requires
put_field-requires c = omega (arith, c.put_field-next.ensures, c.put_field-last.ensures, field_most c.args.address c.ranges.address.fits, field_most c.args.value c.ranges.value.fits)

pub returns : goal.returns
unfolding triple
returns c = wrote_join (wrote_join c.put_field-next.ensures c.put_field-last.ensures) c.put_field.ensures
