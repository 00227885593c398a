-- `replies::put_listed_line` meets its contract: an answer, a field, the triples and a byte.
use native.Mathlib.Omega.{arith}
use Rattle.lists.specs.TextLaws.{wrote_join}
use Rattle.answers.specs.OutputLaws.{field_most}
use Rattle.console.specs.Replies.{triples_most}
use Rattle.console.proofs.replies.put_listed_line.Goals as goal

pub put_field-first-requires : goal.put_field-first-requires
put_field-first-requires c = omega (arith, c.put_answer-next.ensures, field_most 0 (omega arith))

pub put_triples-last-requires-clause-n_in_bounds_2 : goal.put_triples-last-requires-clause-n_in_bounds_2
put_triples-last-requires-clause-n_in_bounds_2 c = omega (arith, c.requires.n_in_bounds_2, c.put_answer-next.ensures, c.put_field-first.ensures, field_most 0 (omega arith), field_most c.args.n c.ranges.n.fits)

pub put_byte-requires : goal.put_byte-requires
put_byte-requires c = omega (
  arith,
  c.requires.n_in_bounds_2,
  c.put_answer-next.ensures,
  c.put_field-first.ensures,
  c.put_triples-last.ensures,
  field_most 0 (omega arith),
  field_most c.args.n c.ranges.n.fits,
  triples_most c.args.n c.args.addresses.now c.args.values.now c.args.owners.now (λ i. omega (arith, c.shared_slice_known-1.given i)) (λ i. omega (arith, c.shared_slice_known-2-1.given i)) (λ i. omega (arith, c.shared_slice_known-3-1.given i)),
)

pub returns : goal.returns
returns c = wrote_join
    (wrote_join
    (wrote_join c.put_answer-next.ensures c.put_field-first.ensures)
    c.put_triples-last.ensures)
    c.put_byte.ensures
