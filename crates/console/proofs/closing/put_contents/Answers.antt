-- `closing::put_contents` meets its contract: a copy of the contents, an answer, the triples and a byte.
use native.Mathlib.Omega.{arith}
use Rattle.answers.specs.OutputLaws.{field_most}
use Rattle.console.specs.FinishLaws.{end_wrote}
use Rattle.console.proofs.closing.put_contents.Goals as goal

pub put_records-last-requires : goal.put_records-last-requires
put_records-last-requires c =
    let p = c.requires.slots_len_bound in
    let n = c.copy_contents-count.ensures.count_is in
    let w = c.put_answer-next.ensures in
    (omega (arith, p, n), omega (arith, p, n, w, field_most c.copy_contents-count.result (omega (arith, n, p))))

pub put_byte-requires : goal.put_byte-requires
put_byte-requires c =
    let p = c.requires.slots_len_bound in
    let n = c.copy_contents-count.ensures.count_is in
    let w = c.put_answer-next.ensures in
    omega (arith, p, n, w, c.put_records-last.ensures.most, field_most c.copy_contents-count.result (omega (arith, n, p)))

pub returns : goal.returns
returns c = end_wrote c.copy_contents-count.ensures c.put_answer-next.ensures c.put_records-last.ensures c.put_byte.ensures
