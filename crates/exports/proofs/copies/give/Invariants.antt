-- `copies::give` meets its contract. The invariant: the first i records are written.
use Rattle.buffers.specs.Buffers.{buffers}
use Rattle.exports.specs.CopyLaws.{Gives}
use Rattle.exports.proofs.copies.give.Given as goal

abbrev pub invariant-loop-i : goal.invariant-loop-i
invariant-loop-i l = Gives l.exported l.from l.i (buffers l.initial.addresses l.initial.values l.initial.owners) (buffers l.addresses l.values l.owners)
