-- `words::put_rows` meets its contract. The invariant: the first i records are written.
use Rattle.buffers.specs.Buffers.{buffers}
use Rattle.codes.specs.WordLaws.{Putting}
use Rattle.codes.proofs.words.put_rows.Given as goal

abbrev pub invariant-loop-i : goal.invariant-loop-i
invariant-loop-i l = Putting (buffers l.addresses l.values l.owners) l.initial.out l.at l.out l.next l.i
