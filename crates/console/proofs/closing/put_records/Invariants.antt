-- `closing::put_records` meets its contract. The invariant: the triples of the first rows are written.
use Rattle.console.specs.Closings.{TriplesPut}
use Rattle.console.proofs.closing.put_records.Given as goal

abbrev pub invariant-loop-i : goal.invariant-loop-i
invariant-loop-i l = TriplesPut l.copied l.i l.initial.out l.at l.out l.place
