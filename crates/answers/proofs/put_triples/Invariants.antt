-- `answers::put_triples` meets its contract. The invariant: the first i triples are written.
use Rattle.answers.specs.OutputLaws.{Listing}
use Rattle.answers.proofs.put_triples.Given as goal

abbrev pub invariant-loop-i : goal.invariant-loop-i
invariant-loop-i l = Listing l.addresses l.values l.owners l.initial.out l.at l.out l.next l.i
