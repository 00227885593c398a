-- `files::put_entries` meets its contract. The invariant: the entries of the first i records are put.

use Rattle.spec.specs.Files.{entry_size, entry_bytes}
use Rattle.exports.specs.FilePuts.{Putting}
use Rattle.exports.proofs.files.put_entries.Given as goal

abbrev pub invariant-loop-i : goal.invariant-loop-i
invariant-loop-i l = Putting entry_bytes entry_size l.exported l.initial.out l.at l.i l.out l.next
