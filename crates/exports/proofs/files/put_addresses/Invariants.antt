-- `files::put_addresses` meets its contract. The invariant: the addresses of the first i records are put.

use Rattle.spec.specs.Widths.{address_size}
use Rattle.spec.specs.Files.{address_bytes}
use Rattle.exports.specs.FilePuts.{Putting}
use Rattle.exports.proofs.files.put_addresses.Given as goal

abbrev pub invariant-loop-i : goal.invariant-loop-i
invariant-loop-i l = Putting address_bytes address_size l.exported l.initial.out l.at l.i l.out l.next
