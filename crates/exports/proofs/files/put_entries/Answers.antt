use Rattle.std.proofs.Common.{arith}
use Rattle.exports.specs.FilePuts.{entries_each, putting_none, putting_on, wrote_as}
use Rattle.exports.proofs.files.put_entries.Goals as goal

pub loop-i-init : goal.loop-i-init
loop-i-init c = putting_none entries_each _ _ _ (omega (arith, c.requires.n_in_bounds))

pub loop-i-preserved : goal.loop-i-preserved
loop-i-preserved c = putting_on entries_each _ c.loop-i.invariant c.get-r.ensures (wrote_as c.entry_of.ensures c.put-next.ensures)
