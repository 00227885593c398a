-- `edits::remove` meets its contract: it is `edit` with a deletion.
use Rattle.transactions.specs.CoreLaws.{ready_writable}
use Rattle.accesses.specs.Edits.{remove_refines}
use Rattle.accesses.proofs.edits.remove.Goals as goal

pub edit-requires : goal.edit-requires
edit-requires c = ready_writable c.requires

pub returns : goal.returns
returns c = remove_refines (c.edit.ensures _) c.requires
