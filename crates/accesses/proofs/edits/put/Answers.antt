-- `edits::put` meets its contract: it is `edit` with a put.
use Rattle.transactions.specs.CoreLaws.{ready_writable}
use Rattle.accesses.specs.Edits.{put_refines}
use Rattle.accesses.proofs.edits.put.Goals as goal

pub edit-requires : goal.edit-requires
edit-requires c = ready_writable c.requires

pub returns : goal.returns
returns c = put_refines _ _ c.ranges.owner.fits (c.edit.ensures _) c.requires
