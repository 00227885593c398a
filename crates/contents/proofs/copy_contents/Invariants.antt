-- `contents::copy_contents` meets its contract. The invariant: the records below an address are copied.
use Prim.Native.Nat.{◌-◌}
use Rattle.spec.specs.Widths.{addresses}
use Rattle.queries.specs.Contents.{all_records}
use Rattle.contents.specs.CopyLaws.{Copying}
use Rattle.contents.proofs.copy_contents.Given as goal

abbrev pub invariant-loop-next : goal.invariant-loop-next
invariant-loop-next l = Copying (all_records l.rows l.n l.slots) l.copied l.count l.from

abbrev pub decreases-loop-next : goal.decreases-loop-next
decreases-loop-next l = addresses - l.from
