-- `View::next_record` meets its contract. The invariant: no record stands between the start and here.
use Prim.Native.Nat.{◌-◌}
use Rattle.spec.specs.Widths.{addresses}
use Rattle.queries.specs.NextViews.{Passed}
use Rattle.queries.proofs.View.next_record.Given as goal

abbrev pub invariant-loop-address : goal.invariant-loop-address
invariant-loop-address l = Passed l.self.rows.now l.self.records l.self.slots.now l.from l.at

abbrev pub decreases-loop-address : goal.decreases-loop-address
decreases-loop-address l = addresses - l.at
