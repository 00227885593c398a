use Rattle.queries.specs.NextLaws.{walked_end}
use Rattle.queries.proofs.View.slot_from.Goals as goal

pub returns : goal.returns
returns c = walked_end _ _ _ _ c.args.self.slots_held c.loop-next-test.false c.loop-next.invariant
