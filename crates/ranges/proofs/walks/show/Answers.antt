-- `walks::show` meets its contract.
use Rattle.ranges.specs.ShowLaws.{show_there, show_none}
use Rattle.ranges.proofs.walks.show.Goals as goal

pub returns-in_default : goal.returns-in_default
returns-in_default c = show_none _ _ c.in_default.is

pub returns : goal.returns
returns c = show_there _ _ _ (c.requires.addresses c.in-Some.is) (c.requires.values c.in-Some.is) (c.requires.owners c.in-Some.is) c.in-Some.is
