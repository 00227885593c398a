-- `View::see` meets its contract: by what the indexlet says of the address.
use Rattle.queries.specs.CurrentLaws.{examined_is}
use Rattle.queries.proofs.View.see.Goals as goal

pub returns : goal.returns
returns c = record { sees = c.under-current.ensures.sees _ c.look_up-looked.ensures.content; examined = examined_is c.look_up-looked.ensures }
