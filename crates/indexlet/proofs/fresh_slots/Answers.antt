use Rattle.indexlet.specs.EnterLaws.{fresh_words}
use Rattle.indexlet.proofs.fresh_slots.Goals as goal

pub returns : goal.returns
returns c = fresh_words
