-- `saved::store` meets its contract: what it puts is read as the globals.
use Rattle.sections.specs.SavedLaws.{globals_put}
use Rattle.sections.proofs.saved.store.Goals as goal

pub returns : goal.returns
returns c = globals_put _
