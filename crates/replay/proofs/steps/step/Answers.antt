-- `steps::step` meets its contract: what its code means is done, or nothing.
use Rattle.codes.specs.CodeLaws.{meant_lends}
use Rattle.replay.proofs.steps.step.Goals as goal

pub perform_first-reply-requires-clause-lends : goal.perform_first-reply-requires-clause-lends
perform_first-reply-requires-clause-lends c = meant_lends _ _ c.decode.ensures c.in-Some.is
