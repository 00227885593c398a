use Rattle.script.specs.Tokens.{after_fresh}
use Rattle.script.proofs.fresh_parser.Goals as goal

pub returns : goal.returns
returns c = after_fresh
