-- `decodes::decode` meets its contract: a fold of the oldest, or a step with numbers.
use Rattle.codes.specs.CodeLaws.{code_oldest, code_numbered}
use Rattle.codes.proofs.decodes.decode.Goals as goal

pub returns-then-k-eq10 : goal.returns-then-k-eq10
returns-then-k-eq10 c = code_oldest _ _ c.if-k-eq10.true

pub returns : goal.returns
returns c = code_numbered _ _ c.if-k-eq10.false c.decode_numbered.ensures
