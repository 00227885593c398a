-- `decodes::decode_numbered` meets its contract: a fold, or a step with a seat.
use Rattle.codes.specs.CodeLaws.{code_merge, code_seat}
use Rattle.codes.proofs.decodes.decode_numbered.Goals as goal

pub returns-then-k-eq9 : goal.returns-then-k-eq9
returns-then-k-eq9 c = code_merge _ _ c.if-k-eq9.true c.decode_merge.ensures

pub returns : goal.returns
returns c = code_seat _ _ c.if-k-eq9.false c.decode_seat.ensures
