-- `decodes::decode_put` meets its contract: at each return the test says what the code means.
use Rattle.codes.specs.CodeLaws.{put_wide, put_meant}
use Rattle.codes.proofs.decodes.decode_put.Goals as goal

pub returns-then-k-ge-OWNERS : goal.returns-then-k-ge-OWNERS
returns-then-k-ge-OWNERS c = put_wide _ c.if-k-ge-OWNERS.true

pub returns : goal.returns
returns c = put_meant _ c.if-k-ge-OWNERS.false
