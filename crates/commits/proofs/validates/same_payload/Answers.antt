-- `validates::same_payload` meets its contract: by value, then owner.
use Rattle.std.proofs.Common.{refl}
use Rattle.commits.specs.Validates.{payloads_same, payloads_differ}
use Rattle.commits.proofs.validates.same_payload.Goals as goal

pub returns-then-p-q : goal.returns-then-p-q
returns-then-p-q c = payloads_same _ _ c.if-p-q.true refl

pub returns-else-p-q : goal.returns-else-p-q
returns-else-p-q c = payloads_differ _ _ c.if-p-q.false
