-- `validates::take_number` meets its contract: by whether a commit number is left.
use Rattle.commits.specs.Validates.{number_spent, number_taken}
use Rattle.std.proofs.Common.{true, false}
use Rattle.commits.proofs.validates.take_number.Goals as goal

pub returns-then-c-ge-LAST_NUMBER : goal.returns-then-c-ge-LAST_NUMBER
returns-then-c-ge-LAST_NUMBER c = number_spent _ _ _ c.if-c-ge-LAST_NUMBER.true

pub returns : goal.returns
returns c = number_taken _ _ _ _ _ _ c.if-c-ge-LAST_NUMBER.false c.take_number-taken.ensures
    c.check-checked.ensures c.put_worker.ensures
