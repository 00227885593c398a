-- `reads::read_current` meets its contract: the log is full, or it has the current record.
use Rattle.transactions.specs.ViewLaws.{core_put}
use Rattle.accesses.specs.ReadSteps.{read_full, read_logged}
use Rattle.std.proofs.Common.{true, false}
use Rattle.accesses.proofs.reads.read_current.Goals as goal

pub returns-then-n-ge-READ_LIMIT : goal.returns-then-n-ge-READ_LIMIT
returns-then-n-ge-READ_LIMIT c = read_full c.requires.entered c.if-n-ge-READ_LIMIT.true

pub returns : goal.returns
returns c = read_logged c.requires.entered c.if-n-ge-READ_LIMIT.false c.take-taken.ensures (core_put _ _ c.put_worker.ensures) c.shown.ensures
