-- `decodes::decode_seat` meets its contract: at each return the tests say what the code means.
use mathlib.Core.Path.{◌∙◌}
use Rattle.lists.specs.Tests.{same}
use Rattle.codes.specs.CodeLaws.{seat_wide, seat_kind, seat_other}
use Rattle.std.proofs.Common.{arith}
use Rattle.codes.proofs.decodes.decode_seat.Goals as goal

pub returns-then-k-ge-WORKER_NAMES : goal.returns-then-k-ge-WORKER_NAMES
returns-then-k-ge-WORKER_NAMES c = seat_wide _ _ c.if-k-ge-WORKER_NAMES.true

pub returns-in-0 : goal.returns-in-0
unfolding same
returns-in-0 c = seat_kind _ _ 0 c.in-0.is c.if-k-ge-WORKER_NAMES.false

pub returns-in-5 : goal.returns-in-5
unfolding same
returns-in-5 c = seat_kind _ _ 5 c.in-5.is c.if-k-ge-WORKER_NAMES.false

pub returns-in-6 : goal.returns-in-6
unfolding same
returns-in-6 c = seat_kind _ _ 6 c.in-6.is c.if-k-ge-WORKER_NAMES.false

pub returns-in-7 : goal.returns-in-7
unfolding same
returns-in-7 c = seat_kind _ _ 7 c.in-7.is c.if-k-ge-WORKER_NAMES.false

pub returns-in-8 : goal.returns-in-8
unfolding same
returns-in-8 c = seat_kind _ _ 8 c.in-8.is c.if-k-ge-WORKER_NAMES.false

pub returns-in_default : goal.returns-in_default
returns-in_default c = c.decode_access.ensures ∙ seat_other _ _ (omega arith) (omega arith) (omega arith) (omega arith) (omega arith) c.if-k-ge-WORKER_NAMES.false
