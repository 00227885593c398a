-- `decodes::decode_access` meets its contract: at each return the tests say what the code means.
use mathlib.Core.Path.{◌∙◌}
use Rattle.lists.specs.Tests.{same}
use Rattle.codes.specs.CodeLaws.{access_wide, access_kind, access_other}
use Rattle.std.proofs.Common.{arith}
use Rattle.codes.proofs.decodes.decode_access.Goals as goal

pub returns-then-k-ge-ADDRESSES : goal.returns-then-k-ge-ADDRESSES
returns-then-k-ge-ADDRESSES c = access_wide _ _ c.if-k-ge-ADDRESSES.true

pub returns-in-1 : goal.returns-in-1
unfolding same
returns-in-1 c = access_kind _ _ 1 c.in-1.is c.if-k-ge-ADDRESSES.false

pub returns-in-2 : goal.returns-in-2
unfolding same
returns-in-2 c = c.decode_scan.ensures ∙ access_kind _ _ 2 c.in-2.is c.if-k-ge-ADDRESSES.false

pub returns-in-3 : goal.returns-in-3
unfolding same
returns-in-3 c = c.decode_put.ensures ∙ access_kind _ _ 3 c.in-3.is c.if-k-ge-ADDRESSES.false

pub returns-in-4 : goal.returns-in-4
unfolding same
returns-in-4 c = access_kind _ _ 4 c.in-4.is c.if-k-ge-ADDRESSES.false

pub returns-in_default : goal.returns-in_default
returns-in_default c = access_other _ _ (omega arith) (omega arith) (omega arith) (omega arith) c.if-k-ge-ADDRESSES.false
