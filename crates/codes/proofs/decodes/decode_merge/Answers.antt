-- `decodes::decode_merge` meets its contract: by the test of its address.
use Rattle.codes.specs.CodeLaws.{merge_wide, merge_meant}
use Rattle.codes.proofs.decodes.decode_merge.Goals as goal

pub returns-then-k-ge-ADDRESSES : goal.returns-then-k-ge-ADDRESSES
returns-then-k-ge-ADDRESSES c = merge_wide _ c.if-k-ge-ADDRESSES.true

pub returns : goal.returns
returns c = merge_meant _ c.if-k-ge-ADDRESSES.false
