-- `indexlet::find` meets its contract: by what the filter tells, or by a search.
use native.Mathlib.Omega.{arith}
use Rattle.indexlet.specs.FilterLaws.{bucket_inside}
use Rattle.indexlet.specs.EnterLaws.{at_finds, none_finds, sought_finds, filter_miss, tried}
use Rattle.indexlet.proofs.find.Goals as goal

pub cell-w-requires : goal.cell-w-requires
cell-w-requires c = bucket_inside _ _ c.bucket-b.ensures

pub returns-then-w-lt256 : goal.returns-then-w-lt256
returns-then-w-lt256 c = none_finds (filter_miss c.args.t.now c.args.a _ _ c.requires c.bucket-b.ensures c.cell-w.ensures c.if-w-lt256.true) (omega arith)

pub returns-then-holds_key : goal.returns-then-holds_key
returns-then-holds_key c = at_finds c.requires (omega arith) (tried c.args.t.now c.args.a _ _ _ (omega arith) c.get-s.ensures c.holds_key.ensures c.if-holds_key.true)

pub returns : goal.returns
returns c = sought_finds c.requires c.seek-f.ensures
