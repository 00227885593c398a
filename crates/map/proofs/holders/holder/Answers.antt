-- `map::holders::holder` meets its contract.
use Rattle.map.specs.LockLaws.{holder_back}
use Rattle.map.proofs.holders.holder.Goals as goal

pub returns : goal.returns
returns c = holder_back c.args.c _ c.checked_sub.ensures
