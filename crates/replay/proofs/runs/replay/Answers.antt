-- `runs::replay` meets its contract: the fresh start tells what the map is made with.
use Rattle.replay.specs.LoopLaws.{fresh_as, replays_as}
use Rattle.replay.proofs.runs.replay.Goals as goal

pub take_all-requires : goal.take_all-requires
take_all-requires c = fresh_as c.fresh_state-start.ensures

pub returns : goal.returns
returns c = replays_as c.fresh_state-start.ensures c.take_all.ensures
