use Rattle.map.specs.Views.{lent}
use Rattle.transactions.specs.StartLaws.{fresh_start}
use Rattle.transactions.proofs.starts.fresh_state.Goals as goal

pub returns : goal.returns
returns c =
    let m = c.fresh_map-sizes in
    fresh_start (lent m.new.rows m.new.leaves m.new.slots) m.result _ m.ensures
