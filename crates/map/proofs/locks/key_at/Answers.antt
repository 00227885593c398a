-- `map::locks::key_at` meets its contract.
use mathlib.Core.Path.{ap}
use Rattle.lists.specs.Rows.{Row}
use Rattle.spec.specs.Records.{Write}
use Rattle.map.specs.WriteWalks.{given}
use Rattle.map.proofs.locks.key_at.Goals as goal

pub returns : goal.returns
returns c = ap (λ (r : Row Write). r.key)
    (given c.write_at.ensures c.requires.i_lt_n)
