-- `indexlet::passed` meets its contract: it computes the gap.
use mathlib.Core.Path.{refl}
use Rattle.laws.specs.Probes.{gap}
use Rattle.indexlet.proofs.passed.Goals as goal

pub returns : goal.returns
unfolding gap
returns c = refl
