-- `lengths::unfit` meets its contract.
use Rattle.std.proofs.Common.{rules, ⊎_elim}
use Rattle.guards.specs.LengthLaws.{unfit_empty, unfit_long, unfit_end}
use Rattle.guards.proofs.lengths.unfit.Goals as goal

pub returns-then-len-eq0 : goal.returns-then-len-eq0
returns-then-len-eq0 c = ⊎_elim (λ e. unfit_empty _ _ e) (λ p. unfit_long _ _ p.1) c.then-len-eq0.either

pub returns : goal.returns
returns c = unfit_end _ _ c.if-len-eq0.false c.if-len-gt-LONGEST.false (search rules)
