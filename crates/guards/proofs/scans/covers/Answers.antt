-- `scans::covers` meets its contract: the length is known, so the sum does not wrap.
use native.Mathlib.Omega.{arith}
use Rattle.guards.specs.LengthLaws.{fit_sized}
use Rattle.guards.specs.ScanLaws.{covers_late, covers_from}
use Rattle.std.proofs.Common.{rules}
use Rattle.guards.proofs.scans.covers.Goals as goal

pub overflow_add-result : goal.overflow_add-result
overflow_add-result c =
    let z = fit_sized _ _ c.requires in
    search (rules, z.most)

pub overflow_sub-result : goal.overflow_sub-result
overflow_sub-result c = omega (arith, (fit_sized _ _ c.requires).least)

pub returns-then-s-lowest_reaching : goal.returns-then-s-lowest_reaching
returns-then-s-lowest_reaching c = covers_from _ _ _ (omega (arith, c.lowest_reaching.ensures))

pub returns-else-s-lowest_reaching : goal.returns-else-s-lowest_reaching
returns-else-s-lowest_reaching c = covers_late _ _ _ _ c.lowest_reaching.ensures c.if-s-lowest_reaching.false
