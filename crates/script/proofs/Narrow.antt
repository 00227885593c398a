-- A number that a narrower type does not take.
use Rattle.std.proofs.Common.{◌≡◌, ℕ, ◌<◌, ◌≤◌, arith}
use Rattle.std.specs.Prelude.{Result, Ok, Err}
use Rattle.std.specs.Result.{OkIff}

pub too_wide : {E : Type 0} {e : E} (r : Result ℕ E) (a m : ℕ) → OkIff r (a < m) a → r ≡ Err e → m ≤ a
too_wide (Ok x) a m h e = cc
too_wide (Err x) a m h e = omega (arith, h)
