-- A digit as std's test has it, and a number with one more digit.
use Rattle.std.proofs.Common.{◌≡◌, ℕ, ◌+◌, ◌*◌, ◌-◌, ◌<◌, ◌^◌, true, refl, arith, inr}
use Rattle.std.specs.Prelude.{Option, Some, None, MatchOption}
use Rattle.std.specs.Option.{SomeIff}
use Rattle.std.specs.Char.{is_ascii_digit}
use Rattle.lists.specs.Tests.{within, at_most}
use Rattle.script.specs.Grammar.{is_digit}
use Rattle.script.specs.Tokens.{Stops}

pub digit_told : (b : ℕ) → is_digit b ≡ is_ascii_digit b
unfolding is_digit within at_most
digit_told b = refl

pub with_room : (r : Option ℕ) (n b t : ℕ) → t ≡ n * 10 → is_digit b ≡ true → SomeIff r (t + (b - 48) < 2 ^ 64) (t + (b - 48))
    → MatchOption r (Stops n b) (λ m. (is_digit b ≡ true) × (m ≡ n * 10 + (b - 48)))
with_room None n b t e d h = inr (omega (arith, h))
with_room (Some m) n b t e d h = (d, omega arith)
