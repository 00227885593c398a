-- Comparisons of two numbers as Bools that stay shut, so that goals stay short.
-- A closed comparison still computes where `same`, `less` and `at_most` are unfolded.
use Rattle.std.specs.Prelude.{ℕ, Bool, true, false, leb, ltb, eqb}
use Rattle.std.proofs.Math.Option.{Option, none, some}

abbrev pub pick {ℓ} : {A : Type ℓ} → Bool → A → A → A
pick true a b = a
pick false a b = b

abbrev pub both : Bool → Bool → Bool
both true b = b
both false b = false

abbrev pub either : Bool → Bool → Bool
either true b = true
either false b = b

-- by cases on an option
abbrev pub maybe {ℓ} : {A : Type 0} {B : Type ℓ} → Option A → B → (A → B) → B
maybe none b f = b
maybe (some a) b f = f a

abbrev pub present : {A : Type 0} → Option A → Bool
present none = false
present (some a) = true

-- m ≡ n
unfoldable pub same : ℕ → ℕ → Bool
same m n = eqb m n

-- m < n
unfoldable pub less : ℕ → ℕ → Bool
less m n = ltb m n

-- m ≤ n
unfoldable pub at_most : ℕ → ℕ → Bool
at_most m n = leb m n

-- lo ≤ k ≤ hi
unfoldable pub within : ℕ → ℕ → ℕ → Bool
within lo hi k = both (at_most lo k) (at_most k hi)
