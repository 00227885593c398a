-- An option is nothing or something, and not both.
use Rattle.std.specs.Prelude.{ℕ, ◌≡◌, refl, ◌⊎◌}
use Rattle.std.proofs.Common.{arith, sym, ◌∙◌, inl, inr}
use Rattle.std.proofs.Math.Option.{Option, none, some}

pub options : {A : Type 0} (o : Option A) → (o ≡ none) ⊎ ((a : A) × (o ≡ some a))
options none = inl refl
options (some a) = inr (a, refl)

some_none : {A : Type 0} (a : A) → Path (Option A) (some a) none → ⊥
some_none a e = let z : ◌≡◌ {A = ℕ} 0 1 = cc in omega arith

-- the two values of an option cannot both be had
pub both_options {ℓ} : {A : Type 0} {B : Type ℓ} {o : Option A} {a : A} → o ≡ some a → o ≡ none → B
both_options {a = a} p q = absurd (some_none a (sym p ∙ q))

pub some_same : {A : Type 0} {a b : A} → Path (Option A) (some a) (some b) → a ≡ b
some_same e = cc
