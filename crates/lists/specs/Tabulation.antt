-- The list of the first values of a function.
use Rattle.std.specs.Prelude.{ℕ, zero, suc, List, [], ◌∷◌}

module _ {A : Type 0} where
  -- n values of f, from that of i on
  unfoldable pub tab_from : (ℕ → A) → ℕ → ℕ → List A
  tab_from f i zero = []
  tab_from f i (suc n) = f i ∷ tab_from f (suc i) n

  -- the first n values
  unfoldable pub tab : (ℕ → A) → ℕ → List A
  tab f n = tab_from f 0 n
