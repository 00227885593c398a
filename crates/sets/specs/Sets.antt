-- What read sets, leaf sets and write sets share: rows of words for one worker, and such rows for all workers.
use Rattle.std.specs.Prelude.{ℕ, ◌<◌, ◌≡◌, List, [], length, get_or}
use Rattle.lists.specs.Tabulation.{tab}
use Rattle.spec.specs.Widths.{addresses}

-- word k of a row is an address
abbrev pub AddressAt : ℕ → List ℕ → Type 0
AddressAt k r = get_or r k 0 < addresses

-- n lists that are all P: the rows of a set, or the sets of the workers
pub record Each {A : Type 0} (P : List A → Type 0) (n : ℕ) (xs : List (List A)) : Type 0 where
  pub size : length xs ≡ n
  pub at : (i : ℕ) → i < n → P (get_or xs i [])

-- the first n rows, each as f reads it
unfoldable pub first_rows : {A : Type 0} → (List ℕ → A) → List (List ℕ) → ℕ → List A
first_rows f rs n = tab (λ (i : ℕ). f (get_or rs i [])) n
