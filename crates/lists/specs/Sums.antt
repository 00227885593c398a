-- Sums over a list, of numbers made of the place and the element: what a store changes, and what a sum says of its terms.
use Prim.Native.Nat.{ℕ, zero, suc, ◌+◌, ◌<◌, ◌≤◌, suc-le-suc}
use Rattle.std.proofs.Common.{not-suc-le-zero, le_of_suc-le-suc, ap}
use native.Mathlib.Omega.{arith}
use Rattle.std.specs.Prelude.{◌≡◌, get_or, set}
use Rattle.std.proofs.Math.Path.{refl}
use Rattle.std.proofs.Math.Logic.{⊎_elim}
use mathlib.Core.List.{List, [], ◌∷◌}
use Rattle.std.proofs.Math.ListN.{length}
use Rattle.lists.specs.Tests.{less}
use Rattle.lists.specs.TestLaws.{cases, less_true, less_false}

module _ {A : Type 0} where
  -- the sum of f i x over the elements x, each at its place i
  unfoldable pub total : (ℕ → A → ℕ) → List A → ℕ
  total f [] = 0
  total f (x ∷ xs) = f 0 x + total (λ (i : ℕ). f (suc i)) xs

  -- a store changes the sum by its own two terms
  pub total_set : (f : ℕ → A → ℕ) (xs : List A) (i : ℕ) (y d : A) → i < length xs
      → total f (set xs i y) + f i (get_or xs i d) ≡ total f xs + f i y
  unfolding total
  total_set f [] i y d h = absurd (not-suc-le-zero h)
  total_set f (x ∷ xs) zero y d h = omega arith
  total_set f (x ∷ xs) (suc i) y d h =
      let e : total (λ (n : ℕ). f (suc n)) (set xs i y) + f (suc i) (get_or xs i d) ≡ total (λ (n : ℕ). f (suc n)) xs + f (suc i) y
      = total_set (λ (n : ℕ). f (suc n)) xs i y d (le_of_suc-le-suc h) in
      omega arith

  -- a term is at most the sum
  pub total_at : (f : ℕ → A → ℕ) (xs : List A) (i : ℕ) (d : A) → i < length xs → f i (get_or xs i d) ≤ total f xs
  unfolding total
  total_at f [] i d h = absurd (not-suc-le-zero h)
  total_at f (x ∷ xs) zero d h = omega arith
  total_at f (x ∷ xs) (suc i) d h =
      let e : f (suc i) (get_or xs i d) ≤ total (λ (n : ℕ). f (suc n)) xs
      = total_at (λ (n : ℕ). f (suc n)) xs i d (le_of_suc-le-suc h) in
      omega arith

  -- so are two terms together
  pub total_two : (f : ℕ → A → ℕ) (xs : List A) (i j : ℕ) (d : A) → i < length xs → j < length xs → (i ≡ j → ⊥)
      → f i (get_or xs i d) + f j (get_or xs j d) ≤ total f xs
  unfolding total
  total_two f [] i j d h g ne = absurd (not-suc-le-zero h)
  total_two f (x ∷ xs) zero zero d h g ne = absurd (ne refl)
  total_two f (x ∷ xs) zero (suc j) d h g ne =
      let e : f (suc j) (get_or xs j d) ≤ total (λ (n : ℕ). f (suc n)) xs
      = total_at (λ (n : ℕ). f (suc n)) xs j d (le_of_suc-le-suc g) in
      omega arith
  total_two f (x ∷ xs) (suc i) zero d h g ne =
      let e : f (suc i) (get_or xs i d) ≤ total (λ (n : ℕ). f (suc n)) xs
      = total_at (λ (n : ℕ). f (suc n)) xs i d (le_of_suc-le-suc h) in
      omega arith
  total_two f (x ∷ xs) (suc i) (suc j) d h g ne =
      let e : f (suc i) (get_or xs i d) + f (suc j) (get_or xs j d) ≤ total (λ (n : ℕ). f (suc n)) xs
      = total_two (λ (n : ℕ). f (suc n)) xs i j d (le_of_suc-le-suc h) (le_of_suc-le-suc g) (λ q. ne (ap suc q)) in
      omega arith

  -- a sum that is not 0 has a term that is not 0
  pub total_some : (f : ℕ → A → ℕ) (xs : List A) (d : A) → 1 ≤ total f xs
      → (i : ℕ) × (i < length xs) × (1 ≤ f i (get_or xs i d))
  unfolding total
  total_some f [] d h = absurd (not-suc-le-zero h)
  total_some f (x ∷ xs) d h =
      ⊎_elim
      (λ e. (0, omega arith, less_true 0 (f 0 x) e))
      (λ e. let z : f 0 x ≤ 0 = less_false 0 (f 0 x) e in
      let r = total_some (λ (n : ℕ). f (suc n)) xs d (omega arith) in
      (suc r.0, suc-le-suc r.1, r.2))
      (cases (less 0 (f 0 x)))

  -- a sum of less than one for each element has a term that is 0
  pub total_short : (f : ℕ → A → ℕ) (xs : List A) (d : A) → total f xs < length xs
      → (i : ℕ) × (i < length xs) × (f i (get_or xs i d) ≡ 0)
  unfolding total
  total_short f [] d h = absurd (not-suc-le-zero h)
  total_short f (x ∷ xs) d h =
      ⊎_elim
      (λ e. let p : 0 < f 0 x = less_true 0 (f 0 x) e in
      let r = total_short (λ (n : ℕ). f (suc n)) xs d (omega arith) in
      (suc r.0, suc-le-suc r.1, r.2))
      (λ e. (0, omega arith, let z : f 0 x ≤ 0 = less_false 0 (f 0 x) e in omega arith))
      (cases (less 0 (f 0 x)))

  pub total_none : (f : ℕ → A → ℕ) (xs : List A) (d : A) → ((i : ℕ) → i < length xs → f i (get_or xs i d) ≡ 0) → total f xs ≡ 0
  unfolding total
  total_none f [] d h = refl
  total_none f (x ∷ xs) d h =
      let a : f 0 x ≡ 0 = h 0 (omega arith) in
      let b : total (λ (n : ℕ). f (suc n)) xs ≡ 0 = total_none (λ (n : ℕ). f (suc n)) xs d (λ i q. h (suc i) (suc-le-suc q)) in
      omega arith

  -- lists whose terms are the same have the same sum
  total_same : (f g : ℕ → A → ℕ) (xs ys : List A) (d : A) → length ys ≡ length xs
      → ((j : ℕ) → j < length xs → f j (get_or ys j d) ≡ g j (get_or xs j d)) → total f ys ≡ total g xs
  unfolding total
  total_same f g [] [] d l h = refl
  total_same f g [] (y ∷ ys) d l h = absurd (omega arith)
  total_same f g (x ∷ xs) [] d l h = absurd (omega arith)
  total_same f g (x ∷ xs) (y ∷ ys) d l h =
      let a : f 0 y ≡ g 0 x = h 0 (omega arith) in
      let b : total (λ (n : ℕ). f (suc n)) ys ≡ total (λ (n : ℕ). g (suc n)) xs
      = total_same (λ (n : ℕ). f (suc n)) (λ (n : ℕ). g (suc n)) xs ys d (omega arith) (λ j q. h (suc j) (suc-le-suc q)) in
      omega arith

  -- lists whose terms differ at one place have sums that differ by that place's terms
  pub total_change : (f : ℕ → A → ℕ) (xs ys : List A) (i : ℕ) (d : A) → length ys ≡ length xs → i < length xs
      → ((j : ℕ) → j < length xs → (j ≡ i → ⊥) → f j (get_or ys j d) ≡ f j (get_or xs j d))
      → total f ys + f i (get_or xs i d) ≡ total f xs + f i (get_or ys i d)
  unfolding total
  total_change f [] ys i d l h o = absurd (not-suc-le-zero h)
  total_change f (x ∷ xs) [] i d l h o = absurd (omega arith)
  total_change f (x ∷ xs) (y ∷ ys) zero d l h o =
      let b : total (λ (n : ℕ). f (suc n)) ys ≡ total (λ (n : ℕ). f (suc n)) xs
      = total_same (λ (n : ℕ). f (suc n)) (λ (n : ℕ). f (suc n)) xs ys d (omega arith) (λ j q. o (suc j) (suc-le-suc q) (λ z. omega arith)) in
      omega arith
  total_change f (x ∷ xs) (y ∷ ys) (suc i) d l h o =
      let a : f 0 y ≡ f 0 x = o 0 (omega arith) (λ z. omega arith) in
      let b : total (λ (n : ℕ). f (suc n)) ys + f (suc i) (get_or xs i d) ≡ total (λ (n : ℕ). f (suc n)) xs + f (suc i) (get_or ys i d)
      = total_change (λ (n : ℕ). f (suc n)) xs ys i d (omega arith) (le_of_suc-le-suc h) (λ j q n. o (suc j) (suc-le-suc q) (λ z. n (omega arith))) in
      omega arith

  -- sums of one list whose terms differ at one place differ by that place's terms
  pub total_except : (f g : ℕ → A → ℕ) (xs : List A) (i : ℕ) (d : A) → i < length xs
      → ((j : ℕ) → j < length xs → (j ≡ i → ⊥) → g j (get_or xs j d) ≡ f j (get_or xs j d))
      → total g xs + f i (get_or xs i d) ≡ total f xs + g i (get_or xs i d)
  unfolding total
  total_except f g [] i d h o = absurd (not-suc-le-zero h)
  total_except f g (x ∷ xs) zero d h o =
      let b : total (λ (n : ℕ). g (suc n)) xs ≡ total (λ (n : ℕ). f (suc n)) xs
      = total_same (λ (n : ℕ). g (suc n)) (λ (n : ℕ). f (suc n)) xs xs d refl (λ j q. o (suc j) (suc-le-suc q) (λ z. omega arith)) in
      omega arith
  total_except f g (x ∷ xs) (suc i) d h o =
      let a : g 0 x ≡ f 0 x = o 0 (omega arith) (λ z. omega arith) in
      let b : total (λ (n : ℕ). g (suc n)) xs + f (suc i) (get_or xs i d) ≡ total (λ (n : ℕ). f (suc n)) xs + g (suc i) (get_or xs i d)
      = total_except (λ (n : ℕ). f (suc n)) (λ (n : ℕ). g (suc n)) xs i d (le_of_suc-le-suc h) (λ j q n. o (suc j) (suc-le-suc q) (λ z. n (omega arith))) in
      omega arith

  -- a sum of terms that are at most 1 is at most the length
  pub total_most : (f : ℕ → A → ℕ) (xs : List A) → ((i : ℕ) (x : A) → f i x ≤ 1) → total f xs ≤ length xs
  unfolding total
  total_most f [] h = omega arith
  total_most f (x ∷ xs) h =
      let a : f 0 x ≤ 1 = h 0 x in
      let b : total (λ (n : ℕ). f (suc n)) xs ≤ length xs = total_most (λ (n : ℕ). f (suc n)) xs (λ i y. h (suc i) y) in
      omega arith
