-- Parts of a list: a walk over places, one after the other, and the first rows of a set.
use Prim.Native.Nat.{ℕ, zero, suc, ◌+◌, ◌-◌, ◌<◌, ◌≤◌, zero-le, suc-le-suc}
use Rattle.std.proofs.Common.{not-suc-le-zero, sym, ◌∙◌, length-take-le, get_or-take, ext_get_or}
use native.Mathlib.Omega.{arith}
use Rattle.std.specs.Prelude.{◌≡◌, length, take, get_or}
use Rattle.std.proofs.Math.Path.{refl, ap}
use mathlib.Core.List.{List, [], ◌∷◌, ◌++◌, append_assoc}
use Rattle.sets.specs.Sets.{first_rows}
use Rattle.sets.specs.SetLaws.{length_rows, row_at}
use Rattle.queries.specs.QueryViews.{walk}

module _ {A : Type 0} where
  -- ---- walks from place i up to, not including, place n

  first : (f : ℕ → A) (i n : ℕ) → walk f i (suc n) ≡ f i ∷ walk f (suc i) n
  unfolding walk
  first f i n = refl

  pub walk_on : (f : ℕ → A) (i n : ℕ) → i < n → walk f i (n - i) ≡ f i ∷ walk f (i + 1) (n - (i + 1))
  walk_on f i n h =
      ap (walk f i) (let e : n - i ≡ suc (n - (i + 1)) = omega arith in e)
      ∙ first f i (n - (i + 1))
      ∙ ap (λ (k : ℕ). f i ∷ walk f k (n - (i + 1))) (let e : suc i ≡ i + 1 = omega arith in e)

  pub walk_past : (f : ℕ → A) (i n : ℕ) → n ≤ i → walk f i (n - i) ≡ []
  unfolding walk
  walk_past f i n h = ap (walk f i) (let e : n - i ≡ 0 = omega arith in e)

  pub length_walk : (f : ℕ → A) (i n : ℕ) → length (walk f i n) ≡ n
  unfolding walk
  length_walk f i zero = refl
  length_walk f i (suc n) = ap suc (length_walk f (suc i) n)

  pub get_or_walk : (f : ℕ → A) (i n k : ℕ) (d : A) → k < n → get_or (walk f i n) k d ≡ f (i + k)
  unfolding walk
  get_or_walk f i zero k d h = absurd (not-suc-le-zero h)
  get_or_walk f i (suc n) zero d h = ap f (let e : i ≡ i + 0 = omega arith in e)
  get_or_walk f i (suc n) (suc k) d h = get_or_walk f (suc i) n k d (omega arith) ∙ ap f (let e : suc i + k ≡ i + suc k = omega arith in e)

  pub walk_same : (f g : ℕ → A) (i j n : ℕ) → ((k : ℕ) → k < n → f (i + k) ≡ g (j + k)) → walk f i n ≡ walk g j n
  unfolding walk
  walk_same f g i j zero h = refl
  walk_same f g i j (suc n) h =
      ap (λ (x : A). x ∷ walk f (suc i) n)
      (ap f (let e : i ≡ i + 0 = omega arith in e) ∙ h 0 (suc-le-suc zero-le) ∙ ap g (let e : j + 0 ≡ j = omega arith in e))
      ∙ ap (λ (xs : List A). g j ∷ xs)
      (walk_same f g (suc i) (suc j) n
      (λ k l. ap f (let e : suc i + k ≡ i + suc k = omega arith in e) ∙ h (suc k) (suc-le-suc l) ∙ ap g (let e : j + suc k ≡ suc j + k = omega arith in e)))

  -- one more element, from what is left to what is done
  pub done_one : (xs ys zs us : List A) (x : A) → us ≡ xs ++ (x ∷ []) → ys ≡ x ∷ zs → us ++ zs ≡ xs ++ ys
  done_one xs ys zs us x e q =
      ap (λ (l : List A). l ++ zs) e ∙ append_assoc xs (x ∷ []) zs ∙ ap (λ (l : List A). xs ++ l) (sym q)

-- the first of the first rows of a set
pub take_rows : {A : Type 0} (f : List ℕ → A) (rs : List (List ℕ)) (q n : ℕ) → q ≤ n → take q (first_rows f rs n) ≡ first_rows f rs q
take_rows f rs q n h =
    let l : length (first_rows f rs n) ≡ n = length_rows f rs n in
    ext_get_or (f []) (take q (first_rows f rs n)) (first_rows f rs q) (length-take-le q (first_rows f rs n) (omega arith) ∙ sym (length_rows f rs q))
    (λ i k.
    let s : length (take q (first_rows f rs n)) ≡ q = length-take-le q (first_rows f rs n) (omega arith) in
    let j : i < q = omega arith in
    get_or-take q (first_rows f rs n) i (f []) j ∙ row_at f rs n i (f []) (omega arith) ∙ sym (row_at f rs q i (f []) j))
