-- A loop that looks for the first element that passes a test: what is left to test ≡ the whole.
use Rattle.std.specs.Prelude.{ℕ, suc, ◌+◌, ◌<◌, ◌≤◌, ◌≡◌, refl, Bool, true, false, List, [], ◌∷◌, length, drop, get_or}
use Rattle.std.proofs.Common.{zero-le, add-one, arith, sym, ap, ◌∙◌, drop_of_length-le, drop-cons}
use Rattle.lists.specs.Tests.{pick}
use Rattle.lists.specs.Rows.{Row, any, keys}

-- the first i elements were tested, and none passed
pub record Searching {A : Type 0} (p : A → Bool) (xs : List A) (i : ℕ) : Type 0 where
  pub within : i ≤ length xs
  pub rest : any p (drop i xs) ≡ any p xs

pub search_start : {A : Type 0} (p : A → Bool) (xs : List A) → Searching p xs 0
search_start p xs = record { within = zero-le; rest = refl }

any_step : {A : Type 0} (p : A → Bool) (xs : List A) (i : ℕ) (d : A) → i < length xs
    → any p (drop i xs) ≡ pick (p (get_or xs i d)) true (any p (drop (suc i) xs))
unfolding any
any_step p xs i d h = ap (any p) (drop-cons xs i d h)

pub search_on : {A : Type 0} {p : A → Bool} {xs : List A} {i : ℕ} (d : A) → i < length xs → p (get_or xs i d) ≡ false → Searching p xs i → Searching p xs (i + 1)
search_on {p = p} {xs = xs} {i = i} d h e s =
    record {
      within = omega arith;
      rest =
          ap (λ (j : ℕ). any p (drop j xs)) (add-one i)
          ∙ sym (any_step p xs i d h ∙ ap (λ (b : Bool). pick b true (any p (drop (suc i) xs))) e)
          ∙ s.rest;
    }

pub search_hit : {A : Type 0} {p : A → Bool} {xs : List A} {i : ℕ} (d : A) → i < length xs → p (get_or xs i d) ≡ true → Searching p xs i → true ≡ any p xs
search_hit {p = p} {xs = xs} {i = i} d h e s =
    sym (any_step p xs i d h ∙ ap (λ (b : Bool). pick b true (any p (drop (suc i) xs))) e) ∙ s.rest

pub search_end : {A : Type 0} {p : A → Bool} {xs : List A} {i : ℕ} → length xs ≤ i → Searching p xs i → false ≡ any p xs
unfolding any
search_end {p = p} {xs = xs} {i = i} h s = sym (ap (any p) (drop_of_length-le xs h)) ∙ s.rest

-- a test of the keys is a test of the rows
pub any_keys : {A : Type 0} (q : ℕ → Bool) (rs : List (Row A)) → any (λ (r : Row A). q r.key) rs ≡ any q (keys rs)
unfolding any keys
any_keys q [] = refl
any_keys q (r ∷ rs) = ap (pick (q r.key) true) (any_keys q rs)
