-- A list read through a decoding of each element: what a store, a part overwritten and a part moved are in that view. The
-- element at a place and the length stand in the library (`List·getD-map`, `length-map`).
use Prim.Native.Nat.{ℕ, zero, suc, ◌+◌}
use Rattle.std.specs.Prelude.{◌≡◌, set}
use Rattle.std.proofs.Math.Path.{refl, ap}
use Rattle.std.proofs.Common.{sym, ◌∙◌}
use mathlib.Core.List.{List, [], ◌∷◌, ◌++◌, map, map-append}
use Rattle.std.proofs.Math.ListN.{length, take, drop}
use Rattle.std.proofs.lemmas.List.{length-map}
use Rattle.lists.specs.Tabulation.{tab_from, tab}
use Rattle.lists.specs.Shifts.{over, moved}

module _ {A B : Type 0} (f : A → B) where
  pub mapped_set : (xs : List A) (i : ℕ) (x : A) → map f (set xs i x) ≡ set (map f xs) i (f x)
  mapped_set [] i x = refl
  mapped_set (y ∷ ys) zero x = refl
  mapped_set (y ∷ ys) (suc i) x = ap (λ (zs : List B). f y ∷ zs) (mapped_set ys i x)

  mapped_take : (n : ℕ) (xs : List A) → map f (take n xs) ≡ take n (map f xs)
  mapped_take zero xs = refl
  mapped_take (suc n) [] = refl
  mapped_take (suc n) (x ∷ xs) = ap (λ (zs : List B). f x ∷ zs) (mapped_take n xs)

  mapped_drop : (n : ℕ) (xs : List A) → map f (drop n xs) ≡ drop n (map f xs)
  mapped_drop zero xs = refl
  mapped_drop (suc n) [] = refl
  mapped_drop (suc n) (x ∷ xs) = mapped_drop n xs

  mapped_tab_from : (g : ℕ → A) (i n : ℕ) → map f (tab_from g i n) ≡ tab_from (λ (k : ℕ). f (g k)) i n
  unfolding tab_from
  mapped_tab_from g i zero = refl
  mapped_tab_from g i (suc n) = ap (λ (zs : List B). f (g i) ∷ zs) (mapped_tab_from g (suc i) n)

  -- a table, decoded
  pub mapped_tab : (g : ℕ → A) (n : ℕ) → map f (tab g n) ≡ tab (λ (k : ℕ). f (g k)) n
  unfolding tab
  mapped_tab g n = mapped_tab_from g 0 n

  pub mapped_over : (xs : List A) (at : ℕ) (ys : List A) → map f (over xs at ys) ≡ over (map f xs) at (map f ys)
  unfolding over
  mapped_over xs at ys =
      map-append f (take at xs) (ys ++ drop (at + length ys) xs)
      ∙ ap (λ (zs : List B). zs ++ map f (ys ++ drop (at + length ys) xs)) (mapped_take at xs)
      ∙ ap (λ (zs : List B). take at (map f xs) ++ zs)
      (map-append f ys (drop (at + length ys) xs)
      ∙ ap (λ (zs : List B). map f ys ++ zs)
      (mapped_drop (at + length ys) xs ∙ ap (λ (n : ℕ). drop (at + n) (map f xs)) (sym (length-map ys f))))

  pub mapped_moved : (xs : List A) (from to n : ℕ) → map f (moved xs from to n) ≡ moved (map f xs) from to n
  unfolding moved
  mapped_moved xs from to n =
      mapped_over xs to (take n (drop from xs))
      ∙ ap (over (map f xs) to) (mapped_take n (drop from xs) ∙ ap (take n) (mapped_drop from xs))
