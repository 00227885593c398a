-- A loop that tests the elements of a list, until one passes: what is left to test says what the whole list says.
use Rattle.std.specs.Prelude.{ℕ, zero, suc, ◌+◌, ◌<◌, ◌≤◌, ◌≡◌, refl, Bool, false, List, [], ◌∷◌, drop, get_or}
use Rattle.std.proofs.Common.{zero-le, add-one, arith, ◌∙◌, ⊎_elim, drop_of_length-le, drop-cons}
use Rattle.std.proofs.Math.Path.{sym, ap}
use Rattle.std.proofs.Math.Bool.{true}
use Rattle.std.proofs.Math.ListN.{length}
use Rattle.lists.specs.Tests.{pick}
use Rattle.lists.specs.TestLaws.{cases, clash}
use Rattle.lists.specs.Rows.{any}

-- the first i of n elements were tested, and none passed
pub record Searching {A : Type 0} (p : A → Bool) (xs : List A) (n i : ℕ) : Type 0 where
  pub size : length xs ≡ n
  pub within : i ≤ n
  pub rest : any p (drop i xs) ≡ any p xs

pub search_start : {A : Type 0} (p : A → Bool) (xs : List A) (n : ℕ) → length xs ≡ n → Searching p xs n 0
search_start p xs n e = record { size = e; within = zero-le; rest = refl }

module _ {A : Type 0} {p : A → Bool} {xs : List A} {n i : ℕ} (d : A) (s : Searching p xs n i) where
  -- the next element is x, of which the test says b
  next : {x : A} {b c : Bool} → i < n → x ≡ get_or xs i d → b ≡ p x → b ≡ c → pick c true (any p (drop (suc i) xs)) ≡ any p xs
  unfolding any
  next {x} {b} {c} h e f g =
      let l : length xs ≡ n = s.size in
      ap (λ (a : Bool). pick a true (any p (drop (suc i) xs))) (sym g ∙ f ∙ ap p e)
      ∙ sym (ap (any p) (drop-cons xs i d (omega arith)))
      ∙ s.rest

  pub search_on : {x : A} {b : Bool} → i < n → x ≡ get_or xs i d → b ≡ p x → b ≡ false → Searching p xs n (i + 1)
  search_on h e f g =
      record { size = s.size; within = omega arith; rest = ap (λ (j : ℕ). any p (drop j xs)) (add-one i) ∙ next h e f g }

  pub search_hit : {x : A} {b : Bool} → i < n → x ≡ get_or xs i d → b ≡ p x → b ≡ true → true ≡ any p xs
  search_hit h e f g = next h e f g

pub search_end : {A : Type 0} {p : A → Bool} {xs : List A} {n i : ℕ} → n ≤ i → Searching p xs n i → false ≡ any p xs
unfolding any
search_end {p = p} {xs = xs} {n = n} {i = i} h s =
    let l : length xs ≡ n = s.size in
    sym (ap (any p) (drop_of_length-le xs {i = i} (omega arith))) ∙ s.rest

-- where no element passes, that at place i does not
pub none_passes : {A : Type 0} (p : A → Bool) (xs : List A) (i : ℕ) (d : A) → any p xs ≡ false → i < length xs → p (get_or xs i d) ≡ false
unfolding any
none_passes p [] i d e h = absurd (omega arith)
none_passes p (x ∷ xs) zero d e h =
    ⊎_elim (λ t. clash (ap (λ (b : Bool). pick b true (any p xs)) t) e) (λ f. f) (cases (p x))
none_passes p (x ∷ xs) (suc i) d e h =
    none_passes p xs i d
    (⊎_elim (λ t. clash (ap (λ (b : Bool). pick b true (any p xs)) t) e) (λ f. sym (ap (λ (b : Bool). pick b true (any p xs)) f) ∙ e) (cases (p x)))
    (omega arith)
