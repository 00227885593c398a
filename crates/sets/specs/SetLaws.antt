-- The laws that the three sets share: a change of one worker's set among all, and of one row of a set.
use Rattle.std.specs.Prelude.{ℕ, suc, zero, ◌+◌, ◌-◌, ◌<◌, ◌≤◌, ◌≡◌, List, [], ◌∷◌, ◌++◌, map, length, take, drop, get_or, set, replicate, Bool, true, false, not, Option as Optional, Some, None, is_some}
use Rattle.std.proofs.Common.{arith, sym, ap, ◌∙◌, subst, ⊎_elim, length-set, length-take-le, get_or-take, get_or-set_same, get_or-set_other, take-suc-set, ext_get_or}
use Rattle.std.proofs.Math.Path.{refl}
use Rattle.std.proofs.lemmas.List.{map-append, length-map, length-replicate, get_or-replicate}
use Rattle.std.proofs.Math.ListN.{get_or-map}
use Rattle.std.proofs.Math.Seq.{take-set-lt}
use Rattle.lists.specs.Tests.{present, same}
use Rattle.spec.specs.Payloads.{option_in}
use Rattle.lists.specs.TestLaws.{cases, same_true, same_false}
use Rattle.lists.specs.Tabulation.{tab, tab_from}
use Rattle.lists.specs.Shifts.{moved, length_moved, length_tab, get_or_tab, tab_snoc, put_in}
use Rattle.sets.specs.Sets.{Each, first_rows}

-- ---- one of the lists is replaced: a row of a set, or a worker's set

module _ {A : Type 0} {P : List A → Type 0} {n : ℕ} {xs : List (List A)} where
  -- all are P still
  pub each_set : (i : ℕ) (x : List A) → Each P n xs → P x → Each P n (set xs i x)
  each_set i x e p =
      let l : length xs ≡ n = e.size in
      record {
        size = length-set xs i x ∙ l;
        at = λ j h.
            ⊎_elim
            (λ t. let q : j ≡ i = same_true j i t in
            subst P (sym (ap (λ (k : ℕ). get_or (set xs i x) k []) q ∙ get_or-set_same xs i x [] (omega arith))) p)
            (λ f. subst P (sym (get_or-set_other xs i j x [] (same_false j i f))) (e.at j h))
            (cases (same j i));
      }

module _ {A B : Type 0} (view : List A → B) (xs : List (List A)) (w : ℕ) (x : List A) where
  -- what is seen of worker w's set
  pub own_set : {P : List A → Type 0} {n : ℕ} → Each P n xs → w < n → view (get_or (set xs w x) w []) ≡ view x
  own_set e h = ap view (get_or-set_same xs w x [] (let l : length xs ≡ _ = e.size in omega arith))

  -- what is seen of another's
  pub other_set : (v : ℕ) → (v ≡ w → ⊥) → view (get_or (set xs w x) v []) ≡ view (get_or xs v [])
  other_set v d = ap view (get_or-set_other xs w v x [] d)

-- the start: all alike
pub each_alike : {A : Type 0} {P : List A → Type 0} (n : ℕ) (x : List A) → P x → Each P n (replicate n x)
each_alike {A} {P} n x p =
    record {
      size = length-replicate {A = List A} n x;
      at = λ i h. subst P (sym (get_or-replicate {A = List A} n i x [] h)) p;
    }

-- ---- the first rows of a set

module _ {A : Type 0} (f : List ℕ → A) (rs : List (List ℕ)) where
  pub rows_none : first_rows f rs 0 ≡ []
  unfolding first_rows tab tab_from
  rows_none = refl

  pub length_rows : (n : ℕ) → length (first_rows f rs n) ≡ n
  unfolding first_rows
  length_rows n = length_tab (λ (i : ℕ). f (get_or rs i [])) n

  pub row_at : (n i : ℕ) (d : A) → i < n → get_or (first_rows f rs n) i d ≡ f (get_or rs i [])
  unfolding first_rows
  row_at n i d h = get_or_tab (λ (i : ℕ). f (get_or rs i [])) n i d h

  pub rows_snoc : (n : ℕ) → first_rows f rs (suc n) ≡ first_rows f rs n ++ (f (get_or rs n []) ∷ [])
  unfolding first_rows
  rows_snoc n = tab_snoc (λ (i : ℕ). f (get_or rs i [])) n

  taken : (n : ℕ) → n ≤ length rs → first_rows f rs n ≡ map f (take n rs)
  taken n h =
      let l : length (take n rs) ≡ n = length-take-le n rs h in
      let m : length (first_rows f rs n) ≡ n = length_rows n in
      ext_get_or (f []) (first_rows f rs n) (map f (take n rs)) (m ∙ sym (length-map (take n rs) f ∙ l))
      (λ i q.
      let j : i < n = omega arith in
      row_at n i (f []) j ∙ sym (get_or-map f (take n rs) i [] ∙ ap f (get_or-take n rs i [] j)))

module _ {A B : Type 0} (f : A → B) where
  map_take : (n : ℕ) (xs : List A) → map f (take n xs) ≡ take n (map f xs)
  map_take zero xs = refl
  map_take (suc n) [] = refl
  map_take (suc n) (x ∷ xs) = ap (λ (ys : List B). f x ∷ ys) (map_take n xs)

  map_drop : (n : ℕ) (xs : List A) → map f (drop n xs) ≡ drop n (map f xs)
  map_drop zero xs = refl
  map_drop (suc n) [] = refl
  map_drop (suc n) (x ∷ xs) = map_drop n xs

  map_set : (xs : List A) (i : ℕ) (x : A) → map f (set xs i x) ≡ set (map f xs) i (f x)
  map_set [] i x = refl
  map_set (y ∷ xs) zero x = refl
  map_set (y ∷ xs) (suc i) x = ap (λ (ys : List B). f y ∷ ys) (map_set xs i x)

module _ {A : Type 0} (f : List ℕ → A) (rs : List (List ℕ)) (n : ℕ) where
  -- a row appended to the first n
  pub row_appended : (r : List ℕ) → n < length rs → first_rows f (set rs n r) (n + 1) ≡ first_rows f rs n ++ (f r ∷ [])
  row_appended r h =
      let q : n + 1 ≡ suc n = omega arith in
      let l : length (set rs n r) ≡ length rs = length-set rs n r in
      taken f (set rs n r) (n + 1) (omega arith)
      ∙ ap (map f) (ap (λ (k : ℕ). take k (set rs n r)) q ∙ take-suc-set rs n r h)
      ∙ map-append f (take n rs) (r ∷ [])
      ∙ ap (λ (xs : List A). xs ++ (f r ∷ [])) (sym (taken f rs n (omega arith)))

  -- a row in place of one of them
  pub row_replaced : (p : ℕ) (r : List ℕ) → p < n → n ≤ length rs → first_rows f (set rs p r) n ≡ set (first_rows f rs n) p (f r)
  row_replaced p r h l =
      let m : length (set rs p r) ≡ length rs = length-set rs p r in
      taken f (set rs p r) n (omega arith)
      ∙ ap (map f) (take-set-lt n rs p r h)
      ∙ map_set f (take n rs) p r
      ∙ ap (λ (xs : List A). set xs p (f r)) (sym (taken f rs n l))

  -- a row put in among them
  pub row_put_lem : (p : ℕ) (r : List ℕ) → p ≤ n → n < length rs
      → first_rows f (set (moved rs p (p + 1) (n - p)) p r) (n + 1) ≡ take p (first_rows f rs n) ++ (f r ∷ drop p (first_rows f rs n))
  row_put_lem p r h l =
      let m : length (moved rs p (p + 1) (n - p)) ≡ length rs = length_moved rs p (p + 1) (n - p) (omega arith) (omega arith) in
      let s : length (set (moved rs p (p + 1) (n - p)) p r) ≡ length rs = length-set (moved rs p (p + 1) (n - p)) p r ∙ m in
      taken f (set (moved rs p (p + 1) (n - p)) p r) (n + 1) (omega arith)
      ∙ ap (map f) (put_in rs n p r h l)
      ∙ map-append f (take p (take n rs)) (r ∷ drop p (take n rs))
      ∙ (λ i. map_take f p (take n rs) i ++ (f r ∷ map_drop f p (take n rs) i))
      ∙ ap (λ (xs : List A). take p xs ++ (f r ∷ drop p xs)) (sym (taken f rs n (omega arith)))

-- ---- options

-- a test that an option is empty
pub absent_is : {A B : Type 0} (f : A → B) (o : Optional A) {b : Bool} → is_some o ≡ not b → b ≡ not (present (option_in f o))
absent_is {A} f o {b} e = go o b e
  where
    go : (x : Optional A) (c : Bool) → is_some x ≡ not c → c ≡ not (present (option_in f x))
    go None true e = refl
    go None false e = e
    go (Some a) true e = e
    go (Some a) false e = refl
