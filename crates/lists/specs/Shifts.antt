-- A list with a part of it overwritten: what a loop of stores leaves that shifts elements or fills places in a row.
use Prim.Native.Nat.{ℕ, zero, suc, ◌+◌, ◌-◌, ◌<◌, ◌≤◌, zero-le}
use Rattle.std.proofs.Common.{le_refl, not-suc-le-zero, add-zero, zero-add, ◌∙◌, length-take-le, take-suc, drop-cons}
use native.Mathlib.Omega.{arith}
use Rattle.std.specs.Prelude.{◌≡◌}
use Rattle.std.proofs.Math.Path.{refl, sym, ap}
use mathlib.Core.List.{List, [], ◌∷◌, ◌++◌, append_assoc}
use lib.ListN.{length, take, drop, get_or, set, length-append, length-take, length-drop, get_or-append}
use Rattle.std.proofs.Math.Seq.{get_or-drop, get_or-take, take_at, drop_at, set_at, take-take, take-append-le, take-nil}
use Rattle.lists.specs.Tabulation.{tab_from, tab}

module _ {A : Type 0} where
  -- xs with ys from place `at` on
  unfoldable pub over : List A → ℕ → List A → List A
  over xs at ys = take at xs ++ (ys ++ drop (at + length ys) xs)

  -- xs with n elements from place `from` on copied to place `to`
  unfoldable pub moved : List A → ℕ → ℕ → ℕ → List A
  moved xs from to n = over xs to (take n (drop from xs))

  -- ---- tables

  length_tab_from : (f : ℕ → A) (i n : ℕ) → length (tab_from f i n) ≡ n
  unfolding tab_from
  length_tab_from f i zero = refl
  length_tab_from f i (suc n) = ap suc (length_tab_from f (suc i) n)

  pub length_tab : (f : ℕ → A) (n : ℕ) → length (tab f n) ≡ n
  unfolding tab
  length_tab f n = length_tab_from f 0 n

  get_or_tab_from : (f : ℕ → A) (i n k : ℕ) (d : A) → k < n → get_or (tab_from f i n) k d ≡ f (i + k)
  unfolding tab_from
  get_or_tab_from f i zero k d h = absurd (not-suc-le-zero h)
  get_or_tab_from f i (suc n) zero d h = ap f (sym (add-zero i))
  get_or_tab_from f i (suc n) (suc k) d h = get_or_tab_from f (suc i) n k d (omega arith) ∙ ap f (omega arith)

  pub get_or_tab : (f : ℕ → A) (n k : ℕ) (d : A) → k < n → get_or (tab f n) k d ≡ f k
  unfolding tab
  get_or_tab f n k d h = get_or_tab_from f 0 n k d h ∙ ap f (zero-add k)

  tab_from_snoc : (f : ℕ → A) (i n : ℕ) → tab_from f i (suc n) ≡ tab_from f i n ++ (f (i + n) ∷ [])
  unfolding tab_from
  tab_from_snoc f i zero = ap (λ (k : ℕ). f k ∷ []) (sym (add-zero i))
  tab_from_snoc f i (suc n) = ap (λ (xs : List A). f i ∷ xs) (tab_from_snoc f (suc i) n ∙ ap (λ (k : ℕ). tab_from f (suc i) n ++ (f k ∷ [])) (omega arith))

  pub tab_snoc : (f : ℕ → A) (n : ℕ) → tab f (suc n) ≡ tab f n ++ (f n ∷ [])
  unfolding tab
  tab_snoc f n = tab_from_snoc f 0 n ∙ ap (λ (k : ℕ). tab_from f 0 n ++ (f k ∷ [])) (zero-add n)

  tab_from_same : (f g : ℕ → A) (i j n : ℕ) → ((k : ℕ) → k < n → f (i + k) ≡ g (j + k)) → tab_from f i n ≡ tab_from g j n
  unfolding tab_from
  tab_from_same f g i j zero h = refl
  tab_from_same f g i j (suc n) h =
      λ a. (ap f (sym (add-zero i)) ∙ h 0 (omega arith) ∙ ap g (add-zero j)) a
      ∷ tab_from_same f g (suc i) (suc j) n (λ k l.
      let p : suc i + k ≡ i + suc k = omega arith in
      let q : suc j + k ≡ j + suc k = omega arith in
      ap f p ∙ h (suc k) (omega arith) ∙ ap g (sym q)) a

  -- two tables are equal if their values are
  pub tab_same : (f g : ℕ → A) (n : ℕ) → ((k : ℕ) → k < n → f k ≡ g k) → tab f n ≡ tab g n
  unfolding tab
  tab_same f g n h = tab_from_same f g 0 0 n (λ k l. ap f (zero-add k) ∙ h k l ∙ ap g (sym (zero-add k)))

  -- the first value, and the rest
  pub tab_cons : (f g : ℕ → A) (n : ℕ) → ((k : ℕ) → k < n → f (suc k) ≡ g k) → tab f (suc n) ≡ f 0 ∷ tab g n
  unfolding tab tab_from
  tab_cons f g n h = ap (λ (zs : List A). f 0 ∷ zs) (tab_from_same f g 1 0 n (λ k l. let q : 1 + k ≡ suc k = omega arith in ap f q ∙ h k l ∙ ap g (sym (zero-add k))))

  -- ---- overwriting

  module _ (xs : List A) (at : ℕ) (ys : List A) (fits : at + length ys ≤ length xs) where
    pub length_over : length (over xs at ys) ≡ length xs
    unfolding over
    length_over = simp (length-append, length-take, length-drop) (omega arith)

    front : length (take at xs) ≡ at
    front = length-take-le at xs (omega arith)

    pub get_or_over_left : (k : ℕ) (d : A) → k < at → get_or (over xs at ys) k d ≡ get_or xs k d
    unfolding over
    get_or_over_left k d h =
        get_or-append (take at xs) (ys ++ drop (at + length ys) xs) d k (rw front h) ∙ get_or-take at xs k d h

    take_over : take (at + length ys) (over xs at ys) ≡ take at xs ++ ys
    unfolding over
    take_over =
        ap (λ (zs : List A). take (at + length ys) zs) (sym (append_assoc (take at xs) ys (drop (at + length ys) xs)))
        ∙ take_at (take at xs ++ ys) (drop (at + length ys) xs) (at + length ys) (length-append (take at xs) ys ∙ ap (λ (n : ℕ). n + length ys) front)

    drop_over : drop (at + length ys) (over xs at ys) ≡ drop (at + length ys) xs
    unfolding over
    drop_over =
        ap (λ (zs : List A). drop (at + length ys) zs) (sym (append_assoc (take at xs) ys (drop (at + length ys) xs)))
        ∙ drop_at (take at xs ++ ys) (drop (at + length ys) xs) (at + length ys) (length-append (take at xs) ys ∙ ap (λ (n : ℕ). n + length ys) front)

    take_over_left : (k : ℕ) → k ≤ at → take k (over xs at ys) ≡ take k xs
    unfolding over
    take_over_left k h = take-append-le k (take at xs) (ys ++ drop (at + length ys) xs) (rw front h) ∙ take-take k at xs h

    pub get_or_over_right : (k : ℕ) (d : A) → at + length ys ≤ k → get_or (over xs at ys) k d ≡ get_or xs k d
    get_or_over_right k d h =
        let e : at + length ys + (k - (at + length ys)) ≡ k = omega arith in
        ap (λ (n : ℕ). get_or (over xs at ys) n d) (sym e)
        ∙ sym (get_or-drop (at + length ys) (over xs at ys) (k - (at + length ys)) d)
        ∙ ap (λ (zs : List A). get_or zs (k - (at + length ys)) d) drop_over
        ∙ get_or-drop (at + length ys) xs (k - (at + length ys)) d
        ∙ ap (λ (n : ℕ). get_or xs n d) e

    -- in the part written
    pub get_or_over_in : (y : ℕ) (d : A) → y < length ys → get_or (over xs at ys) (at + y) d ≡ get_or ys y d
    unfolding over
    get_or_over_in y d h =
        sym (get_or-drop at (over xs at ys) y d)
        ∙ ap (λ (zs : List A). get_or zs y d) (drop_at (take at xs) (ys ++ drop (at + length ys) xs) at front)
        ∙ get_or-append ys (drop (at + length ys) xs) d y h

  open_over : (xs : List A) (at : ℕ) (ys : List A) → over xs at ys ≡ take at xs ++ (ys ++ drop (at + length ys) xs)
  unfolding over
  open_over xs at ys = refl

  drop_over_at : (xs : List A) (at : ℕ) (ys : List A) → at ≤ length xs → drop at (over xs at ys) ≡ ys ++ drop (at + length ys) xs
  unfolding over
  drop_over_at xs at ys h = drop_at (take at xs) (ys ++ drop (at + length ys) xs) at (length-take-le at xs h)

  -- two parts next to each other
  over_over : (xs : List A) (at : ℕ) (ys zs : List A) (b : ℕ) → b ≡ at + length ys → b + length zs ≤ length xs → over (over xs b zs) at ys ≡ over xs at (ys ++ zs)
  over_over xs at ys zs b e h =
      let l : length (ys ++ zs) ≡ length ys + length zs = length-append ys zs in
      let m : b + length zs ≡ at + length (ys ++ zs) = omega arith in
      open_over (over xs b zs) at ys
      ∙ ap (λ (ps : List A). ps ++ (ys ++ drop (at + length ys) (over xs b zs))) (take_over_left xs b zs h at (omega arith))
      ∙ ap (λ (k : ℕ). take at xs ++ (ys ++ drop k (over xs b zs))) (sym e)
      ∙ ap (λ (ps : List A). take at xs ++ (ys ++ ps)) (drop_over_at xs b zs (omega arith))
      ∙ ap (λ (ps : List A). take at xs ++ ps) (sym (append_assoc ys zs (drop (b + length zs) xs)))
      ∙ ap (λ (k : ℕ). take at xs ++ ((ys ++ zs) ++ drop k xs)) m
      ∙ sym (open_over xs at (ys ++ zs))

  over_nil : (xs : List A) (at : ℕ) → over xs at [] ≡ xs
  unfolding over
  over_nil xs at = ap (λ (n : ℕ). take at xs ++ drop n xs) (add-zero at) ∙ lib.ListN.take-append-drop at xs

  -- one more element before those written
  pub over_cons : (xs : List A) (at : ℕ) (y : A) (ys : List A) → at + length (y ∷ ys) ≤ length xs → set (over xs (suc at) ys) at y ≡ over xs at (y ∷ ys)
  unfolding over
  over_cons xs at y ys h =
      let e : suc at + length ys ≡ at + suc (length ys) = omega arith in
      ap (λ (zs : List A). set (zs ++ (ys ++ drop (suc at + length ys) xs)) at y) (take-suc xs at y (omega arith))
      ∙ ap (λ (zs : List A). set zs at y) (append_assoc (take at xs) (get_or xs at y ∷ []) (ys ++ drop (suc at + length ys) xs))
      ∙ set_at (take at xs) (get_or xs at y) (ys ++ drop (suc at + length ys) xs) y at (length-take-le at xs (omega arith))
      ∙ ap (λ (n : ℕ). take at xs ++ (y ∷ (ys ++ drop n xs))) e

  -- one more after them
  over_snoc : (xs : List A) (at : ℕ) (ys : List A) (y : A) → at + length ys < length xs
      → set (over xs at ys) (at + length ys) y ≡ over xs at (ys ++ (y ∷ []))
  unfolding over
  over_snoc xs at ys y h =
      let l : length (ys ++ (y ∷ [])) ≡ length ys + 1 = length-append ys (y ∷ []) in
      let e : suc (at + length ys) ≡ at + length (ys ++ (y ∷ [])) = omega arith in
      ap (λ (zs : List A). set (take at xs ++ (ys ++ zs)) (at + length ys) y) (drop-cons xs (at + length ys) y h)
      ∙ ap (λ (zs : List A). set zs (at + length ys) y) (sym (append_assoc (take at xs) ys (get_or xs (at + length ys) y ∷ drop (suc (at + length ys)) xs)))
      ∙ set_at (take at xs ++ ys) (get_or xs (at + length ys) y) (drop (suc (at + length ys)) xs) y (at + length ys)
      (length-append (take at xs) ys ∙ ap (λ (n : ℕ). n + length ys) (length-take-le at xs (omega arith)))
      ∙ append_assoc (take at xs) ys (y ∷ drop (suc (at + length ys)) xs)
      ∙ ap (λ (zs : List A). take at xs ++ zs)
      (sym (append_assoc ys (y ∷ []) (drop (suc (at + length ys)) xs))
      ∙ ap (λ (n : ℕ). (ys ++ (y ∷ [])) ++ drop n xs) e)

  -- ---- shifting

  length_part : (xs : List A) (from n : ℕ) → from + n ≤ length xs → length (take n (drop from xs)) ≡ n
  length_part xs from n h = length-take-le n (drop from xs) (rw (length-drop from xs) (omega arith))

  pub length_moved : (xs : List A) (from to n : ℕ) → from + n ≤ length xs → to + n ≤ length xs → length (moved xs from to n) ≡ length xs
  unfolding moved
  length_moved xs from to n h i =
      let e : length (take n (drop from xs)) ≡ n = length_part xs from n h in
      length_over xs to (take n (drop from xs)) (omega arith)

  module _ (xs : List A) (from to n : ℕ) (h : from + n ≤ length xs) (g : to + n ≤ length xs) where
    -- before the elements that were moved, and one of them
    pub get_or_moved_left : (k : ℕ) (d : A) → k < to → get_or (moved xs from to n) k d ≡ get_or xs k d
    unfolding moved
    get_or_moved_left k d l =
        let e : length (take n (drop from xs)) ≡ n = length_part xs from n h in
        get_or_over_left xs to (take n (drop from xs)) (omega arith) k d l

    pub get_or_moved_in : (y : ℕ) (d : A) → y < n → get_or (moved xs from to n) (to + y) d ≡ get_or xs (from + y) d
    unfolding moved
    get_or_moved_in y d l =
        let e : length (take n (drop from xs)) ≡ n = length_part xs from n h in
        get_or_over_in xs to (take n (drop from xs)) (omega arith) y d (omega arith) ∙ get_or-take n (drop from xs) y d l ∙ get_or-drop from xs y d

  -- ---- filling

  pub filled_on : (xs : List A) (at : ℕ) (f : ℕ → A) (i : ℕ) → at + i < length xs → set (over xs at (tab f i)) (at + i) (f i) ≡ over xs at (tab f (suc i))
  filled_on xs at f i h =
      let e : length (tab f i) ≡ i = length_tab f i in
      ap (λ (k : ℕ). set (over xs at (tab f i)) (at + k) (f i)) (sym e)
      ∙ over_snoc xs at (tab f i) (f i) (omega arith)
      ∙ ap (over xs at) (sym (tab_snoc f i))

  -- one more value before them
  pub filled_before : (xs : List A) (at : ℕ) (f g : ℕ → A) (n : ℕ) → at + suc n ≤ length xs → ((k : ℕ) → k < n → f (suc k) ≡ g k)
      → set (over xs (at + 1) (tab g n)) at (f 0) ≡ over xs at (tab f (suc n))
  filled_before xs at f g n h w =
      let e : at + 1 ≡ suc at = omega arith in
      let l : length (tab g n) ≡ n = length_tab g n in
      ap (λ (k : ℕ). set (over xs k (tab g n)) at (f 0)) e
      ∙ over_cons xs at (f 0) (tab g n) (omega arith)
      ∙ ap (over xs at) (sym (tab_cons f g n w))

-- ---- the loop that fills

-- the places from `at` on get the values of f; i have theirs
pub record Filling {A : Type 0} (xs cur : List A) (at : ℕ) (f : ℕ → A) (n i : ℕ) : Type 0 where
  pub there : i ≤ n
  pub done : cur ≡ over xs at (tab f i)

module _ {A : Type 0} where
  pub filling_start : (xs : List A) (at : ℕ) (f : ℕ → A) (n : ℕ) → Filling xs xs at f n 0
  unfolding tab tab_from
  filling_start xs at f n = record { there = zero-le; done = sym (over_nil xs at) }

  pub filling_on : {xs cur : List A} {at : ℕ} {f : ℕ → A} {n i : ℕ} (cur' : List A) → at + n ≤ length xs → i < n
      → Filling xs cur at f n i → cur' ≡ set cur (at + i) (f i) → Filling xs cur' at f n (i + 1)
  filling_on {xs} {cur} {at} {f} {n} {i} cur' j p r e =
      let q : suc i ≡ i + 1 = omega arith in
      record {
        there = omega arith;
        done =
            e ∙ ap (λ (zs : List A). set zs (at + i) (f i)) r.done ∙ filled_on xs at f i (omega arith) ∙ ap (λ (k : ℕ). over xs at (tab f k)) q;
      }

  pub filling_end : {xs cur : List A} {at : ℕ} {f : ℕ → A} {n i : ℕ} → Filling xs cur at f n i → n ≤ i → cur ≡ over xs at (tab f n)
  filling_end {xs} {cur} {at} {f} {n} {i} r h =
      let e : i ≡ n = (let l : i ≤ n = r.there in omega arith) in
      r.done ∙ ap (λ (k : ℕ). over xs at (tab f k)) e

-- ---- one element put in, or taken out, of the first n

module _ {A : Type 0} where
  pub drop_take : (p n : ℕ) (xs : List A) → p ≤ n → drop p (take n xs) ≡ take (n - p) (drop p xs)
  drop_take zero n xs h = let e : n - 0 ≡ n = omega arith in ap (λ (k : ℕ). take k xs) (sym e)
  drop_take (suc p) zero xs h = absurd (not-suc-le-zero h)
  drop_take (suc p) (suc n) [] h = sym (take-nil (suc n - suc p))
  drop_take (suc p) (suc n) (x ∷ xs) h =
      let e : suc n - suc p ≡ n - p = omega arith in drop_take p n xs (omega arith) ∙ ap (λ (k : ℕ). take k (drop p xs)) (sym e)

  -- the elements from place p on go up by one, and x comes in there
  pub put_in : (xs : List A) (n p : ℕ) (x : A) → p ≤ n → n < length xs
      → take (n + 1) (set (moved xs p (p + 1) (n - p)) p x) ≡ take p (take n xs) ++ (x ∷ drop p (take n xs))
  unfolding moved
  put_in xs n p x h l =
      let ys : List A = take (n - p) (drop p xs) in
      let e : length ys ≡ n - p = length_part xs p (n - p) (omega arith) in
      let s : p + 1 ≡ suc p = omega arith in
      let t : n + 1 ≡ p + length (x ∷ ys) = omega arith in
      ap (λ (k : ℕ). take (n + 1) (set (over xs k ys) p x)) s
      ∙ ap (take (n + 1)) (over_cons xs p x ys (omega arith))
      ∙ ap (λ (k : ℕ). take k (over xs p (x ∷ ys))) t
      ∙ take_over xs p (x ∷ ys) (omega arith)
      ∙ ap (λ (zs : List A). zs ++ (x ∷ ys)) (sym (take-take p n xs h))
      ∙ ap (λ (zs : List A). take p (take n xs) ++ (x ∷ zs)) (sym (drop_take p n xs h))

  -- the elements after place p go down by one
  pub taken_out : (xs : List A) (n p : ℕ) → p < n → n ≤ length xs
      → take (n - 1) (moved xs (p + 1) p (n - p - 1)) ≡ take p (take n xs) ++ drop (suc p) (take n xs)
  unfolding moved
  taken_out xs n p h l =
      let ys : List A = take (n - p - 1) (drop (p + 1) xs) in
      let e : length ys ≡ n - p - 1 = length_part xs (p + 1) (n - p - 1) (omega arith) in
      let s : p + 1 ≡ suc p = omega arith in
      let t : n - 1 ≡ p + length ys = omega arith in
      let u : n - p - 1 ≡ n - suc p = omega arith in
      ap (λ (k : ℕ). take k (over xs p ys)) t
      ∙ take_over xs p ys (omega arith)
      ∙ ap (λ (zs : List A). zs ++ ys) (sym (take-take p n xs (omega arith)))
      ∙ ap (λ (zs : List A). take p (take n xs) ++ zs)
      (ap (λ (k : ℕ). take (n - p - 1) (drop k xs)) s ∙ ap (λ (k : ℕ). take k (drop (suc p) xs)) u ∙ sym (drop_take (suc p) n xs h))

  -- the elements after place p go to place p + t, and `ys` fill the room before them from place `at` on
  pub spread : (xs : List A) (m p t at : ℕ) (ys : List A) → p < m → m + t ≤ length xs + 1 → 1 ≤ t → at + length ys ≡ p + t → at ≤ p + 1
      → take (m + t - 1) (over (moved xs (p + 1) (p + t) (m - p - 1)) at ys) ≡ take at (take m xs) ++ (ys ++ drop (suc p) (take m xs))
  unfolding moved
  spread xs m p t at ys h l i e b =
      let zs : List A = take (m - p - 1) (drop (p + 1) xs) in
      let g : length zs ≡ m - p - 1 = length_part xs (p + 1) (m - p - 1) (omega arith) in
      let n : length (ys ++ zs) ≡ length ys + length zs = length-append ys zs in
      let q : m + t - 1 ≡ at + length (ys ++ zs) = omega arith in
      let s : p + 1 ≡ suc p = omega arith in
      let u : m - p - 1 ≡ m - suc p = omega arith in
      ap (take (m + t - 1)) (over_over xs at ys zs (p + t) (sym e) (omega arith))
      ∙ ap (λ (k : ℕ). take k (over xs at (ys ++ zs))) q
      ∙ take_over xs at (ys ++ zs) (omega arith)
      ∙ ap (λ (ps : List A). ps ++ (ys ++ zs)) (sym (take-take at m xs (omega arith)))
      ∙ ap (λ (ps : List A). take at (take m xs) ++ (ys ++ ps))
      (ap (λ (k : ℕ). take (m - p - 1) (drop k xs)) s ∙ ap (λ (k : ℕ). take k (drop (suc p) xs)) u ∙ sym (drop_take (suc p) m xs h))
