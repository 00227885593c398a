-- The place of an address among the lows of the leaves, and one step of the search for it.
use Rattle.std.specs.Prelude.{ℕ, zero, suc, ◌+◌, ◌<◌, ◌≤◌, ◌≡◌, refl, Bool, true, false, List, [], ◌∷◌, length, take, get_or}
use Rattle.std.proofs.Common.{zero-le, suc-le-suc, le_refl, not-suc-le-zero, arith, ⊎_elim, length-take-le, get_or-take}
use Rattle.lists.specs.Tests.{pick, less}
use Rattle.lists.specs.TestLaws.{cases, clash, less_true, less_false, less_yes, less_no}
use Rattle.lists.specs.Ascending.{Ascends, ascends_at}
use Rattle.index.specs.Views.{leaf_places}

-- how many of the lows, from the first one on, are not above a
unfoldable pub up_to : ℕ → List ℕ → ℕ
up_to a [] = 0
up_to a (l ∷ ls) = pick (less a l) 0 (suc (up_to a ls))

-- the place of the leaf that holds a: the last whose low is not above it, or the first
unfoldable pub low_place : ℕ → List ℕ → ℕ
low_place a [] = 0
low_place a (l ∷ ls) = up_to a ls

-- Lows of m leaves: there is one at least, and room for all; they rise.
pub record Listed (lows : List ℕ) (m : ℕ) : Type 0 where
  pub some : 1 ≤ m
  pub room : m ≤ leaf_places
  pub rising : Ascends 0 (take m lows)

-- p is the place of the leaf of a.
pub record AtLeaf (lows : List ℕ) (m a p : ℕ) : Type 0 where
  pub is : p ≡ low_place a (take m lows)
  pub inside : p < m

-- If r says so, p is the place of the leaf of a.
pub record Tells (lows : List ℕ) (m a p : ℕ) (r : Bool) : Type 0 where
  pub yes_at : r ≡ true → AtLeaf lows m a p

up_most : (a : ℕ) (ls : List ℕ) → up_to a ls ≤ length ls
unfolding up_to
up_most a [] = le_refl 0
up_most a (l ∷ ls) = ⊎_elim (λ e. rw e zero-le) (λ e. rw e (suc-le-suc (up_most a ls))) (cases (less a l))

pub place_inside : (a : ℕ) (ls : List ℕ) → 1 ≤ length ls → low_place a ls < length ls
unfolding low_place
place_inside a [] h = absurd (not-suc-le-zero h)
place_inside a (l ∷ ls) h = suc-le-suc (up_most a ls)

up_on : (a l : ℕ) (ls : List ℕ) → l ≤ a → up_to a (l ∷ ls) ≡ suc (up_to a ls)
unfolding up_to
up_on a l ls h = rw (less_no {m = a} {n = l} h)

-- a low that is not above a is counted
up_below : (a lo : ℕ) (ls : List ℕ) (i : ℕ) → Ascends lo ls → i < length ls → get_or ls i 0 ≤ a → i < up_to a ls
unfolding Ascends
up_below a lo [] i f h e = absurd (not-suc-le-zero h)
up_below a lo (l ∷ ls) zero f h e = rw (up_on a l ls e) (omega arith)
up_below a lo (l ∷ ls) (suc i) f h e =
    let b : suc l + i ≤ get_or ls i 0 = ascends_at (suc l) ls i f.1 (omega arith) in
    let j : i < up_to a ls = up_below a (suc l) ls i f.1 (omega arith) e in
    rw (up_on a l ls (omega arith)) (omega arith)

-- one above it is not
up_above : (a : ℕ) (ls : List ℕ) (i : ℕ) → i < length ls → a < get_or ls i 0 → up_to a ls ≤ i
unfolding up_to
up_above a [] i h e = absurd (not-suc-le-zero h)
up_above a (l ∷ ls) zero h e = rw (less_yes {m = a} {n = l} e) (le_refl 0)
up_above a (l ∷ ls) (suc i) h e =
    ⊎_elim (λ q. rw q zero-le) (λ q. rw q (suc-le-suc (up_above a ls i (omega arith) e))) (cases (less a l))

pub leaf_below : (a lo : ℕ) (ls : List ℕ) (i : ℕ) → Ascends lo ls → i < length ls → get_or ls i 0 ≤ a → i ≤ low_place a ls
unfolding Ascends low_place
leaf_below a lo [] i f h e = absurd (not-suc-le-zero h)
leaf_below a lo (l ∷ ls) zero f h e = zero-le
leaf_below a lo (l ∷ ls) (suc i) f h e = up_below a (suc l) ls i f.1 (omega arith) e

pub leaf_above : (a : ℕ) (ls : List ℕ) (i : ℕ) → 0 < i → i < length ls → a < get_or ls i 0 → low_place a ls < i
unfolding low_place
leaf_above a [] i p h e = absurd (not-suc-le-zero h)
leaf_above a (l ∷ ls) zero p h e = absurd (not-suc-le-zero p)
leaf_above a (l ∷ ls) (suc i) p h e = suc-le-suc (up_above a ls i (omega arith) e)

-- ---- the search: what the row at a place tells of the place of a

module _ (lows : List ℕ) (m a i : ℕ) (h : Listed lows m) (fits : m ≤ length lows) (some : 0 < i) where
  -- that leaf starts at the address or before
  pub leaf_on : i < m → get_or lows i 0 ≤ a → i ≤ low_place a (take m lows)
  leaf_on l e =
      let n : length (take m lows) ≡ m = length-take-le m lows fits in
      let g : get_or (take m lows) i 0 ≡ get_or lows i 0 = get_or-take m lows i 0 l in
      leaf_below a 0 (take m lows) i h.rising (omega arith) (omega arith)

  -- there is no such leaf
  pub leaf_end : m ≤ i → low_place a (take m lows) < i
  leaf_end l =
      let n : length (take m lows) ≡ m = length-take-le m lows fits in
      let u : low_place a (take m lows) < length (take m lows) = place_inside a (take m lows) (rw n h.some) in
      omega arith

  -- it starts above it: the low is read whether it is a leaf's or not
  pub leaf_stay : a < get_or lows i 0 → low_place a (take m lows) < i
  leaf_stay e = ⊎_elim (λ d. here (less_true i m d)) (λ d. leaf_end (less_false i m d)) (cases (less i m))
    where
      here : i < m → low_place a (take m lows) < i
      here l =
          let n : length (take m lows) ≡ m = length-take-le m lows fits in
          let g : get_or (take m lows) i 0 ≡ get_or lows i 0 = get_or-take m lows i 0 l in
          leaf_above a (take m lows) i some (omega arith) (omega arith)

-- ---- one place tried

pub tells_no : {lows : List ℕ} {m a p : ℕ} → Tells lows m a p false
tells_no = record { yes_at = λ e. clash e refl }

module _ (lows : List ℕ) (m a p : ℕ) (h : Listed lows m) (fits : m ≤ length lows) (low : get_or lows p 0 ≤ a) where
  -- the last leaf has no upper end
  pub tells_last : p + 1 ≡ m → Tells lows m a p true
  tells_last e =
      let n : length (take m lows) ≡ m = length-take-le m lows fits in
      let g : get_or (take m lows) p 0 ≡ get_or lows p 0 = get_or-take m lows p 0 (omega arith) in
      let b : p ≤ low_place a (take m lows) = leaf_below a 0 (take m lows) p h.rising (omega arith) (omega arith) in
      let u : low_place a (take m lows) < length (take m lows) = place_inside a (take m lows) (omega arith) in
      record { yes_at = λ t. record { is = omega arith; inside = omega arith } }

  -- any other ends where the next one starts
  pub tells_between : p + 1 < m → a < get_or lows (p + 1) 0 → Tells lows m a p true
  tells_between l v =
      let n : length (take m lows) ≡ m = length-take-le m lows fits in
      let g : get_or (take m lows) p 0 ≡ get_or lows p 0 = get_or-take m lows p 0 (omega arith) in
      let k : get_or (take m lows) (p + 1) 0 ≡ get_or lows (p + 1) 0 = get_or-take m lows (p + 1) 0 l in
      let b : p ≤ low_place a (take m lows) = leaf_below a 0 (take m lows) p h.rising (omega arith) (omega arith) in
      let u : low_place a (take m lows) < p + 1 = leaf_above a (take m lows) (p + 1) (omega arith) (omega arith) (omega arith) in
      record { yes_at = λ t. record { is = omega arith; inside = omega arith } }
