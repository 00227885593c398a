-- The leaves of lows and versions, in parts; the leaf at a place is the leaf of the address that was searched for.
use Rattle.std.specs.Prelude.{ℕ, zero, suc, ◌<◌, ◌≤◌, ◌≡◌, refl, List, [], ◌∷◌, ◌++◌, map, length, take, drop, get_or}
use Rattle.std.proofs.Common.{not-suc-le-zero, arith, sym, ap, ◌∙◌, ⊎_elim}
use Rattle.lists.specs.Tests.{less}
use Rattle.lists.specs.TestLaws.{cases}
use Rattle.spec.specs.Leaves.{Leaf, first_leaf, around_from, around, leaf_of}
use Rattle.laws.specs.SettleLaws.{around_own}
use Rattle.index.specs.Views.{paired}
use Rattle.index.specs.LeafPlaces.{up_to, low_place}

-- a leaf of its low and its version
abbrev pub leaf : ℕ → ℕ → Leaf
leaf low version = record { low = low; version = version }

pub paired_append : (xs us ys vs : List ℕ) → length xs ≡ length us → paired (xs ++ ys) (us ++ vs) ≡ paired xs us ++ paired ys vs
unfolding paired
paired_append [] [] ys vs e = refl
paired_append [] (u ∷ us) ys vs e = absurd (omega arith)
paired_append (x ∷ xs) [] ys vs e = absurd (omega arith)
paired_append (x ∷ xs) (u ∷ us) ys vs e = ap (λ (ls : List Leaf). leaf x u ∷ ls) (paired_append xs us ys vs (omega arith))

pub paired_take : (n : ℕ) (xs us : List ℕ) → take n (paired xs us) ≡ paired (take n xs) (take n us)
unfolding paired
paired_take zero xs us = refl
paired_take (suc n) [] us = refl
paired_take (suc n) (x ∷ xs) [] = refl
paired_take (suc n) (x ∷ xs) (u ∷ us) = ap (λ (ls : List Leaf). leaf x u ∷ ls) (paired_take n xs us)

paired_nil : (xs : List ℕ) → paired xs [] ≡ []
unfolding paired
paired_nil [] = refl
paired_nil (x ∷ xs) = refl

pub paired_drop : (n : ℕ) (xs us : List ℕ) → drop n (paired xs us) ≡ paired (drop n xs) (drop n us)
unfolding paired
paired_drop zero xs us = refl
paired_drop (suc n) [] us = refl
paired_drop (suc n) (x ∷ xs) [] = sym (paired_nil (drop n xs))
paired_drop (suc n) (x ∷ xs) (u ∷ us) = paired_drop n xs us

pub paired_length : (xs us : List ℕ) → length xs ≡ length us → length (paired xs us) ≡ length xs
unfolding paired
paired_length [] us e = refl
paired_length (x ∷ xs) [] e = absurd (omega arith)
paired_length (x ∷ xs) (u ∷ us) e = ap suc (paired_length xs us (omega arith))

pub paired_get_or : (xs us : List ℕ) (i : ℕ) → length xs ≡ length us → i < length xs → get_or (paired xs us) i first_leaf ≡ leaf (get_or xs i 0) (get_or us i 0)
unfolding paired
paired_get_or [] us i e h = absurd (not-suc-le-zero h)
paired_get_or (x ∷ xs) [] i e h = absurd (omega arith)
paired_get_or (x ∷ xs) (u ∷ us) zero e h = refl
paired_get_or (x ∷ xs) (u ∷ us) (suc i) e h = paired_get_or xs us i (omega arith) (omega arith)

pub paired_lows : (xs us : List ℕ) → length xs ≡ length us → map (λ (l : Leaf). l.low) (paired xs us) ≡ xs
unfolding paired
paired_lows [] [] e = refl
paired_lows [] (u ∷ us) e = absurd (omega arith)
paired_lows (x ∷ xs) [] e = absurd (omega arith)
paired_lows (x ∷ xs) (u ∷ us) e = ap (λ (ls : List ℕ). x ∷ ls) (paired_lows xs us (omega arith))

-- ---- the leaf of an address

lows_in : List Leaf → List ℕ
lows_in ls = map (λ (l : Leaf). l.low) ls

-- the parts around the leaf of an address are those around its place
pub record Parted (a : ℕ) (ls : List Leaf) (p : ℕ) : Type 0 where
  pub before : (around a ls).before ≡ take p ls
  pub own : (around a ls).own ≡ get_or ls p first_leaf
  pub after : (around a ls).after ≡ drop (suc p) ls

record FromParted (a : ℕ) (l : Leaf) (ls : List Leaf) (p : ℕ) : Type 0 where
  before : (around_from a l ls).before ≡ take p (l ∷ ls)
  own : (around_from a l ls).own ≡ get_or (l ∷ ls) p first_leaf
  after : (around_from a l ls).after ≡ drop (suc p) (l ∷ ls)

from_parted : (a : ℕ) (l : Leaf) (ls : List Leaf) → FromParted a l ls (up_to a (lows_in ls))
unfolding around_from up_to lows_in
from_parted a l [] = record { before = refl; own = refl; after = refl }
from_parted a l (m ∷ ms) =
    ⊎_elim
    (λ e. record { before = rw e; own = rw e; after = rw e })
    (λ e.
    let r : FromParted a m ms (up_to a (lows_in ms)) = from_parted a m ms in
    record { before = rw e (ap (λ (zs : List Leaf). l ∷ zs) r.before); own = rw e r.own; after = rw e r.after })
    (cases (less a m.low))

pub parted : (a : ℕ) (ls : List Leaf) (p : ℕ) → 1 ≤ length ls → p ≡ low_place a (map (λ (l : Leaf). l.low) ls) → Parted a ls p
unfolding around low_place lows_in
parted a [] p h e = absurd (not-suc-le-zero h)
parted a (l ∷ ls) p h e =
    let r : FromParted a l ls (up_to a (lows_in ls)) = from_parted a l ls in
    record {
      before = r.before ∙ ap (λ (i : ℕ). take i (l ∷ ls)) (sym e);
      own = r.own ∙ ap (λ (i : ℕ). get_or (l ∷ ls) i first_leaf) (sym e);
      after = r.after ∙ ap (λ (i : ℕ). drop (suc i) (l ∷ ls)) (sym e);
    }

pub parted_leaf : (a : ℕ) (ls : List Leaf) (p : ℕ) → Parted a ls p → get_or ls p first_leaf ≡ leaf_of ls a
parted_leaf a ls p r = sym r.own ∙ around_own a ls
