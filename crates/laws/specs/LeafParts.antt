-- Leaves in parts: rising lows, versions that differ, and which part of a list holds the leaf of an address.
use Rattle.std.specs.Prelude.{ℕ, suc, ◌<◌, ◌≤◌, ◌≡◌, refl, ◌⊎◌, true, false, List, [], ◌∷◌, ◌++◌}
use Rattle.std.proofs.Common.{le_refl, le_trans, arith, sym, ap, ◌∙◌, inl, inr, ⊎_elim, append-nil}
use Rattle.lists.specs.Tests.{pick, same, less}
use Rattle.lists.specs.TestLaws.{cases, clash, same_true, same_yes, less_true, less_false, less_yes, less_no}
use Rattle.lists.specs.Rows.{any}
use Rattle.spec.specs.Leaves.{Leaf, leaf_from, leaf_of, live}

-- ---- lows

-- lows rise strictly, from lo on
unfoldable pub LowsFrom : ℕ → List Leaf → Type 0
LowsFrom lo [] = Unit {0}
LowsFrom lo (l ∷ ls) = (lo ≤ l.low) × LowsFrom (suc l.low) ls

-- the first low is 0, so every address lies in a leaf
unfoldable pub Covers : List Leaf → Type 0
Covers [] = ⊥
Covers (l ∷ ls) = l.low ≡ 0

-- no leaf of the list starts at k or before
unfoldable pub Above : ℕ → List Leaf → Type 0
Above k [] = Unit {0}
Above k (l ∷ ls) = k < l.low

-- the first leaf of the list starts at k or before
unfoldable pub Reached : ℕ → List Leaf → Type 0
Reached k [] = ⊥
Reached k (l ∷ ls) = l.low ≤ k

pub lows_weaken : {lo lo' : ℕ} (ls : List Leaf) → lo' ≤ lo → LowsFrom lo ls → LowsFrom lo' ls
unfolding LowsFrom
lows_weaken [] h f = tt
lows_weaken (l ∷ ls) h f = (le_trans h f.0, f.1)

lows_bound : {lo : ℕ} (xs : List Leaf) (m : Leaf) (ys : List Leaf) → LowsFrom lo (xs ++ (m ∷ ys)) → lo ≤ m.low
unfolding LowsFrom
lows_bound [] m ys f = f.0
lows_bound {lo} (x ∷ xs) m ys f =
    let g : lo ≤ x.low = f.0 in let h : suc x.low ≤ m.low = lows_bound xs m ys f.1 in omega arith

-- what follows a leaf rises from that leaf on
pub lows_right : (lo : ℕ) (xs : List Leaf) (m : Leaf) (ys : List Leaf) → LowsFrom lo (xs ++ (m ∷ ys)) → LowsFrom m.low (m ∷ ys)
unfolding LowsFrom
lows_right lo [] m ys f = (le_refl m.low, f.1)
lows_right lo (x ∷ xs) m ys f = lows_right (suc x.low) xs m ys f.1

-- the part from a leaf on may be exchanged for another that starts at the same low
pub lows_exchange : (lo : ℕ) (xs : List Leaf) (m : Leaf) (ys : List Leaf) (n : Leaf) (zs : List Leaf) → n.low ≡ m.low
    → LowsFrom lo (xs ++ (m ∷ ys)) → LowsFrom n.low (n ∷ zs) → LowsFrom lo (xs ++ (n ∷ zs))
unfolding LowsFrom
lows_exchange lo [] m ys n zs e f g = (let h : lo ≤ m.low = f.0 in omega arith, g.1)
lows_exchange lo (x ∷ xs) m ys n zs e f g = (f.0, lows_exchange (suc x.low) xs m ys n zs e f.1 g)

-- ---- versions

-- no two leaves have the same version
unfoldable pub Apart : List Leaf → Type 0
Apart [] = Unit {0}
Apart (l ∷ ls) = (live ls l.version ≡ false) × Apart ls

pub live_nil : (u : ℕ) → live [] u ≡ false
unfolding live any
live_nil u = refl

pub live_head : (l : Leaf) (ls : List Leaf) (u : ℕ) → l.version ≡ u → live (l ∷ ls) u ≡ true
unfolding live any
live_head l ls u e = rw (same_yes {m = l.version} {n = u} e)

pub live_later : (l : Leaf) (ls : List Leaf) (u : ℕ) → live ls u ≡ true → live (l ∷ ls) u ≡ true
unfolding live any
live_later l ls u e = ⊎_elim (λ s. rw s) (λ s. rw s e) (cases (same l.version u))

pub live_cons : (l : Leaf) (ls : List Leaf) (u : ℕ) → live (l ∷ ls) u ≡ true → (l.version ≡ u) ⊎ (live ls u ≡ true)
unfolding live any
live_cons l ls u e = ⊎_elim (λ s. inl (same_true l.version u s)) (λ s. inr (rw s at e)) (cases (same l.version u))

pub live_left : (xs ys : List Leaf) (u : ℕ) → live xs u ≡ true → live (xs ++ ys) u ≡ true
live_left [] ys u e = clash e (live_nil u)
live_left (x ∷ xs) ys u e =
    ⊎_elim (λ q. live_head x (xs ++ ys) u q) (λ r. live_later x (xs ++ ys) u (live_left xs ys u r)) (live_cons x xs u e)

pub live_right : (xs ys : List Leaf) (u : ℕ) → live ys u ≡ true → live (xs ++ ys) u ≡ true
live_right [] ys u e = e
live_right (x ∷ xs) ys u e = live_later x (xs ++ ys) u (live_right xs ys u e)

pub live_parts : (xs ys : List Leaf) (u : ℕ) → live (xs ++ ys) u ≡ true → (live xs u ≡ true) ⊎ (live ys u ≡ true)
live_parts [] ys u e = inr e
live_parts (x ∷ xs) ys u e =
    ⊎_elim (λ q. inl (live_head x xs u q))
    (λ r. ⊎_elim (λ s. inl (live_later x xs u s)) (λ s. inr s) (live_parts xs ys u r))
    (live_cons x (xs ++ ys) u e)

-- what holds of no live version: a test that would clash
pub not_live : (ls : List Leaf) (u : ℕ) → (live ls u ≡ true → ⊥) → live ls u ≡ false
not_live ls u h = ⊎_elim (λ e. absurd (h e)) (λ e. e) (cases (live ls u))

pub apart_left : (xs ys : List Leaf) → Apart (xs ++ ys) → Apart xs
unfolding Apart
apart_left [] ys f = tt
apart_left (x ∷ xs) ys f =
    (not_live xs x.version (λ e. clash (live_left xs ys x.version e) f.0), apart_left xs ys f.1)

pub apart_right : (xs ys : List Leaf) → Apart (xs ++ ys) → Apart ys
unfolding Apart
apart_right [] ys f = f
apart_right (x ∷ xs) ys f = apart_right xs ys f.1

pub apart_cross : (xs ys : List Leaf) (u : ℕ) → Apart (xs ++ ys) → live xs u ≡ true → live ys u ≡ false
unfolding Apart
apart_cross [] ys u f e = clash e (live_nil u)
apart_cross (x ∷ xs) ys u f e =
    ⊎_elim
    (λ q. not_live ys u (λ s. clash (live_right xs ys u s) (sym (ap (live (xs ++ ys)) q) ∙ f.0)))
    (λ r. apart_cross xs ys u f.1 r)
    (live_cons x xs u e)

pub apart_join : (xs ys : List Leaf) → Apart xs → Apart ys → ((u : ℕ) → live xs u ≡ true → live ys u ≡ false) → Apart (xs ++ ys)
unfolding Apart
apart_join [] ys f g h = g
apart_join (x ∷ xs) ys f g h = (
  not_live (xs ++ ys) x.version (λ e.
      ⊎_elim (λ s. clash s f.0) (λ s. clash s (h x.version (live_head x xs x.version refl))) (live_parts xs ys x.version e)),
  apart_join xs ys f.1 g (λ u e. h u (live_later x xs u e)),
)

-- ---- the leaf of an address

pub leaf_live : (l : Leaf) (ls : List Leaf) (k : ℕ) → live (l ∷ ls) (leaf_from l ls k).version ≡ true
unfolding leaf_from
leaf_live l [] k = live_head l [] l.version refl
leaf_live l (m ∷ ms) k =
    ⊎_elim
    (λ e. rw e (live_head l (m ∷ ms) l.version refl))
    (λ e. rw e (live_later l (m ∷ ms) (leaf_from m ms k).version (leaf_live m ms k)))
    (cases (less k m.low))

from_left : (l : Leaf) (xs : List Leaf) (m : Leaf) (ys : List Leaf) (k : ℕ) → k < m.low → leaf_from l (xs ++ (m ∷ ys)) k ≡ leaf_from l xs k
unfolding leaf_from
from_left l [] m ys k h = rw (less_yes {m = k} {n = m.low} h)
from_left l (x ∷ xs) m ys k h = ap (λ (z : Leaf). pick (less k x.low) l z) (from_left x xs m ys k h)

from_right : (lo : ℕ) (l : Leaf) (xs : List Leaf) (m : Leaf) (ys : List Leaf) (k : ℕ) → m.low ≤ k → LowsFrom lo (xs ++ (m ∷ ys))
    → leaf_from l (xs ++ (m ∷ ys)) k ≡ leaf_from m ys k
unfolding leaf_from LowsFrom
from_right lo l [] m ys k h f = rw (less_no {m = k} {n = m.low} h)
from_right lo l (x ∷ xs) m ys k h f =
    let g : suc x.low ≤ m.low = lows_bound xs m ys f.1 in
    rw (less_no {m = k} {n = x.low} (omega arith)) (from_right (suc x.low) x xs m ys k h f.1)

-- an address before the low of m has its leaf before m
pub leaf_below : (xs : List Leaf) (m : Leaf) (ys : List Leaf) (k : ℕ) → Covers (xs ++ (m ∷ ys)) → k < m.low
    → (leaf_of (xs ++ (m ∷ ys)) k ≡ leaf_of xs k) × (live xs (leaf_of xs k).version ≡ true)
unfolding leaf_of Covers
leaf_below [] m ys k c h = absurd (let e : m.low ≡ 0 = c in omega arith)
leaf_below (x ∷ xs) m ys k c h = (from_left x xs m ys k h, leaf_live x xs k)

-- one from the low of m on has it among m and the leaves after it
pub leaf_from_lem : (xs : List Leaf) (m : Leaf) (ys : List Leaf) (k : ℕ) → LowsFrom 0 (xs ++ (m ∷ ys)) → m.low ≤ k
    → leaf_of (xs ++ (m ∷ ys)) k ≡ leaf_from m ys k
unfolding leaf_of LowsFrom
leaf_from_lem [] m ys k f h = refl
leaf_from_lem (x ∷ xs) m ys k f h = from_right (suc x.low) x xs m ys k h f.1

-- and, if no leaf of a rest starts at it or before, outside of that rest
pub leaf_inside : (l : Leaf) (xs ys : List Leaf) (k : ℕ) → Above k ys → leaf_from l (xs ++ ys) k ≡ leaf_from l xs k
unfolding Above
leaf_inside l xs [] k h = ap (λ (zs : List Leaf). leaf_from l zs k) (append-nil xs)
leaf_inside l xs (m ∷ ys) k h = from_left l xs m ys k h

-- where an address lies: before a low, from it on but before a rest of the leaves, or in that rest
pub data Side (low : ℕ) (rest : List Leaf) (k : ℕ) : Type 0 where
  below : k < low → Side low rest k
  inside : low ≤ k → Above k rest → Side low rest k
  beyond : Reached k rest → Side low rest k

pub side : (low : ℕ) (rest : List Leaf) (k : ℕ) → low ≤ k → (Above k rest) ⊎ (Reached k rest)
unfolding Above Reached
side low [] k h = inl tt
side low (m ∷ ms) k h = ⊎_elim (λ e. inl (less_true k m.low e)) (λ e. inr (less_false k m.low e)) (cases (less k m.low))

pub side_of : (low : ℕ) (rest : List Leaf) (k : ℕ) → Side low rest k
side_of low rest k =
    ⊎_elim
    (λ e. below (less_true k low e))
    (λ e. ⊎_elim (λ a. inside (less_false k low e) a) (λ r. beyond r) (side low rest k (less_false k low e)))
    (cases (less k low))

-- an address that the rest reaches has its leaf there
pub leaf_beyond : (xs : List Leaf) (m : Leaf) (mid rest : List Leaf) (k : ℕ) → LowsFrom 0 (xs ++ (m ∷ (mid ++ rest))) → Reached k rest
    → (leaf_of (xs ++ (m ∷ (mid ++ rest))) k ≡ leaf_of rest k) × (live rest (leaf_of rest k).version ≡ true)
unfolding leaf_of LowsFrom Reached
leaf_beyond xs m mid [] k f r = absurd r
leaf_beyond xs m mid (p ∷ ps) k f r =
    let g : LowsFrom m.low (m ∷ (mid ++ (p ∷ ps))) = lows_right 0 xs m (mid ++ (p ∷ ps)) f in
    let h : suc m.low ≤ p.low = lows_bound mid p ps g.1 in
    (leaf_from_lem xs m (mid ++ (p ∷ ps)) k f (omega arith) ∙ from_right (suc m.low) m mid p ps k r g.1, leaf_live p ps k)
