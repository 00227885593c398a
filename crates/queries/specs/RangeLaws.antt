-- The rows with keys in a range stand side by side, between two places; so do the leaves that meet a range.
use Prim.Native.Nat.{ℕ, zero, suc, ◌+◌, ◌-◌, ◌<◌, ◌≤◌, zero-le, suc-le-suc}
use Rattle.std.proofs.Math.Nat.{le_refl}
use Rattle.std.proofs.Common.{le_trans, arith, sym, ap, ◌∙◌, drop-cons}
use Rattle.std.specs.Prelude.{◌≡◌, length, drop, get_or}
use Rattle.std.proofs.Math.Path.{refl}
use Rattle.std.proofs.Math.Logic.{⊎_elim}
use mathlib.Core.List.{List, [], ◌∷◌, map}
use Rattle.std.proofs.Math.ListN.{take}
use Rattle.lists.specs.Tests.{pick, present, same, less, within}
use Rattle.lists.specs.TestLaws.{cases, same_true, same_false, less_true, less_false, less_yes, less_no, at_most_yes, at_most_no}
use Rattle.lists.specs.Rows.{Row, look, between, From, filter}
use Rattle.lists.specs.RowLaws.{look_here, look_there, look_low}
use Rattle.lists.specs.Places.{place}
use Rattle.spec.specs.Leaves.{Leaf, starts_in}
use Rattle.laws.specs.LeafParts.{LowsFrom}
use Rattle.index.specs.LeafPlaces.{up_to}
use Rattle.queries.specs.QueryViews.{walk}

-- ---- a walk over a list

pub walk_map : {A B : Type 0} (g : A → B) (xs : List A) (d : A) (i n : ℕ) → i + n ≤ length xs
    → walk (λ (j : ℕ). g (get_or xs j d)) i n ≡ map g (take n (drop i xs))
unfolding walk
walk_map g xs d i zero h = refl
walk_map {A} {B} g xs d i (suc n) h =
    ap (λ (ys : List B). g (get_or xs i d) ∷ ys) (walk_map g xs d (suc i) n (omega arith))
    ∙ sym (ap (λ (ys : List A). map g (take (suc n) ys)) (drop-cons xs i d (omega arith)))

-- one part of a list, its start and its end given as sums
part : {A : Type 0} (x : A) (xs : List A) (p q : ℕ) → take (suc q - suc p) (drop (suc p) (x ∷ xs)) ≡ take (q - p) (drop p xs)
part x xs p q = ap (λ (n : ℕ). take n (drop p xs)) (let e : suc q - suc p ≡ q - p = omega arith in e)

start : {A : Type 0} (xs : List A) (n : ℕ) → take (n - 0) (drop 0 xs) ≡ take n xs
start xs n = ap (λ (i : ℕ). take i xs) (let e : n - 0 ≡ n = omega arith in e)

-- ---- records

module _ {A : Type 0} where
  place_before : (k : ℕ) (r : Row A) (rs : List (Row A)) → r.key < k → place k (r ∷ rs) ≡ suc (place k rs)
  unfolding place
  place_before k r rs h = rw (less_yes {m = r.key} {n = k} h)

  place_here : (k : ℕ) (r : Row A) (rs : List (Row A)) → k ≤ r.key → place k (r ∷ rs) ≡ 0
  unfolding place
  place_here k r rs h = rw (less_no {m = r.key} {n = k} h)

  -- no key stands before a bound of all keys
  place_low : (k lo : ℕ) (rs : List (Row A)) → From lo rs → k ≤ lo → place k rs ≡ 0
  unfolding From
  place_low k lo [] f h = unfold place in refl
  place_low k lo (r ∷ rs) f h = place_here k r rs (le_trans h f.0)

  pub place_mono : (j k : ℕ) (rs : List (Row A)) → j ≤ k → place j rs ≤ place k rs
  unfolding place
  place_mono j k [] h = le_refl 0
  place_mono j k (r ∷ rs) h =
      ⊎_elim
      (λ e. let l : r.key < j = less_true r.key j e in
      rw (e, less_yes {m = r.key} {n = k} (le_trans l h)) (suc-le-suc (place_mono j k rs h)))
      (λ e. rw e zero-le)
      (cases (less r.key j))

  -- the place after a key is its place, or one more if a row has the key
  pub place_next : (k lo : ℕ) (rs : List (Row A)) → From lo rs → place (suc k) rs ≡ place k rs + pick (present (look rs k)) 1 0
  unfolding From
  place_next k lo [] f = unfold place look in refl
  place_next k lo (r ∷ rs) f =
      ⊎_elim
      (λ e. let l : r.key < k = less_true r.key k e in
      rw (place_before k r rs l, place_before (suc k) r rs (omega arith), look_there r rs k (λ q. omega arith))
      (let ih : place (suc k) rs ≡ place k rs + pick (present (look rs k)) 1 0 = place_next k (suc r.key) rs f.1 in omega arith))
      (λ e. let l : k ≤ r.key = less_false r.key k e in
      ⊎_elim
      (λ q. let s : r.key ≡ k = same_true r.key k q in
      rw (place_here k r rs l, place_before (suc k) r rs (omega arith), look_here r rs k s)
      (let z : place (suc k) rs ≡ 0 = place_low (suc k) (suc r.key) rs f.1 (omega arith) in omega arith))
      (λ q. let s : r.key ≡ k → ⊥ = same_false r.key k q in
      rw (place_here k r rs l, place_here (suc k) r rs (omega arith), look_there r rs k s, look_low rs {lo = suc r.key} k (omega arith) f.1))
      (cases (same r.key k)))
      (cases (less r.key k))

  between_in : (lo hi : ℕ) (r : Row A) (rs : List (Row A)) → lo ≤ r.key → r.key ≤ hi → between lo hi (r ∷ rs) ≡ r ∷ between lo hi rs
  unfolding between within
  between_in lo hi r rs h l = rw (at_most_yes {m = lo} {n = r.key} h, at_most_yes {m = r.key} {n = hi} l)

  between_before : (lo hi : ℕ) (r : Row A) (rs : List (Row A)) → r.key < lo → between lo hi (r ∷ rs) ≡ between lo hi rs
  unfolding between within
  between_before lo hi r rs h = rw (at_most_no {m = lo} {n = r.key} h)

  between_after : (lo hi : ℕ) (r : Row A) (rs : List (Row A)) → lo ≤ r.key → hi < r.key → between lo hi (r ∷ rs) ≡ between lo hi rs
  unfolding between within
  between_after lo hi r rs h l = rw (at_most_yes {m = lo} {n = r.key} h, at_most_no {m = r.key} {n = hi} l)

  -- the rows from lo to hi
  pub between_places : (lo hi b : ℕ) (rs : List (Row A)) → From b rs → lo ≤ suc hi
      → take (place (suc hi) rs - place lo rs) (drop (place lo rs) rs) ≡ between lo hi rs
  unfolding From
  between_places lo hi b [] f h = unfold place between in refl
  between_places lo hi b (r ∷ rs) f h =
      let ih : take (place (suc hi) rs - place lo rs) (drop (place lo rs) rs) ≡ between lo hi rs = between_places lo hi (suc r.key) rs f.1 h in
      ⊎_elim (λ e. before ih (less_true r.key lo e))
      (λ e. ⊎_elim (λ q. inside ih (less_false r.key lo e) (less_true r.key (suc hi) q))
      (λ q. after ih (less_false r.key lo e) (less_false r.key (suc hi) q))
      (cases (less r.key (suc hi))))
      (cases (less r.key lo))
    where
      low : (k : ℕ) → k ≤ suc r.key → place k rs ≡ 0
      low k l = place_low k (suc r.key) rs f.1 l

      before : take (place (suc hi) rs - place lo rs) (drop (place lo rs) rs) ≡ between lo hi rs → r.key < lo
          → take (place (suc hi) (r ∷ rs) - place lo (r ∷ rs)) (drop (place lo (r ∷ rs)) (r ∷ rs)) ≡ between lo hi (r ∷ rs)
      before ih l =
          rw (place_before lo r rs l, place_before (suc hi) r rs (omega arith), between_before lo hi r rs l)
          (part r rs (place lo rs) (place (suc hi) rs) ∙ ih)

      inside : take (place (suc hi) rs - place lo rs) (drop (place lo rs) rs) ≡ between lo hi rs → lo ≤ r.key → r.key < suc hi
          → take (place (suc hi) (r ∷ rs) - place lo (r ∷ rs)) (drop (place lo (r ∷ rs)) (r ∷ rs)) ≡ between lo hi (r ∷ rs)
      inside ih l g =
          rw (place_here lo r rs l, place_before (suc hi) r rs g, between_in lo hi r rs l (omega arith))
          (start (r ∷ rs) (suc (place (suc hi) rs))
          ∙ ap (λ (zs : List (Row A)). r ∷ zs)
          (sym (start rs (place (suc hi) rs))
          ∙ ap (λ (p : ℕ). take (place (suc hi) rs - p) (drop p rs)) (sym (low lo (omega arith))) ∙ ih))

      after : take (place (suc hi) rs - place lo rs) (drop (place lo rs) rs) ≡ between lo hi rs → lo ≤ r.key → suc hi ≤ r.key
          → take (place (suc hi) (r ∷ rs) - place lo (r ∷ rs)) (drop (place lo (r ∷ rs)) (r ∷ rs)) ≡ between lo hi (r ∷ rs)
      after ih l g =
          rw (place_here lo r rs l, place_here (suc hi) r rs g, between_after lo hi r rs l (omega arith))
          (ap (λ (p : ℕ). take (p - 0) (drop 0 rs)) (sym (low (suc hi) (omega arith)))
          ∙ ap (λ (p : ℕ). take (place (suc hi) rs - p) (drop p rs)) (sym (low lo (omega arith))) ∙ ih)

-- ---- leaves

abbrev pub leaf_lows : List Leaf → List ℕ
leaf_lows ls = map (λ (l : Leaf). l.low) ls

up_past : (a l : ℕ) (ls : List ℕ) → l ≤ a → up_to a (l ∷ ls) ≡ suc (up_to a ls)
unfolding up_to
up_past a l ls h = rw (less_no {m = a} {n = l} h)

up_stop : (a l : ℕ) (ls : List ℕ) → a < l → up_to a (l ∷ ls) ≡ 0
unfolding up_to
up_stop a l ls h = rw (less_yes {m = a} {n = l} h)

up_low : (a b : ℕ) (ls : List Leaf) → LowsFrom b ls → a < b → up_to a (leaf_lows ls) ≡ 0
unfolding LowsFrom
up_low a b [] f h = unfold up_to in refl
up_low a b (l ∷ ls) f h = up_stop a l.low (leaf_lows ls) (le_trans h f.0)

pub up_mono : (a b : ℕ) (ls : List ℕ) → a ≤ b → up_to a ls ≤ up_to b ls
unfolding up_to
up_mono a b [] h = le_refl 0
up_mono a b (l ∷ ls) h =
    ⊎_elim
    (λ e. rw e zero-le)
    (λ e. let q : l ≤ a = less_false a l e in rw (e, less_no {m = b} {n = l} (le_trans q h)) (suc-le-suc (up_mono a b ls h)))
    (cases (less a l))

starts_yes : (lo hi : ℕ) (l : Leaf) (ls : List Leaf) → lo < l.low → l.low ≤ hi → filter (starts_in lo hi) (l ∷ ls) ≡ l ∷ filter (starts_in lo hi) ls
unfolding filter starts_in
starts_yes lo hi l ls h g = rw (less_yes {m = lo} {n = l.low} h, at_most_yes {m = l.low} {n = hi} g)

pub starts_before : (lo hi : ℕ) (l : Leaf) (ls : List Leaf) → l.low ≤ lo → filter (starts_in lo hi) (l ∷ ls) ≡ filter (starts_in lo hi) ls
unfolding filter starts_in
starts_before lo hi l ls h = rw (less_no {m = lo} {n = l.low} h)

starts_after : (lo hi : ℕ) (l : Leaf) (ls : List Leaf) → lo < l.low → hi < l.low → filter (starts_in lo hi) (l ∷ ls) ≡ filter (starts_in lo hi) ls
unfolding filter starts_in
starts_after lo hi l ls h g = rw (less_yes {m = lo} {n = l.low} h, at_most_no {m = l.low} {n = hi} g)

-- the leaves that start above lo and not above hi
pub starts_places : (lo hi b : ℕ) (ls : List Leaf) → LowsFrom b ls → lo ≤ hi
    → filter (starts_in lo hi) ls ≡ take (up_to hi (leaf_lows ls) - up_to lo (leaf_lows ls)) (drop (up_to lo (leaf_lows ls)) ls)
unfolding LowsFrom
starts_places lo hi b [] f h = unfold filter up_to in refl
starts_places lo hi b (l ∷ ls) f h =
    let ih : filter (starts_in lo hi) ls ≡ take (up_to hi (leaf_lows ls) - up_to lo (leaf_lows ls)) (drop (up_to lo (leaf_lows ls)) ls)
    = starts_places lo hi (suc l.low) ls f.1 h in
    ⊎_elim
    (λ e. ⊎_elim (λ q. after ih (less_true lo l.low e) (less_true hi l.low q))
    (λ q. inside ih (less_true lo l.low e) (less_false hi l.low q))
    (cases (less hi l.low)))
    (λ e. before ih (less_false lo l.low e))
    (cases (less lo l.low))
  where
    low : (a : ℕ) → a < suc l.low → up_to a (leaf_lows ls) ≡ 0
    low a g = up_low a (suc l.low) ls f.1 g

    before : filter (starts_in lo hi) ls ≡ take (up_to hi (leaf_lows ls) - up_to lo (leaf_lows ls)) (drop (up_to lo (leaf_lows ls)) ls) → l.low ≤ lo
        → filter (starts_in lo hi) (l ∷ ls) ≡ take (up_to hi (leaf_lows (l ∷ ls)) - up_to lo (leaf_lows (l ∷ ls))) (drop (up_to lo (leaf_lows (l ∷ ls))) (l ∷ ls))
    before ih g =
        rw (up_past lo l.low (leaf_lows ls) g, up_past hi l.low (leaf_lows ls) (omega arith))
        (starts_before lo hi l ls g ∙ ih ∙ sym (part l ls (up_to lo (leaf_lows ls)) (up_to hi (leaf_lows ls))))

    inside : filter (starts_in lo hi) ls ≡ take (up_to hi (leaf_lows ls) - up_to lo (leaf_lows ls)) (drop (up_to lo (leaf_lows ls)) ls) → lo < l.low → l.low ≤ hi
        → filter (starts_in lo hi) (l ∷ ls) ≡ take (up_to hi (leaf_lows (l ∷ ls)) - up_to lo (leaf_lows (l ∷ ls))) (drop (up_to lo (leaf_lows (l ∷ ls))) (l ∷ ls))
    inside ih g k =
        rw (up_stop lo l.low (leaf_lows ls) g, up_past hi l.low (leaf_lows ls) k)
        (starts_yes lo hi l ls g k
        ∙ ap (λ (zs : List Leaf). l ∷ zs)
        (ih ∙ ap (λ (p : ℕ). take (up_to hi (leaf_lows ls) - p) (drop p ls)) (low lo (omega arith)) ∙ start ls (up_to hi (leaf_lows ls)))
        ∙ sym (start (l ∷ ls) (suc (up_to hi (leaf_lows ls)))))

    after : filter (starts_in lo hi) ls ≡ take (up_to hi (leaf_lows ls) - up_to lo (leaf_lows ls)) (drop (up_to lo (leaf_lows ls)) ls) → lo < l.low → hi < l.low
        → filter (starts_in lo hi) (l ∷ ls) ≡ take (up_to hi (leaf_lows (l ∷ ls)) - up_to lo (leaf_lows (l ∷ ls))) (drop (up_to lo (leaf_lows (l ∷ ls))) (l ∷ ls))
    after ih g k =
        rw (up_stop lo l.low (leaf_lows ls) g, up_stop hi l.low (leaf_lows ls) k)
        (starts_after lo hi l ls g k ∙ ih
        ∙ ap (λ (p : ℕ). take (up_to hi (leaf_lows ls) - p) (drop p ls)) (low lo (omega arith))
        ∙ ap (λ (q : ℕ). take (q - 0) (drop 0 ls)) (low hi (omega arith)))
