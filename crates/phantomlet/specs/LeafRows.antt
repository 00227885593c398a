-- The records of a leaf stand in a row: from the place of its low on, up to the place of the next low.
use Rattle.std.specs.Prelude.{◌≡◌, ℕ, zero, suc, ◌+◌, ◌-◌, ◌<◌, ◌≤◌, Bool, true, false, List, [], ◌∷◌, length, get_or, take, drop, slice_index, slice_index_or, slice_range}
use Rattle.std.proofs.Common.{zero-le, not-suc-le-zero, sym, ap, ◌∙◌, subst, length-drop, length-take-le, take-take}
use native.Mathlib.Omega.{arith}
use Rattle.std.proofs.Math.Logic.{⊎_elim}
use Rattle.std.proofs.Math.Seq.{take-nil, drop-nil, get_or-take, get_or-drop}
use Rattle.lists.specs.Tests.{pick, less}
use Rattle.lists.specs.TestLaws.{cases, less_true, less_false, same_yes, same_no}
use Rattle.lists.specs.Rows.{Row, keys, filter, Rising}
use Rattle.lists.specs.Ascending.{Ascends, ascends_at, ascends_drop}
use Rattle.lists.specs.Places.{place, place_most, place_below, place_above}
use Rattle.lists.specs.Shifts.{drop_take}
use Rattle.spec.specs.Widths.{addresses}
use Rattle.spec.specs.Records.{Record}
use Rattle.index.specs.Views.{leaf_places, RecordRows, no_row, rows_of, records_of, keys_between, RecordsSorted}
use Rattle.index.specs.RecordPlaces.{AtPlace}
use Rattle.index.specs.ViewLaws.{length_records}
use Rattle.index.specs.LeafPlaces.{low_place, place_inside, leaf_below, leaf_above, Listed}
use Rattle.phantomlet.specs.LeafTests.{placed}

-- elements that pass a test and stand in a row
filter_run : {A : Type 0} (p : A → Bool) (xs : List A) (i j : ℕ) (d : A) → i ≤ j → j ≤ length xs
    → ((y : ℕ) → y < i → p (slice_index_or xs y d) ≡ false)
    → ((y : ℕ) → i ≤ y → y < j → p (slice_index_or xs y d) ≡ true)
    → ((y : ℕ) → j ≤ y → y < length xs → p (slice_index_or xs y d) ≡ false)
    → filter p xs ≡ slice_range xs i j
unfolding filter
filter_run p [] i j d h l a b c = sym (ap (take (j - i)) (drop-nil i) ∙ take-nil (j - i))
filter_run p (x ∷ xs) zero zero d h l a b c =
    let ih : filter p xs ≡ take (0 - 0) (drop 0 xs) = filter_run p xs zero zero d h zero-le (λ y z. absurd (not-suc-le-zero z)) (λ y z w. absurd (not-suc-le-zero w)) (λ y z w. c (suc y) zero-le (omega arith)) in
    ap (λ (t : Bool). pick t (x ∷ filter p xs) (filter p xs)) (c 0 zero-le (omega arith)) ∙ ih
filter_run p (x ∷ xs) zero (suc j) d h l a b c =
    let ih : filter p xs ≡ take (j - 0) (drop 0 xs) = filter_run p xs zero j d zero-le (omega arith) (λ y z. absurd (not-suc-le-zero z)) (λ y z w. b (suc y) zero-le (omega arith)) (λ y z w. c (suc y) (omega arith) (omega arith)) in
    let e : j - 0 ≡ j = omega arith in
    let f : suc j ≡ suc j - 0 = omega arith in
    ap (λ (t : Bool). pick t (x ∷ filter p xs) (filter p xs)) (b 0 zero-le (omega arith))
    ∙ ap (λ (ys : List _). x ∷ ys) (ih ∙ ap (λ (n : ℕ). take n xs) e)
    ∙ ap (λ (n : ℕ). take n (x ∷ xs)) f
filter_run p (x ∷ xs) (suc i) zero d h l a b c = absurd (not-suc-le-zero h)
filter_run p (x ∷ xs) (suc i) (suc j) d h l a b c =
    let ih : filter p xs ≡ take (j - i) (drop i xs) = filter_run p xs i j d (omega arith) (omega arith) (λ y z. a (suc y) (omega arith)) (λ y z w. b (suc y) (omega arith) (omega arith)) (λ y z w. c (suc y) (omega arith) (omega arith)) in
    let e : j - i ≡ suc j - suc i = omega arith in
    ap (λ (t : Bool). pick t (x ∷ filter p xs) (filter p xs)) (a 0 (omega arith)) ∙ ih ∙ ap (λ (n : ℕ). take n (drop i xs)) e

-- ---- keys and places

before_place : (k : ℕ) (rs : List (Row Record)) (y : ℕ) → y < place k rs → (get_or rs y no_row).key < k
before_place k rs y h =
    let m : place k rs ≤ length rs = place_most k rs in
    ⊎_elim
    (λ t. less_true (get_or rs y no_row).key k t)
    (λ f. absurd (let z : place k rs ≤ y = place_above k rs y no_row (omega arith) (less_false (get_or rs y no_row).key k f) in let q : ⊥ = omega arith in q))
    (cases (less (get_or rs y no_row).key k))

from_place : (k : ℕ) (rs : List (Row Record)) (y : ℕ) → Rising rs → place k rs ≤ y → y < length rs → k ≤ (get_or rs y no_row).key
unfolding Rising
from_place k rs y r h l =
    ⊎_elim
    (λ t. absurd (let z : y < place k rs = place_below k 0 rs y no_row r l (less_true (get_or rs y no_row).key k t) in let q : ⊥ = omega arith in q))
    (λ f. less_false (get_or rs y no_row).key k f)
    (cases (less (get_or rs y no_row).key k))

-- ---- an address and the low at place i

module _ (lows : List ℕ) (m : ℕ) (listed : Listed lows m) (al : length lows ≡ leaf_places) where
  few : length (take m lows) ≡ m
  few = length-take-le m lows (let r : m ≤ leaf_places = listed.room in omega arith)

  pub low_from : (i k : ℕ) → i < m → slice_index lows i ≤ k → i ≤ low_place k (take m lows)
  low_from i k h l = leaf_below k 0 (take m lows) i listed.rising (rw few h) (rw (get_or-take m lows i 0 h) l)

  pub low_before : (i k : ℕ) → 0 < i → i < m → k < slice_index lows i → low_place k (take m lows) < i
  low_before i k p h l = leaf_above k (take m lows) i p (rw few h) (rw (get_or-take m lows i 0 h) l)

  -- no address lies below the first low
  pub low_below : (i k : ℕ) → slice_index lows 0 ≡ 0 → i < m → k < slice_index lows i → low_place k (take m lows) < i
  low_below i k z h l =
      ⊎_elim
      (λ t. low_before i k (less_true 0 i t) h l)
      (λ f. let q : i ≡ 0 = (let w : i ≤ 0 = less_false 0 i f in omega arith) in
      let w : get_or lows i 0 ≡ 0 = ap (λ (n : ℕ). slice_index lows n) q ∙ z in absurd (let u : ⊥ = omega arith in u))
      (cases (less 0 i))

  pub low_inside : (k : ℕ) → low_place k (take m lows) < m
  low_inside k =
      let s : 1 ≤ m = listed.some in
      let x : low_place k (take m lows) < length (take m lows) = place_inside k (take m lows) (rw few s) in
      let y : length (take m lows) ≡ m = few in
      omega arith

-- ---- an address and the leaf at place i

module _ (lows : List ℕ) (m i : ℕ) (listed : Listed lows m) (al : length lows ≡ leaf_places) (h : i < m) where
  place_low : (k : ℕ) → slice_index lows 0 ≡ 0 → k < slice_index lows i → placed lows m i k ≡ false
  unfolding placed
  place_low k z l =
      let q : low_place k (take m lows) < i = low_below lows m listed al i k z h l in
      same_no {m = low_place k (take m lows)} {n = i} (λ e. let w : ⊥ = omega arith in w)

  place_high : (k : ℕ) → i + 1 < m → slice_index lows (i + 1) ≤ k → placed lows m i k ≡ false
  unfolding placed
  place_high k n l =
      let q : i + 1 ≤ low_place k (take m lows) = low_from lows m listed al (i + 1) k n l in
      same_no {m = low_place k (take m lows)} {n = i} (λ e. let w : ⊥ = omega arith in w)

  place_here : (k : ℕ) → slice_index lows i ≤ k → (i + 1 < m → k < slice_index lows (i + 1)) → placed lows m i k ≡ true
  unfolding placed
  place_here k l n =
      let q : i ≤ low_place k (take m lows) = low_from lows m listed al i k h l in
      let w : low_place k (take m lows) < i + 1 = ⊎_elim
      (λ t. let u : i + 1 < m = less_true (i + 1) m t in low_before lows m listed al (i + 1) k (omega arith) u (n u))
      (λ f. let u : m ≤ i + 1 = less_false (i + 1) m f in let x : low_place k (take m lows) < m = low_inside lows m listed al k in omega arith)
      (cases (less (i + 1) m)) in
      same_yes {m = low_place k (take m lows)} {n = i} (omega arith)

  lows_rise : i + 1 < m → slice_index lows i < slice_index lows (i + 1)
  unfolding Ascends
  lows_rise n =
      let d : Ascends (slice_index (take m lows) i) (drop i (take m lows)) = ascends_drop 0 (take m lows) i listed.rising (rw (few lows m listed al) h) in
      let a : get_or (take m lows) i 0 + 1 ≤ get_or (drop i (take m lows)) 1 0 = ascends_at (slice_index (take m lows) i) (drop i (take m lows)) 1 d (rw (length-drop i (take m lows)) (rw (few lows m listed al) (omega arith))) in
      let e : get_or (drop i (take m lows)) 1 0 ≡ get_or (take m lows) (i + 1) 0 = get_or-drop i (take m lows) 1 0 in
      let f : get_or (take m lows) i 0 ≡ get_or lows i 0 = get_or-take m lows i 0 h in
      let g : get_or (take m lows) (i + 1) 0 ≡ get_or lows (i + 1) 0 = get_or-take m lows (i + 1) 0 n in
      omega arith

-- ---- the rows of the leaf at place i

-- Lows of m leaves that cover all addresses, each low an address.
pub record Lows (lows : List ℕ) (m : ℕ) : Type 0 where
  pub listed : Listed lows m
  pub first : get_or lows 0 0 ≡ 0
  pub narrow : (i : ℕ) → i < m → slice_index lows i < addresses

-- the records at addresses that pass the test stand in the rows from `from` up to `to`
pub record Spans (p : ℕ → Bool) (ws : RecordRows) (n from to : ℕ) : Type 0 where
  pub from_to : from ≤ to
  pub within : to ≤ n
  pub keys_are : keys_between ws from to ≡ keys (filter (λ (r : Row Record). p r.key) (records_of ws n))

between_part : (ws : RecordRows) (n i j : ℕ) → i ≤ j → j ≤ n → keys_between ws i j ≡ keys (slice_range (records_of ws n) i j)
unfolding keys_between records_of
between_part ws n i j h l =
    ap keys
    (sym (ap (take (j - i)) (drop_take i n (rows_of ws) (omega arith)) ∙ take-take (j - i) (n - i) (drop i (rows_of ws)) (omega arith)))

module _ (lows : List ℕ) (ws : RecordRows) (n m i : ℕ) (listed : Listed lows m) (al : length lows ≡ leaf_places) (h : i < m) (held : RecordsSorted ws n) (first : get_or lows 0 0 ≡ 0) where
  size : length (records_of ws n) ≡ n
  size = length_records ws n held.room

  spans : (from to : ℕ) → from ≤ to → to ≤ n → from ≡ place (slice_index lows i) (records_of ws n)
      → ((y : ℕ) → y < to → i + 1 < m → (get_or (records_of ws n) y no_row).key < slice_index lows (i + 1))
      → ((y : ℕ) → to ≤ y → y < n → placed lows m i (get_or (records_of ws n) y no_row).key ≡ false)
      → Spans (placed lows m i) ws n from to
  spans from to o w f a b =
      record {
        from_to = o;
        within = w;
        keys_are =
            between_part ws n from to o w
            ∙ ap keys (sym (filter_run (λ (r : Row Record). placed lows m i r.key) (records_of ws n) from to no_row o (rw size w)
            (λ y l. place_low lows m i listed al h (get_or (records_of ws n) y no_row).key first (before_place (slice_index lows i) (records_of ws n) y (omega arith)))
            (λ y l u. place_here lows m i listed al h (get_or (records_of ws n) y no_row).key
            (from_place (slice_index lows i) (records_of ws n) y held.rising (omega arith) (rw size (omega arith))) (a y u))
            (λ y l u. b y l (subst (λ (x : ℕ). y < x) size u))));
      }

  -- up to the next leaf
  pub spans_next : (from to : ℕ) → i + 1 < m → AtPlace ws n (slice_index lows i) from → AtPlace ws n (slice_index lows (i + 1)) to → Spans (placed lows m i) ws n from to
  spans_next from to u f t =
      let z : to ≡ place (slice_index lows (i + 1)) (records_of ws n) = t.is in
      let y : from ≡ place (slice_index lows i) (records_of ws n) = f.is in
      let w : from ≤ n = f.within in
      let s : length (records_of ws n) ≡ n = size in
      spans from to
      (⊎_elim
      (λ b. let c : to < from = less_true to from b in
      let d : get_or lows (i + 1) 0 ≤ (get_or (records_of ws n) to no_row).key = from_place (slice_index lows (i + 1)) (records_of ws n) to held.rising (omega arith) (omega arith) in
      let e : (get_or (records_of ws n) to no_row).key < get_or lows i 0 = before_place (slice_index lows i) (records_of ws n) to (omega arith) in
      let g : get_or lows i 0 < get_or lows (i + 1) 0 = lows_rise lows m i listed al h u in
      absurd (let q : ⊥ = omega arith in q))
      (λ b. less_false to from b)
      (cases (less to from)))
      t.within f.is
      (λ y l v. before_place (slice_index lows (i + 1)) (records_of ws n) y (omega arith))
      (λ y l v. place_high lows m i listed al h (get_or (records_of ws n) y no_row).key u
      (from_place (slice_index lows (i + 1)) (records_of ws n) y held.rising (omega arith) (omega arith)))

  -- of the last leaf
  pub spans_last : (from : ℕ) → m ≤ i + 1 → AtPlace ws n (slice_index lows i) from → Spans (placed lows m i) ws n from n
  spans_last from u f =
      spans from n f.within (let w : from ≤ n = f.within in let z : n ≤ n = omega arith in z) f.is
      (λ y l v. absurd (let q : ⊥ = omega arith in q)) (λ y l v. absurd (let q : ⊥ = omega arith in q))
