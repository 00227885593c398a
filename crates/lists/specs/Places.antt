-- The place of a key among rising rows, and what look-up, insertion and deletion do there.
use Prim.Native.Nat.{ℕ, zero, suc, ◌<◌, ◌≤◌, zero-le, suc-le-suc}
use Rattle.std.proofs.Math.Nat.{le_refl}
use Rattle.std.proofs.Common.{not-suc-le-zero, sym, ap}
use native.Mathlib.Omega.{arith}
use Rattle.std.specs.Prelude.{◌≡◌, get_or}
use Rattle.std.proofs.Math.Path.{refl}
use Rattle.std.proofs.Math.Logic.{⊎_elim}
use mathlib.Core.List.{List, [], ◌∷◌, ◌++◌}
use Rattle.std.proofs.Math.Option.{none, some}
use Rattle.std.proofs.Math.ListN.{length, take, drop, set}
use Rattle.lists.specs.Tests.{pick, same, less}
use Rattle.lists.specs.TestLaws.{cases, same_true, same_false, same_yes, same_no, less_true, less_false, less_yes, less_no}
use Rattle.lists.specs.Rows.{Row, row, look, insert, delete, From}
use Rattle.lists.specs.RowLaws.{look_low}

module _ {A : Type 0} where
  -- how many rows stand before the first key that is not smaller
  unfoldable pub place : ℕ → List (Row A) → ℕ
  place k [] = 0
  place k (r ∷ rs) = pick (less r.key k) (suc (place k rs)) 0

  place_on : (k : ℕ) (r : Row A) (rs : List (Row A)) → r.key < k → place k (r ∷ rs) ≡ suc (place k rs)
  unfolding place
  place_on k r rs h = rw (less_yes {m = r.key} {n = k} h)

  place_stop : (k : ℕ) (r : Row A) (rs : List (Row A)) → k ≤ r.key → place k (r ∷ rs) ≡ 0
  unfolding place
  place_stop k r rs h = rw (less_no {m = r.key} {n = k} h)

  pub place_most : (k : ℕ) (rs : List (Row A)) → place k rs ≤ length rs
  unfolding place
  place_most k [] = le_refl 0
  place_most k (r ∷ rs) = ⊎_elim (λ e. rw e (suc-le-suc (place_most k rs))) (λ e. rw e zero-le) (cases (less r.key k))

  -- a smaller key stands before the place
  pub place_below : (k lo : ℕ) (rs : List (Row A)) (i : ℕ) (d : Row A) → From lo rs → i < length rs → (get_or rs i d).key < k → i < place k rs
  unfolding From
  place_below k lo [] i d f h l = absurd (not-suc-le-zero h)
  place_below k lo (r ∷ rs) zero d f h l = rw (place_on k r rs l) (omega arith)
  place_below k lo (r ∷ rs) (suc i) d f h l =
      let b : suc r.key ≤ (get_or rs i d).key = from_get_or (suc r.key) rs i d f.1 (omega arith) in
      let j : i < place k rs = place_below k (suc r.key) rs i d f.1 (omega arith) l in
      rw (place_on k r rs (omega arith)) (omega arith)
    where
      from_get_or : (lo : ℕ) (rs : List (Row A)) (i : ℕ) (d : Row A) → From lo rs → i < length rs → lo ≤ (get_or rs i d).key
      from_get_or lo [] i d f h = absurd (not-suc-le-zero h)
      from_get_or lo (r ∷ rs) zero d f h = f.0
      from_get_or lo (r ∷ rs) (suc i) d f h =
          let a : lo ≤ r.key = f.0 in
          let b : suc r.key ≤ (get_or rs i d).key = from_get_or (suc r.key) rs i d f.1 (omega arith) in omega arith

  -- a key that is not smaller does not
  pub place_above : (k : ℕ) (rs : List (Row A)) (i : ℕ) (d : Row A) → i < length rs → k ≤ (get_or rs i d).key → place k rs ≤ i
  unfolding place
  place_above k [] i d h l = absurd (not-suc-le-zero h)
  place_above k (r ∷ rs) zero d h l = rw (less_no {m = r.key} {n = k} l) (le_refl 0)
  place_above k (r ∷ rs) (suc i) d h l =
      ⊎_elim (λ e. rw e (suc-le-suc (place_above k rs i d (omega arith) l))) (λ e. rw e zero-le) (cases (less r.key k))

  -- the key stands at its place
  pub record Present (k : ℕ) (rs : List (Row A)) (d : Row A) : Type 0 where
    pub inside : place k rs < length rs
    pub here : (get_or rs (place k rs) d).key ≡ k

  -- or nowhere
  pub record Absent (k : ℕ) (rs : List (Row A)) (d : Row A) : Type 0 where
    pub elsewhere : place k rs < length rs → (get_or rs (place k rs) d).key ≡ k → ⊥

  -- the three ways in which a key compares with the first row
  data First (k : ℕ) (r : Row A) : Type 0 where
    smaller : r.key < k → First k r
    equal : r.key ≡ k → First k r
    larger : k < r.key → First k r

  first : (k : ℕ) (r : Row A) → First k r
  first k r =
      ⊎_elim (λ e. smaller (less_true r.key k e))
      (λ e. ⊎_elim (λ q. equal (same_true r.key k q))
      (λ q. larger (let g : k ≤ r.key = less_false r.key k e in let n : r.key ≡ k → ⊥ = same_false r.key k q in omega arith))
      (cases (same r.key k)))
      (cases (less r.key k))

  absent_on : {k : ℕ} {r : Row A} {rs : List (Row A)} {d : Row A} → r.key < k → Absent k (r ∷ rs) d → Absent k rs d
  absent_on {k} {r} {rs} {d} h a =
      record {
        elsewhere = λ i q.
            a.elsewhere (rw (place_on k r rs h) (suc-le-suc i)) (rw (place_on k r rs h) q);
      }

  present_on : {k : ℕ} {r : Row A} {rs : List (Row A)} {d : Row A} → r.key < k → Present k (r ∷ rs) d → Present k rs d
  present_on {k} {r} {rs} {d} h p =
      record {
        inside = let i : suc (place k rs) < suc (length rs) = rw (place_on k r rs h) at p.inside in omega arith;
        here = rw (place_on k r rs h) at p.here;
      }

  not_absent : {k : ℕ} {r : Row A} {rs : List (Row A)} {d : Row A} → r.key ≡ k → Absent k (r ∷ rs) d → ⊥
  not_absent {k} {r} {rs} {d} q a =
      a.elsewhere (rw (place_stop k r rs (omega arith)) (omega arith)) (rw (place_stop k r rs (omega arith)) q)

  not_present : {k : ℕ} {r : Row A} {rs : List (Row A)} {d : Row A} → k < r.key → Present k (r ∷ rs) d → ⊥
  not_present {k} {r} {rs} {d} h p = let q : r.key ≡ k = rw (place_stop k r rs (omega arith)) at p.here in omega arith

  -- ---- look-up

  pub look_present : (k : ℕ) (rs : List (Row A)) (d : Row A) → Present k rs d → look rs k ≡ some (get_or rs (place k rs) d).item
  unfolding look
  look_present k [] d p = absurd (not-suc-le-zero p.inside)
  look_present k (r ∷ rs) d p = go (first k r) (λ h. look_present k rs d (present_on h p))
    where
      go : First k r → (r.key < k → look rs k ≡ some (get_or rs (place k rs) d).item) → look (r ∷ rs) k ≡ some (get_or (r ∷ rs) (place k (r ∷ rs)) d).item
      go (smaller h) ih = rw (place_on k r rs h, same_no {m = r.key} {n = k} (λ q. omega arith)) (ih h)
      go (equal q) ih = rw (place_stop k r rs (omega arith), same_yes {m = r.key} {n = k} q)
      go (larger h) ih = absurd (not_present h p)

  pub look_absent : (k lo : ℕ) (rs : List (Row A)) (d : Row A) → From lo rs → Absent k rs d → look rs k ≡ none
  unfolding look From
  look_absent k lo [] d f a = refl
  look_absent k lo (r ∷ rs) d f a = go (first k r) (λ h. look_absent k (suc r.key) rs d f.1 (absent_on h a))
    where
      go : First k r → (r.key < k → look rs k ≡ none) → look (r ∷ rs) k ≡ none
      go (smaller h) ih = rw (same_no {m = r.key} {n = k} (λ q. omega arith)) (ih h)
      go (equal q) ih = absurd (not_absent q a)
      go (larger h) ih = rw (same_no {m = r.key} {n = k} (λ q. omega arith)) (look_low rs k (omega arith) f.1)

  -- ---- insertion

  pub insert_present : (k : ℕ) (x : A) (rs : List (Row A)) (d : Row A) → Present k rs d → insert k x rs ≡ set rs (place k rs) (row k x)
  unfolding insert
  insert_present k x [] d p = absurd (not-suc-le-zero p.inside)
  insert_present k x (r ∷ rs) d p = go (first k r) (λ h. insert_present k x rs d (present_on h p))
    where
      go : First k r → (r.key < k → insert k x rs ≡ set rs (place k rs) (row k x)) → insert k x (r ∷ rs) ≡ set (r ∷ rs) (place k (r ∷ rs)) (row k x)
      go (smaller h) ih =
          rw (place_on k r rs h, less_no {m = k} {n = r.key} (omega arith), same_no {m = k} {n = r.key} (λ q. omega arith))
          (ap (λ (zs : List (Row A)). r ∷ zs) (ih h))
      go (equal q) ih = rw (place_stop k r rs (omega arith), less_no {m = k} {n = r.key} (omega arith), same_yes {m = k} {n = r.key} (sym q))
      go (larger h) ih = absurd (not_present h p)

  pub insert_absent : (k : ℕ) (x : A) (rs : List (Row A)) (d : Row A) → Absent k rs d
      → insert k x rs ≡ take (place k rs) rs ++ (row k x ∷ drop (place k rs) rs)
  unfolding insert place
  insert_absent k x [] d a = refl
  insert_absent k x (r ∷ rs) d a = go (first k r) (λ h. insert_absent k x rs d (absent_on h a))
    where
      go : First k r → (r.key < k → insert k x rs ≡ take (place k rs) rs ++ (row k x ∷ drop (place k rs) rs))
          → insert k x (r ∷ rs) ≡ take (place k (r ∷ rs)) (r ∷ rs) ++ (row k x ∷ drop (place k (r ∷ rs)) (r ∷ rs))
      go (smaller h) ih =
          rw (place_on k r rs h, less_no {m = k} {n = r.key} (omega arith), same_no {m = k} {n = r.key} (λ q. omega arith))
          (ap (λ (zs : List (Row A)). r ∷ zs) (ih h))
      go (equal q) ih = absurd (not_absent q a)
      go (larger h) ih = rw (place_stop k r rs (omega arith), less_yes {m = k} {n = r.key} h)

  -- ---- deletion

  pub delete_low : (k lo : ℕ) (rs : List (Row A)) → From lo rs → k < lo → delete k rs ≡ rs
  unfolding delete From
  delete_low k lo [] f h = refl
  delete_low k lo (r ∷ rs) f h =
      let l : lo ≤ r.key = f.0 in
      rw (same_no {m = r.key} {n = k} (λ q. omega arith)) (ap (λ (zs : List (Row A)). r ∷ zs) (delete_low k (suc r.key) rs f.1 (omega arith)))

  pub delete_present : (k lo : ℕ) (rs : List (Row A)) (d : Row A) → From lo rs → Present k rs d
      → delete k rs ≡ take (place k rs) rs ++ drop (suc (place k rs)) rs
  unfolding delete From
  delete_present k lo [] d f p = absurd (not-suc-le-zero p.inside)
  delete_present k lo (r ∷ rs) d f p = go (first k r) (λ h. delete_present k (suc r.key) rs d f.1 (present_on h p))
    where
      go : First k r → (r.key < k → delete k rs ≡ take (place k rs) rs ++ drop (suc (place k rs)) rs)
          → delete k (r ∷ rs) ≡ take (place k (r ∷ rs)) (r ∷ rs) ++ drop (suc (place k (r ∷ rs))) (r ∷ rs)
      go (smaller h) ih = rw (place_on k r rs h, same_no {m = r.key} {n = k} (λ q. omega arith)) (ap (λ (zs : List (Row A)). r ∷ zs) (ih h))
      go (equal q) ih = rw (place_stop k r rs (omega arith), same_yes {m = r.key} {n = k} q) (delete_low k (suc r.key) rs f.1 (omega arith))
      go (larger h) ih = absurd (not_present h p)

  pub delete_absent : (k lo : ℕ) (rs : List (Row A)) (d : Row A) → From lo rs → Absent k rs d → delete k rs ≡ rs
  unfolding delete From
  delete_absent k lo [] d f a = refl
  delete_absent k lo (r ∷ rs) d f a = go (first k r) (λ h. delete_absent k (suc r.key) rs d f.1 (absent_on h a))
    where
      go : First k r → (r.key < k → delete k rs ≡ rs) → delete k (r ∷ rs) ≡ r ∷ rs
      go (smaller h) ih = rw (same_no {m = r.key} {n = k} (λ q. omega arith)) (ap (λ (zs : List (Row A)). r ∷ zs) (ih h))
      go (equal q) ih = absurd (not_absent q a)
      go (larger h) ih = delete_low k r.key (r ∷ rs) (le_refl r.key, f.1) h
