-- Rows by rising key, one after the other: a change at a key below those behind leaves them, and the place of a key goes along with it.
use Prim.Native.Nat.{ℕ, zero, suc, ◌+◌, ◌<◌, ◌≤◌}
use Rattle.std.proofs.Common.{le_refl, le_trans, ◌∙◌}
use native.Mathlib.Omega.{arith}
use Rattle.std.specs.Prelude.{◌≡◌, Bool, take, drop}
use Rattle.std.proofs.Math.Path.{refl, sym, ap}
use Rattle.std.proofs.Math.Logic.{⊎_elim}
use mathlib.Core.List.{List, [], ◌∷◌, ◌++◌}
use Rattle.std.proofs.Math.Option.{Option, none, some}
use Rattle.std.proofs.Math.ListN.{length}
use Rattle.lists.specs.Tests.{pick, same, less}
use Rattle.lists.specs.TestLaws.{cases, same_true, less_true, less_false, less_yes, less_no}
use Rattle.lists.specs.Rows.{Row, row, insert, delete, assign, keys, From}
use Rattle.lists.specs.RowLaws.{from_weaken, from_assign}
use Rattle.lists.specs.Places.{place, delete_low}

module _ {A : Type 0} where
  delete_front : (k : ℕ) (xs ys : List (Row A)) → From (suc k) ys → delete k (xs ++ ys) ≡ delete k xs ++ ys
  unfolding delete
  delete_front k [] ys f = delete_low k (suc k) ys f (omega arith)
  delete_front k (x ∷ xs) ys f =
      ⊎_elim (λ t. rw t (delete_front k xs ys f)) (λ t. rw t (ap (λ (zs : List (Row A)). x ∷ zs) (delete_front k xs ys f))) (cases (same x.key k))

  insert_low : (k : ℕ) (a : A) (ys : List (Row A)) → From (suc k) ys → insert k a ys ≡ row k a ∷ ys
  unfolding From insert
  insert_low k a [] f = refl
  insert_low k a (y ∷ ys) f = rw (less_yes {m = k} {n = y.key} f.0)

  insert_front : (k : ℕ) (a : A) (xs ys : List (Row A)) → From (suc k) ys → insert k a (xs ++ ys) ≡ insert k a xs ++ ys
  unfolding insert
  insert_front k a [] ys f = insert_low k a ys f
  insert_front k a (x ∷ xs) ys f =
      ⊎_elim
      (λ t. rw t)
      (λ t. rw t (⊎_elim (λ u. rw u) (λ u. rw u (ap (λ (zs : List (Row A)). x ∷ zs) (insert_front k a xs ys f))) (cases (same k x.key))))
      (cases (less k x.key))

  -- a key below those behind changes nothing there
  pub assign_front : (k : ℕ) (o : Option A) (xs ys : List (Row A)) → From (suc k) ys → assign k o (xs ++ ys) ≡ assign k o xs ++ ys
  unfolding assign
  assign_front k none xs ys f = delete_front k xs ys f
  assign_front k (some a) xs ys f = insert_front k a xs ys f

  pub from_take : (n : ℕ) (rs : List (Row A)) (lo : ℕ) → From lo rs → From lo (take n rs)
  unfolding From
  from_take zero rs lo f = tt
  from_take (suc n) [] lo f = tt
  from_take (suc n) (r ∷ rs) lo f = (f.0, from_take n rs (suc r.key) f.1)

  pub keys_append : (xs ys : List (Row A)) → keys (xs ++ ys) ≡ keys xs ++ keys ys
  unfolding keys
  keys_append [] ys = refl
  keys_append (x ∷ xs) ys = ap (λ (ks : List ℕ). x.key ∷ ks) (keys_append xs ys)

  -- ---- places

  place_none : (c : ℕ) (rs : List (Row A)) (lo : ℕ) → c ≤ lo → From lo rs → place c rs ≡ 0
  unfolding From place
  place_none c [] lo h f = refl
  place_none c (r ∷ rs) lo h f = rw (less_no {m = r.key} {n = c} (le_trans h f.0))

  -- what stands from the place on is not smaller
  pub from_place : (c : ℕ) (rs : List (Row A)) (lo : ℕ) → From lo rs → From c (drop (place c rs) rs)
  unfolding From place
  from_place c [] lo f = tt
  from_place c (r ∷ rs) lo f =
      ⊎_elim
      (λ t. rw t (from_place c rs (suc r.key) f.1))
      (λ t. rw t (less_false r.key c t, f.1))
      (cases (less r.key c))

  -- a key that is not smaller leaves the place where it was
  pub place_over : (c k : ℕ) (o : Option A) (rs : List (Row A)) (lo : ℕ) → From lo rs → c ≤ k → place c (assign k o rs) ≡ place c rs
  unfolding From place assign insert delete
  place_over c k none [] lo f h = refl
  place_over c k none (r ∷ rs) lo f h =
      ⊎_elim
      (λ t.
      let e : r.key ≡ k = same_true r.key k t in
      let none_there : From k (delete k rs) = from_assign k none rs (le_refl k) (from_weaken rs (omega arith) f.1) in
      rw (t, less_no {m = r.key} {n = c} (omega arith)) (place_none c (delete k rs) k h none_there))
      (λ t. rw t (ap (λ (x : ℕ). pick (less r.key c) (suc x) 0) (place_over c k none rs (suc r.key) f.1 h)))
      (cases (same r.key k))
  place_over c k (some a) [] lo f h = rw (less_no {m = k} {n = c} h)
  place_over c k (some a) (r ∷ rs) lo f h =
      ⊎_elim
      (λ t. let l : k < r.key = less_true k r.key t in rw (t, less_no {m = k} {n = c} h, less_no {m = r.key} {n = c} (omega arith)))
      (λ t.
      rw t
      (⊎_elim
      (λ u. let e : k ≡ r.key = same_true k r.key u in rw (u, less_no {m = k} {n = c} h, less_no {m = r.key} {n = c} (omega arith)))
      (λ u. rw u (ap (λ (x : ℕ). pick (less r.key c) (suc x) 0) (place_over c k (some a) rs (suc r.key) f.1 h)))
      (cases (same k r.key))))
      (cases (less k r.key))

  -- a smaller key leaves so many behind the place as there were
  pub place_under : (c k : ℕ) (o : Option A) (rs : List (Row A)) (lo : ℕ) → From lo rs → k < c → place c (assign k o rs) + length rs ≡ place c rs + length (assign k o rs)
  unfolding From place assign insert delete
  place_under c k none [] lo f h = refl
  place_under c k none (r ∷ rs) lo f h =
      let ih : place c (delete k rs) + length rs ≡ place c rs + length (delete k rs) = place_under c k none rs (suc r.key) f.1 h in
      ⊎_elim
      (λ t. let e : r.key ≡ k = same_true r.key k t in rw (t, less_yes {m = r.key} {n = c} (omega arith)) (omega arith))
      (λ t.
      rw t
      (⊎_elim
      (λ u. rw u (omega arith))
      (λ u.
      let g : c ≤ r.key = less_false r.key c u in
      let e : length (delete k rs) ≡ length rs = ap length (delete_low k (suc r.key) rs f.1 (omega arith)) in
      rw u (omega arith))
      (cases (less r.key c))))
      (cases (same r.key k))
  place_under c k (some a) [] lo f h = rw (less_yes {m = k} {n = c} h)
  place_under c k (some a) (r ∷ rs) lo f h =
      let ih : place c (insert k a rs) + length rs ≡ place c rs + length (insert k a rs) = place_under c k (some a) rs (suc r.key) f.1 h in
      ⊎_elim
      (λ t.
      let e : suc (place c (r ∷ rs)) + suc (length rs) ≡ place c (r ∷ rs) + suc (suc (length rs)) = omega arith in
      rw t (ap (λ (b : Bool). pick b (suc (place c (r ∷ rs))) 0 + suc (length rs)) (less_yes {m = k} {n = c} h) ∙ e))
      (λ t.
      let g : r.key ≤ k = less_false k r.key t in
      rw t
      (⊎_elim
      (λ u.
      let e : k ≡ r.key = same_true k r.key u in
      rw u (ap (λ (b : Bool). pick b (suc (place c rs)) 0 + suc (length rs)) (less_yes {m = k} {n = c} h)
      ∙ sym (ap (λ (b : Bool). pick b (suc (place c rs)) 0 + suc (length rs)) (less_yes {m = r.key} {n = c} (omega arith)))))
      (λ u. rw (u, less_yes {m = r.key} {n = c} (omega arith)) (omega arith))
      (cases (same k r.key))))
      (cases (less k r.key))
