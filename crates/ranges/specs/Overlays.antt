-- One list of rows laid over another, taken row by row: the smaller first key comes first, and at one key the upper list
-- decides.
use Prim.Native.Nat.{ℕ, zero, suc, ◌+◌, ◌<◌, ◌≤◌, zero-le, suc-le-suc}
use Rattle.std.proofs.Math.Nat.{le_refl, le_step}
use native.Mathlib.Omega.{arith}
use Rattle.std.specs.Prelude.{◌≡◌, Bool, true, false, take, drop}
use Rattle.std.proofs.Math.Path.{refl, ap}
use Rattle.std.proofs.Common.{sym, ◌∙◌, subst}
use mathlib.Core.List.{List, [], ◌∷◌, map}
use Rattle.std.proofs.Math.Option.{Option, none, some}
use Rattle.std.proofs.Math.ListN.{length}
use Rattle.lists.specs.Tests.{pick, maybe, same, less}
use Rattle.lists.specs.TestLaws.{same_no, same_refl, less_yes, less_no}
use Rattle.lists.specs.Rows.{Row, row, insert, delete, assign, lay, From, Rising}
use Rattle.lists.specs.RowLaws.{from_weaken, from_assign}

module _ {A : Type 0} where
  -- the rows with the row before them, if it has an item
  unfoldable pub shown : Row (Option A) → List (Row A) → List (Row A)
  shown r rs = maybe r.item rs (λ (a : A). row r.key a ∷ rs)

  pub shown_none : (k : ℕ) (rs : List (Row A)) → shown (row k none) rs ≡ rs
  unfolding shown
  shown_none k rs = refl

  -- ---- one key, before all others

  delete_low : (k lo : ℕ) (rs : List (Row A)) → k < lo → From lo rs → delete k rs ≡ rs
  unfolding delete From
  delete_low k lo [] h f = refl
  delete_low k lo (r ∷ rs) h f =
      let l : lo ≤ r.key = f.0 in
      rw (same_no {m = r.key} {n = k} (λ q. omega arith)) (ap (λ (zs : List (Row A)). r ∷ zs) (delete_low k (suc r.key) rs (omega arith) f.1))

  insert_low : (k : ℕ) (a : A) (lo : ℕ) (rs : List (Row A)) → k < lo → From lo rs → insert k a rs ≡ row k a ∷ rs
  unfolding insert From
  insert_low k a lo [] h f = refl
  insert_low k a lo (r ∷ rs) h f = let l : lo ≤ r.key = f.0 in rw (less_yes {m = k} {n = r.key} (omega arith))

  assign_low : (k : ℕ) (o : Option A) (lo : ℕ) (rs : List (Row A)) → k < lo → From lo rs → assign k o rs ≡ shown (row k o) rs
  unfolding assign shown
  assign_low k none lo rs h f = delete_low k lo rs h f
  assign_low k (some a) lo rs h f = insert_low k a lo rs h f

  -- a later key goes in behind
  assign_behind : (x : ℕ) (o : Option A) (k : ℕ) (u : Option A) (rs : List (Row A)) → x < k
      → assign k u (shown (row x o) rs) ≡ shown (row x o) (assign k u rs)
  unfolding shown assign
  assign_behind x none k u rs h = refl
  assign_behind x (some a) k none rs h = unfold delete in rw (same_no {m = x} {n = k} (λ q. omega arith))
  assign_behind x (some a) k (some b) rs h =
      unfold insert in rw (less_no {m = k} {n = x} (omega arith), same_no {m = k} {n = x} (λ q. omega arith))

  -- the same key goes in its place
  assign_over : (k : ℕ) (o u : Option A) (lo : ℕ) (rs : List (Row A)) → k < lo → From lo rs
      → assign k u (shown (row k o) rs) ≡ shown (row k u) rs
  unfolding shown assign
  assign_over k none u lo rs h f = assign_low k u lo rs h f
  assign_over k (some a) none lo rs h f = unfold delete in rw (same_refl k) (delete_low k lo rs h f)
  assign_over k (some a) (some b) lo rs h f = unfold insert in rw (less_no {m = k} {n = k} (le_refl k), same_refl k)

  -- ---- rows

  from_lay : (lo : ℕ) (es : List (Row (Option A))) (rs : List (Row A)) → From lo es → From lo rs → From lo (lay es rs)
  unfolding lay From
  from_lay lo [] rs f g = g
  from_lay lo (e ∷ es) rs f g =
      from_assign e.key e.item (lay es rs) f.0 (from_lay lo es rs (from_weaken es (le_step f.0) f.1) g)

  lay_behind : (x : ℕ) (o : Option A) (es : List (Row (Option A))) (rs : List (Row A)) → From (suc x) es
      → lay es (shown (row x o) rs) ≡ shown (row x o) (lay es rs)
  unfolding lay From
  lay_behind x o [] rs f = refl
  lay_behind x o (e ∷ es) rs f =
      ap (assign e.key e.item) (lay_behind x o es rs (from_weaken es (le_step f.0) f.1))
      ∙ assign_behind x o e.key e.item (lay es rs) f.0

  -- ---- two lists, the upper one es

  -- both laid over nothing
  unfoldable pub overlay : List (Row (Option A)) → List (Row (Option A)) → List (Row A)
  overlay es is = lay es (lay is [])

  pub overlay_none : overlay [] [] ≡ []
  unfolding overlay lay
  overlay_none = refl

  from_overlay : (lo : ℕ) (es is : List (Row (Option A))) → From lo es → From lo is → From lo (overlay es is)
  unfolding overlay
  from_overlay lo es is f g = from_lay lo es (lay is []) f (from_lay lo is [] g (unfold From in tt))

  -- the upper list's row comes first
  pub overlay_upper : (e : Row (Option A)) (es is : List (Row (Option A))) → From (suc e.key) es → From (suc e.key) is
      → overlay (e ∷ es) is ≡ shown e (overlay es is)
  unfolding overlay lay
  overlay_upper e es is f g =
      assign_low e.key e.item (suc e.key) (lay es (lay is [])) (le_refl (suc e.key)) (unfold overlay in from_overlay (suc e.key) es is f g)

  lower_first : (i : Row (Option A)) (is : List (Row (Option A))) → From (suc i.key) is → lay (i ∷ is) [] ≡ shown i (lay is [])
  unfolding lay
  lower_first i is g =
      assign_low i.key i.item (suc i.key) (lay is []) (le_refl (suc i.key)) (from_lay (suc i.key) is [] g (unfold From in tt))

  -- the lower list's row comes first
  pub overlay_lower : (i : Row (Option A)) (es is : List (Row (Option A))) → From (suc i.key) es → From (suc i.key) is
      → overlay es (i ∷ is) ≡ shown i (overlay es is)
  unfolding overlay
  overlay_lower i es is f g =
      ap (lay es) (lower_first i is g) ∙ lay_behind i.key i.item es (lay is []) f

  -- both have the first key: the upper list decides
  pub overlay_both : (e i : Row (Option A)) (es is : List (Row (Option A))) → i.key ≡ e.key → From (suc e.key) es → From (suc e.key) is
      → overlay (e ∷ es) (i ∷ is) ≡ shown e (overlay es is)
  unfolding overlay lay
  overlay_both e i es is q f g =
      ap (λ (zs : List (Row A)). assign e.key e.item (lay es zs)) (lower_first i is (subst (λ (k : ℕ). From (suc k) is) (sym q) g))
      ∙ ap (λ (k : ℕ). assign e.key e.item (lay es (shown (row k i.item) (lay is [])))) q
      ∙ ap (assign e.key e.item) (lay_behind e.key i.item es (lay is []) f)
      ∙ assign_over e.key i.item e.item (suc e.key) (lay es (lay is [])) (le_refl (suc e.key)) (unfold overlay in from_overlay (suc e.key) es is f g)

  -- ---- how many rows

  few_either : (b : Bool) (xs ys : List (Row A)) (n : ℕ) → length xs ≤ n → length ys ≤ n → length (pick b xs ys) ≤ n
  few_either true xs ys n h l = h
  few_either false xs ys n h l = l

  few_deleted : (k : ℕ) (rs : List (Row A)) → length (delete k rs) ≤ length rs
  unfolding delete
  few_deleted k [] = zero-le
  few_deleted k (r ∷ rs) =
      let h : length (delete k rs) ≤ length rs = few_deleted k rs in
      few_either (same r.key k) (delete k rs) (r ∷ delete k rs) (suc (length rs)) (le_step h) (suc-le-suc h)

  few_inserted : (k : ℕ) (a : A) (rs : List (Row A)) → length (insert k a rs) ≤ suc (length rs)
  unfolding insert
  few_inserted k a [] = le_refl 1
  few_inserted k a (r ∷ rs) =
      let h : length (insert k a rs) ≤ suc (length rs) = few_inserted k a rs in
      few_either (less k r.key) (row k a ∷ r ∷ rs) (pick (same k r.key) (row k a ∷ rs) (r ∷ insert k a rs)) (suc (suc (length rs)))
      (le_refl (suc (suc (length rs))))
      (few_either (same k r.key) (row k a ∷ rs) (r ∷ insert k a rs) (suc (suc (length rs))) (le_step (le_refl (suc (length rs)))) (suc-le-suc h))

  few_assigned : (k : ℕ) (o : Option A) (rs : List (Row A)) → length (assign k o rs) ≤ suc (length rs)
  unfolding assign
  few_assigned k none rs = le_step (few_deleted k rs)
  few_assigned k (some a) rs = few_inserted k a rs

  few_laid : (es : List (Row (Option A))) (rs : List (Row A)) → length (lay es rs) ≤ length es + length rs
  unfolding lay
  few_laid [] rs = let h : length rs ≤ 0 + length rs = omega arith in h
  few_laid (e ∷ es) rs =
      let h : length (lay es rs) ≤ length es + length rs = few_laid es rs in
      let l : length (assign e.key e.item (lay es rs)) ≤ suc (length (lay es rs)) = few_assigned e.key e.item (lay es rs) in
      omega arith

  -- each row of either list gives at most one
  pub few_overlaid : (es is : List (Row (Option A))) → length (overlay es is) ≤ length es + length is
  unfolding overlay
  few_overlaid es is =
      let h : length (lay es (lay is [])) ≤ length es + length (lay is []) = few_laid es (lay is []) in
      let l : length (lay is []) ≤ length is + 0 = few_laid is [] in
      omega arith

-- ---- parts of rising rows

module _ {A : Type 0} where
  from_take : (n lo : ℕ) (rs : List (Row A)) → From lo rs → From lo (take n rs)
  unfolding From
  from_take zero lo rs f = tt
  from_take (suc n) lo [] f = tt
  from_take (suc n) lo (r ∷ rs) f = (f.0, from_take n (suc r.key) rs f.1)

  pub from_drop : (n lo : ℕ) (rs : List (Row A)) → From lo rs → From lo (drop n rs)
  unfolding From
  from_drop zero lo rs f = f
  from_drop (suc n) lo [] f = tt
  from_drop (suc n) lo (r ∷ rs) f = from_weaken (drop n rs) (le_step f.0) (from_drop n (suc r.key) rs f.1)

  -- one part of the rows
  pub rising_part : (n i : ℕ) (rs : List (Row A)) → Rising rs → Rising (take n (drop i rs))
  unfolding Rising
  rising_part n i rs f = from_take n 0 (drop i rs) (from_drop i 0 rs f)

  pub rising_first : (n : ℕ) (rs : List (Row A)) → Rising rs → Rising (take n rs)
  unfolding Rising
  rising_first n rs f = from_take n 0 rs f

  -- the rows after the first
  pub rising_tail : (r : Row A) (rs : List (Row A)) → Rising (r ∷ rs) → From (suc r.key) rs
  unfolding Rising From
  rising_tail r rs f = f.1

  from_map : {B : Type 0} (f : ℕ → B) (lo : ℕ) (rs : List (Row A)) → From lo rs → From lo (map (λ (r : Row A). row r.key (f r.key)) rs)
  unfolding From
  from_map f lo [] h = tt
  from_map f lo (r ∷ rs) h = (h.0, from_map f (suc r.key) rs h.1)

  -- other items at the same keys
  pub rising_map : {B : Type 0} (f : ℕ → B) (rs : List (Row A)) → Rising rs → Rising (map (λ (r : Row A). row r.key (f r.key)) rs)
  unfolding Rising
  rising_map f rs h = from_map f 0 rs h
