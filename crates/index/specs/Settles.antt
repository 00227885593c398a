-- The lows and the versions of the leaves after a merge: a leaf kept, cut into runs, or joined to its left neighbour.
use Prim.Native.Nat.{ℕ, suc, ◌+◌, ◌*◌, ◌-◌, ◌/◌, ◌^◌, ◌<◌, ◌≤◌}
use Rattle.std.proofs.Common.{not-suc-le-zero, ◌∙◌, ⊎_elim, length-drop, length-set, get_or-take}
use native.Mathlib.Omega.{arith}
use Rattle.std.specs.Prelude.{◌≡◌, refl, ◌⊎◌}
use Rattle.std.proofs.Math.Path.{sym, ap}
use Rattle.std.proofs.Math.Logic.{inl, inr}
use mathlib.Core.List.{List, [], ◌∷◌, ◌++◌, append_assoc}
use Rattle.std.proofs.Math.ListN.{length, take, drop, get_or, set}
use Rattle.std.proofs.Math.Seq.{length-take-le, set_split, split_at, set-append_left, take-set-lt}
use Rattle.lists.specs.Tabulation.{tab, tab_from}
use Rattle.lists.specs.Shifts.{tab_cons, tab_same, length_tab, over, moved, spread, taken_out}
use Rattle.spec.specs.Records.{Tuning, standard}
use Rattle.spec.specs.Leaves.{Leaf, around, fresh_leaves, new_lows, widened, settled, settle, versions_taken}
use Rattle.laws.specs.LeafCuts.{taken_some}
use Rattle.laws.specs.StandardCuts.{whole_lows, whole_taken, cut_lows, cut_taken}
use Rattle.index.specs.Views.{record_places, leaf_places, RecordRows, row_at, keys_between, paired, leaves_of}
use Rattle.index.specs.ViewLaws.{length_between, between_read}
use Rattle.index.specs.LeafPlaces.{AtLeaf, low_place}
use Rattle.index.specs.LeafViews.{leaf, paired_append, paired_take, paired_drop, paired_length, paired_get_or, paired_lows, Parted, parted}

-- the version x places after the first fresh one
abbrev pub fresh : ℕ → ℕ → ℕ
fresh v x = v + 1 + x

fresh_paired : (v : ℕ) (lows : List ℕ) → fresh_leaves v lows ≡ paired lows (tab (fresh v) (length lows))
unfolding fresh_leaves paired
fresh_paired v [] = refl
fresh_paired v (l ∷ ls) =
    let e : suc v ≡ v + 1 + 0 = omega arith in
    ap (λ (n : ℕ). leaf l n ∷ fresh_leaves (suc v) ls) e
    ∙ ap (λ (zs : List Leaf). leaf l (v + 1 + 0) ∷ zs) (fresh_paired (suc v) ls)
    ∙ ap (paired (l ∷ ls)) (sym (tab_cons (fresh v) (fresh (suc v)) (length ls) (λ k h. omega arith)))

-- ---- the model's three cases

settled_fresh : (s : Tuning) (v : ℕ) (before : List Leaf) (own : Leaf) (ks : List ℕ) → (length before ≡ 0) ⊎ (1 ≤ length ks)
    → settled s v before own ks ≡ before ++ fresh_leaves v (new_lows s own.low ks)
unfolding settled
settled_fresh s v [] own ks h = refl
settled_fresh s v (l ∷ ls) own (k ∷ ks) h = refl
settled_fresh s v (l ∷ ls) own [] h = absurd (⊎_elim (λ e. omega arith) (λ e. not-suc-le-zero e) h)

settled_joined : (s : Tuning) (v : ℕ) (l : Leaf) (ls : List Leaf) (own : Leaf) (ks : List ℕ) → length ks ≡ 0 → settled s v (l ∷ ls) own ks ≡ widened v l ls
unfolding settled
settled_joined s v l ls own [] h = refl
settled_joined s v l ls own (k ∷ ks) h = absurd (omega arith)

widened_set : (v x u : ℕ) (xs us : List ℕ) → length xs ≡ length us → widened v (leaf x u) (paired xs us) ≡ paired (x ∷ xs) (set (u ∷ us) (length us) (v + 1))
unfolding widened paired
widened_set v x u [] [] e = let q : suc v ≡ v + 1 = omega arith in ap (λ (n : ℕ). leaf x n ∷ []) q
widened_set v x u [] (w ∷ ws) e = absurd (omega arith)
widened_set v x u (y ∷ ys) [] e = absurd (omega arith)
widened_set v x u (y ∷ ys) (w ∷ ws) e = ap (λ (zs : List Leaf). leaf x u ∷ zs) (widened_set v y w ys ws (omega arith))

joined_set : (s : Tuning) (v : ℕ) (xs us : List ℕ) (own : Leaf) (ks : List ℕ) → length xs ≡ length us → 1 ≤ length us → length ks ≡ 0
    → settled s v (paired xs us) own ks ≡ paired xs (set us (length us - 1) (v + 1))
unfolding paired
joined_set s v [] [] own ks e h k = absurd (not-suc-le-zero h)
joined_set s v [] (u ∷ us) own ks e h k = absurd (omega arith)
joined_set s v (x ∷ xs) [] own ks e h k = absurd (not-suc-le-zero h)
joined_set s v (x ∷ xs) (u ∷ us) own ks e h k =
    let q : length us ≡ suc (length us) - 1 = omega arith in
    settled_joined s v (leaf x u) (paired xs us) own ks k ∙ widened_set v x u xs us (omega arith)
    ∙ ap (λ (n : ℕ). paired (x ∷ xs) (set (u ∷ us) n (v + 1))) q

-- ---- on the lows and versions of m leaves

module _ (v a p : ℕ) (L W ks : List ℕ) (e : length L ≡ length W) (h : p < length L) (at : p ≡ low_place a L) where
  here : Parted a (paired L W) p
  here =
      let n : length (paired L W) ≡ length L = paired_length L W e in
      parted a (paired L W) p (omega arith) (at ∙ ap (low_place a) (sym (paired_lows L W e)))

  own_low : (around a (paired L W)).own.low ≡ get_or L p 0
  own_low = ap (λ (l : Leaf). l.low) (here.own ∙ paired_get_or L W p e h)

  front : length (take p L) ≡ length (take p W)
  front = length-take-le p L (omega arith) ∙ sym (length-take-le p W (omega arith))

  back : length (drop (suc p) L) ≡ length (drop (suc p) W)
  back = length-drop (suc p) L ∙ ap (λ (n : ℕ). n - suc p) e ∙ sym (length-drop (suc p) W)

  -- a leaf replaced by leaves with the lows N and fresh versions
  settle_fresh : (N : List ℕ) → (p ≡ 0) ⊎ (1 ≤ length ks) → new_lows standard (get_or L p 0) ks ≡ N
      → paired (take p L ++ (N ++ drop (suc p) L)) (take p W ++ (tab (fresh v) (length N) ++ drop (suc p) W)) ≡ settle standard v (paired L W) a ks
  unfolding settle
  settle_fresh N c n =
      paired_append (take p L) (take p W) (N ++ drop (suc p) L) (tab (fresh v) (length N) ++ drop (suc p) W) front
      ∙ ap (λ (zs : List Leaf). paired (take p L) (take p W) ++ zs)
      (paired_append N (tab (fresh v) (length N)) (drop (suc p) L) (drop (suc p) W) (sym (length_tab (fresh v) (length N)))
      ∙ ap (λ (zs : List Leaf). zs ++ paired (drop (suc p) L) (drop (suc p) W))
      (sym (fresh_paired v N) ∙ ap (fresh_leaves v) (sym n ∙ ap (λ (x : ℕ). new_lows standard x ks) (sym own_low))))
      ∙ ap (λ (zs : List Leaf). zs ++ (fresh_leaves v (new_lows standard (around a (paired L W)).own.low ks) ++ paired (drop (suc p) L) (drop (suc p) W)))
      (sym (here.before ∙ paired_take p L W))
      ∙ ap (λ (zs : List Leaf). (around a (paired L W)).before ++ (fresh_leaves v (new_lows standard (around a (paired L W)).own.low ks) ++ zs))
      (sym (here.after ∙ paired_drop (suc p) L W))
      ∙ sym (append_assoc (around a (paired L W)).before (fresh_leaves v (new_lows standard (around a (paired L W)).own.low ks)) (around a (paired L W)).after)
      ∙ ap (λ (zs : List Leaf). zs ++ (around a (paired L W)).after)
      (sym (settled_fresh standard v (around a (paired L W)).before (around a (paired L W)).own ks (first c)))
    where
      first : (p ≡ 0) ⊎ (1 ≤ length ks) → (length (around a (paired L W)).before ≡ 0) ⊎ (1 ≤ length ks)
      first (inl q) = inl (ap length (here.before ∙ ap (λ (i : ℕ). take i (paired L W)) q))
      first (inr q) = inr q

  -- a leaf left with no address, joined to its left neighbour
  settle_joined : 0 < p → length ks ≡ 0
      → paired (take p L ++ drop (suc p) L) (set (take p W) (p - 1) (v + 1) ++ drop (suc p) W) ≡ settle standard v (paired L W) a ks
  unfolding settle
  settle_joined i k =
      let f : length (take p W) ≡ p = length-take-le p W (omega arith) in
      paired_append (take p L) (set (take p W) (p - 1) (v + 1)) (drop (suc p) L) (drop (suc p) W) (front ∙ sym (length-set (take p W) (p - 1) (v + 1)))
      ∙ ap (λ (n : ℕ). paired (take p L) (set (take p W) (n - 1) (v + 1)) ++ paired (drop (suc p) L) (drop (suc p) W)) (sym f)
      ∙ ap (λ (zs : List Leaf). zs ++ paired (drop (suc p) L) (drop (suc p) W))
      (sym (joined_set standard v (take p L) (take p W) (around a (paired L W)).own ks front (omega arith) k)
      ∙ ap (λ (zs : List Leaf). settled standard v zs (around a (paired L W)).own ks) (sym (here.before ∙ paired_take p L W)))
      ∙ ap (λ (zs : List Leaf). settled standard v (around a (paired L W)).before (around a (paired L W)).own ks ++ zs)
      (sym (here.after ∙ paired_drop (suc p) L W))

-- ---- on all lows and versions

-- the low of run x + 1 of the rows from row i on
abbrev pub run_low : RecordRows → ℕ → ℕ → ℕ
run_low rows i x = (row_at rows (i + (x + 1) * standard.run)).key

-- What settling the leaf at place p, left with the addresses `ks`, leaves of them, whatever address it is for.
pub record SettledAs (lows versions : List ℕ) (m p v : ℕ) (ks lows' versions' : List ℕ) (m' v' : ℕ) : Type 0 where
  pub leaves : (a : ℕ) → AtLeaf lows m a p → leaves_of lows' versions' m' ≡ settle standard v (leaves_of lows versions m) a ks
  pub version : v' ≡ v + versions_taken standard ks
  pub some : 1 ≤ m'
  pub room : m' ≤ leaf_places

module _ (lows versions : List ℕ) (m p v : ℕ) (ks : List ℕ) (al : length lows ≡ leaf_places) (av : length versions ≡ leaf_places) (mr : m ≤ leaf_places) (h : p < m) where
  L : List ℕ
  L = take m lows

  W : List ℕ
  W = take m versions

  length_l : length L ≡ m
  unfolding L
  length_l = length-take-le m lows (omega arith)

  length_w : length W ≡ m
  unfolding W
  length_w = length-take-le m versions (omega arith)

  both : length L ≡ length W
  both = length_l ∙ sym length_w

  in_l : p < length L
  in_l = rw length_l h

  in_w : p < length W
  in_w = rw length_w h

  -- the lows N in place of the leaf's, and fresh versions in place of its version
  replaced : (N lows' versions' : List ℕ) (m' : ℕ) → (p ≡ 0) ⊎ (1 ≤ length ks) → new_lows standard (get_or L p 0) ks ≡ N
      → take m' lows' ≡ take p L ++ (N ++ drop (suc p) L) → take m' versions' ≡ take p W ++ (tab (fresh v) (length N) ++ drop (suc p) W)
      → (a : ℕ) → AtLeaf lows m a p → leaves_of lows' versions' m' ≡ settle standard v (leaves_of lows versions m) a ks
  unfolding L W leaves_of
  replaced N lows' versions' m' c n q r a at =
      ap (λ (zs : List ℕ). paired zs (take m' versions')) q
      ∙ ap (paired (take p L ++ (N ++ drop (suc p) L))) r
      ∙ settle_fresh v a p L W ks both in_l at.is N c n

  one_fresh : tab (fresh v) 1 ≡ (v + 1) ∷ []
  unfolding tab tab_from
  one_fresh = let e : v + 1 + 0 ≡ v + 1 = omega arith in ap (λ (n : ℕ). n ∷ []) e

  -- kept: not too many addresses, and not joined
  pub kept : (lows' versions' : List ℕ) → (p ≡ 0) ⊎ (1 ≤ length ks) → length ks ≤ standard.leaf_limit → lows' ≡ lows → versions' ≡ set versions p (v + 1)
      → SettledAs lows versions m p v ks lows' versions' m (v + 1)
  unfolding L W
  kept lows' versions' c k d e =
      record {
        leaves =
            replaced (get_or L p 0 ∷ []) lows' versions' m c (whole_lows (get_or L p 0) ks k)
            (ap (take m) d ∙ split_at L p 0 in_l)
            (ap (take m) e ∙ take-set-lt m versions p (v + 1) h ∙ set_split W p (v + 1) in_w
            ∙ ap (λ (zs : List ℕ). take p W ++ (zs ++ drop (suc p) W)) (sym one_fresh));
        version = ap (λ (n : ℕ). v + n) (sym (whole_taken ks k));
        some = omega arith;
        room = mr;
      }

  -- joined to the left neighbour
  pub joined : (lows' versions' : List ℕ) → 0 < p → length ks ≡ 0 → lows' ≡ moved lows (p + 1) p (m - p - 1)
      → versions' ≡ set (moved versions (p + 1) p (m - p - 1)) (p - 1) (v + 1) → SettledAs lows versions m p v ks lows' versions' (m - 1) (v + 1)
  unfolding L W leaves_of
  joined lows' versions' i k e f =
      let g : length (take p W) ≡ p = length-take-le p W (let w = in_w in omega arith) in
      record {
        leaves = λ a at.
            ap (λ (zs : List ℕ). paired zs (take (m - 1) versions')) (ap (take (m - 1)) e ∙ taken_out lows m p h (omega arith))
            ∙ ap (paired (take p L ++ drop (suc p) L))
            (ap (take (m - 1)) f ∙ take-set-lt (m - 1) (moved versions (p + 1) p (m - p - 1)) (p - 1) (v + 1) (omega arith)
            ∙ ap (λ (zs : List ℕ). set zs (p - 1) (v + 1)) (taken_out versions m p h (omega arith))
            ∙ set-append_left (take p W) (drop (suc p) W) (p - 1) (v + 1) (omega arith))
            ∙ settle_joined v a p L W ks both in_l at.is i k;
        version = ap (λ (n : ℕ). v + n) (sym (whole_taken ks (omega arith)));
        some = omega arith;
        room = omega arith;
      }

  -- cut into t runs
  pub cut : (rows : RecordRows) (i j t : ℕ) (lows' versions' : List ℕ) → ks ≡ keys_between rows i j → i ≤ j → j ≤ record_places → standard.leaf_limit < j - i → t ≡ (j - i) / standard.run → m + t ≤ leaf_places + 1
      → lows' ≡ over (moved lows (p + 1) (p + t) (m - p - 1)) p (get_or lows p 0 ∷ tab (run_low rows i) (t - 1))
      → versions' ≡ over (moved versions (p + 1) (p + t) (m - p - 1)) p (tab (fresh v) t)
      → SettledAs lows versions m p v ks lows' versions' (m + t - 1) (v + t)
  unfolding L W
  cut rows i j t lows' versions' k b r c q l e f =
      let n : length ks ≡ j - i = ap length k ∙ length_between rows i j b r in
      let N : List ℕ = tab (run_low rows i) (t - 1) in
      let ln : length N ≡ t - 1 = length_tab (run_low rows i) (t - 1) in
      let lt : length (tab (fresh v) t) ≡ t = length_tab (fresh v) t in
      let z : length (get_or L p 0 ∷ N) ≡ t = omega arith in
      let d : length ks / standard.run ≡ t = ap (λ (y : ℕ). y / standard.run) n ∙ sym q in
      record {
        leaves =
            replaced (get_or L p 0 ∷ N) lows' versions' (m + t - 1) (inr (omega arith))
            (cut_lows (get_or L p 0) ks (omega arith)
            ∙ ap (λ (y : ℕ). get_or L p 0 ∷ tab (λ (x : ℕ). get_or ks ((x + 1) * standard.run) 0) (y - 1)) d
            ∙ ap (λ (zs : List ℕ). get_or L p 0 ∷ zs)
            (tab_same (λ (x : ℕ). get_or ks ((x + 1) * standard.run) 0) (run_low rows i) (t - 1)
            (λ x w. ap (λ (zs : List ℕ). get_or zs ((x + 1) * standard.run) 0) k ∙ between_read rows i j ((x + 1) * standard.run) r (omega arith))))
            (ap (take (m + t - 1)) (e ∙ ap (λ (y : ℕ). over (moved lows (p + 1) (p + t) (m - p - 1)) p (y ∷ N)) (sym (get_or-take m lows p 0 h)))
            ∙ spread lows m p t p (get_or L p 0 ∷ N) h (omega arith) (omega arith) (omega arith) (omega arith))
            (ap (take (m + t - 1)) f
            ∙ spread versions m p t p (tab (fresh v) t) h (omega arith) (omega arith) (omega arith) (omega arith)
            ∙ ap (λ (y : ℕ). take p W ++ (tab (fresh v) y ++ drop (suc p) W)) (sym z));
        version = ap (λ (y : ℕ). v + y) (sym (cut_taken ks (omega arith) ∙ d));
        some = omega arith;
        room = omega arith;
      }

-- What settling asks: the leaf is there, its rows are rows of the index, and there is room for the leaves and versions.
pub record Settling (m p i j v : ℕ) (ks : List ℕ) : Type 0 where
  pub leaf_in_lem : p < m
  pub leaves_in_lem : m ≤ leaf_places
  pub from_to : i ≤ j
  pub rows_in_lem : j ≤ record_places
  pub room : m + versions_taken standard ks ≤ leaf_places + 1
  pub next : v + versions_taken standard ks < 2 ^ 64

pub settling_next : {m p i j v : ℕ} {ks : List ℕ} → Settling m p i j v ks → v + 1 < 2 ^ 64
settling_next {m} {p} {i} {j} {v} {ks} s =
    let t : 1 ≤ versions_taken standard ks = taken_some standard ks in
    let n : v + versions_taken standard ks < 2 ^ 64 = s.next in
    omega arith

pub settling_cut : {m p i j v : ℕ} (rows : RecordRows) → Settling m p i j v (keys_between rows i j) → standard.leaf_limit < j - i → (m + (j - i) / standard.run ≤ leaf_places + 1) × (v + (j - i) / standard.run < 2 ^ 64)
settling_cut {m} {p} {i} {j} {v} rows s h =
    let l : length (keys_between rows i j) ≡ j - i = length_between rows i j s.from_to s.rows_in_lem in
    let t : versions_taken standard (keys_between rows i j) ≡ (j - i) / standard.run = cut_taken (keys_between rows i j) (omega arith) ∙ ap (λ (n : ℕ). n / standard.run) l in
    let r : m + versions_taken standard (keys_between rows i j) ≤ leaf_places + 1 = s.room in
    let n : v + versions_taken standard (keys_between rows i j) < 2 ^ 64 = s.next in
    (omega arith, omega arith)
