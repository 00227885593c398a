-- What settling leaves in the rows of leaves: lows and versions as the model has them; the phantomlet's numbers move along
-- with their leaves, and those of the leaves that a merge made are 0.
use Rattle.std.specs.Prelude.{ℕ, suc, ◌+◌, ◌-◌, ◌/◌, ◌<◌, ◌≤◌, ◌≡◌, refl, ◌⊎◌, true, false, List, [], ◌∷◌, length, get_or, set}
use Rattle.std.proofs.Common.{not-suc-le-zero, arith, sym, ap, ◌∙◌, inl, inr, length-set, get_or-set_same, get_or-set_other}
use Rattle.lists.specs.Tests.{less}
use Rattle.lists.specs.TestLaws.{less_true, less_false, cases}
use Rattle.lists.specs.Tabulation.{tab}
use Rattle.lists.specs.Shifts.{over, moved, tab_same, length_tab, get_or_tab, length_over, get_or_over_left, get_or_over_in, get_or_over_right, length_moved, get_or_moved_left, get_or_moved_in, over_cons, filled_before}
use Rattle.spec.specs.Records.{standard}
use Rattle.cuts.specs.declared.MadeLeaf.{MadeLeaf as Run}
use Rattle.cuts.specs.Making.{most_runs, leaf}
use Rattle.index.specs.declared.leaves.LeafWords.{LeafWords}
use Rattle.index.specs.Views.{record_places, leaf_places, RecordRows, keys_between}
use Rattle.index.specs.LeafColumns.{LeafRows, column, lows_of, versions_of, hidden_of, pending_of, leaf_at, leaf_words, leaf_put}
use Rattle.index.specs.LeafColumnLaws.{column_places, column_get_or, column_set, column_kept, column_moved, column_filled}
use Rattle.index.specs.Settles.{fresh, run_low, SettledAs, kept, joined, cut}

-- a leaf as a merge makes it
abbrev pub made_leaf : ℕ → ℕ → LeafWords
made_leaf low version = record { low = low; version = version; hidden = 0; pending = 0 }

-- the row of run x + 1 of the records from row i on; v is the last version given before it
abbrev pub run_row : RecordRows → ℕ → ℕ → ℕ → List ℕ
run_row rows i v x = leaf_words (made_leaf (run_low rows i x) (fresh v x))

-- run x + 1 of the records from row i on, as it is made
abbrev pub run_leaf : RecordRows → ℕ → ℕ → ℕ → Run
run_leaf rows i v x = leaf (run_low rows i x) (fresh v x)

-- the row of leaf x of those that were made
abbrev pub made_row : List Run → ℕ → List ℕ
made_row made x = leaf_words (made_leaf (get_or made x (leaf 0 0)).low (get_or made x (leaf 0 0)).version)

-- the leaf at place p kept
abbrev pub kept_rows : LeafRows → ℕ → ℕ → LeafRows
kept_rows leaves p v = leaf_put leaves p (made_leaf (leaf_at leaves p).low (v + 1))

-- another version at place p
abbrev pub renewed : LeafRows → ℕ → ℕ → LeafRows
renewed leaves p v = leaf_put leaves p (record { low = (leaf_at leaves p).low; version = v; hidden = (leaf_at leaves p).hidden; pending = (leaf_at leaves p).pending })

-- the leaf at place p joined to its left neighbour
abbrev pub joined_rows : LeafRows → ℕ → ℕ → ℕ → LeafRows
joined_rows leaves m p v = renewed (moved leaves (p + 1) p (m - p - 1)) (p - 1) (v + 1)

-- room for t leaves at place p, and those after the first one there
abbrev pub spread_rows : LeafRows → RecordRows → ℕ → ℕ → ℕ → ℕ → ℕ → LeafRows
spread_rows leaves rows m p i t v = over (moved leaves (p + 1) (p + t) (m - p - 1)) (p + 1) (tab (run_row rows i (v + 1)) (t - 1))

-- the leaf at place p cut into t runs
abbrev pub cut_rows : LeafRows → RecordRows → ℕ → ℕ → ℕ → ℕ → ℕ → LeafRows
cut_rows leaves rows m p i t v = leaf_put (spread_rows leaves rows m p i t v) p (made_leaf (leaf_at leaves p).low (v + 1))

-- ---- the runs that are made

-- Of the leaves that were made, the first n are runs of the records from row i on.
pub record MadeRuns (rows : RecordRows) (i v n : ℕ) (made : List Run) : Type 0 where
  pub size : length made ≡ most_runs
  pub each : (k : ℕ) → k < n → get_or made k (leaf 0 0) ≡ run_leaf rows i v k

module _ {rows : RecordRows} {i v : ℕ} {made : List Run} where
  -- none is made yet
  pub making_start : length made ≡ most_runs → MadeRuns rows i v 0 made
  making_start e = record { size = e; each = λ k l. absurd (not-suc-le-zero l) }

  -- one more is made
  pub making_on : {x : ℕ} {made' : List Run} (low version : ℕ) → x < most_runs → MadeRuns rows i v x made → low ≡ run_low rows i x → version ≡ fresh v x
      → made' ≡ set made x (leaf low version) → MadeRuns rows i v (x + 1) made'
  making_on {x} {made'} low version h r a b e =
      let n : length made ≡ most_runs = r.size in
      record {
        size = ap length e ∙ length-set made x (leaf low version) ∙ n;
        each = λ k l. ap (λ (ls : List Run). get_or ls k (leaf 0 0)) e ∙ one k l (cases (less k x));
      }
    where
      is : leaf low version ≡ run_leaf rows i v x
      is = λ j. leaf (a j) (b j)

      one : (k : ℕ) → k < x + 1 → (less k x ≡ true) ⊎ (less k x ≡ false) → get_or (set made x (leaf low version)) k (leaf 0 0) ≡ run_leaf rows i v k
      one k l (inl y) =
          let c : k < x = less_true k x y in
          get_or-set_other made x k (leaf low version) (leaf 0 0) (λ q. let z : ⊥ = omega arith in z) ∙ r.each k c
      one k l (inr y) =
          let c : x ≤ k = less_false k x y in
          let q : k ≡ x = omega arith in
          ap (λ (m : ℕ). get_or (set made x (leaf low version)) m (leaf 0 0)) q
          ∙ get_or-set_same made x (leaf low version) (leaf 0 0) (rw r.size h) ∙ is ∙ ap (run_leaf rows i v) (sym q)

  -- n are made
  pub making_end : {x n : ℕ} → MadeRuns rows i v x made → n ≤ x → MadeRuns rows i v n made
  making_end {x} {n} r h = record { size = r.size; each = λ k l. r.each k (omega arith) }

  -- their rows
  pub made_rows : {x : ℕ} → MadeRuns rows i v x made → tab (made_row made) x ≡ tab (run_row rows i v) x
  made_rows {x} r = tab_same (made_row made) (run_row rows i v) x (λ k l. ap (λ (l : Run). leaf_words (made_leaf l.low l.version)) (r.each k l))

-- ---- the phantomlet's numbers

-- A column of numbers after settling the leaf at place p of m, where there are m' then: those of the leaves before it stay,
-- those of the leaves that were made are 0, and those of the leaves after it stand after these.
pub record Shifted (xs xs' : List ℕ) (m p m' : ℕ) : Type 0 where
  pub size : length xs' ≡ length xs
  pub before : (j : ℕ) → j < p → get_or xs' j 0 ≡ get_or xs j 0
  pub zeros : (j : ℕ) → p ≤ j → j < p + 1 + m' - m → get_or xs' j 0 ≡ 0
  pub after : (y : ℕ) → p + 1 + y < m → get_or xs' (p + 1 + m' - m + y) 0 ≡ get_or xs (p + 1 + y) 0

module _ (xs xs' : List ℕ) (m p : ℕ) (h : p < m) where
  shifted_kept : m ≤ length xs → xs' ≡ set xs p 0 → Shifted xs xs' m p m
  shifted_kept r e =
      record {
        size = ap length e ∙ length-set xs p 0;
        before = λ j l. at j ∙ get_or-set_other xs p j 0 0 (λ q. let z : ⊥ = omega arith in z);
        zeros = λ j a b. let q : j ≡ p = omega arith in at j ∙ ap (λ (n : ℕ). get_or (set xs p 0) n 0) q ∙ get_or-set_same xs p 0 0 (omega arith);
        after =
            λ y l.
            let q : p + 1 + m - m + y ≡ p + 1 + y = omega arith in
            ap (λ (n : ℕ). get_or xs' n 0) q ∙ at (p + 1 + y) ∙ get_or-set_other xs p (p + 1 + y) 0 0 (λ q. let z : ⊥ = omega arith in z);
      }
    where
      at : (j : ℕ) → get_or xs' j 0 ≡ get_or (set xs p 0) j 0
      at j = ap (λ (zs : List ℕ). get_or zs j 0) e

  shifted_joined : m ≤ length xs → xs' ≡ moved xs (p + 1) p (m - p - 1) → Shifted xs xs' m p (m - 1)
  shifted_joined r e =
      record {
        size = ap length e ∙ length_moved xs (p + 1) p (m - p - 1) (omega arith) (omega arith);
        before = λ j l. at j ∙ get_or_moved_left xs (p + 1) p (m - p - 1) (omega arith) (omega arith) j 0 l;
        zeros = λ j a b. absurd (let z : ⊥ = omega arith in z);
        after =
            λ y l.
            let q : p + 1 + (m - 1) - m + y ≡ p + y = omega arith in
            ap (λ (n : ℕ). get_or xs' n 0) q ∙ at (p + y) ∙ get_or_moved_in xs (p + 1) p (m - p - 1) (omega arith) (omega arith) y 0 (omega arith);
      }
    where
      at : (j : ℕ) → get_or xs' j 0 ≡ get_or (moved xs (p + 1) p (m - p - 1)) j 0
      at j = ap (λ (zs : List ℕ). get_or zs j 0) e

  shifted_cut : (t : ℕ) → 1 ≤ t → m + t ≤ length xs + 1 → xs' ≡ over (moved xs (p + 1) (p + t) (m - p - 1)) p (tab (λ (x : ℕ). 0) t)
      → Shifted xs xs' m p (m + t - 1)
  shifted_cut t s r e =
      record {
        size = ap length e ∙ length_over M p Z fits ∙ size_m;
        before = λ j l. at j ∙ get_or_over_left M p Z fits j 0 l ∙ get_or_moved_left xs (p + 1) (p + t) (m - p - 1) from to j 0 (omega arith);
        zeros =
            λ j a b.
            let q : j ≡ p + (j - p) = omega arith in
            let l : length Z ≡ t = length_tab (λ (x : ℕ). 0) t in
            ap (λ (n : ℕ). get_or xs' n 0) q ∙ at (p + (j - p)) ∙ get_or_over_in M p Z fits (j - p) 0 (omega arith) ∙ get_or_tab (λ (x : ℕ). 0) t (j - p) 0 (omega arith);
        after =
            λ y l.
            let q : p + 1 + (m + t - 1) - m + y ≡ p + t + y = omega arith in
            let k : length Z ≡ t = length_tab (λ (x : ℕ). 0) t in
            ap (λ (n : ℕ). get_or xs' n 0) q ∙ at (p + t + y) ∙ get_or_over_right M p Z fits (p + t + y) 0 (omega arith)
            ∙ get_or_moved_in xs (p + 1) (p + t) (m - p - 1) from to y 0 (omega arith);
      }
    where
      M : List ℕ
      M = moved xs (p + 1) (p + t) (m - p - 1)

      Z : List ℕ
      Z = tab (λ (x : ℕ). 0) t

      from : p + 1 + (m - p - 1) ≤ length xs
      from = omega arith

      to : p + t + (m - p - 1) ≤ length xs
      to = omega arith

      size_m : length M ≡ length xs
      size_m = length_moved xs (p + 1) (p + t) (m - p - 1) from to

      fits : p + length Z ≤ length M
      fits = let l : length Z ≡ t = length_tab (λ (x : ℕ). 0) t in let n : length M ≡ length xs = size_m in omega arith

      at : (j : ℕ) → get_or xs' j 0 ≡ get_or (over M p Z) j 0
      at j = ap (λ (zs : List ℕ). get_or zs j 0) e

-- ---- all columns

-- What settling the leaf at place p, left with the addresses `ks`, leaves in the rows.
pub record SettledRows (leaves : LeafRows) (m p v : ℕ) (ks : List ℕ) (leaves' : LeafRows) (m' v' : ℕ) : Type 0 where
  pub settled : SettledAs (lows_of leaves) (versions_of leaves) m p v ks (lows_of leaves') (versions_of leaves') m' v'
  pub hidden : Shifted (hidden_of leaves) (hidden_of leaves') m p m'
  pub pending : Shifted (pending_of leaves) (pending_of leaves') m p m'

module _ (leaves : LeafRows) (m p v : ℕ) (ks : List ℕ) (all : length leaves ≡ leaf_places) (mr : m ≤ leaf_places) (h : p < m) (leaves' : LeafRows) where
  -- how long a column is
  long : (k : ℕ) → m ≤ length (column k leaves)
  long k = rw (column_places k leaves all) mr

  pub rows_kept : (p ≡ 0) ⊎ (1 ≤ length ks) → length ks ≤ standard.leaf_limit → leaves' ≡ kept_rows leaves p v → SettledRows leaves m p v ks leaves' m (v + 1)
  rows_kept c k e =
      let row : List ℕ = leaf_words (made_leaf (leaf_at leaves p).low (v + 1)) in
      record {
        settled =
            kept (lows_of leaves) (versions_of leaves) m p v ks (column_places 0 leaves all) (column_places 1 leaves all) mr h
            (lows_of leaves') (versions_of leaves') c k (ap (column 0) e ∙ column_kept 0 leaves p row refl) (ap (column 1) e ∙ column_set 1 leaves p row);
        hidden = shifted_kept (hidden_of leaves) (hidden_of leaves') m p h (long 2) (ap (column 2) e ∙ column_set 2 leaves p row);
        pending = shifted_kept (pending_of leaves) (pending_of leaves') m p h (long 3) (ap (column 3) e ∙ column_set 3 leaves p row);
      }

  pub rows_joined : 0 < p → length ks ≡ 0 → leaves' ≡ joined_rows leaves m p v → SettledRows leaves m p v ks leaves' (m - 1) (v + 1)
  rows_joined i k e =
      record {
        settled =
            joined (lows_of leaves) (versions_of leaves) m p v ks (column_places 0 leaves all) (column_places 1 leaves all) mr h
            (lows_of leaves') (versions_of leaves') i k (shifts 0 refl) (ap (column 1) e ∙ column_set 1 M (p - 1) row ∙ ap (λ (zs : List ℕ). set zs (p - 1) (v + 1)) (column_moved 1 leaves (p + 1) p (m - p - 1)));
        hidden = shifted_joined (hidden_of leaves) (hidden_of leaves') m p h (long 2) (shifts 2 refl);
        pending = shifted_joined (pending_of leaves) (pending_of leaves') m p h (long 3) (shifts 3 refl);
      }
    where
      M : LeafRows
      M = moved leaves (p + 1) p (m - p - 1)

      row : List ℕ
      row = (leaf_at M (p - 1)).low ∷ (v + 1) ∷ (leaf_at M (p - 1)).hidden ∷ (leaf_at M (p - 1)).pending ∷ []

      -- a column whose word the left neighbour keeps
      shifts : (k : ℕ) → get_or row k 0 ≡ get_or (get_or M (p - 1) []) k 0 → column k leaves' ≡ moved (column k leaves) (p + 1) p (m - p - 1)
      shifts k q = ap (column k) e ∙ column_kept k M (p - 1) row q ∙ column_moved k leaves (p + 1) p (m - p - 1)

  pub rows_cut : (rows : RecordRows) (i j t : ℕ) → ks ≡ keys_between rows i j → i ≤ j → j ≤ record_places → standard.leaf_limit < j - i → t ≡ (j - i) / standard.run
      → m + t ≤ leaf_places + 1 → leaves' ≡ cut_rows leaves rows m p i t v → SettledRows leaves m p v ks leaves' (m + t - 1) (v + t)
  rows_cut rows i j t k b r c q l e =
      record {
        settled =
            cut (lows_of leaves) (versions_of leaves) m p v ks (column_places 0 leaves all) (column_places 1 leaves all) mr h
            rows i j t (lows_of leaves') (versions_of leaves') k b r c q l
            (spreads 0 ∙ ap (set (over (M 0) (p + 1) (tab (run_low rows i) (t - 1))) p) (sym (column_get_or 0 leaves p))
            ∙ ap (λ (n : ℕ). set (over (M 0) n (tab (run_low rows i) (t - 1))) p (get_or (lows_of leaves) p 0)) next
            ∙ over_cons (M 0) p (get_or (lows_of leaves) p 0) (tab (run_low rows i) (t - 1)) fits)
            (filled 1 (fresh v) (λ x w. omega arith) (omega arith));
        hidden = shifted_cut (hidden_of leaves) (hidden_of leaves') m p h t some (room 2) (filled 2 (λ (x : ℕ). 0) (λ x w. refl) refl);
        pending = shifted_cut (pending_of leaves) (pending_of leaves') m p h t some (room 3) (filled 3 (λ (x : ℕ). 0) (λ x w. refl) refl);
      }
    where
      row : List ℕ
      row = leaf_words (made_leaf (leaf_at leaves p).low (v + 1))

      -- word k of run x + 1, and column k with room for the runs
      word : ℕ → ℕ → ℕ
      word k x = get_or (run_row rows i (v + 1) x) k 0

      M : ℕ → List ℕ
      M k = moved (column k leaves) (p + 1) (p + t) (m - p - 1)

      some : 1 ≤ t
      some = omega arith

      next : p + 1 ≡ suc p
      next = omega arith

      room : (k : ℕ) → m + t ≤ length (column k leaves) + 1
      room k = rw (column_places k leaves all) l

      long_m : (k : ℕ) → length (M k) ≡ leaf_places
      long_m k =
          let n : length (column k leaves) ≡ leaf_places = column_places k leaves all in
          length_moved (column k leaves) (p + 1) (p + t) (m - p - 1) (omega arith) (omega arith) ∙ n

      fits : p + suc (length (tab (run_low rows i) (t - 1))) ≤ length (M 0)
      fits =
          let n : length (M 0) ≡ leaf_places = long_m 0 in
          let z : length (tab (run_low rows i) (t - 1)) ≡ t - 1 = length_tab (run_low rows i) (t - 1) in
          omega arith

      spreads : (k : ℕ) → column k leaves' ≡ set (over (M k) (p + 1) (tab (word k) (t - 1))) p (get_or row k 0)
      spreads k =
          ap (column k) e ∙ column_set k (spread_rows leaves rows m p i t v) p row
          ∙ ap (λ (zs : List ℕ). set zs p (get_or row k 0))
          (column_filled k (moved leaves (p + 1) (p + t) (m - p - 1)) (p + 1) (run_row rows i (v + 1)) (t - 1)
          ∙ ap (λ (zs : List ℕ). over zs (p + 1) (tab (word k) (t - 1))) (column_moved k leaves (p + 1) (p + t) (m - p - 1)))

      -- the leaves that were made have the values of f
      filled : (k : ℕ) (f : ℕ → ℕ) → ((x : ℕ) → x < t - 1 → f (suc x) ≡ word k x) → f 0 ≡ get_or row k 0 → column k leaves' ≡ over (M k) p (tab f t)
      filled k f w z =
          let n : length (M k) ≡ leaf_places = long_m k in
          let u : suc (t - 1) ≡ t = omega arith in
          spreads k ∙ ap (set (over (M k) (p + 1) (tab (word k) (t - 1))) p) (sym z)
          ∙ filled_before (M k) p f (word k) (t - 1) (omega arith) w ∙ ap (λ (y : ℕ). over (M k) p (tab f y)) u
