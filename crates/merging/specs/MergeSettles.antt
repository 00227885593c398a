-- The second part of a merge: the leaf settles around the records that it has now. There is room for the leaves and the
-- versions that it makes, and their lows are addresses.
use Rattle.std.specs.Prelude.{ℕ, zero, suc, ◌+◌, ◌^◌, ◌<◌, ◌≤◌, ◌≡◌, refl, ◌⊎◌, Bool, true, List, [], ◌∷◌, ◌++◌, map, length, drop, get_or}
use Rattle.std.proofs.Common.{suc-le-suc, not-suc-le-zero, le_of_suc-le-suc, arith, sym, ap, ◌∙◌, subst, inl, inr, ⊎_elim, length-append}
use Rattle.std.proofs.Math.ListN.{get_or-eq_default}
use Rattle.lists.specs.Tests.{less}
use Rattle.lists.specs.TestLaws.{cases, less_true, less_false}
use Rattle.lists.specs.Rows.{Row, keys, has, filter}
use Rattle.lists.specs.Ascending.{Ascends, mem_get_or, mem_filter, mem_keys, keys_mem}
use Rattle.lists.specs.Memberships.{member_has}
use Rattle.spec.specs.Widths.{addresses}
use Rattle.spec.specs.Records.{Tuning, standard, Record}
use Rattle.spec.specs.Leaves.{Leaf, first_leaf, cuts, starts, new_lows, fresh_leaves, Around, around, widened, settled, settle, versions_taken}
use Rattle.laws.specs.LeafParts.{LowsFrom, Covers}
use Rattle.laws.specs.LeafCuts.{taken_none, lows_taken}
use Rattle.laws.specs.SettleLaws.{around_parts}
use Rattle.index.specs.Views.{leaf_places, record_places, records_of, keys_between}
use Rattle.index.specs.Views as index
use Rattle.index.specs.RecordPlaces.{AtPlace}
use Rattle.index.specs.declared.leaves.LeafWords.{LeafWords}
use Rattle.index.specs.LeafColumns.{lows_of, pending_of, leaf_at}
use Rattle.index.specs.LeafColumnLaws.{column_get_or}
use Rattle.index.specs.Settles.{Settling}
use Rattle.index.specs.SettleRows.{SettledRows}
use Rattle.phantomlet.specs.LeafTests.{placed}
use Rattle.phantomlet.specs.LeafRows.{Lows, Spans}
use Rattle.map.specs.Views.{LeafRows, RecordRows}

-- the addresses of the records of the leaf at place i
unfoldable pub leaf_keys : List ℕ → RecordRows → ℕ → ℕ → ℕ → List ℕ
leaf_keys lows rows n m i = keys (filter (λ (r : Row Record). placed lows m i r.key) (records_of rows n))

-- the place of an address that is a leaf's low
pub at_low : {rows : RecordRows} {n k low p : ℕ} → k ≡ low → AtPlace rows n k p → AtPlace rows n low p
at_low {rows} {n} {k} {low} {p} e a = subst (λ (x : ℕ). AtPlace rows n x p) e a

-- the number of pending writes of a leaf that was read
pub pending_of_lem : (ls : LeafRows) (i : ℕ) {l : LeafWords} → l ≡ leaf_at ls i → get_or (pending_of ls) i 0 ≡ l.pending
pending_of_lem ls i e = column_get_or 3 ls i ∙ ap (λ (x : LeafWords). x.pending) (sym e)

pub pending_some : (ls : LeafRows) (i : ℕ) {l : LeafWords} → l ≡ leaf_at ls i → (l.pending ≡ 0 → ⊥) → get_or (pending_of ls) i 0 ≡ 0 → ⊥
pending_some ls i e n z = n (sym (pending_of_lem ls i e) ∙ z)

-- what settling the leaf at place i asks
pub record Resettling (lows : List ℕ) (rows : RecordRows) (n m i v : ℕ) : Type 0 where
  pub rows_held : index.RecordsSorted rows n
  pub lows_are : Lows lows m
  pub leaf_in_lem : i < m
  pub room : m + versions_taken standard (leaf_keys lows rows n m i) ≤ leaf_places + 1
  pub next : v + versions_taken standard (leaf_keys lows rows n m i) < 2 ^ 64

pub settling : {lows : List ℕ} {rows : RecordRows} {n m i v from to : ℕ} → Resettling lows rows n m i v → Spans (placed lows m i) rows n from to
    → Settling m i from to v (keys_between rows from to)
unfolding leaf_keys
settling {lows} {rows} {n} {m} {i} {v} {from} {to} r s =
    let w : to ≤ n = s.within in
    let h : n ≤ record_places = r.rows_held.room in
    record {
      leaf_in_lem = r.leaf_in_lem;
      leaves_in_lem = r.lows_are.listed.room;
      from_to = s.from_to;
      rows_in_lem = omega arith;
      room = subst (λ (ks : List ℕ). m + versions_taken standard ks ≤ leaf_places + 1) (sym s.keys_are) r.room;
      next = subst (λ (ks : List ℕ). v + versions_taken standard ks < 2 ^ 64) (sym s.keys_are) r.next;
    }

-- the rows of the leaf hold its records
pub resettled : {ls ls' : LeafRows} {rows : RecordRows} {n m i v from to m' v' : ℕ} → Spans (placed (lows_of ls) m i) rows n from to
    → SettledRows ls m i v (keys_between rows from to) ls' m' v' → SettledRows ls m i v (leaf_keys (lows_of ls) rows n m i) ls' m' v'
unfolding leaf_keys
resettled {ls} {ls'} {rows} {n} {m} {i} {v} {from} {to} {m'} {v'} s r =
    subst (λ (ks : List ℕ). SettledRows ls m i v ks ls' m' v') s.keys_are r

-- ---- how many leaves there are then

pub length_fresh : (v : ℕ) (lows : List ℕ) → length (fresh_leaves v lows) ≡ length lows
unfolding fresh_leaves
length_fresh v [] = refl
length_fresh v (l ∷ ls) = ap suc (length_fresh (suc v) ls)

-- a leaf that is not joined becomes as many as versions are taken
length_settled : (s : Tuning) (v : ℕ) (before : List Leaf) (own : Leaf) (ks : List ℕ) → (length ks ≡ 0) ⊎ (length (settled s v before own ks) ≡ length before + versions_taken s ks)
unfolding settled
length_settled s v [] own ks =
    let e : length (fresh_leaves v (new_lows s own.low ks)) ≡ versions_taken s ks = length_fresh v (new_lows s own.low ks) ∙ lows_taken s own.low ks in
    inr (omega arith)
length_settled s v (l ∷ ls) own [] = inl refl
length_settled s v (l ∷ ls) own (k ∷ ks) =
    let e : length (fresh_leaves v (new_lows s own.low (k ∷ ks))) ≡ versions_taken s (k ∷ ks) = length_fresh v (new_lows s own.low (k ∷ ks)) ∙ lows_taken s own.low (k ∷ ks) in
    let f : length ((l ∷ ls) ++ fresh_leaves v (new_lows s own.low (k ∷ ks))) ≡ length (l ∷ ls) + length (fresh_leaves v (new_lows s own.low (k ∷ ks))) = length-append (l ∷ ls) (fresh_leaves v (new_lows s own.low (k ∷ ks))) in
    inr (f ∙ ap (λ (n : ℕ). length (l ∷ ls) + n) e)

taken_empty : (ks : List ℕ) → length ks ≡ 0 → versions_taken standard ks ≡ 1
taken_empty [] h = taken_none standard
taken_empty (k ∷ ks) h = absurd (let q : ⊥ = omega arith in q)

-- where the leaves after a merge are at most 1,025, there is room
pub settle_room : (v : ℕ) (ls : List Leaf) (a : ℕ) (ks : List ℕ) → Covers ls → length ls ≤ leaf_places → length (settle standard v ls a ks) ≤ leaf_places
    → length ls + versions_taken standard ks ≤ leaf_places + 1
unfolding settle
settle_room v ls a ks c h l =
    let p : Around = around a ls in
    let e : length ls ≡ length p.before + suc (length p.after) = ap length (around_parts a ls c) ∙ length-append p.before (p.own ∷ p.after) in
    let f : length (settled standard v p.before p.own ks ++ p.after) ≡ length (settled standard v p.before p.own ks) + length p.after = length-append (settled standard v p.before p.own ks) p.after in
    ⊎_elim
    (λ z. let t : versions_taken standard ks ≡ 1 = taken_empty ks z in omega arith)
    (λ z. let q : length (settled standard v (around a ls).before (around a ls).own ks) ≡ length (around a ls).before + versions_taken standard ks = z in
    let y : length (settled standard v (around a ls).before (around a ls).own ks ++ (around a ls).after) ≤ leaf_places = l in omega arith)
    (length_settled standard v p.before p.own ks)

-- ---- lows are addresses

pub Narrow : List Leaf → Type 0
Narrow [] = Unit {0}
Narrow (l ∷ ls) = (l.low < addresses) × Narrow ls

narrow_left : (xs ys : List Leaf) → Narrow (xs ++ ys) → Narrow xs
unfolding Narrow
narrow_left [] ys n = tt
narrow_left (x ∷ xs) ys n = (n.0, narrow_left xs ys n.1)

narrow_right : (xs ys : List Leaf) → Narrow (xs ++ ys) → Narrow ys
unfolding Narrow
narrow_right [] ys n = n
narrow_right (x ∷ xs) ys n = narrow_right xs ys n.1

narrow_join : (xs ys : List Leaf) → Narrow xs → Narrow ys → Narrow (xs ++ ys)
unfolding Narrow
narrow_join [] ys m n = n
narrow_join (x ∷ xs) ys m n = (m.0, narrow_join xs ys m.1 n)

narrow_starts : (v : ℕ) (ns ks : List ℕ) → ((i : ℕ) → get_or ks i 0 < addresses) → Narrow (fresh_leaves v (starts ns ks))
unfolding Narrow starts fresh_leaves
narrow_starts v [] ks h = tt
narrow_starts v (n ∷ []) ks h = tt
narrow_starts v (n ∷ m ∷ ns) ks h = (h n, narrow_starts (suc v) (m ∷ ns) (drop n ks) (λ i. subst (λ (x : ℕ). x < addresses) (sym (lib.Seq.get_or-drop n ks i 0)) (h (n + i))))

narrow_fresh : (s : Tuning) (v low : ℕ) (ks : List ℕ) → low < addresses → ((i : ℕ) → get_or ks i 0 < addresses) → Narrow (fresh_leaves v (new_lows s low ks))
unfolding Narrow new_lows fresh_leaves
narrow_fresh s v low ks l h = (l, narrow_starts (suc v) (cuts s (length ks)) ks h)

narrow_widened : (v : ℕ) (l : Leaf) (ls : List Leaf) → Narrow (l ∷ ls) → Narrow (widened v l ls)
unfolding Narrow widened
narrow_widened v l [] n = (n.0, tt)
narrow_widened v l (m ∷ ms) n = (n.0, narrow_widened v m ms n.1)

narrow_settled : (s : Tuning) (v : ℕ) (before : List Leaf) (own : Leaf) (ks : List ℕ) → Narrow before → own.low < addresses → ((i : ℕ) → get_or ks i 0 < addresses) → Narrow (settled s v before own ks)
unfolding settled
narrow_settled s v [] own ks b o h = narrow_fresh s v own.low ks o h
narrow_settled s v (l ∷ ls) own [] b o h = narrow_widened v l ls b
narrow_settled s v (l ∷ ls) own (k ∷ ks) b o h = narrow_join (l ∷ ls) (fresh_leaves v (new_lows s own.low (k ∷ ks))) b (narrow_fresh s v own.low (k ∷ ks) o h)

pub settle_narrow : (s : Tuning) (v : ℕ) (ls : List Leaf) (a : ℕ) (ks : List ℕ) → Covers ls → Narrow ls → ((i : ℕ) → get_or ks i 0 < addresses) → Narrow (settle s v ls a ks)
unfolding settle Narrow
settle_narrow s v ls a ks c n h =
    let p : Around = around a ls in
    let w : Narrow ((around a ls).before ++ ((around a ls).own ∷ (around a ls).after)) = subst Narrow (around_parts a ls c) n in
    let r : Narrow ((around a ls).own ∷ (around a ls).after) = narrow_right (around a ls).before ((around a ls).own ∷ (around a ls).after) w in
    narrow_join (settled s v (around a ls).before (around a ls).own ks) (around a ls).after
    (narrow_settled s v (around a ls).before (around a ls).own ks (narrow_left (around a ls).before ((around a ls).own ∷ (around a ls).after) w) r.0 h) r.1

pub narrow_leaves : (ls : List Leaf) → ((i : ℕ) → i < length ls → (get_or ls i first_leaf).low < addresses) → Narrow ls
unfolding Narrow
narrow_leaves [] h = tt
narrow_leaves (l ∷ ls) h = (h 0 (omega arith), narrow_leaves ls (λ i g. h (suc i) (suc-le-suc g)))

pub narrow_at : (ls : List Leaf) (i : ℕ) → Narrow ls → i < length ls → (get_or ls i first_leaf).low < addresses
unfolding Narrow
narrow_at [] i n h = absurd (not-suc-le-zero h)
narrow_at (l ∷ ls) zero n h = n.0
narrow_at (l ∷ ls) (suc i) n h = narrow_at ls i n.1 (le_of_suc-le-suc h)

-- the keys of records that are addresses
pub keys_narrow : (p : Row Record → Bool) (rs : List (Row Record)) → ((k : ℕ) → has k (keys rs) ≡ true → k < addresses) → (i : ℕ) → get_or (keys (filter p rs)) i 0 < addresses
keys_narrow p rs h i =
    ⊎_elim
    (λ t.
    let q = mem_keys (filter p rs) (mem_get_or (keys (filter p rs)) i 0 (less_true i (length (keys (filter p rs))) t)) in
    let r = mem_filter p rs q.1 in
    subst (λ (k : ℕ). k < addresses) q.2 (h q.0.key (member_has (keys_mem q.0 rs r.0))))
    (λ f. let z : get_or (keys (filter p rs)) i 0 ≡ 0 = get_or-eq_default (keys (filter p rs)) 0 {n = i} (less_false i (length (keys (filter p rs))) f) in omega arith)
    (cases (less i (length (keys (filter p rs)))))

-- lows that rise, as the arrays have them
pub lows_ascend : (lo : ℕ) (ls : List Leaf) → LowsFrom lo ls → Ascends lo (map (λ (l : Leaf). l.low) ls)
unfolding LowsFrom Ascends
lows_ascend lo [] f = tt
lows_ascend lo (l ∷ ls) f = (f.0, lows_ascend (suc l.low) ls f.1)
