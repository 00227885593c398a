-- The leaves that a merge keeps: where they stand then, and that they hold the addresses that they held.
use Rattle.std.specs.Prelude.{ℕ, zero, suc, ◌+◌, ◌-◌, ◌<◌, ◌≤◌, ◌≡◌, refl, true, false, List, [], ◌∷◌, ◌++◌}
use Rattle.std.proofs.Common.{zero-le, not-suc-le-zero, le_of_suc-le-suc, arith, sym, ap, ◌∙◌, ⊎_elim, get_or-append-add, get_or-take, get_or-drop, length-take-le}
use lib.ListN.{length, drop, get_or, length-append, get_or-append}
use Rattle.lists.specs.Tests.{same}
use Rattle.lists.specs.TestLaws.{cases, clash, same_no}
use Rattle.spec.specs.Records.{Tuning}
use Rattle.spec.specs.Leaves.{Leaf, first_leaf, version_at, live, new_lows, fresh_leaves, around, widened, settled, settle, versions_taken}
use Rattle.laws.specs.LeafCuts.{taken_some, lows_taken}
use Rattle.laws.specs.LeafVersions.{GoodLeaves, live_version}
use Rattle.laws.specs.LeafSwaps.{Kept}
use Rattle.index.specs.LeafViews.{Parted}
use Rattle.merging.specs.MergeSettles.{length_fresh}

-- The leaves after place i stand at the end; before them stands what became of the others, of which all but the last two
-- at most are as they were. If there are no fewer leaves than before, none was joined, and all before place i are.
pub record Shape (ls ms : List Leaf) (i : ℕ) : Type 0 where
  pub front : List Leaf
  pub is : ms ≡ front ++ drop (suc i) ls
  pub long : i ≤ length front
  pub some : 1 ≤ length front
  pub early : (j : ℕ) → j + 1 < i → get_or front j first_leaf ≡ get_or ls j first_leaf
  pub unjoined : length ls ≤ length ms → (j : ℕ) → j < i → get_or front j first_leaf ≡ get_or ls j first_leaf

widened_length : (v : ℕ) (l : Leaf) (ls : List Leaf) → length (widened v l ls) ≡ suc (length ls)
unfolding widened
widened_length v l [] = refl
widened_length v l (m ∷ ms) = ap suc (widened_length v m ms)

widened_early : (v : ℕ) (l : Leaf) (ls : List Leaf) (j : ℕ) → j < length ls → get_or (widened v l ls) j first_leaf ≡ get_or (l ∷ ls) j first_leaf
unfolding widened
widened_early v l [] j h = absurd (not-suc-le-zero h)
widened_early v l (m ∷ ms) zero h = refl
widened_early v l (m ∷ ms) (suc j) h = widened_early v m ms j (le_of_suc-le-suc h)

settled_long : (s : Tuning) (v : ℕ) (before : List Leaf) (own : Leaf) (ks : List ℕ) → (length before ≤ length (settled s v before own ks)) × (1 ≤ length (settled s v before own ks))
unfolding settled
settled_long s v [] own ks =
    let a : length (fresh_leaves v (new_lows s own.low ks)) ≡ versions_taken s ks = length_fresh v (new_lows s own.low ks) ∙ lows_taken s own.low ks in
    let b : 1 ≤ versions_taken s ks = taken_some s ks in
    (zero-le, omega arith)
settled_long s v (l ∷ ls) own [] = let a : length (widened v l ls) ≡ suc (length ls) = widened_length v l ls in (omega arith, omega arith)
settled_long s v (l ∷ ls) own (k ∷ ks) =
    let a : length ((l ∷ ls) ++ fresh_leaves v (new_lows s own.low (k ∷ ks))) ≡ length (l ∷ ls) + length (fresh_leaves v (new_lows s own.low (k ∷ ks))) = length-append (l ∷ ls) (fresh_leaves v (new_lows s own.low (k ∷ ks))) in
    (omega arith, omega arith)

settled_early : (s : Tuning) (v : ℕ) (before : List Leaf) (own : Leaf) (ks : List ℕ) (j : ℕ) → j + 1 < length before → get_or (settled s v before own ks) j first_leaf ≡ get_or before j first_leaf
unfolding settled
settled_early s v [] own ks j h = absurd (not-suc-le-zero h)
settled_early s v (l ∷ ls) own [] j h = widened_early v l ls j (omega arith)
settled_early s v (l ∷ ls) own (k ∷ ks) j h = get_or-append (l ∷ ls) (fresh_leaves v (new_lows s own.low (k ∷ ks))) first_leaf j (omega arith)

-- a leaf that was not joined to the one before leaves that one as it was
settled_unjoined : (s : Tuning) (v : ℕ) (before : List Leaf) (own : Leaf) (ks : List ℕ) → length before < length (settled s v before own ks)
    → (j : ℕ) → j < length before → get_or (settled s v before own ks) j first_leaf ≡ get_or before j first_leaf
unfolding settled
settled_unjoined s v [] own ks l j h = absurd (not-suc-le-zero h)
settled_unjoined s v (x ∷ xs) own [] l j h = absurd (let e : length (widened v x xs) ≡ suc (length xs) = widened_length v x xs in let q : ⊥ = omega arith in q)
settled_unjoined s v (x ∷ xs) own (k ∷ ks) l j h = get_or-append (x ∷ xs) (fresh_leaves v (new_lows s own.low (k ∷ ks))) first_leaf j h

pub settle_shape : (s : Tuning) (v : ℕ) (ls : List Leaf) (a i : ℕ) (ks : List ℕ) → Parted a ls i → i < length ls → Shape ls (settle s v ls a ks) i
unfolding settle
settle_shape s v ls a i ks p h =
    let e : length (around a ls).before ≡ i = ap length p.before ∙ length-take-le i ls (omega arith) in
    let w = settled_long s v (around a ls).before (around a ls).own ks in
    record {
      front = settled s v (around a ls).before (around a ls).own ks;
      is = ap (λ (zs : List Leaf). settled s v (around a ls).before (around a ls).own ks ++ zs) p.after;
      long = omega arith;
      some = w.1;
      early =
          λ j l.
          settled_early s v (around a ls).before (around a ls).own ks j (omega arith)
          ∙ ap (λ (zs : List Leaf). get_or zs j first_leaf) p.before ∙ get_or-take i ls j first_leaf (omega arith);
      unjoined =
          λ g j l.
          let d : length (settled s v (around a ls).before (around a ls).own ks ++ (around a ls).after)
          ≡ length (settled s v (around a ls).before (around a ls).own ks) + length (around a ls).after
          = length-append (settled s v (around a ls).before (around a ls).own ks) (around a ls).after in
          let f : length (around a ls).after ≡ length ls - suc i = ap length p.after ∙ lib.ListN.length-drop (suc i) ls in
          settled_unjoined s v (around a ls).before (around a ls).own ks (omega arith) j (omega arith)
          ∙ ap (λ (zs : List Leaf). get_or zs j first_leaf) p.before ∙ get_or-take i ls j first_leaf l;
    }

module _ {ls ms : List Leaf} {i : ℕ} (r : Shape ls ms i) where
  pub shape_length : length ms ≡ length r.front + (length ls - suc i)
  shape_length = ap length r.is ∙ length-append r.front (drop (suc i) ls) ∙ ap (λ (n : ℕ). length r.front + n) (lib.ListN.length-drop (suc i) ls)

  pub shape_early : (j : ℕ) → j + 1 < i → get_or ms j first_leaf ≡ get_or ls j first_leaf
  shape_early j h =
      let l : i ≤ length r.front = r.long in
      ap (λ (zs : List Leaf). get_or zs j first_leaf) r.is ∙ get_or-append r.front (drop (suc i) ls) first_leaf j (omega arith) ∙ r.early j h

  pub shape_unjoined : length ls ≤ length ms → (j : ℕ) → j < i → get_or ms j first_leaf ≡ get_or ls j first_leaf
  shape_unjoined g j h =
      let l : i ≤ length r.front = r.long in
      ap (λ (zs : List Leaf). get_or zs j first_leaf) r.is ∙ get_or-append r.front (drop (suc i) ls) first_leaf j (omega arith) ∙ r.unjoined g j h

  pub shape_after : (y : ℕ) → get_or ms (length r.front + y) first_leaf ≡ get_or ls (i + 1 + y) first_leaf
  shape_after y =
      let s : suc i + y ≡ i + 1 + y = omega arith in
      ap (λ (zs : List Leaf). get_or zs (length r.front + y) first_leaf) r.is
      ∙ get_or-append-add r.front (drop (suc i) ls) y first_leaf
      ∙ get_or-drop (suc i) ls y first_leaf
      ∙ ap (λ (n : ℕ). get_or ls n first_leaf) s

-- a leaf whose version is not fresh holds the addresses that it held
pub kept_test : {v w : ℕ} {ls ms : List Leaf} {a : ℕ} → Kept v ls ms a → GoodLeaves w ms → (u : ℕ) → live ms u ≡ true → u ≤ v
    → (k : ℕ) → same (version_at ms k) u ≡ same (version_at ls k) u
kept_test {v} {w} {ls} {ms} {a} r g u l h k = ⊎_elim gone stays (cases (r.gone (version_at ls k)))
  where
    -- the version itself stays
    there : r.gone u ≡ false
    there =
        let x = live_version g u l in
        ⊎_elim
        (λ t. let z : v < version_at ms x.0 = r.renewed x.0 t in let y : version_at ms x.0 ≡ u = x.1 in absurd (let q : ⊥ = omega arith in q))
        (λ f. ap r.gone (sym x.1 ∙ r.unchanged x.0 f) ∙ f)
        (cases (r.gone (version_at ls x.0)))

    gone : r.gone (version_at ls k) ≡ true → same (version_at ms k) u ≡ same (version_at ls k) u
    gone t =
        let z : v < version_at ms k = r.renewed k t in
        same_no {m = version_at ms k} {n = u} (λ e. let q : ⊥ = omega arith in q)
        ∙ sym (same_no {m = version_at ls k} {n = u} (λ e. clash (sym (ap r.gone e) ∙ t) there))

    stays : r.gone (version_at ls k) ≡ false → same (version_at ms k) u ≡ same (version_at ls k) u
    stays f = ap (λ (n : ℕ). same n u) (r.unchanged k f)
