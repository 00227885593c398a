-- The laws of leaves: every address has one, no two versions are the same, what a scan's range meets.
use Rattle.std.specs.Prelude.{ℕ, suc, ◌<◌, ◌≤◌, ◌≡◌, refl, ◌⊎◌, true}
use Rattle.std.proofs.Common.{zero-le, le_refl, arith, sym, ap, ◌∙◌, subst, inl, inr, ⊎_elim}
use mathlib.Core.List.Memᴰ
use mathlib.Core.List.{List, [], ◌∷◌, ◌++◌, Memᴰ}
use Rattle.lists.specs.Tests.{less}
use Rattle.lists.specs.TestLaws.{cases, clash, less_true, less_false, less_yes, at_most_yes}
use Rattle.lists.specs.Rows.{filter}
use Rattle.lists.specs.Ascending.{filter_mem, mem_filter}
use Rattle.spec.specs.Leaves.{Leaf, first_leaf, leaf_from, leaf_of, version_at, live, starts_in, meeting}
use Rattle.laws.specs.LeafParts.{LowsFrom, Covers, Above, Apart, live_nil, live_head, live_later, live_cons, leaf_live, leaf_from_lem, leaf_inside, lows_right}

-- Leaves as document 01 has them, with v the last version given: they cover all addresses, lows rise, and no two have
-- the same version.
pub record GoodLeaves (v : ℕ) (ls : List Leaf) : Type 0 where
  pub covers : Covers ls
  pub rising : LowsFrom 0 ls
  pub apart : Apart ls
  pub old : (u : ℕ) → live ls u ≡ true → u ≤ v

pub fresh_leaves_lem : GoodLeaves 0 (first_leaf ∷ [])
unfolding Covers LowsFrom Apart
fresh_leaves_lem =
    record {
      covers = refl;
      rising = (zero-le, tt);
      apart = (live_nil 0, tt);
      old = λ u e. ⊎_elim (λ (q : 0 ≡ u). omega arith) (λ r. clash r (live_nil u)) (live_cons first_leaf [] u e);
    }

-- ---- versions and addresses

pub version_live : {v : ℕ} {ls : List Leaf} → GoodLeaves v ls → (k : ℕ) → live ls (version_at ls k) ≡ true
unfolding Covers version_at leaf_of
version_live {ls = []} g k = absurd g.covers
version_live {ls = l ∷ ls} g k = leaf_live l ls k

pub version_old : {v : ℕ} {ls : List Leaf} → GoodLeaves v ls → (k : ℕ) → version_at ls k ≤ v
version_old {ls} g k = g.old (version_at ls k) (version_live g k)

-- where a version stands
record Standing (u : ℕ) (ls : List Leaf) : Type 0 where
  pub before : List Leaf
  pub leaf : Leaf
  pub after : List Leaf
  pub parts : ls ≡ before ++ (leaf ∷ after)
  pub version : leaf.version ≡ u

standing : (u : ℕ) (ls : List Leaf) → live ls u ≡ true → Standing u ls
standing u [] e = clash e (live_nil u)
standing u (l ∷ ls) e = ⊎_elim (λ q. record { before = []; leaf = l; after = ls; parts = refl; version = q }) (λ r. later (standing u ls r)) (live_cons l ls u e)
  where
    later : Standing u ls → Standing u (l ∷ ls)
    later s = record { before = l ∷ s.before; leaf = s.leaf; after = s.after; parts = ap (λ (zs : List Leaf). l ∷ zs) s.parts; version = s.version }

-- the leaf of a leaf's own low is that leaf
pub leaf_of_low : (pre : List Leaf) (l : Leaf) (post : List Leaf) → LowsFrom 0 (pre ++ (l ∷ post)) → leaf_of (pre ++ (l ∷ post)) l.low ≡ l
unfolding LowsFrom Above leaf_from
leaf_of_low pre l [] f = leaf_from_lem pre l [] l.low f (le_refl l.low)
leaf_of_low pre l (m ∷ ms) f =
    leaf_from_lem pre l (m ∷ ms) l.low f (le_refl l.low)
    ∙ leaf_inside l [] (m ∷ ms) l.low (lows_right 0 pre l (m ∷ ms) f).1.0

pub live_version : {v : ℕ} {ls : List Leaf} → GoodLeaves v ls → (x : ℕ) → live ls x ≡ true → (k : ℕ) × (version_at ls k ≡ x)
unfolding version_at
live_version {v} {ls} g x e =
    let s : Standing x ls = standing x ls e in
    let f : LowsFrom 0 (s.before ++ (s.leaf ∷ s.after)) = subst (LowsFrom 0) s.parts g.rising in (
      s.leaf.low,
      ap (λ (zs : List Leaf). (leaf_of zs s.leaf.low).version) s.parts
          ∙ ap (λ (l : Leaf). l.version) (leaf_of_low s.before s.leaf s.after f)
          ∙ s.version,
    )

-- ---- the leaves that meet a range

-- the leaf of k among l and the leaves after it, where l starts at k or before
leaf_place : (l : Leaf) (ls : List Leaf) (k : ℕ) → LowsFrom l.low (l ∷ ls) → l.low ≤ k
    → Memᴰ (leaf_from l ls k) (l ∷ ls) × (l.low ≤ (leaf_from l ls k).low) × ((leaf_from l ls k).low ≤ k)
unfolding leaf_from LowsFrom
leaf_place l [] k f h = (Memᴰ.head refl, le_refl l.low, h)
leaf_place l (m ∷ ms) k f h =
    ⊎_elim
    (λ e. rw e (Memᴰ.head refl, le_refl l.low, h))
    (λ e. rw e (later (leaf_place m ms k (le_refl m.low, f.1.1) (less_false k m.low e))))
    (cases (less k m.low))
  where
    later : Memᴰ (leaf_from m ms k) (m ∷ ms) × (m.low ≤ (leaf_from m ms k).low) × ((leaf_from m ms k).low ≤ k)
        → Memᴰ (leaf_from m ms k) (l ∷ m ∷ ms) × (l.low ≤ (leaf_from m ms k).low) × ((leaf_from m ms k).low ≤ k)
    later r = (Memᴰ.tail r.0, (let g : suc l.low ≤ m.low = f.1.0 in let i : m.low ≤ (leaf_from m ms k).low = r.1 in omega arith), r.2)

leaf_stop : (l m : Leaf) (ms : List Leaf) (k : ℕ) → k < m.low → leaf_from l (m ∷ ms) k ≡ l
unfolding leaf_from
leaf_stop l m ms k h = rw (less_yes {m = k} {n = m.low} h)

-- the leaf of an address of a range is that of the range's start, or it starts after that and not after the range's end
leaf_meets : (l : Leaf) (ls : List Leaf) (lo k hi : ℕ) → LowsFrom l.low (l ∷ ls) → lo ≤ k → k ≤ hi
    → (leaf_from l ls k ≡ leaf_from l ls lo) ⊎ (Memᴰ (leaf_from l ls k) ls × (lo < (leaf_from l ls k).low) × ((leaf_from l ls k).low ≤ hi))
unfolding leaf_from LowsFrom
leaf_meets l [] lo k hi f h i = inl refl
leaf_meets l (m ∷ ms) lo k hi f h i =
    ⊎_elim
    (λ e. let q : k < m.low = less_true k m.low e in inl (leaf_stop l m ms k q ∙ sym (leaf_stop l m ms lo (omega arith))))
    (λ e. rw e (⊎_elim
    (λ d. rw d (inr (started (less_true lo m.low d) (leaf_place m ms k (le_refl m.low, f.1.1) (less_false k m.low e)))))
    (λ d. rw d (later (leaf_meets m ms lo k hi (le_refl m.low, f.1.1) h i)))
    (cases (less lo m.low))))
    (cases (less k m.low))
  where
    started : lo < m.low → Memᴰ (leaf_from m ms k) (m ∷ ms) × (m.low ≤ (leaf_from m ms k).low) × ((leaf_from m ms k).low ≤ k)
        → Memᴰ (leaf_from m ms k) (m ∷ ms) × (lo < (leaf_from m ms k).low) × ((leaf_from m ms k).low ≤ hi)
    started d r = (r.0, (let j : m.low ≤ (leaf_from m ms k).low = r.1 in omega arith), (let j : (leaf_from m ms k).low ≤ k = r.2 in omega arith))

    later : (leaf_from m ms k ≡ leaf_from m ms lo) ⊎ (Memᴰ (leaf_from m ms k) ms × (lo < (leaf_from m ms k).low) × ((leaf_from m ms k).low ≤ hi))
        → (leaf_from m ms k ≡ leaf_from m ms lo) ⊎ (Memᴰ (leaf_from m ms k) (m ∷ ms) × (lo < (leaf_from m ms k).low) × ((leaf_from m ms k).low ≤ hi))
    later (inl e) = inl e
    later (inr r) = inr (Memᴰ.tail r.0, r.1, r.2)

starts_in_lem : (lo hi : ℕ) (l : Leaf) → lo < l.low → l.low ≤ hi → starts_in lo hi l ≡ true
unfolding starts_in
starts_in_lem lo hi l h i = rw (less_yes {m = lo} {n = l.low} h, at_most_yes {m = l.low} {n = hi} i)

-- the leaf of every address of the range is among those that meet it
pub meeting_covers : {v : ℕ} {ls : List Leaf} → GoodLeaves v ls → (lo k hi : ℕ) → lo ≤ k → k ≤ hi → Memᴰ (version_at ls k) (meeting ls lo hi)
unfolding meeting version_at leaf_of Covers LowsFrom
meeting_covers {ls = []} g lo k hi h i = absurd g.covers
meeting_covers {ls = l ∷ ls} g lo k hi h i =
    ⊎_elim
    (λ e. Memᴰ.head (ap (λ (m : Leaf). m.version) e))
    (λ r. Memᴰ.tail (Memᴰ.map (λ (m : Leaf). m.version)
    (filter_mem (starts_in lo hi) (l ∷ ls) (Memᴰ.tail r.0) (starts_in_lem lo hi (leaf_from l ls k) r.1 r.2))))
    (leaf_meets l ls lo k hi (le_refl l.low, g.rising.1) h i)

mem_live : {l : Leaf} (ls : List Leaf) (u : ℕ) → l.version ≡ u → Memᴰ l ls → live ls u ≡ true
mem_live {l = l} [] u q x'' = elim x'' [ ]
mem_live (m ∷ ms) u q (Memᴰ.head e) = live_head m ms u (sym (ap (λ (x : Leaf). x.version) e) ∙ q)
mem_live (m ∷ ms) u q (Memᴰ.tail n) = live_later m ms u (mem_live ms u q n)

meeting_live : {v : ℕ} {ls : List Leaf} → GoodLeaves v ls → (lo hi u : ℕ) → Memᴰ u (meeting ls lo hi) → live ls u ≡ true
unfolding meeting
meeting_live {v} {ls} g lo hi u (Memᴰ.head e) = ap (live ls) e ∙ version_live g lo
meeting_live {v} {ls} g lo hi u (Memᴰ.tail m) =
    let r = Memᴰ.of_map (λ (l : Leaf). l.version) (filter (starts_in lo hi) ls) m in
    mem_live ls u r.2 (mem_filter (starts_in lo hi) ls r.1).0

pub meeting_old : {v : ℕ} {ls : List Leaf} → GoodLeaves v ls → (lo hi u : ℕ) → Memᴰ u (meeting ls lo hi) → u ≤ v
meeting_old g lo hi u m = g.old u (meeting_live g lo hi u m)
