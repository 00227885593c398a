-- The leaves after a merge: they are a swap, so they stay good, and every address keeps its version or gets a fresh one.
use Rattle.std.specs.Prelude.{ℕ, suc, ◌+◌, ◌<◌, ◌≤◌, ◌≡◌, refl, Bool, true, length}
use Rattle.std.proofs.Common.{le_refl, arith, sym, ap, ◌∙◌, subst, ⊎_elim}
use mathlib.Core.List.Memᴰ
use mathlib.Core.List.{List, [], ◌∷◌, ◌++◌, append_assoc, tail, Memᴰ}
use Rattle.lists.specs.Tests.{same, less}
use Rattle.lists.specs.TestLaws.{cases, clash, same_true}
use Rattle.lists.specs.Rows.{Row, Rising, keys, filter}
use Rattle.lists.specs.Ascending.{Ascends, rising_keys, rising_filter, mem_filter, mem_keys}
use Rattle.spec.specs.Records.{Tuning}
use Rattle.spec.specs.Leaves.{Leaf, leaf_from, leaf_of, version_at, live, cuts, starts, new_lows, fresh_leaves, Around, around_from, around, widened, settled, settle, versions_taken}
use Rattle.laws.specs.LeafParts.{LowsFrom, Covers, Above, Apart, live_nil, live_head, live_later, live_cons, live_left, live_right, live_parts, apart_right, lows_right, lows_weaken}
use Rattle.spec.specs.GoodTuning.{GoodCut}
use Rattle.laws.specs.LeafCuts.{starts_none, cuts_fit, fresh_holds, taken_some, lows_taken, fresh_versions, fresh_apart, fresh_rise}
use Rattle.laws.specs.LeafVersions.{GoodLeaves, version_old}
use Rattle.laws.specs.LeafSwaps.{Swap, Kept, gone_side, new_inside, swap_good, swap_renews, swap_keeps}

-- Addresses by rising order, all in the leaf of a.
pub record InLeaf (ls : List Leaf) (a : ℕ) (ks : List ℕ) : Type 0 where
  pub rising : Ascends 0 ks
  pub inside : (k : ℕ) → Memᴰ k ks → version_at ls k ≡ version_at ls a

-- the addresses of the records in the leaf of a
pub records_in_leaf : {A : Type 0} (ls : List Leaf) (a : ℕ) (rs : List (Row A)) → Rising rs
    → InLeaf ls a (keys (filter (λ (r : Row A). same (version_at ls r.key) (version_at ls a)) rs))
records_in_leaf {A} ls a rs f =
    record {
      rising = rising_keys (filter test rs) (rising_filter test rs f);
      inside = λ k m.
          let q = mem_keys (filter test rs) m in
          sym (ap (version_at ls) q.2) ∙ same_true (version_at ls q.0.key) (version_at ls a) (mem_filter test rs q.1).1;
    }
  where
    test : Row A → Bool
    test r = same (version_at ls r.key) (version_at ls a)

-- ---- the leaves around an address

from_parts : (k : ℕ) (l : Leaf) (ls : List Leaf) → l ∷ ls ≡ (around_from k l ls).before ++ ((around_from k l ls).own ∷ (around_from k l ls).after)
unfolding around_from
from_parts k l [] = refl
from_parts k l (m ∷ ms) = ⊎_elim (λ e. rw e) (λ e. rw e (ap (λ (zs : List Leaf). l ∷ zs) (from_parts k m ms))) (cases (less k m.low))

from_own : (k : ℕ) (l : Leaf) (ls : List Leaf) → (around_from k l ls).own ≡ leaf_from l ls k
unfolding around_from leaf_from
from_own k l [] = refl
from_own k l (m ∷ ms) = ⊎_elim (λ e. rw e) (λ e. rw e (from_own k m ms)) (cases (less k m.low))

pub around_parts : (k : ℕ) (ls : List Leaf) → Covers ls → ls ≡ (around k ls).before ++ ((around k ls).own ∷ (around k ls).after)
unfolding around Covers
around_parts k [] c = absurd c
around_parts k (l ∷ ls) c = from_parts k l ls

pub around_own : (k : ℕ) (ls : List Leaf) → (around k ls).own ≡ leaf_of ls k
unfolding around leaf_of
around_own k [] = refl
around_own k (l ∷ ls) = from_own k l ls

around_version : (k : ℕ) (ls : List Leaf) → (around k ls).own.version ≡ version_at ls k
unfolding version_at
around_version k ls = ap (λ (l : Leaf). l.version) (around_own k ls)

-- ---- what a merge does to the leaves

-- why a leaf with a fresh version that is not the first leaf holds a record: one of the addresses `ks` lies in it, or it
-- was the left neighbour that took the leaf in, and what lay in the neighbour still lies there
pub data Holding (ls ms : List Leaf) (own : ℕ) (ks : List ℕ) (u : ℕ) : Type 0 where
  by_key : (k : ℕ) → Memᴰ k ks → version_at ms k ≡ u → Holding ls ms own ks u
  by_neighbour : (x : ℕ) → live (tail ls) x ≡ true → (x ≡ own → ⊥) → ((k : ℕ) → version_at ls k ≡ x → version_at ms k ≡ u) → Holding ls ms own ks u

-- `ms` is what a merge at the leaf with version `own`, left with the addresses `ks`, makes of `ls`, and takes n versions
pub record Settled (v n : ℕ) (ls ms : List Leaf) (own : ℕ) (ks : List ℕ) : Type 0 where
  pub swap : Swap v n ls ms
  pub own_gone : live (swap.old ∷ swap.olds) own ≡ true
  pub holding : (u : ℕ) → v < u → live (tail ms) u ≡ true → Holding ls ms own ks u

-- a leaf replaced by those that its addresses make
fresh_swap : (s : Tuning) (v : ℕ) (pre : List Leaf) (own : Leaf) (post : List Leaf) (ks : List ℕ) → GoodCut s
    → Ascends own.low ks → ((k : ℕ) → Memᴰ k ks → Above k post) → LowsFrom (suc own.low) post
    → Swap v (versions_taken s ks) (pre ++ (own ∷ post)) (pre ++ (fresh_leaves v (new_lows s own.low ks) ++ post))
unfolding new_lows fresh_leaves
fresh_swap s v pre own post ks c f a g =
    record {
      before = pre;
      old = own;
      olds = [];
      new = record { low = own.low; version = suc v };
      news = fresh_leaves (suc v) (starts (cuts s (length ks)) ks);
      after = post;
      was = refl;
      is = refl;
      low = refl;
      rising = fresh_rise v own.low (cuts s (length ks)) ks post (cuts_fit c (length ks)) f a g;
      apart = fresh_apart v (own.low ∷ starts (cuts s (length ks)) ks);
      given = λ u e.
          subst (λ (n : ℕ). (v < u) × (u ≤ v + n)) (lows_taken s own.low ks)
          (fresh_versions v (own.low ∷ starts (cuts s (length ks)) ks) u e);
    }

-- a leaf joined to its left neighbour, which gets a fresh version
join_swap : (v n : ℕ) (pre : List Leaf) (left own : Leaf) (post : List Leaf) → 1 ≤ n → LowsFrom 0 (pre ++ (left ∷ (own ∷ post)))
    → Swap v n (pre ++ (left ∷ (own ∷ post))) (pre ++ (record { low = left.low; version = suc v } ∷ post))
unfolding LowsFrom Apart
join_swap v n pre left own post i f =
    record {
      before = pre;
      old = left;
      olds = own ∷ [];
      new = record { low = left.low; version = suc v };
      news = [];
      after = post;
      was = refl;
      is = refl;
      low = refl;
      rising = (
        le_refl left.low,
        lows_weaken post (let h : suc left.low ≤ own.low = rest.0 in omega arith) rest.1,
      );
      apart = (live_nil (suc v), tt);
      given = λ u e. ⊎_elim (λ (q : suc v ≡ u). (omega arith, omega arith)) (λ r. clash r (live_nil u)) (live_cons (record { low = left.low; version = suc v }) [] u e);
    }
  where
    rest : (suc left.low ≤ own.low) × LowsFrom (suc own.low) post
    rest = (lows_right 0 pre left (own ∷ post) f).1

-- the last of l ∷ ls, which is widened
record Last (v : ℕ) (l : Leaf) (ls : List Leaf) : Type 0 where
  pub before : List Leaf
  pub last : Leaf
  pub parts : l ∷ ls ≡ before ++ (last ∷ [])
  pub wide : widened v l ls ≡ before ++ (record { low = last.low; version = suc v } ∷ [])

last_of : (v : ℕ) (l : Leaf) (ls : List Leaf) → Last v l ls
unfolding widened
last_of v l [] = record { before = []; last = l; parts = refl; wide = refl }
last_of v l (m ∷ ms) =
    let r : Last v m ms = last_of v m ms in
    record {
      before = l ∷ r.before;
      last = r.last;
      parts = ap (λ (zs : List Leaf). l ∷ zs) r.parts;
      wide = ap (λ (zs : List Leaf). l ∷ zs) r.wide;
    }

ascends_from : (lo b : ℕ) (ks : List ℕ) → Ascends lo ks → ((k : ℕ) → Memᴰ k ks → b ≤ k) → Ascends b ks
unfolding Ascends
ascends_from lo b [] f h = tt
ascends_from lo b (k ∷ ks) f h = (h k (Memᴰ.head refl), f.1)

tail_live : (zs : List Leaf) (u : ℕ) → live (tail zs) u ≡ true → live zs u ≡ true
tail_live [] u e = e
tail_live (z ∷ zs) u e = live_later z zs u e

-- a version after v that stands among leaves, of which those outside of `new` had versions up to v, stands in `new`
fresh_part : (v : ℕ) (pre mid new post : List Leaf) (u : ℕ) → GoodLeaves v (pre ++ (mid ++ post)) → v < u
    → live (pre ++ (new ++ post)) u ≡ true → live new u ≡ true
fresh_part v pre mid new post u g h e =
    ⊎_elim
    (λ p. absurd (let i : u ≤ v = g.old u (live_left pre (mid ++ post) u p) in omega arith))
    (λ q. ⊎_elim
    (λ p. p)
    (λ p. absurd (let i : u ≤ v = g.old u (live_right pre (mid ++ post) u (live_right mid post u p)) in omega arith))
    (live_parts new post u q))
    (live_parts pre (new ++ post) u e)

module _ (s : Tuning) (v : ℕ) (pre : List Leaf) (own : Leaf) (post : List Leaf) (ks : List ℕ) (c : GoodCut s)
    (g : GoodLeaves v (pre ++ (own ∷ post))) (f : Ascends 0 ks)
    (in_own : (k : ℕ) → Memᴰ k ks → (own.low ≤ k) × Above k post) where
  own_ascends : Ascends own.low ks
  own_ascends = ascends_from 0 own.low ks f (λ k m. (in_own k m).0)

  post_lows : LowsFrom (suc own.low) post
  unfolding LowsFrom
  post_lows = (lows_right 0 pre own post g.rising).1

  own_swap : Swap v (versions_taken s ks) (pre ++ (own ∷ post)) (pre ++ (fresh_leaves v (new_lows s own.low ks) ++ post))
  own_swap = fresh_swap s v pre own post ks c own_ascends (λ k m. (in_own k m).1) post_lows

  fresh_holding : (u : ℕ) → 1 ≤ length ks → v < u → live (pre ++ (fresh_leaves v (new_lows s own.low ks) ++ post)) u ≡ true
      → Holding (pre ++ (own ∷ post)) (pre ++ (fresh_leaves v (new_lows s own.low ks) ++ post)) own.version ks u
  unfolding own_swap fresh_swap new_lows fresh_leaves
  fresh_holding u i h e =
      let q = fresh_holds v own.low (cuts s (length ks)) ks u (cuts_fit c (length ks)) i own_ascends
      (fresh_part v pre (own ∷ []) (fresh_leaves v (new_lows s own.low ks)) post u g h e) in
      by_key q.0 q.1
      (new_inside v (versions_taken s ks) pre own [] own_swap.new own_swap.news post own_swap.low own_swap.rising own_swap.apart
      own_swap.given g q.0 (in_own q.0 q.1).0 (in_own q.0 q.1).1 ∙ q.2)

  own_gone_here : live (own ∷ []) own.version ≡ true
  own_gone_here = live_head own [] own.version refl

  -- a leaf that is left with addresses
  full_settled : 1 ≤ length ks
      → Settled v (versions_taken s ks) (pre ++ (own ∷ post)) (pre ++ (fresh_leaves v (new_lows s own.low ks) ++ post)) own.version ks
  unfolding own_swap fresh_swap
  full_settled i =
      record {
        swap = own_swap;
        own_gone = own_gone_here;
        holding = λ u h e. fresh_holding u i h (tail_live (pre ++ (fresh_leaves v (new_lows s own.low ks) ++ post)) u e);
      }

-- the first leaf, left with none
first_settled : (s : Tuning) (v : ℕ) (own : Leaf) (post : List Leaf) → GoodCut s → GoodLeaves v (own ∷ post)
    → Settled v (versions_taken s []) (own ∷ post) (fresh_leaves v (new_lows s own.low []) ++ post) own.version []
unfolding own_swap fresh_swap new_lows fresh_leaves Ascends
first_settled s v own post c g =
    record {
      swap = own_swap s v [] own post [] c g tt (λ k m. absurd (Memᴰ.not-nil m));
      own_gone = live_head own [] own.version refl;
      holding = λ u h e. absurd (let i : u ≤ v = g.old u (live_later own post u (rest u e)) in omega arith);
    }
  where
    rest : (u : ℕ) → live (fresh_leaves (suc v) (starts (cuts s 0) []) ++ post) u ≡ true → live post u ≡ true
    rest u e = subst (λ (zs : List ℕ). live (fresh_leaves (suc v) zs ++ post) u ≡ true) (starts_none s) e

module _ (s : Tuning) (v : ℕ) (left own : Leaf) (post : List Leaf) where
  wide : Leaf
  wide = record { low = left.low; version = suc v }

  -- a leaf with a fresh version is not the first one, so the left neighbour was not the first one
  join_holding : (pre : List Leaf) (u : ℕ) → GoodLeaves v (pre ++ (left ∷ (own ∷ post))) → v < u → live (tail (pre ++ (wide ∷ post))) u ≡ true
      → Holding (pre ++ (left ∷ (own ∷ post))) (pre ++ (wide ∷ post)) own.version [] u
  unfolding wide join_swap Apart
  join_holding [] u g h e = absurd (let i : u ≤ v = g.old u (live_later left (own ∷ post) u (live_later own post u e)) in omega arith)
  join_holding (b ∷ bs) u g h e =
      let w : Swap v 1 (b ∷ bs ++ (left ∷ (own ∷ post))) (b ∷ bs ++ (wide ∷ post)) = join_swap v 1 (b ∷ bs) left own post (le_refl 1) g.rising in
      let g' : GoodLeaves (v + 1) (b ∷ bs ++ (wide ∷ post)) = swap_good g w in
      let i : u ≤ v + 1 = g'.old u (tail_live (b ∷ bs ++ (wide ∷ post)) u e) in
      by_neighbour left.version
      (live_right bs (left ∷ (own ∷ post)) left.version (live_head left (own ∷ post) left.version refl))
      (λ q. clash (live_head own post left.version (sym q)) (apart_right (b ∷ bs) (left ∷ (own ∷ post)) g.apart).0)
      (λ k q.
      let j : v < version_at (b ∷ bs ++ (wide ∷ post)) k = swap_renews g w k (live_head left (own ∷ []) _ (sym q)) in
      let l : version_at (b ∷ bs ++ (wide ∷ post)) k ≤ v + 1 = version_old g' k in
      omega arith)

  -- a leaf that is left with no address, and is not the first
  join_settled : (pre : List Leaf) → GoodLeaves v (pre ++ (left ∷ (own ∷ post)))
      → Settled v (versions_taken s []) (pre ++ (left ∷ (own ∷ post))) (pre ++ (wide ∷ post)) own.version []
  unfolding wide join_swap
  join_settled pre g =
      record {
        swap = join_swap v (versions_taken s []) pre left own post (taken_some s []) g.rising;
        own_gone = live_later left (own ∷ []) own.version (live_head own [] own.version refl);
        holding = λ u h e. join_holding pre u g h e;
      }

settled_settled : (s : Tuning) (v : ℕ) (pre : List Leaf) (own : Leaf) (post : List Leaf) (ks : List ℕ) → GoodCut s
    → GoodLeaves v (pre ++ (own ∷ post)) → Ascends 0 ks → ((k : ℕ) → Memᴰ k ks → (own.low ≤ k) × Above k post)
    → Settled v (versions_taken s ks) (pre ++ (own ∷ post)) (settled s v pre own ks ++ post) own.version ks
unfolding settled wide
settled_settled s v [] own post [] c g f h = first_settled s v own post c g
settled_settled s v [] own post (k ∷ ks) c g f h = full_settled s v [] own post (k ∷ ks) c g f h (omega arith)
settled_settled s v (l ∷ ls) own post (k ∷ ks) c g f h =
    subst (λ (zs : List Leaf). Settled v (versions_taken s (k ∷ ks)) (l ∷ ls ++ (own ∷ post)) zs own.version (k ∷ ks))
    (sym (append_assoc (l ∷ ls) (fresh_leaves v (new_lows s own.low (k ∷ ks))) post))
    (full_settled s v (l ∷ ls) own post (k ∷ ks) c g f h (omega arith))
settled_settled s v (l ∷ ls) own post [] c g f h =
    let r : Last v l ls = last_of v l ls in
    let was : l ∷ ls ++ (own ∷ post) ≡ r.before ++ (r.last ∷ (own ∷ post)) =
    ap (λ (zs : List Leaf). zs ++ (own ∷ post)) r.parts ∙ append_assoc r.before (r.last ∷ []) (own ∷ post) in
    let now : widened v l ls ++ post ≡ r.before ++ (wide s v r.last own post ∷ post) =
    ap (λ (zs : List Leaf). zs ++ post) r.wide ∙ append_assoc r.before (wide s v r.last own post ∷ []) post in
    subst (λ (zs : List Leaf). Settled v (versions_taken s []) zs (widened v l ls ++ post) own.version []) (sym was)
    (subst (λ (zs : List Leaf). Settled v (versions_taken s []) (r.before ++ (r.last ∷ (own ∷ post))) zs own.version []) (sym now)
    (join_settled s v r.last own post r.before (subst (GoodLeaves v) was g)))

-- an address with the version of a leaf lies in it
in_leaf_bounds : (v : ℕ) (pre : List Leaf) (own : Leaf) (post : List Leaf) (k : ℕ) → GoodLeaves v (pre ++ (own ∷ post))
    → version_at (pre ++ (own ∷ post)) k ≡ own.version → (own.low ≤ k) × Above k post
in_leaf_bounds v pre own post k g e =
    gone_side v pre own [] post g k (live_head own [] (version_at (pre ++ (own ∷ post)) k) (sym e))

pub settle_settled : {s : Tuning} {v : ℕ} {ls : List Leaf} {a : ℕ} {ks : List ℕ} → GoodCut s → GoodLeaves v ls → InLeaf ls a ks
    → Settled v (versions_taken s ks) ls (settle s v ls a ks) (version_at ls a) ks
unfolding settle
settle_settled {s} {v} {ls} {a} {ks} c g i =
    let p : Around = around a ls in
    let q : ls ≡ p.before ++ (p.own ∷ p.after) = around_parts a ls g.covers in
    let o : p.own.version ≡ version_at ls a = own_version in
    let g' : GoodLeaves v (p.before ++ (p.own ∷ p.after)) = subst (GoodLeaves v) q g in
    subst (λ (n : ℕ). Settled v (versions_taken s ks) ls (settle s v ls a ks) n ks) o
    (subst (λ (zs : List Leaf). Settled v (versions_taken s ks) zs (settled s v p.before p.own ks ++ p.after) p.own.version ks) (sym q)
    (settled_settled s v p.before p.own p.after ks c g' i.rising
    (λ k m. in_leaf_bounds v p.before p.own p.after k g'
    (sym (ap (λ (zs : List Leaf). version_at zs k) q) ∙ i.inside k m ∙ sym o))))
  where
    own_version : (around a ls).own.version ≡ version_at ls a
    own_version = around_version a ls

-- ---- what others build on

pub settle_good : {s : Tuning} {v : ℕ} {ls : List Leaf} {a : ℕ} {ks : List ℕ} → GoodCut s → GoodLeaves v ls → InLeaf ls a ks
    → GoodLeaves (v + versions_taken s ks) (settle s v ls a ks)
settle_good c g i = swap_good g (settle_settled c g i).swap

pub settle_keeps : {s : Tuning} {v : ℕ} {ls : List Leaf} {a : ℕ} {ks : List ℕ} → GoodCut s → GoodLeaves v ls → InLeaf ls a ks
    → Kept v ls (settle s v ls a ks) a
settle_keeps {a = a} c g i = let t = settle_settled c g i in swap_keeps g t.swap a t.own_gone
