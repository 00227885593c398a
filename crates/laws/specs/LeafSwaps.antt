-- Some leaves in a row replaced by fresh ones that start at the same address: the leaves stay good, every address keeps
-- its version or gets a fresh one. Everything that a merge does to leaves is such a swap.
use Rattle.std.specs.Prelude.{ℕ, ◌+◌, ◌<◌, ◌≤◌, ◌≡◌, Bool, true, false}
use Rattle.std.proofs.Common.{arith, ◌∙◌, subst, ⊎_elim}
use Rattle.std.proofs.Math.Path.{sym, ap}
use mathlib.Core.List.{List, [], ◌∷◌, ◌++◌}
use Rattle.lists.specs.TestLaws.{clash}
use Rattle.spec.specs.Leaves.{Leaf, leaf_from, leaf_of, version_at, live}
use Rattle.laws.specs.LeafParts.{LowsFrom, Covers, Above, Reached, Apart, Side, below, inside, beyond, side_of, lows_exchange, live_left, live_right, live_parts, not_live, apart_left, apart_right, apart_cross, apart_join, leaf_live, leaf_below, leaf_from_lem, leaf_inside, leaf_beyond}
use Rattle.laws.specs.LeafVersions.{GoodLeaves}

-- `ms` is `ls` with `olds` replaced by `news`, of which each has one of the n versions after v
pub record Swap (v n : ℕ) (ls ms : List Leaf) : Type 0 where
  pub before : List Leaf
  pub old : Leaf
  pub olds : List Leaf
  pub new : Leaf
  pub news : List Leaf
  pub after : List Leaf
  pub was : ls ≡ before ++ (old ∷ (olds ++ after))
  pub is : ms ≡ before ++ (new ∷ (news ++ after))
  pub low : new.low ≡ old.low
  pub rising : LowsFrom new.low (new ∷ (news ++ after))
  pub apart : Apart (new ∷ news)
  pub given : (u : ℕ) → live (new ∷ news) u ≡ true → (v < u) × (u ≤ v + n)

-- Of each address: its version goes, and it gets a fresh one, or it keeps it. The version of a's leaf goes.
pub record Kept (v : ℕ) (ls ms : List Leaf) (a : ℕ) : Type 0 where
  pub gone : ℕ → Bool
  pub renewed : (k : ℕ) → gone (version_at ls k) ≡ true → v < version_at ms k
  pub unchanged : (k : ℕ) → gone (version_at ls k) ≡ false → version_at ms k ≡ version_at ls k
  pub own : gone (version_at ls a) ≡ true

-- ---- the leaves before the swap

module _ (v : ℕ) (pre : List Leaf) (x : Leaf) (mid post : List Leaf) (g : GoodLeaves v (pre ++ (x ∷ (mid ++ post)))) where
  -- the leaf of an address before or after the swapped leaves has none of their versions
  old_below : (k : ℕ) → k < x.low → live (x ∷ mid) (version_at (pre ++ (x ∷ (mid ++ post))) k) ≡ false
  unfolding version_at
  old_below k h =
      let b = leaf_below pre x (mid ++ post) k g.covers h in
      not_live (x ∷ mid) (leaf_of (pre ++ (x ∷ (mid ++ post))) k).version (λ e.
      clash (live_left (x ∷ mid) post (leaf_of (pre ++ (x ∷ (mid ++ post))) k).version e)
      (apart_cross pre (x ∷ (mid ++ post)) (leaf_of (pre ++ (x ∷ (mid ++ post))) k).version g.apart
      (ap (λ (l : Leaf). live pre l.version) b.0 ∙ b.1)))

  old_beyond : (k : ℕ) → Reached k post → live (x ∷ mid) (version_at (pre ++ (x ∷ (mid ++ post))) k) ≡ false
  unfolding version_at
  old_beyond k h =
      let b = leaf_beyond pre x mid post k g.rising h in
      not_live (x ∷ mid) (leaf_of (pre ++ (x ∷ (mid ++ post))) k).version (λ e.
      clash (ap (λ (l : Leaf). live post l.version) b.0 ∙ b.1)
      (apart_cross (x ∷ mid) post (leaf_of (pre ++ (x ∷ (mid ++ post))) k).version
      (apart_right pre (x ∷ (mid ++ post)) g.apart) e))

  old_inside : (k : ℕ) → x.low ≤ k → Above k post → version_at (pre ++ (x ∷ (mid ++ post))) k ≡ (leaf_from x mid k).version
  unfolding version_at
  old_inside k h a =
      ap (λ (l : Leaf). l.version) (leaf_from_lem pre x (mid ++ post) k g.rising h ∙ leaf_inside x mid post k a)

  -- an address whose version is among the swapped ones lies between their low and what follows
  pub gone_side : (k : ℕ) → live (x ∷ mid) (version_at (pre ++ (x ∷ (mid ++ post))) k) ≡ true → (x.low ≤ k) × Above k post
  gone_side k e = go (side_of x.low post k)
    where
      go : Side x.low post k → (x.low ≤ k) × Above k post
      go (below h) = clash e (old_below k h)
      go (inside h a) = (h, a)
      go (beyond h) = clash e (old_beyond k h)

-- ---- and after it

module _ (v n : ℕ) (pre : List Leaf) (x : Leaf) (mid : List Leaf) (y : Leaf) (new post : List Leaf)
    (low : y.low ≡ x.low) (rise : LowsFrom y.low (y ∷ (new ++ post))) (apart : Apart (y ∷ new))
    (given : (u : ℕ) → live (y ∷ new) u ≡ true → (v < u) × (u ≤ v + n))
    (g : GoodLeaves v (pre ++ (x ∷ (mid ++ post)))) where
  new_rising : LowsFrom 0 (pre ++ (y ∷ (new ++ post)))
  new_rising = lows_exchange 0 pre x (mid ++ post) y (new ++ post) low g.rising rise

  new_covers : Covers (pre ++ (y ∷ (new ++ post)))
  unfolding Covers
  new_covers = at_first pre g.covers
    where
      at_first : (ps : List Leaf) → Covers (ps ++ (x ∷ (mid ++ post))) → Covers (ps ++ (y ∷ (new ++ post)))
      at_first [] c = low ∙ c
      at_first (p ∷ ps) c = c

  -- a version before or after is none of the fresh ones
  pre_old : (u : ℕ) → live pre u ≡ true → u ≤ v
  pre_old u e = g.old u (live_left pre (x ∷ (mid ++ post)) u e)

  post_old : (u : ℕ) → live post u ≡ true → u ≤ v
  post_old u e = g.old u (live_right pre (x ∷ (mid ++ post)) u (live_right (x ∷ mid) post u e))

  not_fresh : (u : ℕ) → u ≤ v → live (y ∷ new) u ≡ false
  not_fresh u h = not_live (y ∷ new) u (λ e. let r = given u e in omega arith)

  new_apart : Apart (pre ++ ((y ∷ new) ++ post))
  new_apart =
      apart_join pre ((y ∷ new) ++ post)
      (apart_left pre (x ∷ (mid ++ post)) g.apart)
      (apart_join (y ∷ new) post apart (apart_right (x ∷ mid) post (apart_right pre (x ∷ (mid ++ post)) g.apart))
      (λ u e. not_live post u (λ f. clash e (not_fresh u (post_old u f)))))
      (λ u e. not_live ((y ∷ new) ++ post) u (λ f.
      ⊎_elim
      (λ p. clash p (not_fresh u (pre_old u e)))
      (λ p. clash (live_right (x ∷ mid) post u p) (apart_cross pre (x ∷ (mid ++ post)) u g.apart e))
      (live_parts (y ∷ new) post u f)))

  new_old : (u : ℕ) → live (pre ++ ((y ∷ new) ++ post)) u ≡ true → u ≤ v + n
  new_old u e =
      ⊎_elim
      (λ p. let h : u ≤ v = pre_old u p in omega arith)
      (λ q. ⊎_elim (λ p. (given u p).1) (λ p. let h : u ≤ v = post_old u p in omega arith) (live_parts (y ∷ new) post u q))
      (live_parts pre ((y ∷ new) ++ post) u e)

  swapped_good : GoodLeaves (v + n) (pre ++ (y ∷ (new ++ post)))
  swapped_good = record { covers = new_covers; rising = new_rising; apart = new_apart; old = new_old }

  pub new_inside : (k : ℕ) → x.low ≤ k → Above k post → version_at (pre ++ (y ∷ (new ++ post))) k ≡ (leaf_from y new k).version
  unfolding version_at
  new_inside k h a =
      ap (λ (l : Leaf). l.version) (leaf_from_lem pre y (new ++ post) k new_rising (rw low h) ∙ leaf_inside y new post k a)

  -- before and after the swapped leaves an address has the leaf that it had
  same_below : (k : ℕ) → k < x.low → version_at (pre ++ (y ∷ (new ++ post))) k ≡ version_at (pre ++ (x ∷ (mid ++ post))) k
  unfolding version_at
  same_below k h =
      ap (λ (l : Leaf). l.version)
      ((leaf_below pre y (new ++ post) k new_covers (rw low h)).0 ∙ sym (leaf_below pre x (mid ++ post) k g.covers h).0)

  same_beyond : (k : ℕ) → Reached k post → version_at (pre ++ (y ∷ (new ++ post))) k ≡ version_at (pre ++ (x ∷ (mid ++ post))) k
  unfolding version_at
  same_beyond k h =
      ap (λ (l : Leaf). l.version)
      ((leaf_beyond pre y new post k new_rising h).0 ∙ sym (leaf_beyond pre x mid post k g.rising h).0)

  swapped_renewed : (k : ℕ) → live (x ∷ mid) (version_at (pre ++ (x ∷ (mid ++ post))) k) ≡ true → v < version_at (pre ++ (y ∷ (new ++ post))) k
  swapped_renewed k e = go (side_of x.low post k)
    where
      go : Side x.low post k → v < version_at (pre ++ (y ∷ (new ++ post))) k
      go (below h) = clash e (old_below v pre x mid post g k h)
      go (inside h a) = rw (new_inside k h a) (given (leaf_from y new k).version (leaf_live y new k)).0
      go (beyond h) = clash e (old_beyond v pre x mid post g k h)

  swapped_unchanged : (k : ℕ) → live (x ∷ mid) (version_at (pre ++ (x ∷ (mid ++ post))) k) ≡ false
      → version_at (pre ++ (y ∷ (new ++ post))) k ≡ version_at (pre ++ (x ∷ (mid ++ post))) k
  swapped_unchanged k e = go (side_of x.low post k)
    where
      go : Side x.low post k → version_at (pre ++ (y ∷ (new ++ post))) k ≡ version_at (pre ++ (x ∷ (mid ++ post))) k
      go (below h) = same_below k h
      go (inside h a) = clash (ap (live (x ∷ mid)) (old_inside v pre x mid post g k h a) ∙ leaf_live x mid k) e
      go (beyond h) = same_beyond k h

pub swap_good : {v n : ℕ} {ls ms : List Leaf} → GoodLeaves v ls → Swap v n ls ms → GoodLeaves (v + n) ms
swap_good {v} {n} {ls} {ms} g w =
    subst (GoodLeaves (v + n)) (sym w.is)
    (swapped_good v n w.before w.old w.olds w.new w.news w.after w.low w.rising w.apart w.given
    (subst (GoodLeaves v) w.was g))

pub swap_renews : {v n : ℕ} {ls ms : List Leaf} → GoodLeaves v ls → (w : Swap v n ls ms) → (k : ℕ)
    → live (w.old ∷ w.olds) (version_at ls k) ≡ true → v < version_at ms k
swap_renews {v} {n} {ls} {ms} g w k d =
    subst (λ (zs : List Leaf). v < version_at zs k) (sym w.is)
    (swapped_renewed v n w.before w.old w.olds w.new w.news w.after w.low w.rising w.apart w.given
    (subst (GoodLeaves v) w.was g) k (subst (λ (zs : List Leaf). live (w.old ∷ w.olds) (version_at zs k) ≡ true) w.was d))

pub swap_leaves : {v n : ℕ} {ls ms : List Leaf} → GoodLeaves v ls → (w : Swap v n ls ms) → (k : ℕ)
    → live (w.old ∷ w.olds) (version_at ls k) ≡ false → version_at ms k ≡ version_at ls k
swap_leaves {v} {n} {ls} {ms} g w k d =
    ap (λ (zs : List Leaf). version_at zs k) w.is
    ∙ swapped_unchanged v n w.before w.old w.olds w.new w.news w.after w.low w.rising w.apart w.given
    (subst (GoodLeaves v) w.was g) k (subst (λ (zs : List Leaf). live (w.old ∷ w.olds) (version_at zs k) ≡ false) w.was d)
    ∙ sym (ap (λ (zs : List Leaf). version_at zs k) w.was)

pub swap_keeps : {v n : ℕ} {ls ms : List Leaf} → GoodLeaves v ls → (w : Swap v n ls ms) → (a : ℕ)
    → live (w.old ∷ w.olds) (version_at ls a) ≡ true → Kept v ls ms a
swap_keeps g w a e =
    record { gone = live (w.old ∷ w.olds); renewed = swap_renews g w; unchanged = swap_leaves g w; own = e }
