-- Every leaf but the first holds a record of the index, so there is at most one leaf more than there are records.
use Rattle.std.specs.Prelude.{ℕ, suc, ◌≤◌, ◌≡◌, Bool, true, false, length}
use Rattle.std.proofs.Common.{zero-le, le_trans, le_of_eq, arith, sym, ap, ◌∙◌, subst, ⊎_elim}
use mathlib.Core.List.Memᴰ
use mathlib.Core.List.{List, [], ◌∷◌, ◌++◌, map, tail, Memᴰ}
use Rattle.std.proofs.lemmas.List.{length-map}
use Rattle.lists.specs.Tests.{pick, same, less}
use Rattle.lists.specs.TestLaws.{cases, clash, same_no, less_true, less_false}
use Rattle.lists.specs.Rows.{Row, keys, any, has, Different}
use Rattle.lists.specs.RowLaws.{length_keys}
use Rattle.lists.specs.Counting.{has_nil, has_cons}
use Rattle.lists.specs.Memberships.{same_sym, member_has, different_length}
use Rattle.spec.specs.Records.{Tuning}
use Rattle.spec.specs.Leaves.{Leaf, first_leaf, version_at, live, settle, versions_taken}
use Rattle.laws.specs.LeafParts.{Apart, live_nil, live_later, live_left, live_right, live_parts, not_live, apart_right, apart_cross}
use Rattle.spec.specs.GoodTuning.{GoodCut}
use Rattle.laws.specs.LeafVersions.{GoodLeaves}
use Rattle.laws.specs.LeafSwaps.{Swap, swap_leaves}
use Rattle.laws.specs.SettleLaws.{InLeaf, Settled, Holding, by_key, by_neighbour, settle_settled}

pub record Filled {A : Type 0} (rs : List (Row A)) (ls : List Leaf) : Type 0 where
  pub holds : (x : ℕ) → live (tail ls) x ≡ true → (k : ℕ) × Memᴰ k (keys rs) × (version_at ls k ≡ x)

pub fresh_filled : {A : Type 0} (rs : List (Row A)) → Filled rs (first_leaf ∷ [])
fresh_filled rs = record { holds = λ x e. clash e (live_nil x) }

-- ---- counting

has_version : (ls : List Leaf) (u : ℕ) → has u (map (λ (l : Leaf). l.version) ls) ≡ live ls u
unfolding live any
has_version [] u = has_nil u
has_version (l ∷ ls) u =
    has_cons u l.version (map (λ (m : Leaf). m.version) ls)
    ∙ ap (λ (b : Bool). pick b true (has u (map (λ (m : Leaf). m.version) ls))) (same_sym u l.version)
    ∙ ap (pick (same l.version u) true) (has_version ls u)

versions_differ : (ls : List Leaf) → Apart ls → Different (map (λ (l : Leaf). l.version) ls)
unfolding Apart Different
versions_differ [] f = tt
versions_differ (l ∷ ls) f = (has_version ls l.version ∙ f.0, versions_differ ls f.1)

-- leaves with different versions that all stand in a list are no more than it has places
versions_count : (ls : List Leaf) (ys : List ℕ) → Apart ls → ((u : ℕ) → live ls u ≡ true → Memᴰ u ys) → length ls ≤ length ys
versions_count ls ys f h =
    le_trans (le_of_eq (sym (length-map ls (λ (l : Leaf). l.version))))
    (different_length (map (λ (l : Leaf). l.version) ls) ys (versions_differ ls f) (λ u e. member_has (h u (sym (has_version ls u) ∙ e))))

pub leaf_count : {A : Type 0} {v : ℕ} {rs : List (Row A)} {ls : List Leaf} → GoodLeaves v ls → Filled rs ls → length ls ≤ suc (length rs)
unfolding Apart
leaf_count {ls = []} g f = zero-le
leaf_count {A} {v} {rs} {ls = l ∷ ls} g f =
    let c : length ls ≤ length (map (version_at (l ∷ ls)) (keys rs)) =
    versions_count ls (map (version_at (l ∷ ls)) (keys rs)) g.apart.1
    (λ u e. let r = f.holds u e in Memᴰ.cast (sym r.2) (Memᴰ.map (version_at (l ∷ ls)) r.1)) in
    let d : length (map (version_at (l ∷ ls)) (keys rs)) ≡ length rs = length-map (keys rs) (version_at (l ∷ ls)) ∙ length_keys rs in
    omega arith

-- ---- after a merge

-- a version up to v that is not the first leaf's now was not the first leaf's before, and is none of those that went
tail_old : (v : ℕ) (pre : List Leaf) (x : Leaf) (mid : List Leaf) (y : Leaf) (new post : List Leaf) (u : ℕ)
    → GoodLeaves v (pre ++ (x ∷ (mid ++ post))) → live (y ∷ new) u ≡ false → live (tail (pre ++ (y ∷ (new ++ post)))) u ≡ true
    → (live (tail (pre ++ (x ∷ (mid ++ post)))) u ≡ true) × (live (x ∷ mid) u ≡ false)
tail_old v [] x mid y new post u g n e =
    let p : live post u ≡ true = ⊎_elim (λ q. clash (live_later y new u q) n) (λ q. q) (live_parts new post u e) in
    (live_right mid post u p, not_live (x ∷ mid) u (λ q. clash p (apart_cross (x ∷ mid) post u g.apart q)))
tail_old v (b ∷ bs) x mid y new post u g n e =
    ⊎_elim
    (λ p. (
      live_left bs (x ∷ (mid ++ post)) u p,
      not_live (x ∷ mid) u (λ q. clash (live_left (x ∷ mid) post u q) (apart_cross (b ∷ bs) (x ∷ (mid ++ post)) u g.apart (live_later b bs u p))),
    ))
    (λ r. ⊎_elim
    (λ q. clash q n)
    (λ p. (
      live_right bs (x ∷ (mid ++ post)) u (live_right (x ∷ mid) post u p),
      not_live (x ∷ mid) u (λ q. clash p (apart_cross (x ∷ mid) post u (apart_right (b ∷ bs) (x ∷ (mid ++ post)) g.apart) q)),
    ))
    (live_parts (y ∷ new) post u r))
    (live_parts bs (y ∷ (new ++ post)) u e)

swap_old : {v n : ℕ} {ls ms : List Leaf} (u : ℕ) → GoodLeaves v ls → (w : Swap v n ls ms) → u ≤ v → live (tail ms) u ≡ true
    → (live (tail ls) u ≡ true) × (live (w.old ∷ w.olds) u ≡ false)
swap_old {v} {n} {ls} {ms} u g w h e =
    subst (λ (zs : List Leaf). (live (tail zs) u ≡ true) × (live (w.old ∷ w.olds) u ≡ false)) (sym w.was)
    (tail_old v w.before w.old w.olds w.new w.news w.after u (subst (GoodLeaves v) w.was g)
    (not_live (w.new ∷ w.news) u (λ q. let r = w.given u q in omega arith))
    (subst (λ (zs : List Leaf). live (tail zs) u ≡ true) w.is e))

-- After a merge at a, with `ks` the addresses that the leaf of a holds now: the records outside of it are kept.
pub settle_filled : {A B : Type 0} {s : Tuning} {v : ℕ} {ls : List Leaf} {a : ℕ} {ks : List ℕ} {rs : List (Row A)} {rs' : List (Row B)}
    → GoodCut s → GoodLeaves v ls → InLeaf ls a ks → Filled rs ls
    → ((k : ℕ) → Memᴰ k (keys rs) → same (version_at ls k) (version_at ls a) ≡ false → Memᴰ k (keys rs'))
    → ((k : ℕ) → Memᴰ k ks → Memᴰ k (keys rs'))
    → Filled rs' (settle s v ls a ks)
settle_filled {A} {B} {s} {v} {ls} {a} {ks} {rs} {rs'} c g i f kept mine =
    record { holds = λ u e. ⊎_elim (λ h. fresh u (t.holding u (less_true v u h) e)) (λ h. old u (less_false v u h) e) (cases (less v u)) }
  where
    t : Settled v (versions_taken s ks) ls (settle s v ls a ks) (version_at ls a) ks
    t = settle_settled c g i

    fresh : (u : ℕ) → Holding ls (settle s v ls a ks) (version_at ls a) ks u
        → (k : ℕ) × Memᴰ k (keys rs') × (version_at (settle s v ls a ks) k ≡ u)
    fresh u (by_key k m q) = (k, mine k m, q)
    fresh u (by_neighbour x e h q) =
        let r = f.holds x e in
        (r.0, kept r.0 r.1 (same_no {m = version_at ls r.0} {n = version_at ls a} (λ p. h (sym r.2 ∙ p))), q r.0 r.2)

    old : (u : ℕ) → u ≤ v → live (tail (settle s v ls a ks)) u ≡ true
        → (k : ℕ) × Memᴰ k (keys rs') × (version_at (settle s v ls a ks) k ≡ u)
    old u h e =
        let q = swap_old u g t.swap h e in
        let r = f.holds u q.0 in (
          r.0,
          kept r.0 r.1 (same_no {m = version_at ls r.0} {n = version_at ls a} (λ p.
              clash (ap (live (t.swap.old ∷ t.swap.olds)) (sym r.2 ∙ p) ∙ t.own_gone) q.1)),
          swap_leaves g t.swap r.0 (ap (live (t.swap.old ∷ t.swap.olds)) r.2 ∙ q.1) ∙ r.2,
        )
