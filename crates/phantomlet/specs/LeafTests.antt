-- Whether an address lies in a leaf, by the leaf's place among the lows and by its version: the two tests agree.
use Rattle.std.specs.Prelude.{◌≡◌, ℕ, zero, suc, ◌+◌, ◌<◌, ◌≤◌, Bool, true, false, List, [], ◌∷◌, map, length, take, slice_index_or}
use Rattle.std.proofs.Common.{not-suc-le-zero, le_of_suc-le-suc, arith, sym, ◌∙◌, subst, ⊎_elim}
use Rattle.std.proofs.Math.Path.{refl, ap, fun_ext}
use Rattle.std.proofs.Math.Option.{Option}
use Rattle.std.proofs.lemmas.List.{length-map}
use Rattle.std.proofs.Math.Seq.{length-take-le}
use Rattle.lists.specs.Tests.{both, present, same}
use Rattle.lists.specs.TestLaws.{cases, clash, same_true, same_false, same_yes, same_no}
use Rattle.lists.specs.Rows.{Row, filter}
use Rattle.lists.specs.Options.{options}
use Rattle.spec.specs.Leaves.{Leaf, first_leaf, version_at, live}
use Rattle.spec.specs.Slots.{Content, Slot, entries}
use Rattle.spec.specs.Maps.{MapState, merges_at, merging}
use Rattle.laws.specs.LeafParts.{Covers, Apart, live_head, live_later}
use Rattle.laws.specs.LeafVersions.{GoodLeaves}
use Rattle.laws.specs.SlotCounts.{tally, count, count_cons, entries_some, entries_none}
use Rattle.index.specs.Views.{leaf_places, leaves_of}
use Rattle.index.specs.LeafPlaces.{low_place, place_inside, AtLeaf}
use Rattle.index.specs.LeafViews.{paired_lows, paired_length, parted, parted_leaf}
use Rattle.phantomlet.specs.Phantoms.{weigh, how_many, pending_in}

-- the leaf of k stands at place i of the first m lows
unfoldable pub placed : List ℕ → ℕ → ℕ → ℕ → Bool
placed lows m i k = same (low_place k (take m lows)) i

-- a write is pending at an address that passes the test
unfoldable pub takes : (ℕ → Bool) → Row Content → Bool
takes p e = both (present e.item.pending) (p e.key)

-- ---- places and versions

pub live_at : (ls : List Leaf) (i u : ℕ) → i < length ls → (slice_index_or ls i first_leaf).version ≡ u → live ls u ≡ true
live_at [] i u h e = absurd (not-suc-le-zero h)
live_at (l ∷ ls) zero u h e = live_head l ls u e
live_at (l ∷ ls) (suc i) u h e = live_later l ls u (live_at ls i u (le_of_suc-le-suc h) e)

apart_places : (ls : List Leaf) (i j : ℕ) → Apart ls → i < length ls → j < length ls
    → (slice_index_or ls i first_leaf).version ≡ (slice_index_or ls j first_leaf).version → i ≡ j
unfolding Apart
apart_places [] i j f h g e = absurd (not-suc-le-zero h)
apart_places (l ∷ ls) zero zero f h g e = refl
apart_places (l ∷ ls) zero (suc j) f h g e = clash (live_at ls j l.version (le_of_suc-le-suc g) (sym e)) f.0
apart_places (l ∷ ls) (suc i) zero f h g e = clash (live_at ls i l.version (le_of_suc-le-suc h) e) f.0
apart_places (l ∷ ls) (suc i) (suc j) f h g e = ap suc (apart_places ls i j f.1 (le_of_suc-le-suc h) (le_of_suc-le-suc g) e)

covers_some : (ls : List Leaf) → Covers ls → 1 ≤ length ls
unfolding Covers
covers_some [] c = absurd c
covers_some (l ∷ ls) c = omega arith

module _ {v : ℕ} {ls : List Leaf} (g : GoodLeaves v ls) where
  -- the version of an address is that of the leaf at its place
  version_place : (k : ℕ) → version_at ls k ≡ (slice_index_or ls (low_place k (map (λ (l : Leaf). l.low) ls)) first_leaf).version
  unfolding version_at
  version_place k =
      ap (λ (l : Leaf). l.version)
      (sym (parted_leaf k ls (low_place k (map (λ (l : Leaf). l.low) ls)) (parted k ls _ (covers_some ls g.covers) refl)))

  place_within : (k : ℕ) → low_place k (map (λ (l : Leaf). l.low) ls) < length ls
  place_within k =
      let e : length (map (λ (l : Leaf). l.low) ls) ≡ length ls = length-map ls (λ (l : Leaf). l.low) in
      let s : 1 ≤ length ls = covers_some ls g.covers in
      subst (λ (n : ℕ). low_place k (map (λ (l : Leaf). l.low) ls) < n) e (place_inside k (map (λ (l : Leaf). l.low) ls) (omega arith))

  pub same_place : (i k : ℕ) → i < length ls
      → same (version_at ls k) (slice_index_or ls i first_leaf).version ≡ same (low_place k (map (λ (l : Leaf). l.low) ls)) i
  same_place i k h =
      ⊎_elim
      (λ t. same_yes {m = version_at ls k} {n = (slice_index_or ls i first_leaf).version}
      (version_place k ∙ ap (λ (n : ℕ). (slice_index_or ls n first_leaf).version) (same_true (low_place k (map (λ (l : Leaf). l.low) ls)) i t)) ∙ sym t)
      (λ f. same_no {m = version_at ls k} {n = (slice_index_or ls i first_leaf).version}
      (λ e. same_false (low_place k (map (λ (l : Leaf). l.low) ls)) i f
      (apart_places ls (low_place k (map (λ (l : Leaf). l.low) ls)) i g.apart (place_within k) h (sym (version_place k) ∙ e))) ∙ sym f)
      (cases (same (low_place k (map (λ (l : Leaf). l.low) ls)) i))

module _ {v : ℕ} (lows versions : List ℕ) (m : ℕ) (al : length lows ≡ leaf_places) (av : length versions ≡ leaf_places) (mr : m ≤ leaf_places)
    (g : GoodLeaves v (leaves_of lows versions m)) where
  same_length : length (take m lows) ≡ length (take m versions)
  same_length = length-take-le m lows (omega arith) ∙ sym (length-take-le m versions (omega arith))

  pub lows_are : map (λ (l : Leaf). l.low) (leaves_of lows versions m) ≡ take m lows
  unfolding leaves_of
  lows_are = paired_lows (take m lows) (take m versions) same_length

  pub leaves_count : length (leaves_of lows versions m) ≡ m
  unfolding leaves_of
  leaves_count = paired_length (take m lows) (take m versions) same_length ∙ length-take-le m lows (omega arith)

  pub placed_version : (i k : ℕ) → i < m
      → same (version_at (leaves_of lows versions m) k) (slice_index_or (leaves_of lows versions m) i first_leaf).version ≡ placed lows m i k
  unfolding placed
  placed_version i k h =
      same_place g i k (rw leaves_count h) ∙ ap (λ (ls : List ℕ). same (low_place k ls) i) lows_are

  pub at_version : (a i : ℕ) → AtLeaf lows m a i → (slice_index_or (leaves_of lows versions m) i first_leaf).version ≡ version_at (leaves_of lows versions m) a
  at_version a i at =
      ap (λ (n : ℕ). (slice_index_or (leaves_of lows versions m) n first_leaf).version) (at.is ∙ ap (low_place a) (sym lows_are)) ∙ sym (version_place g a)

  -- the leaf of a, by its place
  pub placed_own : (a i k : ℕ) → AtLeaf lows m a i
      → same (version_at (leaves_of lows versions m) k) (version_at (leaves_of lows versions m) a) ≡ placed lows m i k
  placed_own a i k at =
      ap (same (version_at (leaves_of lows versions m) k)) (sym (at_version a i at)) ∙ placed_version i k at.inside

-- ---- lists

pub none_left : {A : Type 0} (xs : List A) → length xs ≡ 0 → xs ≡ []
none_left [] e = refl
none_left (x ∷ xs) e = absurd (let q : ⊥ = omega arith in q)

-- ---- tests and counts

pub filter_same : {A : Type 0} (p q : A → Bool) (xs : List A) → ((x : A) → p x ≡ q x) → filter p xs ≡ filter q xs
filter_same {A} p q xs h = ap (λ (f : A → Bool). filter f xs) (fun_ext h)

pub many_same : (p q : Row Content → Bool) (ss : List Slot) → ((e : Row Content) → p e ≡ q e) → how_many p ss ≡ how_many q ss
many_same p q ss h = ap (λ (f : Row Content → Bool). how_many f ss) (fun_ext h)

-- how many entries pass a test
many_entries : (p : Row Content → Bool) (ss : List Slot) → how_many p ss ≡ length (filter p (entries ss))
unfolding how_many weigh filter
many_entries p [] = unfold tally Rattle.lists.specs.Sums.total entries in refl
many_entries p (s ∷ ss) =
    let ih : count (weigh p) ss ≡ length (filter p (entries ss)) = many_entries p ss in
    count_cons (weigh p) s ss
    ∙ ⊎_elim
    (λ q. ap (λ (o : Option (Row Content)). weigh p o + count (weigh p) ss) q
    ∙ (let z : 0 + count (weigh p) ss ≡ length (filter p (entries ss)) = omega arith in z)
    ∙ ap (λ (es : List (Row Content)). length (filter p es)) (sym (entries_none s ss q)))
    (λ q. ap (λ (o : Option (Row Content)). weigh p o + count (weigh p) ss) q.1
    ∙ ⊎_elim
    (λ t. rw t (omega arith))
    (λ t. rw t (omega arith))
    (cases (p q.0))
    ∙ ap (λ (es : List (Row Content)). length (filter p es)) (sym (entries_some s ss q.0 q.1)))
    (options s.entry)

both_comm : (a b : Bool) → both a b ≡ both b a
both_comm true true = refl
both_comm true false = refl
both_comm false true = refl
both_comm false false = refl

-- the phantomlet's second number counts the entries that a merge takes in
pub pending_merging : (m : MapState) (a v : ℕ) → v ≡ version_at m.leaves a → how_many (pending_in m v) m.slots ≡ length (merging m a)
unfolding merging
pending_merging m a v e =
    many_same (pending_in m v) (merges_at m.leaves a) m.slots
    (λ x. unfold pending_in merges_at in
    ap (λ (n : ℕ). both (same (version_at m.leaves x.key) n) (present x.item.pending)) e
    ∙ both_comm (same (version_at m.leaves x.key) (version_at m.leaves a)) (present x.item.pending))
    ∙ many_entries (merges_at m.leaves a) m.slots
