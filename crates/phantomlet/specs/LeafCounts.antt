-- Counts of entries leaf by leaf, in an array with a number for each leaf: a walk over the slots adds each entry's number
-- at the place of its leaf. What a place has, and what the slots from the walk's place on still add there, is the whole.
use Rattle.std.specs.Prelude.{◌≡◌, ℕ, suc, ◌+◌, ◌-◌, ◌%◌, ◌^◌, ◌<◌, ◌≤◌, Bool, true, false, not, ◌⊎◌, List, length, get_or, take, drop, nat_le, slice_index, slice_index_or, slice_set, refl}
use Rattle.std.proofs.Common.{zero-le, ◌∙◌, inl, inr, drop_of_length-le, length-drop, drop-cons, get_or-take, get_or-drop, length-take-le}
use native.Mathlib.Omega.{arith}
use Rattle.std.proofs.Math.Path.{sym, ap}
use Rattle.std.proofs.Math.Logic.{⊎_elim}
use Rattle.std.proofs.Math.Option.{Option, none, some}
use Rattle.std.proofs.Math.ListN.{length-set}
use Rattle.std.proofs.Math.Seq.{get_or-set_same, get_or-set_other}
use Rattle.lists.specs.Tests.{pick, both, present, same, less, at_most}
use Rattle.lists.specs.TestLaws.{cases, clash, same_yes, same_no, same_true, same_false, less_true, less_false, at_most_yes, at_most_no, at_most_true, at_most_false}
use Rattle.lists.specs.Rows.{Row, look}
use Rattle.lists.specs.Ascending.{ascends_at, ascends_drop}
use Rattle.lists.specs.Sums.{total, total_most, total_none}
use Rattle.lists.specs.Options.{options}
use Rattle.spec.specs.Widths.{addresses}
use Rattle.spec.specs.Records.{limits, Record}
use Rattle.spec.specs.Slots.{slot_count, Content, Slot, empty_slot}
use Rattle.laws.specs.SlotCounts.{entry_at, tally, count, count_cons}
use Rattle.index.specs.Views.{leaf_places}
use Rattle.index.specs.declared.leaves.LeafWords.{LeafWords}
use Rattle.index.specs.LeafColumns.{LeafRows, lows_of, leaf_at}
use Rattle.index.specs.LeafColumnLaws.{column_get_or}
use Rattle.index.specs.LeafPlaces.{low_place, AtLeaf, Listed}
use Rattle.phantomlet.specs.Phantoms.{weigh, how_many, hides_some}
use Rattle.phantomlet.specs.LeafRows.{low_from, low_before, low_below, low_inside}
use Rattle.phantomlet.specs.LeafTests.{placed}
use Rattle.phantomlet.specs.declared.recount.Reach.{Reach}
use Rattle.phantomlet.specs.LeafNumbers.{Clearing}

-- the entry lies at an address that the records lack
unfoldable pub lacking : List (Row Record) → Row Content → Bool
lacking rs e = not (present (look rs e.key))

-- ... and hides it from somebody
unfoldable pub hiding_at : List (Row Record) → Row Content → Bool
hiding_at rs e = both (lacking rs e) (hides_some e.item)

-- a write is pending there
unfoldable pub waiting : Row Content → Bool
waiting e = present e.item.pending

-- the entry lies in the leaf at place i, and passes the test
unfoldable pub in_leaf : List ℕ → ℕ → (Row Content → Bool) → ℕ → Row Content → Bool
in_leaf lows m t i e = both (placed lows m i e.key) (t e)

-- ---- counts from a slot on

many_drop : (p : Row Content → Bool) (ss : List Slot) (j : ℕ) → j < length ss → how_many p (drop j ss) ≡ weigh p (entry_at ss j) + how_many p (drop (suc j) ss)
unfolding how_many
many_drop p ss j h =
    ap (count (weigh p)) (drop-cons ss j empty_slot h) ∙ count_cons (weigh p) (slice_index_or ss j empty_slot) (drop (suc j) ss)

many_past : (p : Row Content → Bool) (ss : List Slot) (j : ℕ) → length ss ≤ j → how_many p (drop j ss) ≡ 0
unfolding how_many tally total
many_past p ss j h = ap (count (weigh p)) (drop_of_length-le ss h)

weigh_most : (p : Row Content → Bool) (o : Option (Row Content)) → weigh p o ≤ 1
unfolding weigh
weigh_most p none = zero-le
weigh_most p (some e) = ⊎_elim (λ t. rw t (omega arith)) (λ t. rw t zero-le) (cases (p e))

pub many_most : (p : Row Content → Bool) (ss : List Slot) → how_many p ss ≤ length ss
unfolding how_many tally
many_most p ss = total_most (λ (i : ℕ) (s : Slot). weigh p s.entry) ss (λ i s. weigh_most p s.entry)

-- none passes
pub many_zero : (p : Row Content → Bool) (ss : List Slot) → ((i : ℕ) → i < length ss → (e : Row Content) → entry_at ss i ≡ some e → p e ≡ false) → how_many p ss ≡ 0
unfolding how_many tally weigh
many_zero p ss h =
    total_none (λ (i : ℕ) (s : Slot). weigh p s.entry) ss empty_slot
    (λ i l. ⊎_elim
    (λ q. ap (weigh p) q)
    (λ q. ap (weigh p) q.1 ∙ ap (λ (b : Bool). pick b 1 0) (h i l q.0 q.1))
    (options (entry_at ss i)))

pub weigh_none : (p : Row Content → Bool) → weigh p none ≡ 0
unfolding weigh
weigh_none p = refl

pub weigh_leaf : (lows : List ℕ) (m : ℕ) (t : Row Content → Bool) (i : ℕ) (e : Row Content)
    → weigh (in_leaf lows m t i) (some e) ≡ pick (placed lows m i e.key) (weigh t (some e)) 0
unfolding weigh in_leaf
weigh_leaf lows m t i e = ⊎_elim (λ q. rw q) (λ q. rw q) (cases (placed lows m i e.key))

-- ---- which leaves

-- The leaves at the places from `from` up to `to` hold the address low and the `span` addresses behind it.
pub record ReachIs (lows : List ℕ) (m : ℕ) (r : Reach) : Type 0 where
  pub below : (k : ℕ) → k < r.low → low_place k (take m lows) < r.from
  pub above : (k : ℕ) → r.low + r.span < k → k < addresses → r.to ≤ low_place k (take m lows)
  pub inside : (k : ℕ) → r.low ≤ k → k ≤ r.low + r.span → (r.from ≤ low_place k (take m lows)) × (low_place k (take m lows) < r.to)
  pub word : r.low + r.span < 2 ^ 64

-- an address is one of these
unfoldable pub reached : Reach → ℕ → Bool
reached r k = both (at_most r.low k) (at_most k (r.low + r.span))

reached_yes : (r : Reach) (k : ℕ) → reached r k ≡ true → (r.low ≤ k) × (k ≤ r.low + r.span)
unfolding reached
reached_yes r k e =
    ⊎_elim
    (λ a. (at_most_true r.low k a, at_most_true k (r.low + r.span) (ap (λ (b : Bool). both b (at_most k (r.low + r.span))) (sym a) ∙ e)))
    (λ a. clash e (ap (λ (b : Bool). both b (at_most k (r.low + r.span))) a))
    (cases (at_most r.low k))

pub reached_no : (r : Reach) (k : ℕ) → reached r k ≡ false → (k < r.low) ⊎ (r.low + r.span < k)
unfolding reached
reached_no r k e =
    ⊎_elim
    (λ a. inr (at_most_false k (r.low + r.span) (ap (λ (b : Bool). both b (at_most k (r.low + r.span))) (sym a) ∙ e)))
    (λ a. inl (at_most_false r.low k a))
    (cases (at_most r.low k))

-- as the code has it
pub reaches_yes : (b : Bool) (r : Reach) (k : ℕ) → b ≡ reached r k → not b ≡ false → (r.low ≤ k) × (k ≤ r.low + r.span)
reaches_yes true r k e t = reached_yes r k (sym e)
reaches_yes false r k e t = clash refl t

pub reaches_no : (b : Bool) (r : Reach) (k : ℕ) → b ≡ reached r k → not b ≡ true → reached r k ≡ false
reaches_no true r k e t = clash t refl
reaches_no false r k e t = sym e

-- by one comparison: the number that low added to wraps back to the address
pub one_comparison : (r : Reach) (k d : ℕ) → r.low + r.span < 2 ^ 64 → (d + r.low) % 2 ^ 64 ≡ k → d < 2 ^ 64 → nat_le d r.span ≡ reached r k
unfolding reached at_most
one_comparison r k d s e f =
    ⊎_elim
    (λ a. let q : r.low ≤ k = at_most_true r.low k a in
    let z : d ≡ k - r.low = omega arith in
    ⊎_elim
    (λ b. let t : k ≤ r.low + r.span = at_most_true k (r.low + r.span) b in
    at_most_yes {m = d} {n = r.span} (omega arith) ∙ sym (ap (λ (x : Bool). both x (nat_le k (r.low + r.span))) a ∙ b))
    (λ b. let t : r.low + r.span < k = at_most_false k (r.low + r.span) b in
    at_most_no {m = d} {n = r.span} (omega arith) ∙ sym (ap (λ (x : Bool). both x (nat_le k (r.low + r.span))) a ∙ b))
    (cases (at_most k (r.low + r.span))))
    (λ a. let q : k < r.low = at_most_false r.low k a in
    at_most_no {m = d} {n = r.span} (omega arith) ∙ sym (ap (λ (x : Bool). both x (nat_le k (r.low + r.span))) a))
    (cases (at_most r.low k))

-- what finding them asks
pub record Ranging (lows : List ℕ) (m from to : ℕ) : Type 0 where
  pub listed : Listed lows m
  pub first : get_or lows 0 0 ≡ 0
  pub inside : from < m
  pub some : from < to

module _ (lows : List ℕ) (m from to : ℕ) (al : length lows ≡ leaf_places) (r : Ranging lows m from to) where
  -- the lows of later leaves are higher
  later : to < m → slice_index lows from < slice_index lows to
  later n =
      let g : from < to = r.some in
      let room : m ≤ leaf_places = r.listed.room in
      let size : length (take m lows) ≡ m = length-take-le m lows (omega arith) in
      let a : get_or (take m lows) from 0 ≡ get_or lows from 0 = get_or-take m lows from 0 r.inside in
      let b : get_or (take m lows) to 0 ≡ get_or lows to 0 = get_or-take m lows to 0 n in
      let c : get_or (drop from (take m lows)) (to - from) 0 ≡ get_or (take m lows) (from + (to - from)) 0 = get_or-drop from (take m lows) (to - from) 0 in
      let d : get_or (take m lows) (from + (to - from)) 0 ≡ get_or (take m lows) to 0 = ap (λ (i : ℕ). slice_index (take m lows) i) (omega arith) in
      let left : length (drop from (take m lows)) ≡ length (take m lows) - from = length-drop from (take m lows) in
      let q : get_or (take m lows) from 0 + (to - from) ≤ slice_index (drop from (take m lows)) (to - from)
      = ascends_at (slice_index (take m lows) from) (drop from (take m lows)) (to - from)
      (ascends_drop 0 (take m lows) from r.listed.rising (let i = r.inside in omega arith)) (omega arith) in
      omega arith

  -- up to the next leaf
  pub range_next : (low next last s : ℕ) → low ≡ slice_index lows from → next ≡ slice_index lows to → last ≡ next - 1 → s ≡ last - low → next < 2 ^ 64 → to < m
      → ReachIs lows m (record { from = from; to = to; low = low; span = s })
  range_next low next last s x y z e f n =
      let g : from < to = r.some in
      let q : get_or lows from 0 < get_or lows to 0 = later n in
      record {
        below = λ k l. low_below lows m r.listed al from k r.first r.inside (omega arith);
        above = λ k l b. low_from lows m r.listed al to k n (omega arith);
        inside = λ k l b. (low_from lows m r.listed al from k r.inside (omega arith), low_before lows m r.listed al to k (omega arith) n (omega arith));
        word = omega arith;
      }

  -- up to the last address
  pub range_last : (low s : ℕ) → low ≡ slice_index lows from → s ≡ limits.highest - low → low < 2 ^ 64 → m ≤ to
      → ReachIs lows m (record { from = from; to = to; low = low; span = s })
  range_last low s x e f n =
      record {
        below = λ k l. low_below lows m r.listed al from k r.first r.inside (omega arith);
        above = λ k l b. absurd (let q : ⊥ = omega arith in q);
        inside =
            λ k l b.
            let y : low_place k (take m lows) < m = low_inside lows m r.listed al k in
            (low_from lows m r.listed al from k r.inside (omega arith), omega arith);
        word = omega arith;
      }

-- the low of a leaf that was read
pub low_of : (ls : LeafRows) (i : ℕ) {l : LeafWords} → l ≡ leaf_at ls i → l.low ≡ slice_index (lows_of ls) i
low_of ls i e = ap (λ (x : LeafWords). x.low) e ∙ sym (column_get_or 0 ls i)

-- The leaf at place i holds the addresses of r.
pub record OneLeaf (lows : List ℕ) (m i : ℕ) (r : Reach) : Type 0 where
  pub range : ReachIs lows m r
  pub from : r.from ≡ i
  pub to : r.to ≡ i + 1

module _ {lows : List ℕ} {m i : ℕ} {r : Reach} (h : OneLeaf lows m i r) where
  pub leaf_below : (k : ℕ) → k < r.low → placed lows m i k ≡ false
  unfolding placed
  leaf_below k l =
      let a : low_place k (take m lows) < r.from = h.range.below k l in
      let b : r.from ≡ i = h.from in
      same_no {m = low_place k (take m lows)} {n = i} (λ e. let z : ⊥ = omega arith in z)

  pub leaf_above : (k : ℕ) → r.low + r.span < k → k < addresses → placed lows m i k ≡ false
  unfolding placed
  leaf_above k l f =
      let a : r.to ≤ low_place k (take m lows) = h.range.above k l f in
      let b : r.to ≡ i + 1 = h.to in
      same_no {m = low_place k (take m lows)} {n = i} (λ e. let z : ⊥ = omega arith in z)

  pub leaf_outside : (k : ℕ) → k < addresses → reached r k ≡ false → placed lows m i k ≡ false
  leaf_outside k f e = ⊎_elim (λ l. leaf_below k l) (λ l. leaf_above k l f) (reached_no r k e)

  pub leaf_inside : (k : ℕ) → r.low ≤ k → k ≤ r.low + r.span → placed lows m i k ≡ true
  unfolding placed
  leaf_inside k l f =
      let a = h.range.inside k l f in
      let b : r.from ≤ low_place k (take m lows) = a.0 in
      let d : low_place k (take m lows) < r.to = a.1 in
      let x : r.from ≡ i = h.from in
      let y : r.to ≡ i + 1 = h.to in
      same_yes {m = low_place k (take m lows)} {n = i} (let z : low_place k (take m lows) ≡ i = omega arith in z)

-- ---- one array

-- An array with a number for each leaf: at the places from `from` up to `to`, what it has and what the slots from j on
-- add is the whole; elsewhere it has the whole.
pub record Adding (lows : List ℕ) (m : ℕ) (t : Row Content → Bool) (ss : List Slot) (from to : ℕ) (xs : List ℕ) (j : ℕ) : Type 0 where
  pub size : length xs ≡ leaf_places
  pub sum : (i : ℕ) → from ≤ i → i < to → slice_index xs i + how_many (in_leaf lows m t i) (drop j ss) ≡ how_many (in_leaf lows m t i) ss
  pub rest : (i : ℕ) → (i < from) ⊎ (to ≤ i) → i < m → slice_index xs i ≡ how_many (in_leaf lows m t i) ss

-- the numbers of the leaves that a merge at place i does not make: those after the ones that it made stand from `to` on
pub record Keeping (lows : List ℕ) (m : ℕ) (t : Row Content → Bool) (ss : List Slot) (xs : List ℕ) (i to : ℕ) : Type 0 where
  pub before : (j : ℕ) → j + 1 < i → slice_index xs j ≡ how_many (in_leaf lows m t j) ss
  pub after : (j : ℕ) → to ≤ j → j < m → slice_index xs j ≡ how_many (in_leaf lows m t j) ss

-- the numbers before place `to`, where the merge left no entry and joined no leaf
abbrev pub Bare : List ℕ → ℕ → (Row Content → Bool) → List Slot → List ℕ → ℕ → Type 0
Bare lows m t ss xs to = (j : ℕ) → j < to → slice_index xs j ≡ how_many (in_leaf lows m t j) ss

-- so each number is known without a walk
pub bare_numbers : {lows : List ℕ} {m : ℕ} {t : Row Content → Bool} {ss : List Slot} {xs : List ℕ} {i to : ℕ}
    → Bare lows m t ss xs to → Keeping lows m t ss xs i to → (j : ℕ) → j < m → slice_index xs j ≡ how_many (in_leaf lows m t j) ss
bare_numbers {lows} {m} {t} {ss} {xs} {i} {to} b k j h =
    ⊎_elim (λ d. b j (less_true j to d)) (λ d. k.after j (less_false j to d) h) (cases (less j to))

module _ {lows : List ℕ} {m : ℕ} {t : Row Content → Bool} {ss : List Slot} {from to : ℕ} (full : length ss ≡ slot_count) where
  pub adding_start : {xs cur : List ℕ} {i : ℕ} → length xs ≡ leaf_places → from ≡ i - 1 → Keeping lows m t ss xs i to → Clearing xs cur from to → Adding lows m t ss from to cur 0
  adding_start {xs} {cur} {i} l f k c =
      record {
        size = c.size ∙ l;
        sum = λ j a b. let z : get_or cur j 0 ≡ 0 = c.zeros j a b in omega arith;
        rest = λ j d b. c.others j d ∙ ⊎_elim (λ g. k.before j (omega arith)) (λ g. k.after j g b) d;
      }

  pub adding_end : {xs : List ℕ} {j : ℕ} → Adding lows m t ss from to xs j → slot_count ≤ j → (i : ℕ) → i < m → slice_index xs i ≡ how_many (in_leaf lows m t i) ss
  adding_end {xs} {j} a h i l =
      ⊎_elim
      (λ c. a.rest i (inl (less_true i from c)) l)
      (λ c. ⊎_elim
      (λ d. let z : how_many (in_leaf lows m t i) (drop j ss) ≡ 0 = many_past (in_leaf lows m t i) ss j (omega arith) in
      let y : get_or xs i 0 + how_many (in_leaf lows m t i) (drop j ss) ≡ how_many (in_leaf lows m t i) ss = a.sum i (less_false i from c) (less_true i to d) in
      omega arith)
      (λ d. a.rest i (inr (less_false i to d)) l)
      (cases (less i to)))
      (cases (less i from))

  pub adding_small : {xs : List ℕ} {j : ℕ} → Adding lows m t ss from to xs j → (i : ℕ) → from ≤ i → i < to → slice_index xs i ≤ slot_count
  adding_small {xs} {j} a i f l =
      let y : get_or xs i 0 + how_many (in_leaf lows m t i) (drop j ss) ≡ how_many (in_leaf lows m t i) ss = a.sum i f l in
      let x : how_many (in_leaf lows m t i) ss ≤ length ss = many_most (in_leaf lows m t i) ss in
      omega arith

  -- an entry that adds nothing to these leaves, or none
  pub adding_past : {xs : List ℕ} {j : ℕ} → Adding lows m t ss from to xs j → j < slot_count
      → ((i : ℕ) → from ≤ i → i < to → weigh (in_leaf lows m t i) (entry_at ss j) ≡ 0) → Adding lows m t ss from to xs (j + 1)
  adding_past {xs} {j} a h e =
      record {
        size = a.size;
        sum = λ i f l.
            let y : get_or xs i 0 + how_many (in_leaf lows m t i) (drop j ss) ≡ how_many (in_leaf lows m t i) ss = a.sum i f l in
            let z : how_many (in_leaf lows m t i) (drop j ss) ≡ weigh (in_leaf lows m t i) (entry_at ss j) + how_many (in_leaf lows m t i) (drop (suc j) ss) = many_drop (in_leaf lows m t i) ss j (omega arith) in
            let w : weigh (in_leaf lows m t i) (entry_at ss j) ≡ 0 = e i f l in
            let s : j + 1 ≡ suc j = omega arith in
            let q : how_many (in_leaf lows m t i) (drop (j + 1) ss) ≡ how_many (in_leaf lows m t i) (drop (suc j) ss) = ap (λ (n : ℕ). how_many (in_leaf lows m t i) (drop n ss)) s in
            omega arith;
        rest = a.rest;
      }

  -- an entry: it is added at the place of its leaf
  pub adding_some : {xs : List ℕ} {j : ℕ} (x : Row Content) (at by : ℕ) (xs' : List ℕ) → Adding lows m t ss from to xs j → j < slot_count → entry_at ss j ≡ some x
      → m ≤ leaf_places → AtLeaf lows m x.key at → from ≤ at → at < to → by ≡ weigh t (some x) → xs' ≡ slice_set xs at (slice_index xs at + by) → Adding lows m t ss from to xs' (j + 1)
  unfolding placed
  adding_some {xs} {j} x at by xs' a h e mr l u n b f =
      record {
        size = ap length f ∙ length-set xs at (slice_index xs at + by) ∙ a.size;
        sum = λ i c g.
            let y : get_or xs i 0 + how_many (in_leaf lows m t i) (drop j ss) ≡ how_many (in_leaf lows m t i) ss = a.sum i c g in
            let z : how_many (in_leaf lows m t i) (drop j ss) ≡ weigh (in_leaf lows m t i) (entry_at ss j) + how_many (in_leaf lows m t i) (drop (suc j) ss) = many_drop (in_leaf lows m t i) ss j (omega arith) in
            let w : weigh (in_leaf lows m t i) (entry_at ss j) ≡ pick (same (low_place x.key (take m lows)) i) (weigh t (some x)) 0 = ap (weigh (in_leaf lows m t i)) e ∙ weigh_leaf lows m t i x in
            let s : j + 1 ≡ suc j = omega arith in
            let q : how_many (in_leaf lows m t i) (drop (j + 1) ss) ≡ how_many (in_leaf lows m t i) (drop (suc j) ss) = ap (λ (n : ℕ). how_many (in_leaf lows m t i) (drop n ss)) s in
            let p : at ≡ low_place x.key (take m lows) = l.is in
            let v : at < m = l.inside in
            let d : length xs ≡ leaf_places = a.size in
            ⊎_elim
            (λ c. let k : at ≡ i = p ∙ same_true (low_place x.key (take m lows)) i c in
            let n : weigh (in_leaf lows m t i) (entry_at ss j) ≡ weigh t (some x) = w ∙ ap (λ (b : Bool). pick b (weigh t (some x)) 0) c in
            let o : get_or xs' i 0 ≡ slice_index xs i + by
            = ap (λ (zs : List ℕ). slice_index zs i) f ∙ ap (λ (n : ℕ). slice_index (slice_set xs at (slice_index xs at + by)) n) (sym k)
            ∙ get_or-set_same xs at (slice_index xs at + by) 0 (omega arith) ∙ ap (λ (n : ℕ). slice_index xs n + by) k in
            omega arith)
            (λ c. let k : low_place x.key (take m lows) ≡ i → ⊥ = same_false (low_place x.key (take m lows)) i c in
            let n : weigh (in_leaf lows m t i) (entry_at ss j) ≡ 0 = w ∙ ap (λ (b : Bool). pick b (weigh t (some x)) 0) c in
            let o : get_or xs' i 0 ≡ slice_index xs i
            = ap (λ (zs : List ℕ). slice_index zs i) f ∙ get_or-set_other xs at i (slice_index xs at + by) 0 (λ r. k (sym p ∙ sym r)) in
            omega arith)
            (cases (same (low_place x.key (take m lows)) i));
        rest = λ i c g.
            ap (λ (zs : List ℕ). slice_index zs i) f
            ∙ get_or-set_other xs at i (slice_index xs at + by) 0 (λ r. ⊎_elim (λ d. let q : ⊥ = omega arith in q) (λ d. let q : ⊥ = omega arith in q) c)
            ∙ a.rest i c g;
      }
