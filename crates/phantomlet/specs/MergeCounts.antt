-- The phantomlet after a merge: the numbers of leaves that the merge did not make stay; those of the others are 0 if these
-- have no entry, and are worked out anew by a walk over the slots otherwise.
use Rattle.std.specs.Prelude.{◌≡◌, ℕ, zero, suc, ◌+◌, ◌-◌, ◌^◌, ◌<◌, ◌≤◌, Bool, true, false, not, List, length, take, ◌==◌, ◌≢◌, slice_index, slice_index_or, slice_set, refl}
use Rattle.std.proofs.Common.{zero-le, arith, ◌∙◌, subst, ⊎_elim}
use Rattle.std.proofs.Math.Path.{sym, ap}
use Rattle.std.proofs.Math.Option.{none, some}
use Rattle.lists.specs.Tests.{pick, both, either, maybe, present, same, at_most}
use Rattle.lists.specs.TestLaws.{cases, clash, same_true, same_no, at_most_true}
use Rattle.lists.specs.Rows.{Row, row, look}
use Rattle.spec.specs.Records.{is_put}
use Rattle.spec.specs.Slots.{slot_count, Pending, Content, is_idle, Slot, kept}
use Rattle.spec.specs.Maps.{put_pending}
use Rattle.laws.specs.SlotCounts.{entry_at}
use Rattle.indexlet.specs.Words.{SlotRows, pending_in, holder_in, content_in, slot_in, slots_of}
use Rattle.indexlet.specs.declared.Content.{Content as ContentWords}
use Rattle.indexlet.specs.declared.Slot.{Slot as SlotWords}
use Rattle.indexlet.specs.Promises as indexlet
use Rattle.index.specs.Views.{leaf_places, RecordRows, records_of}
use Rattle.index.specs.LeafColumns.{LeafRows, lows_of, hidden_of, pending_of}
use Rattle.index.specs.LeafColumnLaws.{column_places}
use Rattle.index.specs.Views as index
use Rattle.index.specs.LeafPlaces.{low_place, AtLeaf, Listed}
use Rattle.phantomlet.specs.Phantoms.{weigh, how_many, hides_some}
use Rattle.phantomlet.specs.LeafTests.{placed}
use Rattle.phantomlet.specs.declared.recount.Reach.{Reach}
use Rattle.phantomlet.specs.LeafNumbers.{Clearing}
use Rattle.phantomlet.specs.LeafWrites.{Renumbered, same_leaves, renumbered_on, Cleared, Raised}
use Rattle.phantomlet.specs.LeafCounts.{Ranging, lacking, hiding_at, waiting, in_leaf, weigh_none, weigh_leaf, ReachIs, reached, reached_no, Adding, Keeping, Bare, bare_numbers, adding_start, adding_end, adding_small, adding_past, adding_some}

-- ---- the walk

-- What a merge at place i of `old` leaves, now m, that left `left` entries there, asks of the leaves that have settled, and of
-- the phantomlet's numbers that were kept.
pub record Recounting (rows : RecordRows) (ls : LeafRows) (slots : SlotRows) (n m i old left : ℕ) : Type 0 where
  pub rows_held : index.RecordsSorted rows n
  pub listed : Listed (lows_of ls) m
  pub first : slice_index_or (lows_of ls) 0 0 ≡ 0
  pub words : indexlet.SlotsHeld slots
  pub leaf_in_lem : i < old
  pub old_in : old ≤ leaf_places
  pub some_made : old ≤ i + m
  pub one_less : old ≤ m + 1
  pub hidden_kept : Keeping (lows_of ls) m (hiding_at (records_of rows n)) (slots_of slots) (hidden_of ls) i (i + 1 + m - old)
  pub pending_kept : Keeping (lows_of ls) m waiting (slots_of slots) (pending_of ls) i (i + 1 + m - old)
  -- with no entry left and no leaf joined, the numbers of the leaves that it made are right too
  pub hidden_bare : left ≡ 0 → old ≤ m → Bare (lows_of ls) m (hiding_at (records_of rows n)) (slots_of slots) (hidden_of ls) (i + 1 + m - old)
  pub pending_bare : left ≡ 0 → old ≤ m → Bare (lows_of ls) m waiting (slots_of slots) (pending_of ls) (i + 1 + m - old)

-- The walk stands before slot j.
pub record Tallying (rows : RecordRows) (lows : List ℕ) (slots : SlotRows) (n m : ℕ) (r : Reach) (hidden pending : List ℕ) (j : ℕ) : Type 0 where
  pub rows_held : index.RecordsSorted rows n
  pub listed : Listed lows m
  pub words : indexlet.SlotsHeld slots
  pub range : ReachIs lows m r
  pub there : j ≤ slot_count
  pub hidden_adds : Adding lows m (hiding_at (records_of rows n)) (slots_of slots) r.from r.to hidden j
  pub pending_adds : Adding lows m waiting (slots_of slots) r.from r.to pending j

-- the numbers of all leaves
pub record Numbers (rows : RecordRows) (lows : List ℕ) (slots : SlotRows) (n m : ℕ) (hidden pending : List ℕ) : Type 0 where
  pub hidden_size : length hidden ≡ leaf_places
  pub pending_size : length pending ≡ leaf_places
  pub hidden_is : (i : ℕ) → i < m → slice_index hidden i ≡ how_many (in_leaf lows m (hiding_at (records_of rows n)) i) (slots_of slots)
  pub pending_is : (i : ℕ) → i < m → slice_index pending i ≡ how_many (in_leaf lows m waiting i) (slots_of slots)

-- The walk has come to slot j, from these leaves on.
pub record Tallied (rows : RecordRows) (ls : LeafRows) (slots : SlotRows) (n m : ℕ) (r : Reach) (j : ℕ) (ls' : LeafRows) : Type 0 where
  pub same : Renumbered ls ls'
  pub tallying : Tallying rows (lows_of ls') slots n m r (hidden_of ls') (pending_of ls') j

-- It has come to the end.
pub record Numbering (rows : RecordRows) (ls : LeafRows) (slots : SlotRows) (n m : ℕ) (ls' : LeafRows) : Type 0 where
  pub same : Renumbered ls ls'
  pub numbers : Numbers rows (lows_of ls') slots n m (hidden_of ls') (pending_of ls')

pub tally_start : {rows : RecordRows} {ls ls' : LeafRows} {slots : SlotRows} {n m i old left from to : ℕ} (r : Reach)
    → Recounting rows ls slots n m i old left → length ls ≡ leaf_places → ReachIs (lows_of ls') m r → r.from ≡ from → from ≡ i - 1 → r.to ≡ to → to ≡ i + 1 + m - old
    → Cleared ls ls' from to → Tallying rows (lows_of ls') slots n m r (hidden_of ls') (pending_of ls') 0
tally_start {rows} {ls} {ls'} {slots} {n} {m} {i} {old} {left} {from} {to} r c z g a f b t p =
    record {
      rows_held = c.rows_held;
      listed = subst (λ (x : List ℕ). Listed x m) (sym p.same.lows) c.listed;
      words = c.words;
      range = g;
      there = zero-le;
      hidden_adds = start (hiding_at (records_of rows n)) (column_places 2 ls z) c.hidden_kept p.hidden;
      pending_adds = start waiting (column_places 3 ls z) c.pending_kept p.pending;
    }
  where
    start : (q : Row Content → Bool) {xs cur : List ℕ} → length xs ≡ leaf_places → Keeping (lows_of ls) m q (slots_of slots) xs i (i + 1 + m - old) → Clearing xs cur from to
        → Adding (lows_of ls') m q (slots_of slots) r.from r.to cur 0
    start q {xs} {cur} l k d =
        subst (λ (x : List ℕ). Adding x m q (slots_of slots) r.from r.to cur 0) (sym p.same.lows)
        (subst (λ (x : ℕ). Adding (lows_of ls) m q (slots_of slots) x r.to cur 0) (sym a)
        (subst (λ (x : ℕ). Adding (lows_of ls) m q (slots_of slots) from x cur 0) (sym b)
        (adding_start c.words.good.size l f (subst (λ (x : ℕ). Keeping (lows_of ls) m q (slots_of slots) xs i x) (sym t) k) d)))

-- the addresses of the leaves that are counted can be found
pub ranging : {rows : RecordRows} {ls ls' : LeafRows} {slots : SlotRows} {n m i old left from to : ℕ} → Recounting rows ls slots n m i old left → from ≡ i - 1 → to ≡ i + 1 + m - old
    → Cleared ls ls' from to → Ranging (lows_of ls') m from to
ranging {rows} {ls} {ls'} {slots} {n} {m} {i} {old} {left} {from} {to} c f t p =
    let a : i < old = c.leaf_in_lem in
    let b : old ≤ i + m = c.some_made in
    let d : old ≤ m + 1 = c.one_less in
    record {
      listed = subst (λ (x : List ℕ). Listed x m) (sym p.same.lows) c.listed;
      first = ap (λ (x : List ℕ). slice_index x 0) p.same.lows ∙ c.first;
      inside = omega arith;
      some = omega arith;
    }

tally_end : {rows : RecordRows} {lows : List ℕ} {slots : SlotRows} {n m : ℕ} {r : Reach} {hidden pending : List ℕ} {j : ℕ} → Tallying rows lows slots n m r hidden pending j → slot_count ≤ j
    → Numbers rows lows slots n m hidden pending
tally_end {rows} {lows} {slots} {n} {m} {r} {hidden} {pending} {j} g h =
    let f : length (slots_of slots) ≡ slot_count = g.words.good.size in
    record {
      hidden_size = g.hidden_adds.size;
      pending_size = g.pending_adds.size;
      hidden_is = adding_end f g.hidden_adds h;
      pending_is = adding_end f g.pending_adds h;
    }

module _ {rows : RecordRows} {lows : List ℕ} {slots : SlotRows} {n m : ℕ} {z : Reach} {hidden pending : List ℕ} {j : ℕ} (g : Tallying rows lows slots n m z hidden pending j) (h : j < slot_count) where
  full : length (slots_of slots) ≡ slot_count
  full = g.words.good.size

  module _ (r : SlotWords) (reads : indexlet.IsSlot slots j r) where
    entry_in_lem : entry_at (slots_of slots) j ≡ kept r.key (content_in r.content)
    unfolding slot_in
    entry_in_lem = sym (ap (λ (s : Slot). s.entry) reads.slot)

    past : ((t : Row Content → Bool) (i : ℕ) → z.from ≤ i → i < z.to → weigh (in_leaf lows m t i) (entry_at (slots_of slots) j) ≡ 0)
        → Tallying rows lows slots n m z hidden pending (j + 1)
    past e =
        record {
          rows_held = g.rows_held;
          listed = g.listed;
          words = g.words;
          range = g.range;
          there = omega arith;
          hidden_adds = adding_past full g.hidden_adds h (e (hiding_at (records_of rows n)));
          pending_adds = adding_past full g.pending_adds h (e waiting);
        }

    -- a slot with no entry
    pub tally_none : is_idle (content_in r.content) ≡ true → Tallying rows lows slots n m z hidden pending (j + 1)
    tally_none t =
        past (λ q i a b.
        ap (weigh (in_leaf lows m q i)) (entry_in_lem ∙ ap (λ (b : Bool). pick b none (some (row r.key (content_in r.content)))) t) ∙ weigh_none (in_leaf lows m q i))

    -- an entry in none of these leaves
    out_of : ((i : ℕ) → z.from ≤ i → i < z.to → low_place r.key (take m lows) ≢ i) → is_idle (content_in r.content) ≡ false
        → Tallying rows lows slots n m z hidden pending (j + 1)
    unfolding placed
    out_of f t =
        past (λ q i a b.
        ap (weigh (in_leaf lows m q i)) (entry_in_lem ∙ ap (λ (b : Bool). pick b none (some (row r.key (content_in r.content)))) t)
        ∙ weigh_leaf lows m q i (row r.key (content_in r.content))
        ∙ ap (λ (b : Bool). pick b (weigh q (some (row r.key (content_in r.content)))) 0) (same_no {m = low_place r.key (take m lows)} {n = i} (f i a b)))

    tally_below : is_idle (content_in r.content) ≡ false → r.key < z.low → Tallying rows lows slots n m z hidden pending (j + 1)
    tally_below t l = let w : low_place r.key (take m lows) < z.from = g.range.below r.key l in out_of (λ i a b e. let q : ⊥ = omega arith in q) t

    tally_above : is_idle (content_in r.content) ≡ false → z.low + z.span < r.key → Tallying rows lows slots n m z hidden pending (j + 1)
    tally_above t l = let w : z.to ≤ low_place r.key (take m lows) = g.range.above r.key l (reads.narrow t) in out_of (λ i a b e. let q : ⊥ = omega arith in q) t

    -- an address in none of these leaves, with an entry or without
    pub tally_outside : reached z r.key ≡ false → Tallying rows lows slots n m z hidden pending (j + 1)
    tally_outside e =
        ⊎_elim (λ t. tally_none t)
        (λ t. ⊎_elim (λ l. tally_below t l) (λ l. tally_above t l) (reached_no z r.key e))
        (cases (is_idle (content_in r.content)))

    -- an entry in one of them
    tally_some : (at x w : ℕ) (hidden' pending' : List ℕ) → is_idle (content_in r.content) ≡ false → z.low ≤ r.key → r.key ≤ z.low + z.span → AtLeaf lows m r.key at
        → x ≡ pick (both (not (present (look (records_of rows n) r.key))) (hides_some (content_in r.content))) 1 0 → w ≡ pick (present (content_in r.content).pending) 1 0
        → hidden' ≡ slice_set hidden at (slice_index hidden at + x) → pending' ≡ slice_set pending at (slice_index pending at + w)
        → Tallying rows lows slots n m z hidden' pending' (j + 1)
    unfolding weigh hiding_at lacking waiting
    tally_some at x w hidden' pending' t u v l a b p q =
        let e : entry_at (slots_of slots) j ≡ some (row r.key (content_in r.content)) = entry_in_lem ∙ ap (λ (b : Bool). pick b none (some (row r.key (content_in r.content)))) t in
        let i = g.range.inside r.key u v in
        let y : at ≡ low_place r.key (take m lows) = l.is in
        record {
          rows_held = g.rows_held;
          listed = g.listed;
          words = g.words;
          range = g.range;
          there = omega arith;
          hidden_adds = adding_some full (row r.key (content_in r.content)) at x hidden' g.hidden_adds h e g.listed.room l (omega arith) (omega arith) a p;
          pending_adds = adding_some full (row r.key (content_in r.content)) at w pending' g.pending_adds h e g.listed.room l (omega arith) (omega arith) b q;
        }

-- ---- the walk, with the leaves that it changes

module _ {rows : RecordRows} {ls : LeafRows} {slots : SlotRows} {n m : ℕ} {r : Reach} where
  pub tallied_start : Tallying rows (lows_of ls) slots n m r (hidden_of ls) (pending_of ls) 0 → Tallied rows ls slots n m r 0 ls
  tallied_start t = record { same = same_leaves ls; tallying = t }

  pub tallied_same : {j : ℕ} → Tallying rows (lows_of ls) slots n m r (hidden_of ls) (pending_of ls) j → Tallied rows ls slots n m r j ls
  tallied_same t = record { same = same_leaves ls; tallying = t }

  pub tallied_on : {mid ls' : LeafRows} {j k : ℕ} → Tallied rows ls slots n m r j mid → Tallied rows mid slots n m r k ls' → Tallied rows ls slots n m r k ls'
  tallied_on a b = record { same = renumbered_on a.same b.same; tallying = b.tallying }

  pub tallied_end : {ls' : LeafRows} {j : ℕ} → Tallied rows ls slots n m r j ls' → slot_count ≤ j → Numbering rows ls slots n m ls'
  tallied_end t h = record { same = t.same; numbers = tally_end t.tallying h }

  pub tallied_some : {ls' : LeafRows} {j : ℕ} (g : Tallying rows (lows_of ls) slots n m r (hidden_of ls) (pending_of ls) j) → j < slot_count → (s : SlotWords) → indexlet.IsSlot slots j s
      → (at x w : ℕ) → is_idle (content_in s.content) ≡ false → r.low ≤ s.key → s.key ≤ r.low + r.span → AtLeaf (lows_of ls) m s.key at
      → x ≡ pick (both (not (present (look (records_of rows n) s.key))) (hides_some (content_in s.content))) 1 0 → w ≡ pick (present (content_in s.content).pending) 1 0
      → Raised ls ls' at x w → Tallied rows ls slots n m r (j + 1) ls'
  tallied_some {ls'} {j} g h s reads at x w t u v l a b q =
      record {
        same = q.same;
        tallying =
            subst (λ (lows : List ℕ). Tallying rows lows slots n m r (hidden_of ls') (pending_of ls') (j + 1)) (sym q.same.lows)
            (tally_some g h s reads at x w (hidden_of ls') (pending_of ls') t u v l a b q.hidden q.pending);
      }

-- ---- no walk

bare_yes : (left m old : ℕ) → both (same left 0) (at_most old m) ≡ true → (left ≡ 0) × (old ≤ m)
bare_yes left m old e =
    ⊎_elim
    (λ a. (same_true left 0 a, at_most_true old m (ap (λ (x : Bool). both x (at_most old m)) (sym a) ∙ e)))
    (λ a. clash e (ap (λ (x : Bool). both x (at_most old m)) a))
    (cases (same left 0))

pub carried : {rows : RecordRows} {ls : LeafRows} {slots : SlotRows} {n m i old left : ℕ} (b : Bool)
    → Recounting rows ls slots n m i old left → length ls ≡ leaf_places → b ≡ both (same left 0) (at_most old m) → b ≡ true
    → Numbers rows (lows_of ls) slots n m (hidden_of ls) (pending_of ls)
carried {rows} {ls} {slots} {n} {m} {i} {old} {left} b c z e y =
    let q = bare_yes left m old (sym e ∙ y) in
    record {
      hidden_size = column_places 2 ls z;
      pending_size = column_places 3 ls z;
      hidden_is = bare_numbers (c.hidden_bare q.0 q.1) c.hidden_kept;
      pending_is = bare_numbers (c.pending_bare q.0 q.1) c.pending_kept;
    }

-- ---- numbers that fit

pub pick_most : (b : Bool) → pick b 1 0 ≤ 1
pick_most true = omega arith
pick_most false = omega arith

module _ {rows : RecordRows} {lows : List ℕ} {slots : SlotRows} {n m : ℕ} {z : Reach} {hidden pending : List ℕ} {j : ℕ} (g : Tallying rows lows slots n m z hidden pending j) (h : j < slot_count)
    {k at : ℕ} (l : AtLeaf lows m k at) (u : z.low ≤ k) (v : k ≤ z.low + z.span) (x : ℕ) (b : Bool) (e : x ≡ pick b 1 0) where
  pub hidden_fits : (at < leaf_places) × (slice_index hidden at + x < 2 ^ 64)
  hidden_fits =
      let i : at < m = l.inside in
      let y : at ≡ low_place k (take m lows) = l.is in
      let w = g.range.inside k u v in
      let r : m ≤ leaf_places = g.listed.room in
      let s : slice_index_or hidden at 0 ≤ slot_count = adding_small g.words.good.size g.hidden_adds at (omega arith) (omega arith) in
      let p : pick b 1 0 ≤ 1 = pick_most b in
      (omega arith, omega arith)

  pub pending_fits : (at < leaf_places) × (slice_index pending at + x < 2 ^ 64)
  pending_fits =
      let i : at < m = l.inside in
      let y : at ≡ low_place k (take m lows) = l.is in
      let w = g.range.inside k u v in
      let r : m ≤ leaf_places = g.listed.room in
      let s : slice_index_or pending at 0 ≤ slot_count = adding_small g.words.good.size g.pending_adds at (omega arith) (omega arith) in
      let p : pick b 1 0 ≤ 1 = pick_most b in
      (omega arith, omega arith)

-- ---- what a row says

pub waits_none : (c : ContentWords) → c.kind ≡ 0 → ◌≡◌ {A = ℕ} 0 (pick (present (content_in c).pending) 1 0)
unfolding content_in pending_in
waits_none c e = sym (ap (λ (n : ℕ). pick {A = ℕ} (present (pending_in n c.payload c.commit c.since)) 1 0) e)

pub waits_some : (c : ContentWords) → (c.kind ≢ 0) → ◌≡◌ {A = ℕ} 1 (pick (present (content_in c).pending) 1 0)
unfolding content_in pending_in
waits_some c n = go c.kind n
  where
    go : (k : ℕ) → (k ≢ 0) → ◌≡◌ {A = ℕ} 1 (pick (present (pending_in k c.payload c.commit c.since)) 1 0)
    go zero n = absurd (n refl)
    go (suc zero) n = refl
    go (suc (suc k)) n = refl

no_put : (c : ContentWords) → (c.kind ≢ 1) → maybe (pending_in c.kind c.payload c.commit c.since) false (λ (p : Pending). is_put p.write) ≡ false
unfolding pending_in is_put
no_put c n = go c.kind n
  where
    go : (k : ℕ) → (k ≢ 1) → maybe (pending_in k c.payload c.commit c.since) false (λ (p : Pending). is_put p.write) ≡ false
    go zero n = refl
    go (suc zero) n = absurd (n refl)
    go (suc (suc k)) n = refl

-- a put is pending, or somebody has a lock for one
pub hides_pending : (c : ContentWords) → c.kind ≡ 1 → true ≡ hides_some (content_in c)
unfolding hides_some put_pending content_in pending_in is_put
hides_pending c e =
    sym (ap (λ (k : ℕ). either (maybe (pending_in k c.payload c.commit c.since) false (λ (p : Pending). is_put p.write)) (both (c.forput == 1) (present (holder_in c.lock)))) e)

pub hides_free : (c : ContentWords) → (c.kind ≢ 1) → c.lock ≡ 0 → false ≡ hides_some (content_in c)
unfolding hides_some put_pending content_in pending_in holder_in is_put
hides_free c n e =
    sym (ap (λ (b : Bool). either b (both (c.forput == 1) (present (holder_in c.lock)))) (no_put c n)
    ∙ ap (λ (l : ℕ). both (c.forput == 1) (present (holder_in l))) e ∙ both_false (c.forput == 1))
  where
    both_false : (b : Bool) → both b false ≡ false
    both_false true = refl
    both_false false = refl

pub hides_locked : (c : ContentWords) → (c.kind ≢ 1) → (c.lock ≢ 0) → (c.forput == 1) ≡ hides_some (content_in c)
unfolding hides_some put_pending content_in pending_in holder_in is_put
hides_locked c n l =
    sym (ap (λ (b : Bool). either b (both (c.forput == 1) (present (holder_in c.lock)))) (no_put c n) ∙ go c.lock l)
  where
    both_true : (b : Bool) → both b true ≡ b
    both_true true = refl
    both_true false = refl

    go : (k : ℕ) → (k ≢ 0) → both (c.forput == 1) (present (holder_in k)) ≡ (c.forput == 1)
    go zero l = absurd (l refl)
    go (suc k) l = both_true (c.forput == 1)

-- what an address counts, where what is said of it hides nothing, where the index lacks it, and where the index has it
pub counts_silent : (b h l : Bool) → b ≡ h → not b ≡ true → ◌≡◌ {A = ℕ} 0 (pick (both l h) 1 0)
counts_silent true h l e t = clash t refl
counts_silent false h l e t = sym (ap (λ (x : Bool). pick {A = ℕ} (both l x) 1 0) (sym e) ∙ nothing l)
  where
    nothing : (k : Bool) → ◌≡◌ {A = ℕ} (pick (both k false) 1 0) 0
    nothing true = refl
    nothing false = refl

pub counts_lacking : (b h a l : Bool) → b ≡ h → not b ≡ false → a ≡ l → a ≡ true → ◌≡◌ {A = ℕ} 1 (pick (both l h) 1 0)
counts_lacking true h a l e t f q =
    sym (ap (λ (x : Bool). pick {A = ℕ} (both x h) 1 0) (sym f ∙ q) ∙ ap (λ (x : Bool). pick {A = ℕ} x 1 0) (sym e))
counts_lacking false h a l e t f q = clash refl t

pub counts_indexed : (h a l : Bool) → a ≡ l → a ≡ false → ◌≡◌ {A = ℕ} 0 (pick (both l h) 1 0)
counts_indexed h a l f q = sym (ap (λ (x : Bool). pick {A = ℕ} (both x h) 1 0) (sym f ∙ q))
