-- What a merge need not walk over: slots whose keys lie elsewhere, and, where one pending write is all of a leaf that matters,
-- all slots but its own.
use Rattle.std.specs.Prelude.{ℕ, ◌+◌, ◌<◌, ◌≤◌, ◌≡◌, Bool, not, List, [], get_or}
use Rattle.std.proofs.Common.{zero-le, le_refl, ◌∙◌, subst, ⊎_elim}
use native.Mathlib.Omega.{arith}
use Rattle.std.proofs.Math.Path.{refl, sym, ap}
use Rattle.std.proofs.Math.Bool.{true, false}
use Rattle.std.proofs.Math.Option.{Option, none, some}
use Rattle.std.proofs.Math.ListN.{length}
use Rattle.lists.specs.Tests.{pick, both, present, same, less}
use Rattle.lists.specs.TestLaws.{cases, clash, same_true, same_false, less_true, less_false}
use Rattle.lists.specs.Rows.{Row, row, look}
use Rattle.lists.specs.Sums.{total_at, total_two}
use Rattle.spec.specs.Widths.{addresses}
use Rattle.spec.specs.Records.{Record}
use Rattle.spec.specs.Slots.{slot_count, Content, is_idle, Slot, empty_slot, vacant, kept}
use Rattle.laws.specs.SlotCounts.{entry_at, tally, only_here, holds_yes}
use Rattle.laws.specs.Entering.{kept_entry}
use Rattle.indexlet.specs.Words.{content_in, slot_in, slots_of}
use Rattle.indexlet.specs.declared.Slot.{Slot as SlotWords}
use Rattle.indexlet.specs.Promises as indexlet
use Rattle.index.specs.Views.{leaf_places, records_of}
use Rattle.index.specs.declared.leaves.LeafWords.{LeafWords}
use Rattle.index.specs.LeafColumns.{lows_of, hidden_of, pending_of, leaf_at}
use Rattle.index.specs.LeafColumnLaws.{column_get_or}
use Rattle.merging.specs.declared.merge.Walk.{Walk}
use Rattle.phantomlet.specs.declared.recount.Reach.{Reach}
use Rattle.phantomlet.specs.Phantoms.{weigh, how_many, hides_some}
use Rattle.phantomlet.specs.LeafTests.{placed, takes}
use Rattle.phantomlet.specs.LeafCounts.{lacking, hiding_at, waiting, reached, OneLeaf, leaf_outside, leaf_inside}
use Rattle.map.specs.Views.{SlotRows, LeafRows, RecordRows}
use Rattle.merging.specs.SlotWalks.{Passed}
use Rattle.merging.specs.MergeWalks.{passing, hiders, Walking, Clear, Underway, WalksSlot, Starting, Took, stays_same, behind_none, starting_first, walk, walk_start, walk_outside, walk_over, walk_took, both_false, entry_is, taken_yes}

-- The slots from `from` up to, not including, j have no entry among the addresses r.
pub record Skips (slots : SlotRows) (r : Reach) (from j : ℕ) : Type 0 where
  pub forth : from ≤ j
  pub there : j ≤ slot_count
  pub passed : (i : ℕ) → from ≤ i → i < j → (e : Row Content) → entry_at (slots_of slots) i ≡ some e → (e.key < addresses) × (reached r e.key ≡ false)

-- Slot j has a pending write at an address that passes, and no other entry at such an address hides it.
pub record Alone (p : ℕ → Bool) (rows : RecordRows) (n : ℕ) (slots : SlotRows) (j : ℕ) : Type 0 where
  pub taken : weigh (takes p) (entry_at (slots_of slots) j) ≡ 1
  pub hider : hiders p rows n slots ≡ weigh (passing p (hiding_at (records_of rows n))) (entry_at (slots_of slots) j)

-- The phantomlet's numbers of the leaf at place i are right.
pub record Numbered (ls : LeafRows) (rows : RecordRows) (slots : SlotRows) (m n i : ℕ) : Type 0 where
  pub inside : i < leaf_places
  pub pending_is : get_or (pending_of ls) i 0 ≡ how_many (takes (placed (lows_of ls) m i)) (slots_of slots)
  pub hidden_is : get_or (hidden_of ls) i 0 ≡ hiders (placed (lows_of ls) m i) rows n slots

-- the number of a leaf that was read
pub hidden_of_lem : (ls : LeafRows) (i : ℕ) {l : LeafWords} → l ≡ leaf_at ls i → get_or (hidden_of ls) i 0 ≡ l.hidden
hidden_of_lem ls i e = column_get_or 2 ls i ∙ ap (λ (x : LeafWords). x.hidden) (sym e)

-- ---- slots that are passed

entry_of : (slots : SlotRows) (j : ℕ) (s : SlotWords) → indexlet.IsSlot slots j s → entry_at (slots_of slots) j ≡ kept s.key (content_in s.content)
unfolding slot_in
entry_of slots j s reads = sym (ap (λ (x : Slot). x.entry) reads.slot)

kept_key : (k : ℕ) (c : Content) (e : Row Content) → kept k c ≡ some e → k ≡ e.key
kept_key k c e q = ap (λ (x : Row Content). x.key) (kept_entry k c e q).1

-- an entry in slot i, if there is one, lies elsewhere
abbrev Elsewhere : SlotRows → Reach → ℕ → Type 0
Elsewhere slots r i = (e : Row Content) → entry_at (slots_of slots) i ≡ some e → (e.key < addresses) × (reached r e.key ≡ false)

elsewhere_empty : (slots : SlotRows) (r : Reach) (i : ℕ) → vacant (get_or (slots_of slots) i empty_slot) ≡ true → Elsewhere slots r i
unfolding vacant
elsewhere_empty slots r i t e q = clash t (ap (λ (o : Option (Row Content)). not (present o)) q)

elsewhere_read : {slots : SlotRows} (r : Reach) {j : ℕ} (s : SlotWords) → indexlet.IsSlot slots j s → reached r s.key ≡ false → Elsewhere slots r j
elsewhere_read {slots} r {j} s reads f e q =
    let there : kept s.key (content_in s.content) ≡ some e = sym (entry_of slots j s reads) ∙ q in
    let own : s.key ≡ e.key = kept_key s.key (content_in s.content) e there in
    (subst (λ (x : ℕ). x < addresses) own (reads.narrow (kept_entry s.key (content_in s.content) e there).0), ap (reached r) (sym own) ∙ f)

pub skips_passed : {slots : SlotRows} {r : Reach} {from j : ℕ} {stops : SlotWords → Bool → Type 0}
    → ((s : SlotWords) → stops s false → reached r s.key ≡ false) → Passed slots stops from j → Skips slots r from j
skips_passed {slots} {r} f p =
    record {
      forth = p.forth;
      there = p.there;
      passed = λ i a b. ⊎_elim (elsewhere_empty slots r i) (λ w. elsewhere_read r w.0 w.1 (f w.0 w.2)) (p.unmet i a b);
    }

stands_is : {slots : SlotRows} {j : ℕ} (s : SlotWords) (b : Bool) → indexlet.IsSlot slots j s → b ≡ is_idle (content_in s.content) → not b ≡ present (entry_at (slots_of slots) j)
stands_is {slots} {j} s b reads e = ap not e ∙ go (is_idle (content_in s.content)) ∙ ap present (sym (entry_of slots j s reads))
  where
    go : (d : Bool) → not d ≡ present (pick d none (some (row s.key (content_in s.content))))
    go true = refl
    go false = refl

takes_false : (p : ℕ → Bool) (e : Row Content) → p e.key ≡ false → takes p e ≡ false
unfolding takes
takes_false p e f = ap (both (present e.item.pending)) f ∙ both_false (present e.item.pending)

module _ {lows : List ℕ} {m i : ℕ} {r : Reach} (leaf : OneLeaf lows m i r) {slots : SlotRows} {from j : ℕ} (k : Skips slots r from j) where
  passed_by : (n : ℕ) → from ≤ n → n < j → (e : Row Content) → entry_at (slots_of slots) n ≡ some e → placed lows m i e.key ≡ false
  passed_by n a b e q = let x = k.passed n a b e q in leaf_outside leaf e.key x.0 x.1

  pub skips_walk : {o : ℕ} {rs : List (Row Record)} {ss : List Slot} {rows : RecordRows} {w : Walk} → Walking (placed lows m i) o rs ss rows slots w from → Walking (placed lows m i) o rs ss rows slots w j
  skips_walk g =
      let t : j ≤ slot_count = k.there in
      walk_over j g k.forth k.there (λ n a b x q. takes_false (placed lows m i) x (passed_by n a b x (g.untouched n a (omega arith) ∙ q)))

  pub skips_clear : {f : ℕ} → Clear (placed lows m i) slots f from → Clear (placed lows m i) slots f j
  skips_clear c =
      record {
        cleared =
            λ z n l e q.
            ⊎_elim
            (λ t. c.cleared z n (less_true n from t) e q)
            (λ t. passed_by n (less_false n from t) l e q)
            (cases (less n from));
      }

-- a slot without an entry
absent_none : (o : Option (Row Content)) (e : Row Content) → false ≡ present o → o ≡ some e → ⊥
absent_none none e a q = clash (ap present q) refl
absent_none (some x) e a q = clash refl (sym a)

pass_slot : {p : ℕ → Bool} {rows : RecordRows} {slots : SlotRows} {w : Walk} {j : ℕ} → j < slot_count → false ≡ present (entry_at (slots_of slots) j) → WalksSlot p rows slots w j rows slots w
pass_slot {slots = slots} {w = w} {j = j} h a =
    record {
      on = λ {o} {rs} {ss} g.
          walk_over (j + 1) g (omega arith) (omega arith)
          (λ n b c x q.
          let e : n ≡ j = omega arith in
          absurd (absent_none (entry_at (slots_of slots) j) x a (ap (entry_at (slots_of slots)) (sym e) ∙ g.untouched n b (omega arith) ∙ q)));
      space = stays_same;
      least = le_refl w.left;
      here = λ z e q. absurd (absent_none (entry_at (slots_of slots) j) e a q);
      others = λ i l n. refl;
      records = λ x q k n. refl;
    }

-- a slot that is not reached: it has no entry, or one in another leaf
pub walk_unreached : {p : ℕ → Bool} {rows : RecordRows} {slots : SlotRows} {w : Walk} {j : ℕ} (r : SlotWords) → indexlet.IsSlot slots j r → j < slot_count
    → (is_idle (content_in r.content) ≡ false → p r.key ≡ false) → WalksSlot p rows slots w j rows slots w
walk_unreached r reads h f =
    ⊎_elim (λ t. pass_slot h (stands_is r true reads (sym t))) (λ t. walk_outside r reads h (f t)) (cases (is_idle (content_in r.content)))

-- ---- one pending write

-- an entry that counts for all that there is
lone : (q : Row Content → Bool) (ss : List Slot) (i j : ℕ) → i < length ss → j < length ss → (i ≡ j → ⊥) → how_many q ss ≡ weigh q (entry_at ss j) → weigh q (entry_at ss i) ≡ 0
unfolding how_many tally
lone q ss i j a b n e =
    let two : weigh q (entry_at ss i) + weigh q (entry_at ss j) ≤ how_many q ss = total_two (λ (k : ℕ) (s : Slot). weigh q s.entry) ss i j empty_slot a b n in
    omega arith

weigh_false : (q : Row Content → Bool) (e : Row Content) → weigh q (some e) ≡ 0 → q e ≡ false
unfolding weigh
weigh_false q e z = go (q e) z
  where
    go : (b : Bool) → ◌≡◌ {A = ℕ} (pick b 1 0) 0 → b ≡ false
    go true y = absurd (let x : ⊥ = omega arith in x)
    go false y = refl

-- there is an entry, and it counts
weigh_some : (q : Row Content → Bool) (o : Option (Row Content)) → weigh q o ≡ 1 → (x : Row Content) × (o ≡ some x)
unfolding weigh
weigh_some q none z = absurd (let x : ⊥ = omega arith in x)
weigh_some q (some x) z = (x, refl)

module _ {p : ℕ → Bool} {rows : RecordRows} {slots : SlotRows} {n e o j : ℕ} (start : Starting rows slots n e o) (alone : Alone p rows n slots j)
    (one : how_many (takes p) (slots_of slots) ≡ 1) (inside : j < slot_count) where
  full : length (slots_of slots) ≡ slot_count
  full = start.words.good.size

  -- no other write is taken
  not_taken : (i : ℕ) → i < slot_count → (i ≡ j → ⊥) → (x : Row Content) → entry_at (slots_of slots) i ≡ some x → takes p x ≡ false
  not_taken i l m x q =
      let f : length (slots_of slots) ≡ slot_count = full in
      weigh_false (takes p) x (ap (weigh (takes p)) (sym q) ∙ lone (takes p) (slots_of slots) i j (omega arith) (omega arith) m (one ∙ sym alone.taken))

  not_hiding : (i : ℕ) → i < slot_count → (i ≡ j → ⊥) → (x : Row Content) → entry_at (slots_of slots) i ≡ some x → passing p (hiding_at (records_of rows n)) x ≡ false
  unfolding hiders
  not_hiding i l m x q =
      let f : length (slots_of slots) ≡ slot_count = full in
      weigh_false (passing p (hiding_at (records_of rows n))) x
      (ap (weigh (passing p (hiding_at (records_of rows n)))) (sym q) ∙ lone (passing p (hiding_at (records_of rows n))) (slots_of slots) i j (omega arith) (omega arith) m alone.hider)

  -- so the walk stands before slot j
  at_slot : Walking p o (records_of rows n) (slots_of slots) rows slots (walk n e 0 0 o) j
  at_slot = walk_over j (walk_start (starting_first p start)) zero-le (omega arith) (λ i a b. not_taken i (omega arith) (λ q. let x : ⊥ = omega arith in x))

  pub alone_walk : Underway p rows slots (walk n e 0 0 o) j
  alone_walk = record { records = records_of rows n; begun = slots_of slots; first = o; walking = at_slot; behind = []; outer = behind_none p start; bound = start.bound }

  -- what is left of other entries counts for nothing
  spared : {rows' : RecordRows} {slots' : SlotRows} {w : Walk} → WalksSlot p rows slots (walk n e 0 0 o) j rows' slots' w
      → (i : ℕ) → i < slot_count → (i ≡ j → ⊥) → (x : Row Content) → entry_at (slots_of slots) i ≡ some x → p x.key ≡ true
      → (hiding_at (records_of rows' w.records) x ≡ false) × (waiting x ≡ false)
  unfolding hiding_at lacking waiting passing takes
  spared {rows'} {slots'} {w} s i l m x q t =
      let f : length (slots_of slots) ≡ slot_count = full in
      let there = weigh_some (takes p) (entry_at (slots_of slots) j) alone.taken in
      let apart : x.key ≡ there.0.key → ⊥
      = λ k. clash (holds_yes there.0.key (get_or (slots_of slots) i empty_slot) x q k)
      (only_here (slots_of slots) there.0.key j i (start.words.good.once there.0.key) (omega arith) (omega arith)
      (holds_yes there.0.key (get_or (slots_of slots) j empty_slot) there.0 there.1 refl) (λ y. m (sym y))) in (
        ap (λ (r : Option Record). both (not (present r)) (hides_some x.item)) (s.records there.0 there.1 x.key apart)
            ∙ sym (ap (λ (b : Bool). both b (both (not (present (look (records_of rows n) x.key))) (hides_some x.item))) t)
            ∙ not_hiding i l m x q,
        sym (and_true (present x.item.pending)) ∙ sym (ap (both (present x.item.pending)) t) ∙ not_taken i l m x q,
      )
    where
      and_true : (b : Bool) → both b true ≡ b
      and_true true = refl
      and_true false = refl

  pub alone_took : {rows' : RecordRows} {slots' : SlotRows} {w : Walk} → WalksSlot p rows slots (walk n e 0 0 o) j rows' slots' w → Took p rows slots n rows' slots' w
  alone_took {rows'} {slots'} {w} s =
      walk_took start
      (walk_over slot_count (s.on at_slot) (omega arith) (le_refl slot_count) (λ i a b. not_taken i b (λ q. let x : ⊥ = omega arith in x)))
      (le_refl slot_count)
      (λ z i l x q t.
      ⊎_elim
      (λ b. clash t (s.here z x (ap (entry_at (slots_of slots')) (sym (same_true i j b)) ∙ q)))
      (λ b. let m : i ≡ j → ⊥ = same_false i j b in spared s i l m x (sym (s.others i l m) ∙ q) t)
      (cases (same i j)))

-- the slot's entry is one that is taken
module _ (rows : RecordRows) (n : ℕ) {lows : List ℕ} {m i j hidden : ℕ} {r : Reach} {slots : SlotRows} (s : SlotWords) (leaf : OneLeaf lows m i r) (held : indexlet.SlotsHeld slots)
    (reads : indexlet.IsSlot slots j s) (low : r.low ≤ s.key) (high : s.key ≤ r.low + r.span) (kind : s.content.kind ≡ 0 → ⊥) (inside : j < slot_count)
    (counted : hidden ≡ hiders (placed lows m i) rows n slots) where
  abbrev hiding : Row Content → Bool
  hiding = passing (placed lows m i) (hiding_at (records_of rows n))

  placed_here : placed lows m i s.key ≡ true
  placed_here = leaf_inside leaf s.key low high

  taken_here : weigh (takes (placed lows m i)) (entry_at (slots_of slots) j) ≡ 1
  taken_here =
      ap (weigh (takes (placed lows m i))) (entry_is s held reads kind)
      ∙ (unfold weigh in ap (λ (b : Bool). pick b 1 0) (taken_yes s held reads kind (placed lows m i) placed_here))

  -- nobody hides
  pub alone_plain : hidden ≡ 0 → Alone (placed lows m i) rows n slots j
  unfolding hiders how_many tally
  alone_plain z =
      let f : length (slots_of slots) ≡ slot_count = held.good.size in
      let few : weigh hiding (entry_at (slots_of slots) j) ≤ how_many hiding (slots_of slots) = total_at (λ (k : ℕ) (x : Slot). weigh hiding x.entry) (slots_of slots) j empty_slot (omega arith) in
      let all : hidden ≡ how_many hiding (slots_of slots) = counted in
      record { taken = taken_here; hider = omega arith }

  -- it hides as many as do
  pub alone_hider : (x : ℕ) → x ≡ pick (both (not (present (look (records_of rows n) s.key))) (hides_some (content_in s.content))) 1 0 → x ≡ hidden → Alone (placed lows m i) rows n slots j
  unfolding passing hiding_at lacking weigh
  alone_hider x is e =
      record {
        taken = taken_here;
        hider =
            sym counted ∙ sym e ∙ is
            ∙ sym (ap (λ (b : Bool). pick (both b (both (not (present (look (records_of rows n) s.key))) (hides_some (content_in s.content)))) 1 0) placed_here)
            ∙ sym (ap (weigh hiding) (entry_is s held reads kind));
      }
