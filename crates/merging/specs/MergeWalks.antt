-- The first part of a merge: a walk over the slots that takes the pending writes of a leaf into the index. What is left
-- to take in is always what the slots had to begin with, from the walk's place on; and if no lock was counted, the slots
-- behind the walk have no entry of the leaf. The walk sees the index up to the leaf's end or all of it: records behind, at
-- other addresses, matter only to the number of entries outside of the index.
use Prim.Native.Nat.{ℕ, zero, suc, ◌+◌, ◌-◌, ◌^◌, ◌<◌, ◌≤◌, zero-le}
use Rattle.std.proofs.Common.{not-suc-le-zero, le_of_eq, ◌∙◌, drop_of_length-le, drop-cons, drop-drop}
use Rattle.std.proofs.Math.Nat.{le_trans, le_refl}
use native.Mathlib.Omega.{arith}
use Rattle.std.specs.Prelude.{◌≡◌, drop, get_or}
use Rattle.std.proofs.Math.Path.{refl, sym, ap, subst}
use Rattle.std.proofs.Math.Logic.{⊎_elim}
use Rattle.std.proofs.Math.Bool.{Bool, true, false, not}
use mathlib.Core.List.{List, [], ◌∷◌, ◌++◌, append-nil}
use Rattle.std.proofs.Math.Option.{Option, none, some}
use Rattle.std.proofs.Math.ListN.{length}
use Rattle.lists.specs.Tests.{pick, both, either, maybe, present, same}
use Rattle.lists.specs.TestLaws.{cases, clash, same_true, same_false, same_no, same_refl}
use Rattle.lists.specs.Rows.{Row, row, look, assign, keys, has, filter, distinct, Rising}
use Rattle.lists.specs.RowLaws.{look_nil, has_keys, length_keys, look_assign, rising_assign, length_assign, rising_different}
use Rattle.lists.specs.Ascending.{keys_mem}
use Rattle.lists.specs.Counting.{Within, different_within}
use Rattle.lists.specs.Memberships.{member_has, has_left, has_right}
use Rattle.lists.specs.Sums.{total_at, total_except}
use Rattle.spec.specs.Widths.{address_size}
use Rattle.spec.specs.declared.PayloadWords.{PayloadWords}
use Rattle.spec.specs.Records.{Record, is_put, outcome}
use Rattle.spec.specs.Leaves.{Leaf}
use Rattle.spec.specs.Slots.{slot_count, Pending, Content, is_idle, Slot, empty_slot, entries, content_of, holds, enter, kept}
use Rattle.spec.specs.Maps.{MapState, outcome_of, current, put_pending, each, taken_in, merge_entry}
use Rattle.laws.specs.SlotCounts.{Good, entry_at, tally, count, keyed, keyed_here, keyed_holds, holds_yes, only_here, entries_some, entries_none, slot_member}
use Rattle.laws.specs.Entering.{Entering, entering, kept_entry}
use Rattle.laws.specs.SlotLaws.{EntryRoom, stands, member_content}
use Rattle.laws.specs.MapLaws.{has_entry}
use Rattle.indexlet.specs.Words.{pending_in, holder_in, content_in, slot_in, slots_of}
use Rattle.indexlet.specs.declared.Content.{Content as ContentWords}
use Rattle.indexlet.specs.declared.Slot.{Slot as SlotWords}
use Rattle.indexlet.specs.Promises as indexlet
use Rattle.index.specs.Views as index
use Rattle.index.specs.Views.{record_places, record_from, records_of}
use Rattle.index.specs.ViewLaws.{length_records}
use Rattle.merging.specs.declared.merge.Walk.{Walk}
use Rattle.phantomlet.specs.Phantoms.{weigh, how_many, hides_some, many_change, weigh_kept}
use Rattle.phantomlet.specs.LeafTests.{takes}
use Rattle.phantomlet.specs.LeafCounts.{lacking, hiding_at, waiting}
use Rattle.phantomlet.specs.MergeCounts.{pick_most}
use Rattle.map.specs.Views.{SlotRows, RecordRows}
use Rattle.map.specs.EntryLaws.{many_most}

-- an entry at an address that passes the first test passes the second
unfoldable pub passing : (ℕ → Bool) → (Row Content → Bool) → Row Content → Bool
passing p t e = both (p e.key) (t e)

-- how many entries at addresses that pass hide their address from somebody
unfoldable pub hiders : (ℕ → Bool) → RecordRows → ℕ → SlotRows → ℕ
hiders p rows n slots = how_many (passing p (hiding_at (records_of rows n))) (slots_of slots)

-- a map of its three parts
abbrev pub parts : List (Row Record) → List Leaf → List Slot → MapState
parts rs ls ss = record { records = rs; leaves = ls; slots = ss }

-- what a pending write of this kind leaves in the index
unfoldable pub leaving : ℕ → PayloadWords → ℕ → Option Record
leaving kind v commit = maybe (pending_in kind v commit 0) none outcome_of

-- whenever its waiting began
leaving_since : (kind : ℕ) (v : PayloadWords) (commit t : ℕ) → maybe (pending_in kind v commit t) none outcome_of ≡ leaving kind v commit
unfolding leaving pending_in outcome_of
leaving_since zero v commit t = refl
leaving_since (suc zero) v commit t = refl
leaving_since (suc (suc k)) v commit t = refl

pub leaving_put : (kind : ℕ) (v : PayloadWords) (commit : ℕ) → kind ≡ 1 → some (record_from v commit) ≡ leaving kind v commit
unfolding leaving pending_in outcome_of outcome
leaving_put kind v commit e = sym (ap (λ (k : ℕ). leaving k v commit) e)

pub leaving_drop : (kind : ℕ) (v : PayloadWords) (commit : ℕ) → (kind ≡ 1 → ⊥) → none ≡ leaving kind v commit
unfolding leaving pending_in outcome_of outcome
leaving_drop zero v commit n = refl
leaving_drop (suc zero) v commit n = absurd (n refl)
leaving_drop (suc (suc k)) v commit n = refl

kind_pending : (kind : ℕ) (v : PayloadWords) (commit t : ℕ) → (kind ≡ 0 → ⊥) → (p : Pending) × (pending_in kind v commit t ≡ some p)
unfolding pending_in
kind_pending zero v commit t n = absurd (n refl)
kind_pending (suc zero) v commit t n = (_, refl)
kind_pending (suc (suc k)) v commit t n = (_, refl)

pub lock_none : (c : ContentWords) → c.lock ≡ 0 → ◌≡◌ {A = ℕ} 0 (pick (present (content_in c).holder) 1 0)
unfolding content_in holder_in
lock_none c e = sym (ap (λ (n : ℕ). pick {A = ℕ} (present (holder_in n)) 1 0) e)

pub lock_some : (c : ContentWords) → (c.lock ≡ 0 → ⊥) → ◌≡◌ {A = ℕ} 1 (pick (present (content_in c).holder) 1 0)
unfolding content_in holder_in
lock_some c n = go c.lock n
  where
    go : (k : ℕ) → (k ≡ 0 → ⊥) → ◌≡◌ {A = ℕ} 1 (pick (present (holder_in k)) 1 0)
    go zero n = absurd (n refl)
    go (suc k) n = refl

-- ---- records behind others

look_append : {A : Type 0} (xs ys : List (Row A)) (k : ℕ) → look (xs ++ ys) k ≡ maybe (look xs k) (look ys k) some
unfolding look
look_append [] ys k = refl
look_append (x ∷ xs) ys k = ⊎_elim (λ t. rw t) (λ t. rw t (look_append xs ys k)) (cases (same x.key k))

-- a key that they lack
pub look_front : {A : Type 0} (xs ys : List (Row A)) (k : ℕ) → look ys k ≡ none → look (xs ++ ys) k ≡ look xs k
look_front xs ys k e = look_append xs ys k ∙ ap (λ (o : Option _). maybe (look xs k) o some) e ∙ go (look xs k)
  where
    go : {A : Type 0} (o : Option A) → maybe o none some ≡ o
    go none = refl
    go (some a) = refl

pub look_alike : {A : Type 0} (xs xs' ys : List (Row A)) (k : ℕ) → look xs k ≡ look xs' k → look (xs ++ ys) k ≡ look (xs' ++ ys) k
look_alike xs xs' ys k e = look_append xs ys k ∙ ap (λ (o : Option _). maybe o (look ys k) some) e ∙ sym (look_append xs' ys k)

-- ---- what is left

-- the entries from slot j on that pass the test
unfoldable pub left : (ℕ → Bool) → List Slot → ℕ → List (Row Content)
left p ss j = filter (takes p) (entries (drop j ss))

module _ (p : ℕ → Bool) (ss : List Slot) (j : ℕ) (h : j < length ss) where
  left_none : entry_at ss j ≡ none → left p ss j ≡ left p ss (suc j)
  unfolding left
  left_none e =
      ap (λ (zs : List Slot). filter (takes p) (entries zs)) (drop-cons ss j empty_slot h)
      ∙ ap (filter (takes p)) (entries_none (get_or ss j empty_slot) (drop (suc j) ss) e)

  left_some : (x : Row Content) → entry_at ss j ≡ some x → left p ss j ≡ pick (takes p x) (x ∷ left p ss (suc j)) (left p ss (suc j))
  unfolding left filter
  left_some x e =
      ap (λ (zs : List Slot). filter (takes p) (entries zs)) (drop-cons ss j empty_slot h)
      ∙ ap (filter (takes p)) (entries_some (get_or ss j empty_slot) (drop (suc j) ss) x e)

  -- an entry that does not pass, or none
  left_past : (k : ℕ) (c : Content) → entry_at ss j ≡ kept k c → takes p (row k c) ≡ false → left p ss j ≡ left p ss (suc j)
  left_past k c e f =
      ⊎_elim
      (λ t. left_none (e ∙ ap (λ (b : Bool). pick b none (some (row k c))) t))
      (λ t. left_some (row k c) (e ∙ ap (λ (b : Bool). pick b none (some (row k c))) t)
      ∙ ap (λ (b : Bool). pick b (row k c ∷ left p ss (suc j)) (left p ss (suc j))) f)
      (cases (is_idle c))

  -- the same, of whatever entry there is
  left_over : ((x : Row Content) → entry_at ss j ≡ some x → takes p x ≡ false) → left p ss j ≡ left p ss (suc j)
  left_over f = go (entry_at ss j) refl
    where
      go : (o : Option (Row Content)) → entry_at ss j ≡ o → left p ss j ≡ left p ss (suc j)
      go none e = left_none e
      go (some x) e = left_some x e ∙ ap (λ (b : Bool). pick b (x ∷ left p ss (suc j)) (left p ss (suc j))) (f x e)

left_start : (p : ℕ → Bool) (ss : List Slot) → left p ss 0 ≡ filter (takes p) (entries ss)
unfolding left
left_start p ss = refl

left_end : (p : ℕ → Bool) (ss : List Slot) (j : ℕ) → length ss ≤ j → left p ss j ≡ []
unfolding left
left_end p ss j h = ap (λ (zs : List Slot). filter (takes p) (entries zs)) (drop_of_length-le ss h) ∙ (unfold entries filter in refl)

-- ---- what is said of the address at slot j changes no other slot's entry

module _ {bytes : ℕ} {ss : List Slot} {e : Row Content} (j : ℕ) (c : Content) (good : Good bytes ss) (h : j < length ss) (here : entry_at ss j ≡ some e) where
  stands_here : 1 ≤ count (keyed e.key) ss
  unfolding tally
  stands_here =
      let one : keyed e.key (entry_at ss j) ≡ 1 = keyed_here e.key (entry_at ss j) e here refl in
      let least : keyed e.key (entry_at ss j) ≤ count (keyed e.key) ss = total_at (λ (i : ℕ) (s : Slot). keyed e.key s.entry) ss j empty_slot h in
      omega arith

  own_slot : (at : ℕ) (old : Option (Row Content)) → at < length ss → entry_at ss at ≡ old → count (keyed e.key) ss ≡ keyed e.key old → at ≡ j
  own_slot at old l b own =
      ⊎_elim
      (λ t. same_true at j t)
      (λ f.
      let least : 1 ≤ count (keyed e.key) ss = stands_here in
      let off : holds e.key (get_or ss at empty_slot) ≡ false
      = only_here ss e.key j at (good.once e.key) h l (holds_yes e.key (get_or ss j empty_slot) e here refl) (λ q. same_false at j f (sym q)) in
      let none_there : keyed e.key (entry_at ss at) ≡ 0 = keyed_holds e.key (get_or ss at empty_slot) ∙ ap (λ (b : Bool). pick b 1 0) off in
      let z : keyed e.key old ≡ 0 = sym (ap (keyed e.key) b) ∙ none_there in
      absurd (let q : ⊥ = omega arith in q))
      (cases (same at j))

  -- there stands what is said
  enter_here : EntryRoom ss e.key c → entry_at (enter bytes ss e.key c) j ≡ kept e.key c
  unfolding Entering
  enter_here room =
      ⊎_elim
      (λ r. ap (entry_at (enter bytes ss e.key c)) (sym (own_slot r.at r.old r.changed.inside r.changed.before r.own)) ∙ r.changed.after)
      (λ r. absurd (let a : 1 ≤ count (keyed e.key) ss = stands_here in let b : count (keyed e.key) ss ≡ 0 = r.1 in let q : ⊥ = omega arith in q))
      (entering good room)

  enter_others : EntryRoom ss e.key c → (i : ℕ) → i < length ss → (i ≡ j → ⊥) → entry_at (enter bytes ss e.key c) i ≡ entry_at ss i
  unfolding Entering
  enter_others room i l n =
      ⊎_elim
      (λ r. r.changed.others i l (λ q. n (q ∙ own_slot r.at r.old r.changed.inside r.changed.before r.own)))
      (λ r. ap (λ (ts : List Slot). entry_at ts i) r.0)
      (entering good room)

-- ---- keys stay within a list

assign_inside : (k : ℕ) (o : Option Record) (rs : List (Row Record)) (zs : List ℕ) → Within (keys rs) zs → has k zs ≡ true → Within (keys (assign k o rs)) zs
assign_inside k o rs zs w h j e =
    ⊎_elim
    (λ t. ap (λ (x : ℕ). has x zs) (sym (same_true k j t)) ∙ h)
    (λ f. w j (has_keys rs j
    ∙ sym (ap present (look_assign k o rs j ∙ ap (λ (b : Bool). pick b o (look rs j)) f))
    ∙ sym (has_keys (assign k o rs) j) ∙ e))
    (cases (same k j))

inside_length : (rs : List (Row Record)) (zs : List ℕ) → Rising rs → Within (keys rs) zs → length rs ≤ distinct zs
inside_length rs zs r w = le_trans (le_of_eq (sym (length_keys rs))) (different_within (keys rs) zs (rising_different rs r) w)

entry_inside : (rs : List (Row Record)) (ss : List Slot) (j : ℕ) (e : Row Content) → entry_at ss j ≡ some e → has e.key (keys rs ++ keys (entries ss)) ≡ true
entry_inside rs ss j e q = has_right e.key (keys rs) (keys (entries ss)) (member_has (keys_mem e (entries ss) (slot_member ss j e q)))

-- ---- the walk

-- The addresses that pass the test have no record among these, which stand behind the rows that the walk sees.
pub record Behind (p : ℕ → Bool) (rs : List (Row Record)) (ss : List Slot) (o : ℕ) (behind : List (Row Record)) : Type 0 where
  pub absent : (k : ℕ) → p k ≡ true → look behind k ≡ none
  -- so many entries lay outside of all records to begin with
  pub outside : o ≡ how_many (lacking (rs ++ behind)) ss

-- The walk stands before slot j. It began with the records rs, the slots ss, and o entries outside of the index.
pub record Walking (p : ℕ → Bool) (o : ℕ) (rs : List (Row Record)) (ss : List Slot) (rows : RecordRows) (slots : SlotRows) (w : Walk) (j : ℕ) : Type 0 where
  pub rows_held : index.RecordsSorted rows w.records
  pub words : indexlet.SlotsHeld slots
  pub number : w.entries ≡ length (entries (slots_of slots))
  pub full : length ss ≡ slot_count
  pub there : j ≤ slot_count
  pub few : w.count ≤ j
  pub few_left : w.left ≤ j
  -- the slots from here on have the entries that they had
  pub untouched : (i : ℕ) → j ≤ i → i < slot_count → entry_at (slots_of slots) i ≡ entry_at ss i
  -- an address of the index was one, or had an entry
  pub inside : Within (keys (records_of rows w.records)) (keys rs ++ keys (entries ss))
  -- addresses that do not pass keep their records, and every count of entries there stays
  pub apart : (k : ℕ) → p k ≡ false → look (records_of rows w.records) k ≡ look rs k
  pub elsewhere : (q : Row Content → Bool) → ((e : Row Content) → p e.key ≡ true → q e ≡ false) → how_many q (slots_of slots) ≡ how_many q ss
  -- the rest of the run is the whole run
  pub rest :
      (ls : List Leaf) → each (merge_entry address_size) (parts (records_of rows w.records) ls (slots_of slots)) (left p ss j)
      ≡ each (merge_entry address_size) (parts rs ls ss) (filter (takes p) (entries ss))
  pub counted : w.count + length (left p ss j) ≡ length (filter (takes p) (entries ss))
  -- so many entries lie outside of the index now, whatever stands behind
  pub outside_is : (behind : List (Row Record)) → Behind p rs ss o behind → w.outside ≡ how_many (lacking (records_of rows w.records ++ behind)) (slots_of slots)

-- With no lock counted, `f` being their number, the slots before j have no entry at an address that passes.
pub record Clear (p : ℕ → Bool) (slots : SlotRows) (f j : ℕ) : Type 0 where
  pub cleared : f ≡ 0 → (i : ℕ) → i < j → (e : Row Content) → entry_at (slots_of slots) i ≡ some e → p e.key ≡ false

-- what a walk begins with: as many addresses as the index has room for
pub record Starting (rows : RecordRows) (slots : SlotRows) (n e o : ℕ) : Type 0 where
  pub rows_held : index.RecordsSorted rows n
  pub words : indexlet.SlotsHeld slots
  pub number : e ≡ length (entries (slots_of slots))
  pub bound : distinct (keys (records_of rows n) ++ keys (entries (slots_of slots))) ≤ record_places
  pub outside_is : o ≡ how_many (lacking (records_of rows n)) (slots_of slots)

-- the same of the first n rows alone: what stands behind them has no address that passes
pub record StartingFirst (p : ℕ → Bool) (rows : RecordRows) (slots : SlotRows) (n e o : ℕ) : Type 0 where
  pub rows_held : index.RecordsSorted rows n
  pub words : indexlet.SlotsHeld slots
  pub number : e ≡ length (entries (slots_of slots))
  pub bound : distinct (keys (records_of rows n) ++ keys (entries (slots_of slots))) ≤ record_places
  pub behind : List (Row Record)
  pub outer : Behind p (records_of rows n) (slots_of slots) o behind

-- a walk that began with as many addresses as the index has room for
pub record Underway (p : ℕ → Bool) (rows : RecordRows) (slots : SlotRows) (w : Walk) (j : ℕ) : Type 0 where
  pub records : List (Row Record)
  pub begun : List Slot
  pub first : ℕ
  pub walking : Walking p first records begun rows slots w j
  pub behind : List (Row Record)
  pub outer : Behind p records begun first behind
  pub bound : distinct (keys records ++ keys (entries begun)) ≤ record_places

-- Records and entries that hide their address are together no more than they were, and no row behind so many changes.
pub record Stays (p : ℕ → Bool) (rows : RecordRows) (slots : SlotRows) (n : ℕ) (rows' : RecordRows) (slots' : SlotRows) (n' : ℕ) : Type 0 where
  pub fewer : n' + hiders p rows' n' slots' ≤ n + hiders p rows n slots
  pub stay : (b : ℕ) → n + hiders p rows n slots ≤ b → drop b rows' ≡ drop b rows

pub stays_same : {p : ℕ → Bool} {rows : RecordRows} {slots : SlotRows} {n : ℕ} → Stays p rows slots n rows slots n
stays_same = record { fewer = le_refl _; stay = λ b h. refl }

pub stays_on : {p : ℕ → Bool} {rows rows₁ rows₂ : RecordRows} {slots slots₁ slots₂ : SlotRows} {n n₁ n₂ : ℕ}
    → Stays p rows slots n rows₁ slots₁ n₁ → Stays p rows₁ slots₁ n₁ rows₂ slots₂ n₂ → Stays p rows slots n rows₂ slots₂ n₂
stays_on a b = record { fewer = le_trans b.fewer a.fewer; stay = λ k h. b.stay k (le_trans a.fewer h) ∙ a.stay k h }

-- one slot on, wherever the walk began; no other slot's entry changes, and no record but at the entry's address
pub record WalksSlot (p : ℕ → Bool) (rows : RecordRows) (slots : SlotRows) (w : Walk) (j : ℕ) (rows' : RecordRows) (slots' : SlotRows) (w' : Walk) : Type 0 where
  pub on : {o : ℕ} {rs : List (Row Record)} {ss : List Slot} → Walking p o rs ss rows slots w j → Walking p o rs ss rows' slots' w' (j + 1)
  pub space : Stays p rows slots w.records rows' slots' w'.records
  pub least : w.left ≤ w'.left
  pub here : w'.left ≡ 0 → (e : Row Content) → entry_at (slots_of slots') j ≡ some e → p e.key ≡ false
  pub others : (i : ℕ) → i < slot_count → (i ≡ j → ⊥) → entry_at (slots_of slots') i ≡ entry_at (slots_of slots) i
  pub records : (x : Row Content) → entry_at (slots_of slots) j ≡ some x → (k : ℕ) → (k ≡ x.key → ⊥)
      → look (records_of rows' w'.records) k ≡ look (records_of rows w.records) k

-- what a walk over the first n rows leaves
pub record TookFirst (p : ℕ → Bool) (rows : RecordRows) (slots : SlotRows) (n o : ℕ) (rows' : RecordRows) (slots' : SlotRows) (w : Walk) : Type 0 where
  pub walking : Walking p o (records_of rows n) (slots_of slots) rows' slots' w slot_count
  pub clear : Clear p slots' w.left slot_count
  pub space : Stays p rows slots n rows' slots' w.records

-- what a walk leaves
pub record Took (p : ℕ → Bool) (rows : RecordRows) (slots : SlotRows) (n : ℕ) (rows' : RecordRows) (slots' : SlotRows) (w : Walk) : Type 0 where
  pub rows_held : index.RecordsSorted rows' w.records
  pub words : indexlet.SlotsHeld slots'
  pub number : w.entries ≡ length (entries (slots_of slots'))
  pub inside : Within (keys (records_of rows' w.records)) (keys (records_of rows n) ++ keys (entries (slots_of slots)))
  pub apart : (k : ℕ) → p k ≡ false → look (records_of rows' w.records) k ≡ look (records_of rows n) k
  pub elsewhere : (q : Row Content → Bool) → ((e : Row Content) → p e.key ≡ true → q e ≡ false) → how_many q (slots_of slots') ≡ how_many q (slots_of slots)
  pub after :
      (ls : List Leaf) → parts (records_of rows' w.records) ls (slots_of slots')
      ≡ each (merge_entry address_size) (parts (records_of rows n) ls (slots_of slots)) (filter (takes p) (entries (slots_of slots)))
  pub count : w.count ≡ length (filter (takes p) (entries (slots_of slots)))
  pub outside_is : w.outside ≡ how_many (lacking (records_of rows' w.records)) (slots_of slots')
  -- with no lock counted, an entry that is left at an address that passes counts for nothing
  pub cleared : w.left ≡ 0 → (i : ℕ) → i < slot_count → (e : Row Content) → entry_at (slots_of slots') i ≡ some e → p e.key ≡ true
      → (hiding_at (records_of rows' w.records) e ≡ false) × (waiting e ≡ false)

-- What the next promise asks: no difference is below 0.
pub record OutsideFits (out before after kind lock : ℕ) : Type 0 where
  pub small : out + lock + before < 2 ^ 64
  pub put : kind ≡ 1 → after ≤ out + before
  pub drop : (kind ≡ 1 → ⊥) → after + 1 ≤ out + lock + before

-- How many entries lie outside of the index, once a write of this kind has entered it: `before` and `after` are the numbers
-- of its records, `lock` is 1 if the entry stays for its lock.
pub record OutsideNow (out before after kind lock now : ℕ) : Type 0 where
  pub put : kind ≡ 1 → now + after ≡ out + before
  pub drop : (kind ≡ 1 → ⊥) → now + after + 1 ≡ out + lock + before

pub outside_by_put : {out before after lock : ℕ} (kind : ℕ) → OutsideFits out before after kind lock → kind ≡ 1 → OutsideNow out before after kind lock (out + before - after)
outside_by_put {out} {before} {after} {lock} kind f k =
    let l : after ≤ out + before = f.put k in record { put = λ e. omega arith; drop = λ n. absurd (n k) }

pub outside_by_drop : {out before after lock : ℕ} (kind : ℕ) → OutsideFits out before after kind lock → (kind ≡ 1 → ⊥)
    → OutsideNow out before after kind lock (out + lock + before - after - 1)
outside_by_drop {out} {before} {after} {lock} kind f k =
    let l : after + 1 ≤ out + lock + before = f.drop k in record { put = λ e. absurd (k e); drop = λ n. omega arith }

abbrev pub walk : ℕ → ℕ → ℕ → ℕ → ℕ → Walk
walk n e c f o = record { records = n; entries = e; count = c; left = f; outside = o }

-- where nothing stands behind
pub behind_none : {rows : RecordRows} {slots : SlotRows} {n e o : ℕ} (p : ℕ → Bool) → Starting rows slots n e o → Behind p (records_of rows n) (slots_of slots) o []
behind_none {rows} {slots} {n} p s =
    record {
      absent = λ k t. look_nil k;
      outside = s.outside_is ∙ ap (λ (rs : List (Row Record)). how_many (lacking rs) (slots_of slots)) (sym (append-nil (records_of rows n)));
    }

pub starting_first : {rows : RecordRows} {slots : SlotRows} {n e o : ℕ} (p : ℕ → Bool) → Starting rows slots n e o → StartingFirst p rows slots n e o
starting_first p s =
    record { rows_held = s.rows_held; words = s.words; number = s.number; bound = s.bound; behind = []; outer = behind_none p s }

pub walk_start : {p : ℕ → Bool} {rows : RecordRows} {slots : SlotRows} {n e o : ℕ} → StartingFirst p rows slots n e o → Walking p o (records_of rows n) (slots_of slots) rows slots (walk n e 0 0 o) 0
walk_start {p} {rows} {slots} {n} {e} {o} s =
    record {
      rows_held = s.rows_held;
      words = s.words;
      number = s.number;
      full = s.words.good.size;
      there = zero-le;
      few = zero-le;
      few_left = zero-le;
      untouched = λ i a b. refl;
      inside = λ k h. has_left k (keys (records_of rows n)) (keys (entries (slots_of slots))) h;
      apart = λ k h. refl;
      elsewhere = λ q h. refl;
      rest = λ ls. ap (each (merge_entry address_size) (parts (records_of rows n) ls (slots_of slots))) (left_start p (slots_of slots));
      counted = (let z : length (left p (slots_of slots) 0) ≡ length (filter (takes p) (entries (slots_of slots))) = ap length (left_start p (slots_of slots)) in omega arith);
      outside_is = λ b x. x.outside;
    }

pub clear_start : {p : ℕ → Bool} {slots : SlotRows} {f : ℕ} → Clear p slots f 0
clear_start = record { cleared = λ z i l. absurd (not-suc-le-zero l) }

pub clear_on : {p : ℕ → Bool} {rows : RecordRows} {slots : SlotRows} {w : Walk} {j : ℕ} {rows' : RecordRows} {slots' : SlotRows} {w' : Walk}
    → WalksSlot p rows slots w j rows' slots' w' → j < slot_count → Clear p slots w.left j → Clear p slots' w'.left (j + 1)
clear_on {p} {rows} {slots} {w} {j} {rows'} {slots'} {w'} s h c =
    let least : w.left ≤ w'.left = s.least in
    record {
      cleared =
          λ z i l e q.
          ⊎_elim
          (λ b. s.here z e (ap (entry_at (slots_of slots')) (sym (same_true i j b)) ∙ q))
          (λ b. let n : i ≡ j → ⊥ = same_false i j b in c.cleared (omega arith) i (omega arith) e (sym (s.others i (omega arith) n) ∙ q))
          (cases (same i j));
    }

-- so nothing is left that counts
pub clear_end : {p : ℕ → Bool} {slots : SlotRows} {f j : ℕ} (rs : List (Row Record)) → Clear p slots f j → slot_count ≤ j
    → f ≡ 0 → (i : ℕ) → i < slot_count → (e : Row Content) → entry_at (slots_of slots) i ≡ some e → p e.key ≡ true → (hiding_at rs e ≡ false) × (waiting e ≡ false)
clear_end rs c h z i l e q t = clash t (c.cleared z i (omega arith) e q)

-- at the end all is taken in
module _ {p : ℕ → Bool} {o : ℕ} {rs : List (Row Record)} {ss : List Slot} {rows : RecordRows} {slots : SlotRows} {w : Walk} {j : ℕ} (r : Walking p o rs ss rows slots w j) (h : slot_count ≤ j) where
  none_after : left p ss j ≡ []
  none_after = let f : length ss ≡ slot_count = r.full in left_end p ss j (omega arith)

  pub walk_after : (ls : List Leaf) → parts (records_of rows w.records) ls (slots_of slots) ≡ each (merge_entry address_size) (parts rs ls ss) (filter (takes p) (entries ss))
  unfolding each
  walk_after ls = sym (ap (each (merge_entry address_size) (parts (records_of rows w.records) ls (slots_of slots))) none_after) ∙ r.rest ls

  pub walk_count : w.count ≡ length (filter (takes p) (entries ss))
  walk_count =
      let z : length (left p ss j) ≡ 0 = ap length none_after in
      let y : w.count + length (left p ss j) ≡ length (filter (takes p) (entries ss)) = r.counted in
      omega arith

pub walk_took : {p : ℕ → Bool} {rows : RecordRows} {slots : SlotRows} {n e o : ℕ} {rows' : RecordRows} {slots' : SlotRows} {w : Walk} {j : ℕ} → Starting rows slots n e o
    → Walking p o (records_of rows n) (slots_of slots) rows' slots' w j → slot_count ≤ j
    → (w.left ≡ 0 → (i : ℕ) → i < slot_count → (e : Row Content) → entry_at (slots_of slots') i ≡ some e → p e.key ≡ true → (hiding_at (records_of rows' w.records) e ≡ false) × (waiting e ≡ false))
    → Took p rows slots n rows' slots' w
walk_took {p} {rows} {slots} {n} {e} {o} {rows'} {slots'} {w} {j} start r h cleared =
    record {
      rows_held = r.rows_held;
      words = r.words;
      number = r.number;
      inside = r.inside;
      apart = r.apart;
      elsewhere = r.elsewhere;
      after = walk_after r h;
      count = walk_count r h;
      outside_is = r.outside_is [] (behind_none p start) ∙ ap (λ (rs : List (Row Record)). how_many (lacking rs) (slots_of slots')) (append-nil (records_of rows' w.records));
      cleared = cleared;
    }

pub walk_end : {p : ℕ → Bool} {rows : RecordRows} {slots : SlotRows} {n o : ℕ} {rows' : RecordRows} {slots' : SlotRows} {w : Walk} {j : ℕ} → Walking p o (records_of rows n) (slots_of slots) rows' slots' w j
    → Clear p slots' w.left j → Stays p rows slots n rows' slots' w.records → slot_count ≤ j → TookFirst p rows slots n o rows' slots' w
walk_end {p} {rows} {slots} {n} {o} {rows'} {slots'} {w} {j} r c s h =
    let t : j ≤ slot_count = r.there in
    let e : j ≡ slot_count = omega arith in
    record {
      walking = subst (Walking p o (records_of rows n) (slots_of slots) rows' slots' w) e r;
      clear = subst (Clear p slots' w.left) e c;
      space = s;
    }

-- ---- one slot

entry_in_lem : (slots : SlotRows) (j : ℕ) (r : SlotWords) → slot_in r ≡ get_or (slots_of slots) j empty_slot → entry_at (slots_of slots) j ≡ kept r.key (content_in r.content)
unfolding slot_in
entry_in_lem slots j r e = sym (ap (λ (s : Slot). s.entry) e)

-- an entry that is not taken, or none; the count of locks becomes f
walk_past : {p : ℕ → Bool} {rows : RecordRows} {slots : SlotRows} {w : Walk} {j : ℕ} (r : SlotWords) (f : ℕ) → indexlet.IsSlot slots j r → j < slot_count
    → takes p (row r.key (content_in r.content)) ≡ false → w.left ≤ f → f ≤ w.left + 1
    → (f ≡ 0 → (e : Row Content) → entry_at (slots_of slots) j ≡ some e → p e.key ≡ false) → WalksSlot p rows slots w j rows slots (walk w.records w.entries w.count f w.outside)
walk_past {p} {rows} {slots} {w} {j} r f reads h t least most gone =
    record {
      on = λ {o} {rs} {ss} g.
          let z : length ss ≡ slot_count = g.full in
          let e : left p ss j ≡ left p ss (suc j) = left_past p ss j (omega arith) r.key (content_in r.content) (sym (g.untouched j (le_refl j) h) ∙ entry_in_lem slots j r reads.slot) t in
          let s : suc j ≡ j + 1 = omega arith in
          let d : left p ss (j + 1) ≡ left p ss j = sym (e ∙ ap (left p ss) s) in
          record {
            rows_held = g.rows_held;
            words = g.words;
            number = g.number;
            full = g.full;
            there = omega arith;
            few = (let y : w.count ≤ j = g.few in omega arith);
            few_left = (let y : w.left ≤ j = g.few_left in omega arith);
            untouched = λ i a b. g.untouched i (omega arith) b;
            inside = g.inside;
            apart = g.apart;
            elsewhere = g.elsewhere;
            rest = λ ls. ap (each (merge_entry address_size) (parts (records_of rows w.records) ls (slots_of slots))) d ∙ g.rest ls;
            counted = (let y : w.count + length (left p ss j) ≡ length (filter (takes p) (entries ss)) = g.counted in let x : length (left p ss (j + 1)) ≡ length (left p ss j) = ap length d in omega arith);
            outside_is = g.outside_is;
          };
      space = stays_same;
      least = least;
      here = gone;
      others = λ i l n. refl;
      records = λ x e k n. refl;
    }

-- the same without a look at the slot, where the walk counts no lock
walk_skip : {p : ℕ → Bool} {o : ℕ} {rs : List (Row Record)} {ss : List Slot} {rows : RecordRows} {slots : SlotRows} {w : Walk} {j : ℕ} → Walking p o rs ss rows slots w j → j < slot_count
    → ((x : Row Content) → entry_at ss j ≡ some x → takes p x ≡ false) → Walking p o rs ss rows slots w (suc j)
walk_skip {p} {o} {rs} {ss} {rows} {slots} {w} {j} g h f =
    let z : length ss ≡ slot_count = g.full in
    let e : left p ss j ≡ left p ss (suc j) = left_over p ss j (omega arith) f in
    record {
      rows_held = g.rows_held;
      words = g.words;
      number = g.number;
      full = g.full;
      there = omega arith;
      few = (let y : w.count ≤ j = g.few in omega arith);
      few_left = (let y : w.left ≤ j = g.few_left in omega arith);
      untouched = λ i a b. g.untouched i (omega arith) b;
      inside = g.inside;
      apart = g.apart;
      elsewhere = g.elsewhere;
      rest = λ ls. ap (each (merge_entry address_size) (parts (records_of rows w.records) ls (slots_of slots))) (sym e) ∙ g.rest ls;
      counted = (let y : w.count + length (left p ss j) ≡ length (filter (takes p) (entries ss)) = g.counted in let x : length (left p ss j) ≡ length (left p ss (suc j)) = ap length e in omega arith);
      outside_is = g.outside_is;
    }

-- past k slots of which none has an entry that is taken
walk_by : {p : ℕ → Bool} {o : ℕ} {rs : List (Row Record)} {ss : List Slot} {rows : RecordRows} {slots : SlotRows} {w : Walk} {j : ℕ} (k : ℕ) → Walking p o rs ss rows slots w j → j + k ≤ slot_count
    → ((i : ℕ) → j ≤ i → i < j + k → (x : Row Content) → entry_at ss i ≡ some x → takes p x ≡ false) → Walking p o rs ss rows slots w (j + k)
walk_by {p} {o} {rs} {ss} {rows} {slots} {w} {j} zero g h f = subst (Walking p o rs ss rows slots w) (let e : j ≡ j + 0 = omega arith in e) g
walk_by {p} {o} {rs} {ss} {rows} {slots} {w} {j} (suc k) g h f =
    subst (Walking p o rs ss rows slots w) (let e : suc (j + k) ≡ j + suc k = omega arith in e)
    (walk_skip (walk_by k g (omega arith) (λ i a b. f i a (omega arith))) (omega arith) (f (j + k) (omega arith) (omega arith)))

pub walk_over : {p : ℕ → Bool} {o : ℕ} {rs : List (Row Record)} {ss : List Slot} {rows : RecordRows} {slots : SlotRows} {w : Walk} {j : ℕ} (i : ℕ) → Walking p o rs ss rows slots w j → j ≤ i → i ≤ slot_count
    → ((n : ℕ) → j ≤ n → n < i → (x : Row Content) → entry_at ss n ≡ some x → takes p x ≡ false) → Walking p o rs ss rows slots w i
walk_over {p} {o} {rs} {ss} {rows} {slots} {w} {j} i g a b f =
    let e : j + (i - j) ≡ i = omega arith in
    subst (Walking p o rs ss rows slots w) e (walk_by (i - j) g (omega arith) (λ n c d. f n c (omega arith)))

takes_none : (p : ℕ → Bool) (k : ℕ) (c : ContentWords) → c.kind ≡ 0 → takes p (row k (content_in c)) ≡ false
unfolding takes content_in pending_in
takes_none p k c e = ap (λ (n : ℕ). both (present (pending_in n c.payload c.commit c.since)) (p k)) e

pub both_false : (b : Bool) → both b false ≡ false
both_false true = refl
both_false false = refl

takes_other : (p : ℕ → Bool) (k : ℕ) (c : ContentWords) → p k ≡ false → takes p (row k (content_in c)) ≡ false
unfolding takes
takes_other p k c e = ap (both (present (content_in c).pending)) e ∙ both_false (present (content_in c).pending)

-- what stands there
stands_as : (slots : SlotRows) (j : ℕ) (r : SlotWords) → indexlet.IsSlot slots j r → (e : Row Content) → entry_at (slots_of slots) j ≡ some e
    → (is_idle (content_in r.content) ≡ false) × (row r.key (content_in r.content) ≡ e)
stands_as slots j r reads e q = kept_entry r.key (content_in r.content) e (sym (entry_in_lem slots j r reads.slot) ∙ q)

-- an address that does not pass
pub walk_outside : {p : ℕ → Bool} {rows : RecordRows} {slots : SlotRows} {w : Walk} {j : ℕ} (r : SlotWords) → indexlet.IsSlot slots j r → j < slot_count → p r.key ≡ false → WalksSlot p rows slots w j rows slots w
walk_outside {p} {rows} {slots} {w} {j} r reads h f =
    walk_past r w.left reads h (takes_other p r.key r.content f) (le_refl w.left) (omega arith)
    (λ z e q. ap (λ (x : Row Content). p x.key) (sym (stands_as slots j r reads e q).1) ∙ f)

-- nothing pending and no lock: no entry
unlocked : (c : Content) (x : ℕ) → present c.pending ≡ false → x ≡ pick (present c.holder) 1 0 → x ≡ 0 → is_idle c ≡ true
unfolding is_idle
unlocked c x a b z =
    ⊎_elim
    (λ t. absurd (let y : x ≡ 1 = b ∙ ap (λ (d : Bool). pick d 1 0) t in let q : ⊥ = omega arith in q))
    (λ t. ap (λ (d : Bool). both (not d) (not (present c.holder))) a ∙ ap not t)
    (cases (present c.holder))

-- one lock more fits
pub left_fits : {p : ℕ → Bool} {o : ℕ} {rs : List (Row Record)} {ss : List Slot} {rows : RecordRows} {slots : SlotRows} {w : Walk} {j : ℕ} → Walking p o rs ss rows slots w j → j < slot_count
    → (c : Content) (x : ℕ) → x ≡ pick (present c.holder) 1 0 → w.left + x < 2 ^ 64
left_fits {w = w} {j} g h c x b =
    let y : w.left ≤ j = g.few_left in
    let m : pick (present c.holder) 1 0 ≤ 1 = pick_most (present c.holder) in
    omega arith

-- nothing is pending: a lock counts
pub walk_lock : {p : ℕ → Bool} {rows : RecordRows} {slots : SlotRows} {w : Walk} {j : ℕ} (r : SlotWords) (x : ℕ) → indexlet.IsSlot slots j r → j < slot_count → r.content.kind ≡ 0
    → x ≡ pick (present (content_in r.content).holder) 1 0 → WalksSlot p rows slots w j rows slots (walk w.records w.entries w.count (w.left + x) w.outside)
unfolding content_in pending_in
walk_lock {p} {rows} {slots} {w} {j} r x reads h k b =
    let most : pick (present (content_in r.content).holder) 1 0 ≤ 1 = pick_most (present (content_in r.content).holder) in
    walk_past r (w.left + x) reads h (takes_none p r.key r.content k) (omega arith) (omega arith)
    (λ z e q. clash
    (unlocked (content_in r.content) x (ap (λ (n : ℕ). present (pending_in n r.content.payload r.content.commit r.content.since)) k) b (omega arith))
    (stands_as slots j r reads e q).0)

weigh_nothing : (q : Row Content → Bool) (k : ℕ) (c : Content) → q (row k c) ≡ false → weigh q (kept k c) ≡ 0
weigh_nothing q k c e =
    weigh_kept q k c ∙ ap (λ (b : Bool). pick (is_idle c) 0 (pick b 1 0)) e ∙ ⊎_elim (λ t. rw t) (λ t. rw t) (cases (is_idle c))

-- an entry with a pending write
module _ {slots : SlotRows} {j : ℕ} (r : SlotWords) (held : indexlet.SlotsHeld slots) (reads : indexlet.IsSlot slots j r) (kind : r.content.kind ≡ 0 → ⊥) where
  said : Pending
  said = (kind_pending r.content.kind r.content.payload r.content.commit r.content.since kind).0

  pending_is : (content_in r.content).pending ≡ some said
  unfolding content_in said
  pending_is = (kind_pending r.content.kind r.content.payload r.content.commit r.content.since kind).1

  busy : is_idle (content_in r.content) ≡ false
  unfolding is_idle
  busy = ap (λ (o : Option Pending). both (not (present o)) (not (present (content_in r.content).holder))) pending_is

  pub entry_is : entry_at (slots_of slots) j ≡ some (row r.key (content_in r.content))
  entry_is = entry_in_lem slots j r reads.slot ∙ ap (λ (b : Bool). pick b none (some (row r.key (content_in r.content)))) busy

  content_is : content_of (slots_of slots) r.key ≡ content_in r.content
  content_is = member_content held.good (slot_member (slots_of slots) j (row r.key (content_in r.content)) entry_is)

  pub slot_room : (c : Content) → EntryRoom (slots_of slots) r.key c
  slot_room c = stands (has_entry held.good r.key (ap is_idle content_is ∙ busy))

  -- what enters the index and the indexlet is what the model merges
  merged_is : (rs rs' : List (Row Record)) (ls : List Leaf) (ss' : List Slot)
      → rs' ≡ assign r.key (leaving r.content.kind r.content.payload r.content.commit) rs
      → ss' ≡ enter address_size (slots_of slots) r.key (taken_in (content_in r.content))
      → parts rs' ls ss' ≡ merge_entry address_size (parts rs ls (slots_of slots)) (row r.key (content_in r.content))
  unfolding merge_entry current leaving content_in
  merged_is rs rs' ls ss' e f =
      let cur : current (parts rs ls (slots_of slots)) r.key ≡ leaving r.content.kind r.content.payload r.content.commit
      = ap (λ (o : Option Pending). maybe o (look rs r.key) outcome_of) (ap (λ (c : Content). c.pending) content_is ∙ pending_is)
      ∙ sym (ap (λ (o : Option Pending). maybe o none outcome_of) pending_is)
      ∙ leaving_since r.content.kind r.content.payload r.content.commit r.content.since in
      λ i. record {
        records = (e ∙ ap (λ (o : Option Record). assign r.key o rs) (sym cur)) i;
        leaves = ls;
        slots = (f ∙ ap (λ (c : Content). enter address_size (slots_of slots) r.key (taken_in c)) (sym content_is)) i;
      }

  pub taken_yes : (p : ℕ → Bool) → p r.key ≡ true → takes p (row r.key (content_in r.content)) ≡ true
  unfolding takes
  taken_yes p t = ap (λ (o : Option Pending). both (present o) (p r.key)) pending_is ∙ t

  -- a count that does not look at the entry's address stays
  many_apart : (q : Row Content → Bool) (c : Content) → ((x : Content) → q (row r.key x) ≡ false) → how_many q (enter address_size (slots_of slots) r.key c) ≡ how_many q (slots_of slots)
  many_apart q c f =
      let e : how_many q (enter address_size (slots_of slots) r.key c) + weigh q (kept r.key (content_of (slots_of slots) r.key)) ≡ how_many q (slots_of slots) + weigh q (kept r.key c) = many_change held.good (slot_room c) q in
      let a : weigh q (kept r.key (content_of (slots_of slots) r.key)) ≡ 0 = weigh_nothing q r.key (content_of (slots_of slots) r.key) (f (content_of (slots_of slots) r.key)) in
      let b : weigh q (kept r.key c) ≡ 0 = weigh_nothing q r.key c (f c) in
      omega arith

  -- ---- entries outside of the index

  -- a test of entries that changes at this address alone changes the count by the entry's own terms
  test_moved : j < slot_count → (q q' : Row Content → Bool) → ((e : Row Content) → (e.key ≡ r.key → ⊥) → q' e ≡ q e)
      → how_many q' (slots_of slots) + weigh q (some (row r.key (content_in r.content))) ≡ how_many q (slots_of slots) + weigh q' (some (row r.key (content_in r.content)))
  unfolding how_many tally
  test_moved inside q q' f =
      let long : length (slots_of slots) ≡ slot_count = held.good.size in
      ap (λ (o : Option (Row Content)). how_many q' (slots_of slots) + weigh q o) (sym entry_is)
      ∙ total_except (λ (i : ℕ) (s : Slot). weigh q s.entry) (λ (i : ℕ) (s : Slot). weigh q' s.entry) (slots_of slots) j empty_slot (omega arith)
      (λ i l n. alike i l n (entry_at (slots_of slots) i) refl)
      ∙ ap (λ (o : Option (Row Content)). how_many q (slots_of slots) + weigh q' o) entry_is
    where
      alike : (i : ℕ) → i < length (slots_of slots) → (i ≡ j → ⊥) → (o : Option (Row Content)) → entry_at (slots_of slots) i ≡ o → weigh q' o ≡ weigh q o
      alike i l n none e = unfold weigh in refl
      alike i l n (some x) e =
          unfold weigh in
          ap (λ (b : Bool). pick b 1 0)
          (f x (λ k.
          let long : length (slots_of slots) ≡ slot_count = held.good.size in
          clash
          (holds_yes r.key (get_or (slots_of slots) i empty_slot) x e k)
          (only_here (slots_of slots) r.key j i (held.good.once r.key) (omega arith) l
          (holds_yes r.key (get_or (slots_of slots) j empty_slot) (row r.key (content_in r.content)) entry_is refl) (λ y. n (sym y)))))

  -- the index with the address's record, or without
  abbrev assigned : List (Row Record) → List (Row Record)
  assigned rs = assign r.key (leaving r.content.kind r.content.payload r.content.commit) rs

  look_assigned : (rs : List (Row Record)) → look (assigned rs) r.key ≡ leaving r.content.kind r.content.payload r.content.commit
  look_assigned rs =
      look_assign r.key (leaving r.content.kind r.content.payload r.content.commit) rs r.key
      ∙ ap (λ (b : Bool). pick b (leaving r.content.kind r.content.payload r.content.commit) (look rs r.key)) (same_refl r.key)

  assigned_elsewhere : (rs : List (Row Record)) (k : ℕ) → (k ≡ r.key → ⊥) → look (assigned rs) k ≡ look rs k
  assigned_elsewhere rs k n =
      look_assign r.key (leaving r.content.kind r.content.payload r.content.commit) rs k
      ∙ ap (λ (b : Bool). pick b (leaving r.content.kind r.content.payload r.content.commit) (look rs k)) (same_no {m = r.key} {n = k} (λ y. n (sym y)))

  -- a count before and after the entry is taken in, by a test that changes at its address alone
  counts_moved : j < slot_count → (q q' : Row Content → Bool) → ((e : Row Content) → (e.key ≡ r.key → ⊥) → q' e ≡ q e)
      → how_many q' (enter address_size (slots_of slots) r.key (taken_in (content_in r.content))) + weigh q (some (row r.key (content_in r.content)))
      ≡ how_many q (slots_of slots) + weigh q' (kept r.key (taken_in (content_in r.content)))
  counts_moved inside q q' f =
      let c : Content = content_in r.content in
      let change : how_many q' (enter address_size (slots_of slots) r.key (taken_in c)) + weigh q' (kept r.key (content_of (slots_of slots) r.key)) ≡ how_many q' (slots_of slots) + weigh q' (kept r.key (taken_in c))
      = many_change held.good (slot_room (taken_in c)) q' in
      let was : weigh q' (kept r.key (content_of (slots_of slots) r.key)) ≡ weigh q' (some (row r.key c))
      = ap (λ (x : Content). weigh q' (kept r.key x)) content_is ∙ ap (λ (b : Bool). weigh q' (pick b none (some (row r.key c)))) busy in
      let test : how_many q' (slots_of slots) + weigh q (some (row r.key c)) ≡ how_many q (slots_of slots) + weigh q' (some (row r.key c)) = test_moved inside q q' f in
      omega arith

  -- what the entry counts before, and what is left of it after
  outside_moved : j < slot_count → (behind : List (Row Record)) → look behind r.key ≡ none → (rs : List (Row Record))
      → how_many (lacking (assigned rs ++ behind)) (enter address_size (slots_of slots) r.key (taken_in (content_in r.content))) + pick (not (present (look rs r.key))) 1 0
      ≡ how_many (lacking (rs ++ behind)) (slots_of slots)
      + pick (not (present (content_in r.content).holder)) 0 (pick (not (present (leaving r.content.kind r.content.payload r.content.commit))) 1 0)
  unfolding lacking weigh
  outside_moved inside behind away rs =
      let c : Content = content_in r.content in
      let q' : Row Content → Bool = lacking (assigned rs ++ behind) in
      let both_counts : how_many q' (enter address_size (slots_of slots) r.key (taken_in c)) + weigh (lacking (rs ++ behind)) (some (row r.key c)) ≡ how_many (lacking (rs ++ behind)) (slots_of slots) + weigh q' (kept r.key (taken_in c))
      = counts_moved inside (lacking (rs ++ behind)) q' (λ e n. ap (λ (o : Option Record). not (present o)) (look_alike (assigned rs) rs behind e.key (assigned_elsewhere rs e.key n))) in
      let stays : weigh q' (kept r.key (taken_in c)) ≡ pick (not (present c.holder)) 0 (pick (not (present (leaving r.content.kind r.content.payload r.content.commit))) 1 0)
      = weigh_kept q' r.key (taken_in c)
      ∙ (unfold is_idle in ap (λ (o : Option Record). pick (not (present c.holder)) 0 (pick (not (present o)) 1 0)) (look_front (assigned rs) behind r.key away ∙ look_assigned rs)) in
      let own : weigh (lacking (rs ++ behind)) (some (row r.key c)) ≡ pick (not (present (look rs r.key))) 1 0
      = ap (λ (o : Option Record). pick (not (present o)) 1 0) (look_front rs behind r.key away) in
      omega arith

  one_of : (b : Bool) → pick b 1 0 + pick (not b) 1 0 ≡ 1
  one_of true = refl
  one_of false = refl

  -- by the number of records: a put brings its address into the index
  outside_put : j < slot_count → (behind : List (Row Record)) → look behind r.key ≡ none → (rs rs' : List (Row Record)) (ss' : List Slot) → Rising rs → rs' ≡ assigned rs → ss' ≡ enter address_size (slots_of slots) r.key (taken_in (content_in r.content))
      → r.content.kind ≡ 1 → how_many (lacking (rs' ++ behind)) ss' + length rs' ≡ how_many (lacking (rs ++ behind)) (slots_of slots) + length rs
  outside_put inside behind away rs rs' ss' f e v k =
      let here : present (leaving r.content.kind r.content.payload r.content.commit) ≡ true = ap present (sym (leaving_put r.content.kind r.content.payload r.content.commit k)) in
      let moved : how_many (lacking (rs' ++ behind)) ss' + pick (not (present (look rs r.key))) 1 0
      ≡ how_many (lacking (rs ++ behind)) (slots_of slots)
      + pick (not (present (content_in r.content).holder)) 0 (pick (not (present (leaving r.content.kind r.content.payload r.content.commit))) 1 0)
      = (λ i. how_many (lacking (e i ++ behind)) (v i) + pick (not (present (look rs r.key))) 1 0) ∙ outside_moved inside behind away rs in
      let none_left : ◌≡◌ {A = ℕ} (pick (not (present (content_in r.content).holder)) 0 (pick (not (present (leaving r.content.kind r.content.payload r.content.commit))) 1 0)) 0
      = ap (λ (b : Bool). pick (not (present (content_in r.content).holder)) 0 (pick (not b) 1 0)) here ∙ zeros (not (present (content_in r.content).holder)) in
      let long : length rs' + pick (present (look rs r.key)) 1 0 ≡ length rs + 1
      = ap (λ (x : List (Row Record)). length x + pick (present (look rs r.key)) 1 0) e
      ∙ length_assign r.key (leaving r.content.kind r.content.payload r.content.commit) rs f
      ∙ ap (λ (b : Bool). length rs + pick b 1 0) here in
      let one : pick (present (look rs r.key)) 1 0 + pick (not (present (look rs r.key))) 1 0 ≡ 1 = one_of (present (look rs r.key)) in
      omega arith
    where
      zeros : (b : Bool) → ◌≡◌ {A = ℕ} (pick b 0 0) 0
      zeros true = refl
      zeros false = refl

  -- a deletion takes it out, and leaves an entry there for a lock alone
  outside_drop : j < slot_count → (behind : List (Row Record)) → look behind r.key ≡ none → (rs rs' : List (Row Record)) (ss' : List Slot) → Rising rs → rs' ≡ assigned rs → ss' ≡ enter address_size (slots_of slots) r.key (taken_in (content_in r.content))
      → (r.content.kind ≡ 1 → ⊥) → how_many (lacking (rs' ++ behind)) ss' + length rs' + 1 ≡ how_many (lacking (rs ++ behind)) (slots_of slots) + pick (present (content_in r.content).holder) 1 0 + length rs
  outside_drop inside behind away rs rs' ss' f e v k =
      let gone : present (leaving r.content.kind r.content.payload r.content.commit) ≡ false = ap present (sym (leaving_drop r.content.kind r.content.payload r.content.commit k)) in
      let moved : how_many (lacking (rs' ++ behind)) ss' + pick (not (present (look rs r.key))) 1 0
      ≡ how_many (lacking (rs ++ behind)) (slots_of slots)
      + pick (not (present (content_in r.content).holder)) 0 (pick (not (present (leaving r.content.kind r.content.payload r.content.commit))) 1 0)
      = (λ i. how_many (lacking (e i ++ behind)) (v i) + pick (not (present (look rs r.key))) 1 0) ∙ outside_moved inside behind away rs in
      let stays : ◌≡◌ {A = ℕ} (pick (not (present (content_in r.content).holder)) 0 (pick (not (present (leaving r.content.kind r.content.payload r.content.commit))) 1 0)) (pick (present (content_in r.content).holder) 1 0)
      = ap (λ (b : Bool). pick (not (present (content_in r.content).holder)) 0 (pick (not b) 1 0)) gone ∙ turned (present (content_in r.content).holder) in
      let long : length rs' + pick (present (look rs r.key)) 1 0 ≡ length rs + 0
      = ap (λ (x : List (Row Record)). length x + pick (present (look rs r.key)) 1 0) e
      ∙ length_assign r.key (leaving r.content.kind r.content.payload r.content.commit) rs f
      ∙ ap (λ (b : Bool). length rs + pick b 1 0) gone in
      let one : pick (present (look rs r.key)) 1 0 + pick (not (present (look rs r.key))) 1 0 ≡ 1 = one_of (present (look rs r.key)) in
      omega arith
    where
      turned : (b : Bool) → ◌≡◌ {A = ℕ} (pick (not b) 0 1) (pick b 1 0)
      turned true = refl
      turned false = refl

  -- a put that is pending hides its address, and what stays of an entry hides no more than the entry
  puts_hide_lem : r.content.kind ≡ 1 → hides_some (content_in r.content) ≡ true
  unfolding hides_some put_pending content_in pending_in is_put
  puts_hide_lem k = ap (λ (n : ℕ). either (maybe (pending_in n r.content.payload r.content.commit r.content.since) false (λ (x : Pending). is_put x.write))
      (both (content_in r.content).for_put (present (content_in r.content).holder))) k

  hides_less : (c : Content) → pick (hides_some (taken_in c)) 1 0 ≤ pick (hides_some c) 1 0
  unfolding hides_some put_pending
  hides_less c = go (put_pending c) (both c.for_put (present c.holder))
    where
      go : (a b : Bool) → ◌≤◌ (pick (either false b) 1 0) (pick (either a b) 1 0)
      go true true = le_refl 1
      go true false = zero-le
      go false b = le_refl _

  -- records and entries of the leaf that hide their address, together
  hiders_fewer : j < slot_count → (p : ℕ → Bool) → p r.key ≡ true → (rs : List (Row Record)) → Rising rs
      → length (assigned rs) + how_many (passing p (hiding_at (assigned rs))) (enter address_size (slots_of slots) r.key (taken_in (content_in r.content)))
      ≤ length rs + how_many (passing p (hiding_at rs)) (slots_of slots)
  unfolding passing hiding_at lacking weigh
  hiders_fewer inside p t rs f =
      let c : Content = content_in r.content in
      let o : Option Record = leaving r.content.kind r.content.payload r.content.commit in
      let counts : how_many (passing p (hiding_at (assigned rs))) (enter address_size (slots_of slots) r.key (taken_in c)) + weigh (passing p (hiding_at rs)) (some (row r.key c))
      ≡ how_many (passing p (hiding_at rs)) (slots_of slots) + weigh (passing p (hiding_at (assigned rs))) (kept r.key (taken_in c))
      = counts_moved inside (passing p (hiding_at rs)) (passing p (hiding_at (assigned rs)))
      (λ e n. ap (λ (x : Option Record). both (p e.key) (both (not (present x)) (hides_some e.item))) (assigned_elsewhere rs e.key n)) in
      let own : weigh (passing p (hiding_at rs)) (some (row r.key c)) ≡ pick (both (not (present (look rs r.key))) (hides_some c)) 1 0
      = ap (λ (b : Bool). pick (both b (both (not (present (look rs r.key))) (hides_some c))) 1 0) t in
      let stays : weigh (passing p (hiding_at (assigned rs))) (kept r.key (taken_in c)) ≡ pick (is_idle (taken_in c)) 0 (pick (both (not (present o)) (hides_some (taken_in c))) 1 0)
      = weigh_kept (passing p (hiding_at (assigned rs))) r.key (taken_in c)
      ∙ ap (λ (b : Bool). pick (is_idle (taken_in c)) 0 (pick (both b (both (not (present (look (assigned rs) r.key))) (hides_some (taken_in c)))) 1 0)) t
      ∙ ap (λ (x : Option Record). pick (is_idle (taken_in c)) 0 (pick (both (not (present x)) (hides_some (taken_in c))) 1 0)) (look_assigned rs) in
      let long : length (assigned rs) + pick (present (look rs r.key)) 1 0 ≡ length rs + pick (present o) 1 0
      = length_assign r.key o rs f in
      let less : pick (present o) 1 0 + pick (is_idle (taken_in c)) 0 (pick (both (not (present o)) (hides_some (taken_in c))) 1 0)
      ≤ pick (both (not (present (look rs r.key))) (hides_some c)) 1 0 + pick (present (look rs r.key)) 1 0
      = go (present o) (present (look rs r.key)) (is_idle (taken_in c)) (hides_some (taken_in c)) (hides_some c) put_hides (hides_less c) in
      omega arith
    where
      put_hides : present (leaving r.content.kind r.content.payload r.content.commit) ≡ true → hides_some (content_in r.content) ≡ true
      put_hides y =
          ⊎_elim
          (λ k. puts_hide_lem (same_true r.content.kind 1 k))
          (λ k. clash y (ap present (sym (leaving_drop r.content.kind r.content.payload r.content.commit (same_false r.content.kind 1 k)))))
          (cases (same r.content.kind 1))

      go : (a b i h' h : Bool) → (a ≡ true → h ≡ true) → pick h' 1 0 ≤ pick h 1 0
          → pick a 1 0 + pick i 0 (pick (both (not a) h') 1 0) ≤ pick (both (not b) h) 1 0 + pick b 1 0
      go true true true h' h x y = le_refl 1
      go true true false h' h x y = le_refl 1
      go true false true h' true x y = le_refl 1
      go true false true h' false x y = clash (x refl) refl
      go true false false h' true x y = le_refl 1
      go true false false h' false x y = clash (x refl) refl
      go false b true h' h x y = zero-le
      go false true false true h x y = le_refl 1
      go false true false false h x y = zero-le
      go false false false true true x y = le_refl 1
      go false false false true false x y = y
      go false false false false h x y = zero-le

  pub outside_fits : {p : ℕ → Bool} {rows rows' : RecordRows} {w : Walk} (n x : ℕ) → j < slot_count → p r.key ≡ true → Underway p rows slots w j
      → x ≡ pick (present (content_in r.content).holder) 1 0
      → index.RecordsAre rows' n (assign r.key (leaving r.content.kind r.content.payload r.content.commit) (records_of rows w.records))
      → OutsideFits w.outside w.records n r.content.kind x
  outside_fits {rows = rows} {rows' = rows'} {w = w} n x inside t u locks hold =
      let g = u.walking in
      let away : look u.behind r.key ≡ none = u.outer.absent r.key t in
      let o : w.outside ≡ how_many (lacking (records_of rows w.records ++ u.behind)) (slots_of slots) = g.outside_is u.behind u.outer in
      let a : length (records_of rows w.records) ≡ w.records = length_records rows w.records g.rows_held.room in
      let b : length (records_of rows' n) ≡ n = length_records rows' n hold.held.room in
      let room : w.records ≤ record_places = g.rows_held.room in
      let few : how_many (lacking (records_of rows w.records ++ u.behind)) (slots_of slots) ≤ slot_count = many_most held.good (lacking (records_of rows w.records ++ u.behind)) in
      let one : pick (present (content_in r.content).holder) 1 0 ≤ 1 = pick_most (present (content_in r.content).holder) in
      record {
        small = omega arith;
        put = λ k.
            let z : how_many (lacking (records_of rows' n ++ u.behind)) (enter address_size (slots_of slots) r.key (taken_in (content_in r.content))) + length (records_of rows' n)
            ≡ how_many (lacking (records_of rows w.records ++ u.behind)) (slots_of slots) + length (records_of rows w.records)
            = outside_put inside u.behind away (records_of rows w.records) (records_of rows' n) _ g.rows_held.rising hold.same refl k in
            omega arith;
        drop = λ k.
            let z : how_many (lacking (records_of rows' n ++ u.behind)) (enter address_size (slots_of slots) r.key (taken_in (content_in r.content))) + length (records_of rows' n) + 1
            ≡ how_many (lacking (records_of rows w.records ++ u.behind)) (slots_of slots) + pick (present (content_in r.content).holder) 1 0 + length (records_of rows w.records)
            = outside_drop inside u.behind away (records_of rows w.records) (records_of rows' n) _ g.rows_held.rising hold.same refl k in
            omega arith;
      }

  other : (p : ℕ → Bool) → p r.key ≡ true → (x : ℕ) → p x ≡ false → same r.key x ≡ false
  other p t x f = same_no {m = r.key} {n = x} (λ e. clash (ap p (sym e) ∙ t) f)

  -- there is room in the index for the entry
  pub write_room : {p : ℕ → Bool} {rows : RecordRows} {w : Walk} → Underway p rows slots w j → j < slot_count → (x : Record)
      → length (assign r.key (some x) (records_of rows w.records)) ≤ record_places
  write_room {p} {rows} {w} u h x =
      let g = u.walking in
      le_trans
      (inside_length (assign r.key (some x) (records_of rows w.records)) (keys u.records ++ keys (entries u.begun))
      (rising_assign r.key (some x) (records_of rows w.records) g.rows_held.rising)
      (assign_inside r.key (some x) (records_of rows w.records) (keys u.records ++ keys (entries u.begun)) g.inside
      (entry_inside u.records u.begun j (row r.key (content_in r.content)) (sym (g.untouched j (le_refl j) h) ∙ entry_is))))
      u.bound

  pub walk_on : {p : ℕ → Bool} {rows : RecordRows} {w : Walk} (rows' : RecordRows) (slots' : SlotRows) (n e x o : ℕ) (c : ContentWords) → j < slot_count → p r.key ≡ true
      → x ≡ pick (present (content_in r.content).holder) 1 0
      → index.RecordsSorted rows w.records
      → index.RecordsAre rows' n (assign r.key (leaving r.content.kind r.content.payload r.content.commit) (records_of rows w.records))
      → drop n rows' ≡ drop n rows
      → content_in c ≡ taken_in (content_in r.content) → indexlet.Enters slots r.key c slots' e
      → OutsideNow w.outside w.records n r.content.kind x o
      → WalksSlot p rows slots w j rows' slots' (walk n e (w.count + 1) (w.left + x) o)
  unfolding each
  walk_on {p} {rows} {w} rows' slots' n e lock out c h t locks sorted hold behind_stays ce ent now =
      record {
        on = λ {o} {rs} {ss} g.
            let z : length ss ≡ slot_count = g.full in
            let zz : length (slots_of slots) ≡ slot_count = held.good.size in
            let x : Row Content = row r.key (content_in r.content) in
            let was : entry_at ss j ≡ some x = sym (g.untouched j (le_refl j) h) ∙ entry_is in
            let d : left p ss j ≡ x ∷ left p ss (suc j) = left_some p ss j (omega arith) x was ∙ ap (λ (b : Bool). pick b (x ∷ left p ss (suc j)) (left p ss (suc j))) (taken_yes p t) in
            let s : suc j ≡ j + 1 = omega arith in
            let view : slots_of slots' ≡ enter address_size (slots_of slots) r.key (taken_in (content_in r.content))
            = ent.view ∙ ap (enter address_size (slots_of slots) r.key) ce in
            record {
              rows_held = hold.held;
              words = ent.held;
              number = ent.number;
              full = g.full;
              there = omega arith;
              few = (let y : w.count ≤ j = g.few in omega arith);
              few_left =
                  (let y : w.left ≤ j = g.few_left in
                  let m : pick (present (content_in r.content).holder) 1 0 ≤ 1 = pick_most (present (content_in r.content).holder) in
                  omega arith);
              untouched =
                  λ i a b.
                  ap (λ (ts : List Slot). entry_at ts i) ent.view
                  ∙ enter_others j (content_in c) held.good (omega arith) entry_is (slot_room (content_in c)) i (omega arith) (λ q. let y : ⊥ = omega arith in y)
                  ∙ g.untouched i (omega arith) b;
              inside =
                  subst (λ (ks : List (Row Record)). Within (keys ks) (keys rs ++ keys (entries ss))) (sym hold.same)
                  (assign_inside r.key _ (records_of rows w.records) (keys rs ++ keys (entries ss)) g.inside (entry_inside rs ss j x was));
              apart =
                  λ x f.
                  ap (λ (ks : List (Row Record)). look ks x) hold.same
                  ∙ look_assign r.key (leaving r.content.kind r.content.payload r.content.commit) (records_of rows w.records) x
                  ∙ ap (λ (b : Bool). pick b (leaving r.content.kind r.content.payload r.content.commit) (look (records_of rows w.records) x)) (other p t x f)
                  ∙ g.apart x f;
              elsewhere = λ q f. ap (how_many q) ent.view ∙ many_apart q (content_in c) (λ x. f (row r.key x) t) ∙ g.elsewhere q f;
              rest =
                  λ ls.
                  ap (λ (m : MapState). each (merge_entry address_size) m (left p ss (j + 1)))
                  (merged_is (records_of rows w.records) (records_of rows' n) ls (slots_of slots') hold.same view)
                  ∙ ap (λ (k : ℕ). each (merge_entry address_size) (parts (records_of rows w.records) ls (slots_of slots)) (x ∷ left p ss k)) (sym s)
                  ∙ ap (each (merge_entry address_size) (parts (records_of rows w.records) ls (slots_of slots))) (sym d)
                  ∙ g.rest ls;
              counted =
                  (let y : w.count + length (left p ss j) ≡ length (filter (takes p) (entries ss)) = g.counted in
                  let q : length (left p ss j) ≡ suc (length (left p ss (j + 1))) = ap length d ∙ ap (λ (k : ℕ). suc (length (left p ss k))) s in
                  omega arith);
              outside_is = λ b x. outside_now b (x.absent r.key t) (g.outside_is b x);
            };
        space = record { fewer = fewer; stay = stay };
        least = omega arith;
        here =
            λ y o q.
            let zz : length (slots_of slots) ≡ slot_count = held.good.size in
            let here : entry_at (slots_of slots') j ≡ kept r.key (content_in c)
            = ap (λ (ts : List Slot). entry_at ts j) ent.view ∙ enter_here j (content_in c) held.good (omega arith) entry_is (slot_room (content_in c)) in
            clash
            (ap is_idle ce ∙ unlocked (taken_in (content_in r.content)) lock refl locks (omega arith))
            (kept_entry r.key (content_in c) o (sym here ∙ q)).0;
        others =
            λ i l m.
            let zz : length (slots_of slots) ≡ slot_count = held.good.size in
            ap (λ (ts : List Slot). entry_at ts i) ent.view
            ∙ enter_others j (content_in c) held.good (omega arith) entry_is (slot_room (content_in c)) i (omega arith) m;
        records =
            λ x q k m.
            let own : r.key ≡ x.key = ap (λ (y : Row Content). y.key) (kept_entry r.key (content_in r.content) x (sym (entry_in_lem slots j r reads.slot) ∙ q)).1 in
            ap (λ (ks : List (Row Record)). look ks k) hold.same
            ∙ look_assign r.key (leaving r.content.kind r.content.payload r.content.commit) (records_of rows w.records) k
            ∙ ap (λ (b : Bool). pick b (leaving r.content.kind r.content.payload r.content.commit) (look (records_of rows w.records) k))
            (same_no {m = r.key} {n = k} (λ e. m (sym e ∙ own)));
      }
    where
      view : slots_of slots' ≡ enter address_size (slots_of slots) r.key (taken_in (content_in r.content))
      view = ent.view ∙ ap (enter address_size (slots_of slots) r.key) ce

      fewer : n + hiders p rows' n slots' ≤ w.records + hiders p rows w.records slots
      fewer =
          unfold hiders in
          let a : length (records_of rows w.records) ≡ w.records = length_records rows w.records sorted.room in
          let b : length (records_of rows' n) ≡ n = length_records rows' n hold.held.room in
          let z : length (records_of rows' n) + how_many (passing p (hiding_at (records_of rows' n))) (slots_of slots')
          ≤ length (records_of rows w.records) + how_many (passing p (hiding_at (records_of rows w.records))) (slots_of slots)
          = le_trans (le_of_eq (λ i. length (hold.same i) + how_many (passing p (hiding_at (hold.same i))) (view i)))
          (hiders_fewer h p t (records_of rows w.records) sorted.rising) in
          omega arith

      stay : (b : ℕ) → w.records + hiders p rows w.records slots ≤ b → drop b rows' ≡ drop b rows
      stay b l =
          let f : n + hiders p rows' n slots' ≤ w.records + hiders p rows w.records slots = fewer in
          let e : n + (b - n) ≡ b = omega arith in
          ap (λ (k : ℕ). drop k rows') (sym e) ∙ sym (drop-drop (b - n) n rows') ∙ ap (drop (b - n)) behind_stays ∙ drop-drop (b - n) n rows ∙ ap (λ (k : ℕ). drop k rows) e

      outside_now : (behind : List (Row Record)) → look behind r.key ≡ none → w.outside ≡ how_many (lacking (records_of rows w.records ++ behind)) (slots_of slots)
          → out ≡ how_many (lacking (records_of rows' n ++ behind)) (slots_of slots')
      outside_now behind away were =
          let a : length (records_of rows w.records) ≡ w.records = length_records rows w.records sorted.room in
          let b : length (records_of rows' n) ≡ n = length_records rows' n hold.held.room in
          ⊎_elim
          (λ k.
          let y : out + n ≡ w.outside + w.records = now.put (same_true r.content.kind 1 k) in
          let z : how_many (lacking (records_of rows' n ++ behind)) (slots_of slots') + length (records_of rows' n) ≡ how_many (lacking (records_of rows w.records ++ behind)) (slots_of slots) + length (records_of rows w.records)
          = outside_put h behind away (records_of rows w.records) (records_of rows' n) (slots_of slots') sorted.rising hold.same view (same_true r.content.kind 1 k) in
          omega arith)
          (λ k.
          let y : out + n + 1 ≡ w.outside + lock + w.records = now.drop (same_false r.content.kind 1 k) in
          let z : how_many (lacking (records_of rows' n ++ behind)) (slots_of slots') + length (records_of rows' n) + 1 ≡ how_many (lacking (records_of rows w.records ++ behind)) (slots_of slots) + pick (present (content_in r.content).holder) 1 0 + length (records_of rows w.records)
          = outside_drop h behind away (records_of rows w.records) (records_of rows' n) (slots_of slots') sorted.rising hold.same view (same_false r.content.kind 1 k) in
          omega arith)
          (cases (same r.content.kind 1))

pub rest_content : (c : ContentWords) → content_in (record { kind = 0; payload = record { value = 0; owner = 0 }; commit = 0; since = 0; lock = c.lock; forput = c.forput }) ≡ taken_in (content_in c)
unfolding content_in pending_in
rest_content c = refl
