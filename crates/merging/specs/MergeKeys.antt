-- What the arrays hold are addresses: the keys of entries and records, and the lows of leaves, of which the first is 0.
use Rattle.std.specs.Prelude.{ℕ, suc, ◌<◌, ◌≤◌, ◌≡◌, refl, true, length, take, get_or}
use Rattle.std.proofs.Common.{arith, sym, ap, ◌∙◌, subst, length-take-le, get_or-take}
use mathlib.Core.List.{List, [], ◌∷◌, map, Memᴰ}
use Rattle.std.proofs.Math.Option.{some}
use Rattle.lists.specs.Rows.{Row, keys, has}
use Rattle.lists.specs.Ascending.{mem_get_or, mem_keys, keys_mem}
use Rattle.lists.specs.Memberships.{member_has, has_member}
use Rattle.lists.specs.Shifts.{get_or_tab}
use Rattle.spec.specs.Widths.{addresses}
use Rattle.spec.specs.Records.{Record}
use Rattle.spec.specs.Leaves.{Leaf, first_leaf}
use Rattle.spec.specs.Slots.{slot_count, Content, Slot, empty_slot, entries, kept}
use Rattle.laws.specs.SlotCounts.{member_slot}
use Rattle.laws.specs.SlotLaws.{kept_entry}
use Rattle.laws.specs.LeafParts.{Covers}
use Rattle.laws.specs.LeafVersions.{GoodLeaves}
use Rattle.indexlet.specs.Words.{content_in, slot_in, row_at, slots_of}
use Rattle.indexlet.specs.Promises as indexlet
use Rattle.index.specs.Views.{leaf_places, no_row, records_of, leaves_of}
use Rattle.index.specs.Views as index
use Rattle.index.specs.ViewLaws.{length_records, record_at}
use Rattle.index.specs.LeafViews.{paired_get_or}
use Rattle.phantomlet.specs.LeafTests.{lows_are}
use Rattle.map.specs.Views.{SlotRows, RecordRows}

-- where a member stands
mem_place : {A : Type 0} {x : A} (xs : List A) (d : A) → Memᴰ x xs → (i : ℕ) × (i < length xs) × (get_or xs i d ≡ x)
mem_place {A = A} [] d x'' = elim x'' [ ]
mem_place (y ∷ ys) d (Memᴰ.head q) = (0, omega arith, sym q)
mem_place (y ∷ ys) d (Memᴰ.tail m) = let r = mem_place ys d m in (suc r.0, let h : r.0 < length ys = r.1 in omega arith, r.2)

covers_first : (ls : List Leaf) → Covers ls → get_or (map (λ (l : Leaf). l.low) ls) 0 0 ≡ 0
unfolding Covers
covers_first [] c = refl
covers_first (l ∷ ls) c = c

pub entry_narrow : (ws : SlotRows) → indexlet.SlotsHeld ws → (k : ℕ) → has k (keys (entries (slots_of ws))) ≡ true → k < addresses
unfolding slots_of slot_in
entry_narrow ws h k e =
    let q = mem_keys (entries (slots_of ws)) (has_member k (keys (entries (slots_of ws))) e) in
    let r = member_slot (slots_of ws) q.0 q.1 in
    let f : length (slots_of ws) ≡ slot_count = h.good.size in
    let b : r.0 < slot_count = (let g : r.0 < length (slots_of ws) = r.1 in omega arith) in
    let s : kept (row_at ws r.0).key (content_in (row_at ws r.0).content) ≡ some q.0
    = sym (ap (λ (s : Slot). s.entry) (get_or_tab (λ (i : ℕ). slot_in (row_at ws i)) slot_count r.0 empty_slot b)) ∙ r.2 in
    let t = kept_entry (row_at ws r.0).key (content_in (row_at ws r.0).content) q.0 s in
    subst (λ (x : ℕ). x < addresses) (ap (λ (x : Row Content). x.key) t.1 ∙ q.2) (h.sized.narrow r.0 b t.0)

pub record_narrow : (ws : RecordRows) (n : ℕ) → index.RecordsSorted ws n → ((i : ℕ) → i < n → (index.row_at ws i).key < addresses)
    → (k : ℕ) → has k (keys (records_of ws n)) ≡ true → k < addresses
record_narrow ws n held h k e =
    let q = mem_keys (records_of ws n) (has_member k (keys (records_of ws n)) e) in
    let r = mem_place (records_of ws n) no_row q.1 in
    let f : length (records_of ws n) ≡ n = length_records ws n held.room in
    let b : r.0 < n = (let g : r.0 < length (records_of ws n) = r.1 in omega arith) in
    subst (λ (x : ℕ). x < addresses) (ap (λ (x : Row Record). x.key) (sym (record_at ws n r.0 held.room b) ∙ r.2) ∙ q.2) (h r.0 b)

pub rows_narrow : (ws : RecordRows) (n : ℕ) → index.RecordsSorted ws n → ((k : ℕ) → has k (keys (records_of ws n)) ≡ true → k < addresses)
    → (i : ℕ) → i < n → (index.row_at ws i).key < addresses
rows_narrow ws n held h i b =
    let f : length (records_of ws n) ≡ n = length_records ws n held.room in
    subst (λ (x : Row Record). x.key < addresses) (record_at ws n i held.room b)
    (h (get_or (records_of ws n) i no_row).key (member_has (keys_mem (get_or (records_of ws n) i no_row) (records_of ws n) (mem_get_or (records_of ws n) i no_row (omega arith)))))

pub low_at : (lows versions : List ℕ) (m i : ℕ) → length lows ≡ leaf_places → length versions ≡ leaf_places → m ≤ leaf_places → i < m
    → (get_or (leaves_of lows versions m) i first_leaf).low ≡ get_or lows i 0
unfolding leaves_of
low_at lows versions m i al av mr h =
    let x : length (take m lows) ≡ m = length-take-le m lows (omega arith) in
    let y : length (take m versions) ≡ m = length-take-le m versions (omega arith) in
    ap (λ (l : Leaf). l.low) (paired_get_or (take m lows) (take m versions) i (x ∙ sym y) (omega arith)) ∙ get_or-take m lows i 0 h

pub first_low : {v : ℕ} (lows versions : List ℕ) (m : ℕ) → length lows ≡ leaf_places → length versions ≡ leaf_places → 1 ≤ m → m ≤ leaf_places → GoodLeaves v (leaves_of lows versions m) → get_or lows 0 0 ≡ 0
first_low lows versions m al av s mr g =
    sym (get_or-take m lows 0 0 s)
    ∙ ap (λ (xs : List ℕ). get_or xs 0 0) (sym (lows_are lows versions m al av mr g))
    ∙ covers_first (leaves_of lows versions m) g.covers
