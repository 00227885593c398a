-- The laws of a scan's walk: what comes next by the two addresses, and that both lists rise.
use Rattle.std.specs.Prelude.{ℕ, suc, ◌+◌, ◌-◌, ◌<◌, ◌≤◌, ◌≡◌, refl, take, drop, Option as Optional, Some, None}
use native.Mathlib.Omega.{arith}
use Rattle.std.proofs.Common.{sym, ◌∙◌}
use Rattle.std.proofs.Math.Path.{ap, subst}
use mathlib.Core.List.{List, [], ◌∷◌}
use Rattle.std.proofs.Math.Option.{Option}
use Rattle.std.proofs.Math.ListN.{length, length-drop}
use Rattle.lists.specs.Rows.{Row, row, map_items, From, Rising}
use Rattle.lists.specs.RowLaws.{from_map_items}
use Rattle.spec.specs.Payloads.{record_in}
use Rattle.spec.specs.declared.RecordWords.{RecordWords}
use Rattle.spec.specs.Records.{Payload, Record, Write, own_view, payload_of}
use Rattle.spec.specs.Maps.{current}
use Rattle.sets.specs.declared.writes.Entry.{Entry}
use Rattle.sets.specs.declared.reads.Observed.{Observed}
use Rattle.sets.specs.Reads.{observed_in}
use Rattle.sets.specs.declared.writes.Write.{Write as WriteWords}
use Rattle.sets.specs.declared.writes.Write.TheVariants.{Put, Deletion}
use Rattle.sets.specs.Writes.{edit_in, write_in, entry_in, writes_of, GivesWrite}
use Rattle.sets.specs.SetLaws.{length_rows}
use Rattle.map.specs.WriteWalks.{rest_none, rest_cons, given}
use Rattle.map.specs.WriteWalks as walks
use Rattle.index.specs.Views.{no_row, records_of}
use Rattle.index.specs.ViewLaws.{length_records}
use Rattle.queries.specs.QueryViews.{map_with, walk, indexed_at, SeenAt}
use Rattle.queries.specs.RangeLaws.{walk_map}
use Rattle.ranges.specs.Parts.{walk_on, walk_past, length_walk}
use Rattle.ranges.specs.Overlays.{from_drop, shown, overlay, few_overlaid, overlay_none, overlay_upper, overlay_lower, overlay_both, rising_part, rising_tail, rising_map}
use Rattle.ranges.specs.Scanning.{seen_in}
use Rattle.ranges.specs.Walks.{Ground, seen_from, own_from, rest, Walks, Inside, Stands, index_shown, own_shown, index_turn, own_turn, shown_first, ComesNext}
use Rattle.map.specs.Views.{SlotRows, RecordRows}
use Rattle.map.specs.Parts.{RecordsHeld}

-- ---- what a turn shows

-- the index's row, as it is shown
paid : Row (Option Record) → Row (Option Payload)
paid r = row r.key (payload_of r.item)

-- the worker's write, as it is shown
owned : Row Write → Row (Option Payload)
owned r = row r.key (own_view r.item)

index_shows : (s : Observed) (rs : List (Row Payload)) → shown (paid (observed_in s)) rs ≡ shown_first (index_shown s.address s.current) rs
unfolding shown paid payload_of
index_shows s rs = go s.current
  where
    go : (o : Optional RecordWords) → shown (row s.address (payload_of (record_in o))) rs ≡ shown_first (index_shown s.address o) rs
    go None = refl
    go (Some r) = refl

own_shows : (e : Entry) (rs : List (Row Payload)) → shown (owned (entry_in e)) rs ≡ shown_first (own_shown e.address e.write) rs
unfolding shown owned own_view
own_shows e rs = go e.write
  where
    go : (x : WriteWords) → shown (row e.address (own_view (edit_in x))) rs ≡ shown_first (own_shown e.address x) rs
    go (Put v) = refl
    go Deletion = refl

length_items : {A B : Type 0} (f : A → B) (rs : List (Row A)) → length (map_items f rs) ≡ length rs
unfolding map_items
length_items f [] = refl
length_items f (r ∷ rs) = ap suc (length_items f rs)

-- ---- the two lists

-- ---- what stands at a place

pub stands_seen : {rows : RecordRows} {n : ℕ} {slots : SlotRows} {to i : ℕ} {s : Observed} → SeenAt rows n slots i s → Stands (seen_in rows n slots) to i s
stands_seen a = record { is = λ l. a.seen_is [] }

pub stands_past : {f : ℕ → Row (Option Record)} {to i : ℕ} {s : Observed} → to ≤ i → Stands f to i s
stands_past h = record { is = λ l. absurd (let z : ⊥ = omega arith in z) }

-- the index's records rise
pub rising_index : {rows : RecordRows} {n : ℕ} (slots : SlotRows) (to i : ℕ) → RecordsHeld rows n → to ≤ n → i ≤ to → Rising (walk (seen_in rows n slots) i (to - i))
unfolding indexed_at
rising_index {rows} {n} slots to i h t l =
    let m : length (records_of rows n) ≡ n = length_records rows n h.held.room in
    subst (Rising {A = Option Record})
    (sym (walk_map (λ (r : Row Record). row r.key (current (map_with rows n slots []) r.key)) (records_of rows n) no_row i (to - i) (omega arith)))
    (rising_map (current (map_with rows n slots [])) (take (to - i) (drop i (records_of rows n))) (rising_part (to - i) i (records_of rows n) h.held.rising))

module _ (g : Ground) (h : Walks g) where
  rising_seen : (i : ℕ) → i ≤ g.bounds.to → Rising (seen_from g i)
  unfolding seen_from
  rising_seen i l = h.rising i l

  seen_end : (i : ℕ) → g.bounds.to ≤ i → seen_from g i ≡ []
  unfolding seen_from
  seen_end i l = walk_past g.seen i g.bounds.to l

  seen_on : (i : ℕ) (s : Observed) → i < g.bounds.to → Stands g.seen g.bounds.to i s → seen_from g i ≡ observed_in s ∷ seen_from g (i + 1)
  unfolding seen_from
  seen_on i s l a =
      walk_on g.seen i g.bounds.to l
      ∙ ap (λ (r : Row (Option Record)). r ∷ seen_from g (i + 1)) (sym (a.is l))

  rising_own : (j : ℕ) → Rising (own_from g j)
  unfolding own_from Rising
  rising_own j = from_drop j 0 (writes_of g.writes g.bounds.end) h.nears.writes.rising

  own_end : (j : ℕ) → g.bounds.end ≤ j → own_from g j ≡ []
  unfolding own_from walks.rest
  own_end j l = rest_none g.writes j g.bounds.end l

  own_on : (j : ℕ) (e : Entry) → j < g.bounds.end → GivesWrite g.writes j e → own_from g j ≡ entry_in e ∷ own_from g (j + 1)
  unfolding own_from walks.rest
  own_on j e l a =
      rest_cons g.writes j g.bounds.end l ∙ ap (λ (r : Row Write). r ∷ own_from g (j + 1)) (sym (given a l))

  -- all of the worker's writes from place j on are above a
  none_above : (a j : ℕ) → g.bounds.end ≤ j → From (suc a) (own_from g j)
  none_above a j l = subst (From (suc a)) (sym (own_end j l)) (unfold From in tt)

  own_above : (a j : ℕ) (e : Entry) → j < g.bounds.end → GivesWrite g.writes j e → a < e.address → From (suc a) (own_from g j)
  unfolding From
  own_above a j e l w b =
      subst (From (suc a)) (sym (own_on j e l w)) (b, rising_tail (entry_in e) (own_from g (j + 1)) (subst (Rising {A = Write}) (own_on j e l w) (rising_own j)))

  own_tail : (j : ℕ) (e : Entry) → j < g.bounds.end → GivesWrite g.writes j e → From (suc e.address) (own_from g (j + 1))
  own_tail j e l w = rising_tail (entry_in e) (own_from g (j + 1)) (subst (Rising {A = Write}) (own_on j e l w) (rising_own j))

  -- all index addresses from place i on
  seen_tail : (i : ℕ) (s : Observed) → i < g.bounds.to → Stands g.seen g.bounds.to i s → From (suc s.address) (seen_from g (i + 1))
  seen_tail i s l a =
      rising_tail (observed_in s) (seen_from g (i + 1)) (subst (Rising {A = Option Record}) (seen_on i s l a) (rising_seen i (let b : i ≤ g.bounds.to = omega arith in b)))

  past_above : (a i : ℕ) → g.bounds.to ≤ i → From (suc a) (seen_from g i)
  past_above a i l = subst (From (suc a)) (sym (seen_end i l)) (unfold From in tt)

  seen_above : (b i : ℕ) (s : Observed) → i < g.bounds.to → Stands g.seen g.bounds.to i s → b < s.address → From (suc b) (seen_from g i)
  unfolding From
  seen_above b i s l a h = subst (From (suc b)) (sym (seen_on i s l a)) (h, seen_tail i s l a)

  -- ---- what comes next

  index_first : (i j : ℕ) (s : Observed) → i < g.bounds.to → Stands g.seen g.bounds.to i s → From (suc s.address) (own_from g j)
      → rest g i j ≡ shown_first (index_shown s.address s.current) (rest g (i + 1) j)
  unfolding rest map_items paid
  index_first i j s l a f =
      ap (λ (xs : List (Row (Option Record))). overlay (map_items own_view (own_from g j)) (map_items payload_of xs)) (seen_on i s l a)
      ∙ overlay_lower (paid (observed_in s)) (map_items own_view (own_from g j)) (map_items payload_of (seen_from g (i + 1)))
      (from_map_items own_view (own_from g j) (suc s.address) f) (from_map_items payload_of (seen_from g (i + 1)) (suc s.address) (seen_tail i s l a))
      ∙ index_shows s (overlay (map_items own_view (own_from g j)) (map_items payload_of (seen_from g (i + 1))))

  own_first : (i j : ℕ) (e : Entry) → j < g.bounds.end → GivesWrite g.writes j e → From (suc e.address) (seen_from g i)
      → rest g i j ≡ shown_first (own_shown e.address e.write) (rest g i (j + 1))
  unfolding rest map_items owned
  own_first i j e l a f =
      ap (λ (xs : List (Row Write)). overlay (map_items own_view xs) (map_items payload_of (seen_from g i))) (own_on j e l a)
      ∙ overlay_upper (owned (entry_in e)) (map_items own_view (own_from g (j + 1))) (map_items payload_of (seen_from g i))
      (from_map_items own_view (own_from g (j + 1)) (suc e.address) (own_tail j e l a)) (from_map_items payload_of (seen_from g i) (suc e.address) f)
      ∙ own_shows e (overlay (map_items own_view (own_from g (j + 1))) (map_items payload_of (seen_from g i)))

  both_first : (i j : ℕ) (s : Observed) (e : Entry) → i < g.bounds.to → Stands g.seen g.bounds.to i s
      → j < g.bounds.end → GivesWrite g.writes j e → s.address ≡ e.address
      → rest g i j ≡ shown_first (own_shown e.address e.write) (rest g (i + 1) (j + 1))
  unfolding rest map_items owned paid
  both_first i j s e l a k b q =
      ap (λ (xs : List (Row Write)). overlay (map_items own_view xs) (map_items payload_of (seen_from g i))) (own_on j e k b)
      ∙ ap (λ (xs : List (Row (Option Record))). overlay (map_items own_view (entry_in e ∷ own_from g (j + 1))) (map_items payload_of xs)) (seen_on i s l a)
      ∙ overlay_both (owned (entry_in e)) (paid (observed_in s)) (map_items own_view (own_from g (j + 1))) (map_items payload_of (seen_from g (i + 1))) q
      (from_map_items own_view (own_from g (j + 1)) (suc e.address) (own_tail j e k b))
      (from_map_items payload_of (seen_from g (i + 1)) (suc e.address) (subst (λ (n : ℕ). From (suc n) (seen_from g (i + 1))) q (seen_tail i s l a)))
      ∙ own_shows e (overlay (map_items own_view (own_from g (j + 1))) (map_items payload_of (seen_from g (i + 1))))

  -- the walk is over
  pub rest_end : (i j : ℕ) → g.bounds.to ≤ i → g.bounds.end ≤ j → rest g i j ≡ []
  unfolding rest map_items
  rest_end i j l k =
      ap (λ (xs : List (Row (Option Record))). overlay (map_items own_view (own_from g j)) (map_items payload_of xs)) (seen_end i l)
      ∙ ap (λ (xs : List (Row Write)). overlay (map_items own_view xs) []) (own_end j k)
      ∙ overlay_none

  -- each place shows at most one record
  pub rest_few : (i j : ℕ) → length (rest g i j) ≤ g.bounds.to - i + (g.bounds.end - j)
  unfolding rest seen_from own_from
  rest_few i j =
      let a : length (rest g i j) ≤ length (map_items own_view (own_from g j)) + length (map_items payload_of (seen_from g i)) = few_overlaid (map_items own_view (own_from g j)) (map_items payload_of (seen_from g i)) in
      let b : length (map_items payload_of (seen_from g i)) ≡ length (seen_from g i) = length_items payload_of (seen_from g i) in
      let c : length (map_items own_view (own_from g j)) ≡ length (own_from g j) = length_items own_view (own_from g j) in
      let d : length (seen_from g i) ≡ g.bounds.to - i = length_walk g.seen i (g.bounds.to - i) in
      let e : length (own_from g j) ≡ length (writes_of g.writes g.bounds.end) - j = length-drop j (writes_of g.writes g.bounds.end) in
      let f : length (writes_of g.writes g.bounds.end) ≡ g.bounds.end = length_rows write_in g.writes g.bounds.end in
      omega arith

  module _ (i j : ℕ) (at : Inside g.bounds i j) (more : i + j < g.bounds.to + g.bounds.end) where
    -- no write is left
    index_left : g.bounds.end ≤ j → i < g.bounds.to
    index_left l = let k : j ≤ g.bounds.end = at.own in omega arith

    pub step_index_only : (s : Observed) → g.bounds.end ≤ j → Stands g.seen g.bounds.to i s → ComesNext g i j (index_turn s (i + 1) j)
    step_index_only s l a =
        let b : i < g.bounds.to = index_left l in
        record {
          on = omega arith;
          inside = record { index = omega arith; own = at.own };
          rest_is = index_first i j s b a (none_above s.address j l);
        }

    -- no index record is left
    pub step_own_only : (e : Entry) → j < g.bounds.end → g.bounds.to ≤ i → GivesWrite g.writes j e → ComesNext g i j (own_turn e i (j + 1))
    step_own_only e k l a =
        record {
          on = omega arith;
          inside = record { index = at.index; own = omega arith };
          rest_is = own_first i j e k a (past_above e.address i l);
        }

    module _ (s : Observed) (e : Entry) (l : i < g.bounds.to) (k : j < g.bounds.end) (a : Stands g.seen g.bounds.to i s)
        (b : GivesWrite g.writes j e) where
      pub step_index : s.address < e.address → ComesNext g i j (index_turn s (i + 1) j)
      step_index h =
          record {
            on = omega arith;
            inside = record { index = omega arith; own = at.own };
            rest_is = index_first i j s l a (own_above s.address j e k b h);
          }

      pub step_own : e.address < s.address → ComesNext g i j (own_turn e i (j + 1))
      step_own h =
          record {
            on = omega arith;
            inside = record { index = at.index; own = omega arith };
            rest_is = own_first i j e k b (seen_above e.address i s l a h);
          }

      pub step_both : e.address ≤ s.address → s.address ≤ e.address → ComesNext g i j (own_turn e (i + 1) (j + 1))
      step_both h t =
          record {
            on = omega arith;
            inside = record { index = omega arith; own = omega arith };
            rest_is = both_first i j s e l a k b (let q : s.address ≡ e.address = omega arith in q);
          }
