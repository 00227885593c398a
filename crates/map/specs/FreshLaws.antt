-- An empty map in the byColumns arrays: one leaf with version 0, no record, no entry.
use Rattle.std.specs.Prelude.{ℕ, zero, suc, ◌<◌, ◌≡◌, refl, Bool, List, [], ◌∷◌, length, take, get_or, set, replicate}
use Rattle.std.proofs.Common.{zero-le, not-suc-le-zero, arith, ap, ◌∙◌, subst, length-set, get_or-set_same}
use Rattle.std.proofs.Math.Path.{sym}
use Rattle.lists.specs.Rows.{Row, Rising}
use Rattle.lists.specs.RowLaws.{rising_nil}
use Rattle.lists.specs.Ascending.{Ascends}
use Rattle.lists.specs.Sums.{total}
use Rattle.spec.specs.Records.{standard, Record}
use Rattle.spec.specs.Leaves.{Leaf, first_leaf}
use Rattle.spec.specs.Slots.{Content, Slot, empty_slot, entries}
use Rattle.spec.specs.Maps.{fresh_map}
use Rattle.laws.specs.SlotCounts.{tally}
use Rattle.laws.specs.LeafVersions.{GoodLeaves, fresh_leaves_lem}
use Rattle.laws.specs.MapBounds.{Bounded, fresh_bounded}
use Rattle.indexlet.specs.Words.{slots_of}
use Rattle.indexlet.specs.Promises as indexlet
use Rattle.index.specs.LeafColumns.{column}
use Rattle.index.specs.LeafColumnLaws.{column_set, column_places}
use Rattle.index.specs.Views.{leaf_places, paired, records_of, leaves_of}
use Rattle.map.specs.declared.Sizes.{Sizes}
use Rattle.map.specs.Views.{SlotRows, LeafRows, RecordRows, by_columns, map_of}
use Rattle.phantomlet.specs.Phantoms.{weigh, how_many, outside_any}
use Rattle.map.specs.MapHeld.{Tables}
use Rattle.map.specs.Entries.{MapBecomes, Emptied}
use Rattle.spec.specs.Slots.{slot_count}

abbrev pub fresh_sizes : Sizes
fresh_sizes = record { records = 0; leaves = 1; entries = 0; outside = 0 }

leaf_path : {x y u w : ℕ} → x ≡ y → u ≡ w → ◌≡◌ {A = List Leaf} (record { low = x; version = u } ∷ []) (record { low = y; version = w } ∷ [])
leaf_path p q = λ i. record { low = p i; version = q i } ∷ []

first_leaf_lem : (xs us : List ℕ) → Emptied xs → Emptied us → leaves_of xs us 1 ≡ first_leaf ∷ []
unfolding leaves_of paired
first_leaf_lem [] us p q = absurd (let e : 0 ≡ leaf_places = p.size in omega arith)
first_leaf_lem (x ∷ xs) [] p q = absurd (let e : 0 ≡ leaf_places = q.size in omega arith)
first_leaf_lem (x ∷ xs) (u ∷ us) p q = leaf_path p.first q.first

first_low : (xs : List ℕ) → Emptied xs → Ascends 0 (take 1 xs)
unfolding Ascends
first_low [] p = tt
first_low (x ∷ xs) p = (zero-le, tt)

no_records : (ws : RecordRows) → records_of ws 0 ≡ []
unfolding records_of
no_records ws = refl

none_many : (p : Row Content → Bool) (n : ℕ) → how_many p (replicate n empty_slot) ≡ 0
unfolding how_many weigh tally total
none_many p zero = refl
none_many p (suc n) = let e : how_many p (replicate n empty_slot) ≡ 0 = none_many p n in omega arith

at_first : (xs : List ℕ) (i : ℕ) → Emptied xs → i < 1 → get_or xs i 0 ≡ 0
at_first xs zero p h = p.first
at_first xs (suc i) p h = absurd (omega arith)

module _ (rows : RecordRows) (lows versions hidden pending : List ℕ) (slots : SlotRows) (lows_empty : Emptied lows) (versions_empty : Emptied versions) (hidden_empty : Emptied hidden) (pending_empty : Emptied pending) (words : indexlet.SlotsFresh slots) where
  fresh_view : map_of (by_columns rows lows versions hidden pending slots) fresh_sizes ≡ fresh_map
  fresh_view = λ i. record { records = no_records rows i; leaves = first_leaf_lem lows versions lows_empty versions_empty i; slots = words.view i }

  one_leaf : length (leaves_of lows versions 1) ≡ 1
  one_leaf = ap length (first_leaf_lem lows versions lows_empty versions_empty)

  nothing : (p : Row Content → Bool) → how_many p (slots_of slots) ≡ 0
  nothing p = ap (how_many p) words.view ∙ none_many p slot_count

  fresh_tables : Tables (by_columns rows lows versions hidden pending slots) fresh_sizes 0
  fresh_tables =
      record {
        rows = record { room = zero-le; rising = subst Rising (sym (no_records rows)) (rising_nil Record) };
        rows_narrow = λ i h. absurd (not-suc-le-zero h);
        lows = record { some = omega arith; room = omega arith; rising = first_low lows lows_empty };
        lows_narrow = λ i h. let e : get_or lows i 0 ≡ 0 = at_first lows i lows_empty h in omega arith;
        lows_size = lows_empty.size;
        versions_size = versions_empty.size;
        leaves = subst (GoodLeaves 0) (sym (first_leaf_lem lows versions lows_empty versions_empty)) fresh_leaves_lem;
        words = words.held;
        entries_are = sym (ap (λ (ss : List Slot). length (entries ss)) words.view ∙ (unfold entries in refl));
        hidden_size = hidden_empty.size;
        pending_size = pending_empty.size;
        outside_are = sym (nothing (outside_any (map_of (by_columns rows lows versions hidden pending slots) fresh_sizes)));
        phantoms =
            record {
              hidden_is = λ i h. at_first hidden i hidden_empty (let e = one_leaf in omega arith) ∙ sym (nothing _);
              pending_is = λ i h. at_first pending i pending_empty (let e = one_leaf in omega arith) ∙ sym (nothing _);
            };
      }

  pub fresh_becomes : MapBecomes (by_columns rows lows versions hidden pending slots) fresh_sizes 0 fresh_map
  fresh_becomes =
      record {
        map = fresh_view;
        held = record { tables = fresh_tables; bounded = subst (Bounded standard 0) (sym fresh_view) (fresh_bounded standard) };
      }

-- the first leaf written, every column is empty
pub emptied : (ls ls' : LeafRows) (k : ℕ) → length ls ≡ leaf_places → ls' ≡ set ls 0 (0 ∷ 0 ∷ 0 ∷ 0 ∷ []) → get_or {A = ℕ} (0 ∷ 0 ∷ 0 ∷ 0 ∷ []) k 0 ≡ 0 → Emptied (column k ls')
emptied ls ls' k l e z =
    let c : column k ls' ≡ set (column k ls) 0 (get_or (0 ∷ 0 ∷ 0 ∷ 0 ∷ []) k 0) = ap (column k) e ∙ column_set k ls 0 (0 ∷ 0 ∷ 0 ∷ 0 ∷ []) in
    let s : length (column k ls) ≡ leaf_places = column_places k ls l in
    record {
      size = ap length c ∙ length-set (column k ls) 0 (get_or (0 ∷ 0 ∷ 0 ∷ 0 ∷ []) k 0) ∙ s;
      first = ap (λ (xs : List ℕ). get_or xs 0 0) c ∙ get_or-set_same (column k ls) 0 (get_or (0 ∷ 0 ∷ 0 ∷ 0 ∷ []) k 0) 0 (omega arith) ∙ z;
    }
