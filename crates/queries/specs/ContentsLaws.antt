-- The laws of the contents: how many records there can be, those from an address on, and the next of them.
use Rattle.std.specs.Prelude.{ℕ, suc, ◌<◌, ◌≤◌, ◌≡◌, true, length, Option as Optional, Some, None}
use Rattle.std.proofs.Common.{le_trans, le_of_eq, arith, sym, ◌∙◌, subst}
use Rattle.std.proofs.Math.Path.{refl, ap}
use Rattle.std.proofs.Math.Logic.{⊎_elim}
use Rattle.std.proofs.Math.Bool.{false}
use mathlib.Core.List.{List, [], ◌∷◌, ◌++◌}
use Rattle.std.proofs.Math.Option.{Option, none, some}
use Rattle.lists.specs.Tests.{maybe, present, less}
use Rattle.lists.specs.TestLaws.{cases, clash, less_true, less_false, less_yes, less_no}
use Rattle.lists.specs.Rows.{Row, keys, has, look, From, Rising}
use Rattle.lists.specs.RowLaws.{has_keys, length_keys, rising_different}
use Rattle.lists.specs.Counting.{has_append, different_within}
use Rattle.lists.specs.Options.{both_options, some_same}
use Rattle.spec.specs.Records.{limits, Tuning, Record}
use Rattle.spec.specs.Slots.{Content, entries}
use Rattle.spec.specs.Maps.{MapState, outcome_of, current, contents}
use Rattle.laws.specs.SlotLaws.{content_none}
use Rattle.laws.specs.MapBounds.{Bounded}
use Rattle.laws.specs.ContentLaws.{look_contents, rising_contents}
use Rattle.map.specs.declared.Sizes.{Sizes}
use Rattle.map.specs.Views.{SlotRows, RecordRows, Lent, map_of}
use Rattle.map.specs.MapHeld.{MapHeld}
use Rattle.map.specs.Parts.{RecordsHeld}
use Rattle.queries.specs.declared.NextRecord.{NextRecord}
use Rattle.queries.specs.QueryViews.{map_with}
use Rattle.queries.specs.NextViews.{rows_from, row_in, next_in, Follows}
use Rattle.queries.specs.Contents.{first_from, all_records}

-- ---- how many records there can be

module _ {s : Tuning} {v : ℕ} {m : MapState} (b : Bounded s v m) where
  absent : (k : ℕ) → has k (keys m.records) ≡ false → has k (keys (entries m.slots)) ≡ false → current m k ≡ none
  unfolding current
  absent k e f =
      ap (λ (c : Content). maybe c.pending (look m.records k) outcome_of) (content_none m.slots k (gone (look (entries m.slots) k) (sym (has_keys (entries m.slots) k) ∙ f)))
      ∙ gone (look m.records k) (sym (has_keys m.records k) ∙ e)
    where
      gone : {A : Type 0} (o : Option A) → present o ≡ false → o ≡ none
      gone none h = refl
      gone (some a) h = clash refl h

  listed : (k : ℕ) → has k (keys (contents m)) ≡ true → has k (keys m.records ++ keys (entries m.slots)) ≡ true
  listed k e =
      ⊎_elim
      (λ p. has_append k (keys m.records) (keys (entries m.slots)) ∙ (rw p))
      (λ p.
      ⊎_elim
      (λ q. has_append k (keys m.records) (keys (entries m.slots)) ∙ (rw p q))
      (λ q. clash e (has_keys (contents m) k ∙ ap present (look_contents m b.slots k ∙ absent k p q)))
      (cases (has k (keys (entries m.slots)))))
      (cases (has k (keys m.records)))

  contents_count : length (contents m) ≤ limits.map_limit
  contents_count =
      le_trans (le_of_eq (sym (length_keys (contents m))))
      (le_trans (different_within (keys (contents m)) (keys m.records ++ keys (entries m.slots)) (rising_different (contents m) (rising_contents m b.records)) listed) b.addresses)

-- ---- of lent arrays

-- leaves play no part
pub contents_of : {l : Lent} {z : Sizes} {v : ℕ} → MapHeld l z v → contents (map_of l z) ≡ all_records l.rows z.records l.slots
unfolding contents
contents_of h = refl

pub records_fit : {l : Lent} {z : Sizes} {v : ℕ} → MapHeld l z v → length (all_records l.rows z.records l.slots) ≤ limits.map_limit
records_fit h = subst (λ (rs : List (Row Record)). length rs ≤ limits.map_limit) (contents_of h) (contents_count h.bounded)

-- ---- rows from a key on, one by one

module _ {A : Type 0} where
  -- the first row lies below k: it counts for nothing
  pub below : (k : ℕ) (r : Row A) (rs : List (Row A)) → r.key < k → (first_from k (r ∷ rs) ≡ first_from k rs) × (rows_from k (r ∷ rs) ≡ rows_from k rs)
  unfolding first_from rows_from
  below k r rs h = (rw (less_yes {m = r.key} {n = k} h), rw (less_yes {m = r.key} {n = k} h))

  -- it lies at k or above: all do
  pub here : (k : ℕ) (r : Row A) (rs : List (Row A)) → k ≤ r.key → (first_from k (r ∷ rs) ≡ some r) × (rows_from k (r ∷ rs) ≡ r ∷ rs)
  unfolding first_from rows_from
  here k r rs h = (rw (less_no {m = r.key} {n = k} h), rw (less_no {m = r.key} {n = k} h))

  pub all_from : (k lo : ℕ) (rs : List (Row A)) → From lo rs → k ≤ lo → rows_from k rs ≡ rs
  unfolding From
  all_from k lo [] f h = unfold rows_from in refl
  all_from k lo (r ∷ rs) f h = (here k r rs (le_trans h f.0)).1

  -- the first of them, and those after it
  pub next_row : (k lo : ℕ) (rs : List (Row A)) (r : Row A) → From lo rs → first_from k rs ≡ some r
      → (rows_from k rs ≡ r ∷ rows_from (suc r.key) rs) × (k ≤ r.key)
  unfolding From
  next_row k lo [] r f e = both_options e (unfold first_from in refl)
  next_row k lo (s ∷ rs) r f e =
      ⊎_elim
      (λ t. later (less_true s.key k t) (next_row k (suc s.key) rs r f.1 (sym (below k s rs (less_true s.key k t)).0 ∙ e)))
      (λ t. found (less_false s.key k t) (some_same (sym (here k s rs (less_false s.key k t)).0 ∙ e)))
      (cases (less s.key k))
    where
      later : s.key < k → (rows_from k rs ≡ r ∷ rows_from (suc r.key) rs) × (k ≤ r.key)
          → (rows_from k (s ∷ rs) ≡ r ∷ rows_from (suc r.key) (s ∷ rs)) × (k ≤ r.key)
      later h p = (
        (below k s rs h).1 ∙ p.0
            ∙ ap (λ (zs : List (Row A)). r ∷ zs) (sym (below (suc r.key) s rs (let q : k ≤ r.key = p.1 in omega arith)).1),
        p.1,
      )

      found : k ≤ s.key → s ≡ r → (rows_from k (s ∷ rs) ≡ r ∷ rows_from (suc r.key) (s ∷ rs)) × (k ≤ r.key)
      found h q =
          let d : s.key ≡ r.key = ap (λ (x : Row A). x.key) q in (
            (here k s rs h).1
                ∙ (λ i. q i ∷ (sym ((below (suc r.key) s rs (omega arith)).1 ∙ all_from (suc r.key) (suc s.key) rs f.1 (omega arith))) i),
            omega arith,
          )

  pub no_row : (k : ℕ) (rs : List (Row A)) → first_from k rs ≡ none → rows_from k rs ≡ []
  no_row k [] e = unfold rows_from in refl
  no_row k (r ∷ rs) e =
      ⊎_elim
      (λ t. (below k r rs (less_true r.key k t)).1 ∙ no_row k rs (sym (below k r rs (less_true r.key k t)).0 ∙ e))
      (λ t. both_options (here k r rs (less_false r.key k t)).0 e)
      (cases (less r.key k))

-- ---- the contents of rows and slots

pub rising_all : (rows : RecordRows) (n : ℕ) (slots : SlotRows) → RecordsHeld rows n → Rising (all_records rows n slots)
rising_all rows n slots h = rising_contents (map_with rows n slots []) h.held.rising

pub next_at : {rows : RecordRows} {slots : SlotRows} {n k : ℕ} {r : Optional NextRecord} {x : NextRecord} → Follows rows n slots k r → r ≡ Some x
    → first_from k (all_records rows n slots) ≡ some (row_in x)
next_at f e = sym (f.next_is []) ∙ ap next_in e

pub next_done : {rows : RecordRows} {slots : SlotRows} {n k : ℕ} {r : Optional NextRecord} → Follows rows n slots k r → r ≡ None
    → first_from k (all_records rows n slots) ≡ none
next_done f e = sym (f.next_is []) ∙ ap next_in e
