-- Laws of the views: a row that is stored, rows that move, the first rows, the addresses of some.
use Rattle.std.specs.Prelude.{ℕ, zero, suc, ◌+◌, ◌-◌, ◌<◌, ◌≤◌, ◌≡◌, refl, List, [], ◌∷◌, map, length, take, drop, get_or, set}
use Rattle.std.proofs.Common.{arith, sym, ap, ◌∙◌, length-set, length-drop, ext_get_or, length-take-le, get_or-take, get_or-drop}
use Rattle.std.proofs.lemmas.List.{length-map}
use Rattle.std.proofs.Math.ListN.{get_or-map}
use Rattle.lists.specs.Rows.{Row, keys}
use Rattle.lists.specs.RowLaws.{length_keys}
use Rattle.lists.specs.Shifts.{moved, length_moved, length_tab, get_or_tab}
use Rattle.lists.specs.Mapped.{mapped_set, mapped_moved}
use Rattle.spec.specs.Records.{Record}
use Rattle.index.specs.declared.rows.RecordRow.{RecordRow}
use Rattle.index.specs.Views.{record_places, RecordRows, no_row, row_of, row_in, row_at, record_words, stored, rows_of, records_of, keys_between}

-- ---- rows

pub length_rows : (rows : RecordRows) → length (rows_of rows) ≡ record_places
unfolding rows_of
length_rows rows = length_tab (row_at rows) record_places

row_read : (rows : RecordRows) (i : ℕ) → i < record_places → get_or (rows_of rows) i no_row ≡ row_at rows i
unfolding rows_of
row_read rows i h = get_or_tab (row_at rows) record_places i no_row h

-- all rows are there
rows_mapped : (rows : RecordRows) → length rows ≡ record_places → rows_of rows ≡ map row_in rows
rows_mapped rows all =
    let l : length (rows_of rows) ≡ record_places = length_rows rows in
    ext_get_or no_row (rows_of rows) (map row_in rows) (l ∙ sym (length-map rows row_in ∙ all))
    (λ i h. row_read rows i (omega arith) ∙ sym (get_or-map row_in rows i []))

module _ (rows : RecordRows) (all : length rows ≡ record_places) where
  pub rows_stored : (i : ℕ) (r : RecordRow) → rows_of (stored rows i r) ≡ set (rows_of rows) i (row_of r)
  rows_stored i r =
      rows_mapped (stored rows i r) (length-set rows i (record_words r) ∙ all) ∙ mapped_set row_in rows i (record_words r)
      ∙ ap (λ (rs : List (Row Record)). set rs i (row_of r)) (sym (rows_mapped rows all))

  pub rows_moved : (from to n : ℕ) → from + n ≤ record_places → to + n ≤ record_places → rows_of (moved rows from to n) ≡ moved (rows_of rows) from to n
  rows_moved from to n h g =
      rows_mapped (moved rows from to n) (length_moved rows from to n (omega arith) (omega arith) ∙ all) ∙ mapped_moved row_in rows from to n
      ∙ ap (λ (rs : List (Row Record)). moved rs from to n) (sym (rows_mapped rows all))

-- words that are alike from row b on say the same there
pub rows_behind : (rows rows' : RecordRows) (b : ℕ) → drop b rows ≡ drop b rows' → drop b (rows_of rows) ≡ drop b (rows_of rows')
rows_behind rows rows' b e =
    let l : length (rows_of rows) ≡ record_places = length_rows rows in
    let l' : length (rows_of rows') ≡ record_places = length_rows rows' in
    let d : length (drop b (rows_of rows)) ≡ length (rows_of rows) - b = length-drop b (rows_of rows) in
    let d' : length (drop b (rows_of rows')) ≡ length (rows_of rows') - b = length-drop b (rows_of rows') in
    ext_get_or no_row (drop b (rows_of rows)) (drop b (rows_of rows')) (omega arith)
    (λ i h.
    get_or-drop b (rows_of rows) i no_row ∙ row_read rows (b + i) (omega arith)
    ∙ ap row_in (sym (get_or-drop b rows i []) ∙ ap (λ (ws : RecordRows). get_or ws i []) e ∙ get_or-drop b rows' i [])
    ∙ sym (get_or-drop b (rows_of rows') i no_row ∙ row_read rows' (b + i) (omega arith)))

-- ---- the first rows

pub length_records : (rows : RecordRows) (n : ℕ) → n ≤ record_places → length (records_of rows n) ≡ n
unfolding records_of
length_records rows n h = let l : length (rows_of rows) ≡ record_places = length_rows rows in length-take-le n (rows_of rows) (omega arith)

record_read : (rows : RecordRows) (n i : ℕ) → i < n → get_or (records_of rows n) i no_row ≡ get_or (rows_of rows) i no_row
unfolding records_of
record_read rows n i h = get_or-take n (rows_of rows) i no_row h

pub record_at : (rows : RecordRows) (n i : ℕ) → n ≤ record_places → i < n → get_or (records_of rows n) i no_row ≡ row_at rows i
record_at rows n i r h = record_read rows n i h ∙ row_read rows i (omega arith)

-- ---- the addresses of some rows

get_or_keys : (rs : List (Row Record)) (i : ℕ) → get_or (keys rs) i 0 ≡ (get_or rs i no_row).key
unfolding keys
get_or_keys [] i = refl
get_or_keys (r ∷ rs) zero = refl
get_or_keys (r ∷ rs) (suc i) = get_or_keys rs i

pub length_between : (rows : RecordRows) (i j : ℕ) → i ≤ j → j ≤ record_places → length (keys_between rows i j) ≡ j - i
unfolding keys_between
length_between rows i j h l =
    let m : length (rows_of rows) ≡ record_places = length_rows rows in
    let n : length (drop i (rows_of rows)) ≡ length (rows_of rows) - i = length-drop i (rows_of rows) in
    length_keys (take (j - i) (drop i (rows_of rows))) ∙ length-take-le (j - i) (drop i (rows_of rows)) (omega arith)

pub between_read : (rows : RecordRows) (i j y : ℕ) → j ≤ record_places → y < j - i → get_or (keys_between rows i j) y 0 ≡ (row_at rows (i + y)).key
unfolding keys_between
between_read rows i j y l h =
    get_or_keys (take (j - i) (drop i (rows_of rows))) y
    ∙ ap (λ (r : Row Record). r.key) (get_or-take (j - i) (drop i (rows_of rows)) y no_row h ∙ get_or-drop i (rows_of rows) y no_row ∙ row_read rows (i + y) (omega arith))
