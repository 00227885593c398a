-- What the records are after rows are written, put in or taken out.
use Rattle.std.specs.Prelude.{ℕ, suc, ◌+◌, ◌-◌, ◌<◌, ◌≤◌, ◌≡◌, get_or}
use Rattle.std.proofs.Common.{arith, ◌∙◌, subst, length-append, length-drop, drop-set-lt, drop_at, drop-drop, length-take-le}
use Rattle.std.proofs.Math.Path.{sym, ap}
use mathlib.Core.List.{List, ◌∷◌, ◌++◌, append_assoc}
use Rattle.std.proofs.Math.Option.{Option, none, some}
use Rattle.std.proofs.Math.ListN.{length, take, drop, set, length-take}
use Rattle.std.proofs.Math.Seq.{take-set-lt}
use Rattle.lists.specs.Rows.{Row, row, look, assign, Rising}
use Rattle.lists.specs.RowLaws.{rising_assign}
use Rattle.lists.specs.Shifts.{over, moved, length_moved, put_in, taken_out}
use Rattle.lists.specs.Places.{place, place_most, Present, Absent, look_present, look_absent, insert_present, insert_absent, delete_present, delete_absent}
use Rattle.spec.specs.Records.{Record}
use Rattle.index.specs.declared.rows.RecordRow.{RecordRow}
use Rattle.spec.specs.declared.PayloadWords.{PayloadWords}
use Rattle.index.specs.Views.{record_places, RecordRows, record_from, no_row, row_of, row_at, stored, rows_of, records_of, RecordsSorted, RecordsAre}
use Rattle.index.specs.RecordPlaces.{AtPlace}
use Rattle.index.specs.ViewLaws.{length_rows, rows_stored, rows_moved, length_records, record_at}

-- ---- whether a key stands at its place

module _ (rows : RecordRows) (n k p : ℕ) (room : n ≤ record_places) (at : AtPlace rows n k p) where
  key_there : (r : Row Record) → p < n → r ≡ row_at rows p → (get_or (records_of rows n) (place k (records_of rows n)) no_row).key ≡ r.key
  key_there r h e =
      ap (λ (i : ℕ). (get_or (records_of rows n) i no_row).key) (sym at.is)
      ∙ ap (λ (x : Row Record). x.key) (record_at rows n p room h ∙ sym e)

  pub present_at : (r : Row Record) → p < n → r ≡ row_at rows p → r.key ≡ k → Present k (records_of rows n) no_row
  present_at r h e q =
      let l : length (records_of rows n) ≡ n = length_records rows n room in
      let i : p ≡ place k (records_of rows n) = at.is in
      record { inside = omega arith; here = key_there r h e ∙ q }

  pub absent_at : (r : Row Record) → p < n → r ≡ row_at rows p → (r.key ≡ k → ⊥) → Absent k (records_of rows n) no_row
  absent_at r h e q = record { elsewhere = λ i f. q (sym (key_there r h e) ∙ f) }

  pub absent_past : n ≤ p → Absent k (records_of rows n) no_row
  absent_past h =
      let l : length (records_of rows n) ≡ n = length_records rows n room in
      let i : p ≡ place k (records_of rows n) = at.is in
      record { elsewhere = λ g f. omega arith }

-- ---- the changes

module _ (rows rows' : RecordRows) (all : length rows ≡ record_places) (n p : ℕ) where
  pub written : (r : RecordRow) → p < n → rows' ≡ stored rows p r → records_of rows' n ≡ set (records_of rows n) p (row_of r)
  unfolding records_of
  written r h e = ap (take n) (ap rows_of e ∙ rows_stored rows all p r) ∙ take-set-lt n (rows_of rows) p (row_of r) h

  pub inserted : (between : RecordRows) (r : RecordRow) → p ≤ n → n < record_places → between ≡ moved rows p (p + 1) (n - p) → rows' ≡ stored between p r
      → records_of rows' (n + 1) ≡ take p (records_of rows n) ++ (row_of r ∷ drop p (records_of rows n))
  unfolding records_of
  inserted between r h l e f =
      let m : length (rows_of rows) ≡ record_places = length_rows rows in
      let s : length between ≡ record_places = ap length e ∙ length_moved rows p (p + 1) (n - p) (omega arith) (omega arith) ∙ all in
      ap (take (n + 1))
      (ap rows_of f ∙ rows_stored between s p r
      ∙ ap (λ (xs : List (Row Record)). set xs p (row_of r)) (ap rows_of e ∙ rows_moved rows all p (p + 1) (n - p) (omega arith) (omega arith)))
      ∙ put_in (rows_of rows) n p (row_of r) h (omega arith)

  pub removed : p < n → n ≤ record_places → rows' ≡ moved rows (p + 1) p (n - p - 1)
      → records_of rows' (n - 1) ≡ take p (records_of rows n) ++ drop (suc p) (records_of rows n)
  unfolding records_of
  removed h l e =
      let m : length (rows_of rows) ≡ record_places = length_rows rows in
      ap (take (n - 1)) (ap rows_of e ∙ rows_moved rows all (p + 1) p (n - p - 1) (omega arith) (omega arith))
      ∙ taken_out (rows_of rows) n p h (omega arith)

-- ---- the rows behind stay

-- behind the elements that were moved
drop_moved : {A : Type 0} (xs : List A) (from to n k : ℕ) → from + n ≤ length xs → to + n ≤ length xs → to + n ≤ k → drop k (moved xs from to n) ≡ drop k xs
unfolding moved over
drop_moved xs from to n k h g l =
    let d : length (drop from xs) ≡ length xs - from = length-drop from xs in
    let e : length (take n (drop from xs)) ≡ n = length-take-le n (drop from xs) (omega arith) in
    let f : length (take to xs) ≡ to = length-take-le to xs (omega arith) in
    let t : length (take to xs ++ take n (drop from xs)) ≡ length (take to xs) + length (take n (drop from xs)) = length-append (take to xs) (take n (drop from xs)) in
    let s : to + length (take n (drop from xs)) + (k - (to + length (take n (drop from xs)))) ≡ k = omega arith in
    let at : drop (to + length (take n (drop from xs))) (moved xs from to n) ≡ drop (to + length (take n (drop from xs))) xs
    = ap (drop (to + length (take n (drop from xs)))) (sym (append_assoc (take to xs) (take n (drop from xs)) (drop (to + length (take n (drop from xs))) xs)))
    ∙ drop_at (take to xs ++ take n (drop from xs)) (drop (to + length (take n (drop from xs))) xs) (to + length (take n (drop from xs))) (omega arith) in
    ap (λ (i : ℕ). drop i (moved xs from to n)) (sym s)
    ∙ sym (drop-drop (k - (to + length (take n (drop from xs)))) (to + length (take n (drop from xs))) (moved xs from to n))
    ∙ ap (drop (k - (to + length (take n (drop from xs))))) at
    ∙ drop-drop (k - (to + length (take n (drop from xs)))) (to + length (take n (drop from xs))) xs
    ∙ ap (λ (i : ℕ). drop i xs) s

module _ (rows rows' : RecordRows) (all : length rows ≡ record_places) (n p : ℕ) where
  pub behind_written : (r : RecordRow) → p < n → rows' ≡ stored rows p r → drop n rows' ≡ drop n rows
  behind_written r h e = ap (drop n) e ∙ drop-set-lt n rows p _ h

  pub behind_inserted : (between : RecordRows) (r : RecordRow) → p ≤ n → n < record_places → between ≡ moved rows p (p + 1) (n - p) → rows' ≡ stored between p r
      → drop (n + 1) rows' ≡ drop (n + 1) rows
  behind_inserted between r h l e f =
      ap (drop (n + 1)) f ∙ drop-set-lt (n + 1) between p _ (omega arith)
      ∙ ap (drop (n + 1)) e ∙ drop_moved rows p (p + 1) (n - p) (n + 1) (omega arith) (omega arith) (omega arith)

  pub behind_removed : p < n → n ≤ record_places → rows' ≡ moved rows (p + 1) p (n - p - 1) → drop (n - 1) rows' ≡ drop (n - 1) rows
  behind_removed h l e = ap (drop (n - 1)) e ∙ drop_moved rows (p + 1) p (n - p - 1) (n - 1) (omega arith) (omega arith) (omega arith)

-- ---- what they are to the model

module _ (rows : RecordRows) (n k p : ℕ) (held : RecordsSorted rows n) (at : AtPlace rows n k p) where
  holds_assign : (rows' : RecordRows) (n' : ℕ) (o : Option Record) → n' ≤ record_places → records_of rows' n' ≡ assign k o (records_of rows n)
      → RecordsAre rows' n' (assign k o (records_of rows n))
  holds_assign rows' n' o h e =
      record { held = record { room = h; rising = subst (Rising {A = Record}) (sym e) (rising_assign k o (records_of rows n) held.rising) }; same = e }

  pub put_over : (rows' : RecordRows) (v : PayloadWords) (commit : ℕ) → length rows ≡ record_places → Present k (records_of rows n) no_row → p < n
      → rows' ≡ stored rows p (record { address = k; payload = v; commit = commit })
      → RecordsAre rows' n (assign k (some (record_from v commit)) (records_of rows n))
  unfolding assign
  put_over rows' v commit all s h e =
      let x : Record = record_from v commit in
      holds_assign rows' n (some x) held.room
      (written rows rows' all n p (record { address = k; payload = v; commit = commit }) h e ∙ ap (λ (i : ℕ). set (records_of rows n) i (row k x)) at.is
      ∙ sym (insert_present k x (records_of rows n) no_row s))

  length_insert : (x : Record) → Absent k (records_of rows n) no_row → length (assign k (some x) (records_of rows n)) ≡ n + 1
  unfolding assign
  length_insert x a =
      let rs : List (Row Record) = records_of rows n in
      let l : length rs ≡ n = length_records rows n held.room in
      let m : place k rs ≤ length rs = place_most k rs in
      ap length (insert_absent k x rs no_row a) ∙ simp (length-append, length-take, length-drop) (omega arith)

  -- there is room for one more
  pub put_room : (x : Record) → Absent k (records_of rows n) no_row → length (assign k (some x) (records_of rows n)) ≤ record_places → n < record_places
  put_room x a h = let e : length (assign k (some x) (records_of rows n)) ≡ n + 1 = length_insert x a in omega arith

  pub put_new : (rows' : RecordRows) (m : ℕ) (x : Record) → Absent k (records_of rows n) no_row → length (assign k (some x) (records_of rows n)) ≤ record_places
      → (m ≡ n + 1) × (records_of rows' (n + 1) ≡ take p (records_of rows n) ++ (row k x ∷ drop p (records_of rows n)))
      → RecordsAre rows' m (assign k (some x) (records_of rows n))
  unfolding assign
  put_new rows' m x a h e =
      let l : n < record_places = put_room x a h in
      let i : m ≡ n + 1 = e.0 in
      holds_assign rows' m (some x) (omega arith)
      (ap (records_of rows') i ∙ e.1 ∙ ap (λ (i : ℕ). take i (records_of rows n) ++ (row k x ∷ drop i (records_of rows n))) at.is
      ∙ sym (insert_absent k x (records_of rows n) no_row a))

  pub drop_here : (rows' : RecordRows) → length rows ≡ record_places → Present k (records_of rows n) no_row → p < n → rows' ≡ moved rows (p + 1) p (n - p - 1)
      → RecordsAre rows' (n - 1) (assign k none (records_of rows n))
  unfolding assign Rising
  drop_here rows' all s h e =
      let r : n ≤ record_places = held.room in
      holds_assign rows' (n - 1) none (omega arith)
      (removed rows rows' all n p h r e ∙ ap (λ (i : ℕ). take i (records_of rows n) ++ drop (suc i) (records_of rows n)) at.is
      ∙ sym (delete_present k 0 (records_of rows n) no_row held.rising s))

  pub drop_none : Absent k (records_of rows n) no_row → RecordsAre rows n (assign k none (records_of rows n))
  unfolding assign Rising
  drop_none a = holds_assign rows n none held.room (sym (delete_absent k 0 (records_of rows n) no_row held.rising a))

  pub find_here : (r : Row Record) → p < n → r ≡ row_at rows p → Present k (records_of rows n) no_row → some r.item ≡ look (records_of rows n) k
  find_here r h e s =
      ap (λ (x : Row Record). some x.item) (e ∙ sym (record_at rows n p held.room h) ∙ ap (λ (i : ℕ). get_or (records_of rows n) i no_row) at.is)
      ∙ sym (look_present k (records_of rows n) no_row s)

  pub find_none : Absent k (records_of rows n) no_row → none ≡ look (records_of rows n) k
  unfolding Rising
  find_none a = sym (look_absent k 0 (records_of rows n) no_row held.rising a)
