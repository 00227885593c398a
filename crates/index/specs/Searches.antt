-- What the row at a place tells of the place of a key among the records.
use Rattle.std.specs.Prelude.{ℕ, ◌-◌, ◌<◌, ◌≤◌, ◌≡◌, length, get_or}
use Rattle.std.proofs.Common.{arith, sym, ap, ◌∙◌, ⊎_elim}
use Rattle.lists.specs.Tests.{at_most}
use Rattle.lists.specs.TestLaws.{cases, at_most_true, at_most_false}
use Rattle.lists.specs.Rows.{Row, Rising}
use Rattle.lists.specs.Places.{place, place_most, place_below, place_above}
use Rattle.spec.specs.Records.{Record}
use Rattle.index.specs.Views.{RecordRows, RecordsSorted, no_row, row_at, records_of}
use Rattle.index.specs.ViewLaws.{length_records, record_at}

module _ (rows : RecordRows) (n k end : ℕ) (held : RecordsSorted rows n) (some : 0 < end) where
  key_read : (r : Row Record) → end ≤ n → r ≡ row_at rows (end - 1) → (get_or (records_of rows n) (end - 1) no_row).key ≡ r.key
  key_read r h e = ap (λ (x : Row Record). x.key) (record_at rows n (end - 1) held.room (omega arith) ∙ sym e)

  -- so many records have smaller keys
  pub passed_on : (r : Row Record) → end ≤ n → r ≡ row_at rows (end - 1) → r.key < k → end ≤ place k (records_of rows n)
  unfolding Rising
  passed_on r h e l =
      let q = key_read r h e in
      let m : length (records_of rows n) ≡ n = length_records rows n held.room in
      let p : end - 1 < place k (records_of rows n) = place_below k 0 (records_of rows n) (end - 1) no_row held.rising (omega arith) (omega arith) in
      omega arith

  -- there are not so many
  pub passed_end : n < end → place k (records_of rows n) < end
  passed_end h =
      let m : length (records_of rows n) ≡ n = length_records rows n held.room in
      let p : place k (records_of rows n) ≤ length (records_of rows n) = place_most k (records_of rows n) in
      omega arith

  -- not so many have: the row is read whether it holds a record or not
  pub passed_stop : (r : Row Record) → r ≡ row_at rows (end - 1) → k ≤ r.key → place k (records_of rows n) < end
  passed_stop r e l = ⊎_elim (λ d. here (at_most_true end n d)) (λ d. passed_end (at_most_false end n d)) (cases (at_most end n))
    where
      here : end ≤ n → place k (records_of rows n) < end
      here h =
          let q = key_read r h e in
          let m : length (records_of rows n) ≡ n = length_records rows n held.room in
          let p : place k (records_of rows n) ≤ end - 1 = place_above k (records_of rows n) (end - 1) no_row (omega arith) (omega arith) in
          omega arith
