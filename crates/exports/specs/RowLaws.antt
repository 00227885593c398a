-- A part of an export's records.
use Rattle.std.specs.Prelude.{ℕ, ◌+◌, ◌-◌, ◌<◌, ◌≤◌, ◌≡◌, [], length, take, drop}
use Rattle.std.proofs.Common.{arith, sym, ap, ◌∙◌, length-drop, length-take-le, get_or-take, get_or-drop, ext_get_or}
use Rattle.sets.specs.SetLaws.{length_rows, row_at}
use Rattle.contents.specs.Copies.{copy_row, copied_in}
use Rattle.exports.specs.Exporting.{ExportedRows}

-- the records from one on, so many
pub part_rows : (rows : ExportedRows) (from n count : ℕ) → from + n ≤ count → copied_in (drop from rows) n ≡ take n (drop from (copied_in rows count))
part_rows rows from n count h =
    let l : length (copied_in rows count) ≡ count = length_rows copy_row rows count in
    let m : length (copied_in (drop from rows) n) ≡ n = length_rows copy_row (drop from rows) n in
    let d : length (drop from (copied_in rows count)) ≡ length (copied_in rows count) - from = length-drop from (copied_in rows count) in
    let t : length (take n (drop from (copied_in rows count))) ≡ n = length-take-le n (drop from (copied_in rows count)) (omega arith) in
    ext_get_or (copy_row []) (copied_in (drop from rows) n) (take n (drop from (copied_in rows count))) (m ∙ sym t)
    (λ i q.
    let j : i < n = omega arith in
    row_at copy_row (drop from rows) n i (copy_row []) j
    ∙ ap copy_row (get_or-drop from rows i [])
    ∙ sym
    (get_or-take n (drop from (copied_in rows count)) i (copy_row []) j
    ∙ get_or-drop from (copied_in rows count) i (copy_row [])
    ∙ row_at copy_row rows count (from + i) (copy_row []) (omega arith)))
