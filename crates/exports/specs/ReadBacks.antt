-- For the reader: every file that is written is read back as the records of the export.
use Rattle.std.specs.Prelude.{ℕ, zero, suc, ◌^◌, ◌<◌, ◌≤◌, ◌≡◌, refl, Bool, true, false, List, [], length, take, get_or, Ok, Option as Optional, Some, None}
use Rattle.std.proofs.Common.{arith, sym, ap, ◌∙◌, ⊎_elim}
use Rattle.std.proofs.Math.Option.{Option, none, some}
use Rattle.lists.specs.Tests.{pick, maybe, less}
use Rattle.lists.specs.TestLaws.{cases}
use Rattle.lists.specs.Rows.{Row}
use Rattle.lists.specs.Options.{both_options, some_same}
use Rattle.lists.specs.Tabulation.{tab, tab_from}
use Rattle.spec.specs.declared.Refusal.TheVariants.{ShortBuffer}
use Rattle.spec.specs.Records.{limits, Payload, Record}
use Rattle.spec.specs.Steps.{first_cause}
use Rattle.spec.specs.Files.{file_of, file_size, parsed}
use Rattle.spec.specs.Exports as model
use Rattle.laws.specs.FileLaws.{FileFits, AllFit, none_fit, more_fit, file_parsed}
use Rattle.sets.specs.Sets.{first_rows}
use Rattle.sets.specs.SetLaws.{length_rows}
use Rattle.contents.specs.Copies.{copy_row, copied_in}
use Rattle.buffers.specs.Buffers.{Buffers}
use Rattle.exports.specs.declared.Export.{Export}
use Rattle.exports.specs.declared.ExportTold.TheVariants.{Filed}
use Rattle.exports.specs.Exporting.{ExportAnswer, ExportedRows, export_in, ExportHeld, space, export_answer_in, ExportStepped}

-- ---- the records of an export fit a file

row_fits : (ws : List ℕ) → FileFits (copy_row ws)
row_fits ws = record { address = omega arith; value = omega arith; owner = omega arith }

fit_from : (rows : ExportedRows) (i n : ℕ) → AllFit (tab_from (λ (i : ℕ). copy_row (get_or rows i [])) i n)
unfolding tab_from
fit_from rows i zero = none_fit
fit_from rows i (suc n) = more_fit (row_fits (get_or rows i [])) (fit_from rows (suc i) n)

exported_fit : (rows : ExportedRows) (n : ℕ) → AllFit (copied_in rows n)
unfolding first_rows tab
exported_fit rows n = fit_from rows 0 n

-- What a file asks of the records of an export, or of none.
record Fileable (rs : List (Row Payload)) : Type 0 where
  fit : AllFit rs
  few : length rs < 2 ^ 32

fileable : (rows : ExportedRows) (x : Optional Export) → ExportHeld x → Fileable (model.export_of (export_in rows x)).records
unfolding export_in model.export_of
fileable rows (Some e) h =
    let l : length (copied_in rows e.count) ≡ e.count = length_rows copy_row rows e.count in
    let r : e.count ≤ limits.map_limit = h.room in
    record { fit = exported_fit rows e.count; few = omega arith }
fileable rows None h = record { fit = none_fit; few = omega arith }

-- ---- what is told

abbrev bytes_told : model.ExportAnswer → Option (List ℕ)
bytes_told (model.declined r) = none
bytes_told (model.opened n) = none
bytes_told (model.given rs n) = none
bytes_told (model.filed bs) = some bs
bytes_told model.closed = none

-- bytes that are told are the file
file_told : (contents : List (Row Record)) (o : Option model.Export) (n : ℕ) (bs : List ℕ) → model.export_answer contents o (model.file n) ≡ model.filed bs
    → bs ≡ file_of (model.export_of o).records
unfolding model.export_answer model.export_refusal model.export_causes model.export_granted model.export_of first_cause
file_told contents none n bs e = both_options (ap bytes_told e) refl
file_told contents (some x) n bs e =
    ⊎_elim
    (λ t. both_options (ap bytes_told e) (ap bytes_told (tested true t)))
    (λ t. some_same (ap bytes_told (sym e ∙ tested false t)))
    (cases (less n (file_size x.records)))
  where
    tested : (b : Bool) → less n (file_size x.records) ≡ b
        → maybe (pick (less n (file_size x.records)) (some ShortBuffer) none) (model.filed (file_of x.records)) model.declined
        ≡ maybe (pick b (some ShortBuffer) none) (model.filed (file_of x.records)) model.declined
    tested b q = ap (λ (b : Bool). maybe (pick b (some ShortBuffer) none) (model.filed (file_of x.records)) model.declined) q

-- no other step tells bytes
told_by_lem : (contents : List (Row Record)) (o : Option model.Export) (s : model.ExportStep) (bs : List ℕ) → model.export_answer contents o s ≡ model.filed bs
    → bs ≡ file_of (model.export_of o).records
unfolding model.export_answer model.export_refusal model.export_causes model.export_granted first_cause
told_by_lem contents none model.open_export bs e = both_options (ap bytes_told e) refl
told_by_lem contents (some x) model.open_export bs e = both_options (ap bytes_told e) refl
told_by_lem contents none (model.portion b) bs e = both_options (ap bytes_told e) refl
told_by_lem contents (some x) (model.portion b) bs e = both_options (ap bytes_told e) refl
told_by_lem contents o (model.file n) bs e = file_told contents o n bs e
told_by_lem contents none model.close_export bs e = both_options (ap bytes_told e) refl
told_by_lem contents (some x) model.close_export bs e = both_options (ap bytes_told e) refl

-- Bytes that a step tells are read back as the records of the export.
pub told_read_back : (contents : List (Row Record)) (rows : ExportedRows) (x : Optional Export) (s : model.ExportStep) (bs : List ℕ) → ExportHeld x
    → model.export_answer contents (export_in rows x) s ≡ model.filed bs → parsed bs ≡ some (model.export_of (export_in rows x)).records
told_read_back contents rows x s bs h e =
    let f = fileable rows x h in
    ap parsed (told_by_lem contents (export_in rows x) s bs e) ∙ file_parsed f.fit f.few

-- The bytes that a step of `file` writes are read back as the records of the export.
pub file_read_back : {contents : List (Row Record)} {rows : ExportedRows} {x x' : Optional Export} {b : Buffers} {bs bs' : List ℕ} {a : ExportAnswer} (n : ℕ) → ExportHeld x
    → ExportStepped contents (model.file (length bs)) rows x (space b bs) rows x' (space b bs') a → a ≡ Ok (Filed n)
    → parsed (take n bs') ≡ some (model.export_of (export_in rows x)).records
unfolding export_answer_in
file_read_back {contents} {rows} {x} {x'} {b} {bs} {bs'} {a} n h p e =
    told_read_back contents rows x (model.file (length bs)) (take n bs') h
    (sym p.answer_is ∙ ap (λ (a : ExportAnswer). export_answer_in a (space b bs')) e)
