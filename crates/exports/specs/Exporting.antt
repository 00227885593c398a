-- Request 107: how a lent array and two numbers, if one is open, are read as the export beside the map, and what each step of one
-- promises.
use Rattle.std.specs.Prelude.{ℕ, ◌≤◌, ◌≡◌, List, length, take, Result, Ok, Err, Option as Optional, Some, None}
use Rattle.std.proofs.Math.Option.{Option, none, some}
use Rattle.std.specs.Option.{IfSome}
use Rattle.lists.specs.Rows.{Row}
use Rattle.spec.specs.declared.Refusal.{Refusal}
use Rattle.spec.specs.Records.{limits, Record}
use Rattle.spec.specs.Steps.{Places, shortest}
use Rattle.spec.specs.Exports as model
use Rattle.contents.specs.Copies.{CopyRows, copied_in}
use Rattle.buffers.specs.Buffers.{Buffers, places_of, rows_in, Unmoved, Beyond, Lends}
use Rattle.exports.specs.declared.Export.{Export}
use Rattle.exports.specs.declared.ExportTold.{ExportTold}
use Rattle.exports.specs.declared.ExportTold.TheVariants.{Opened, Given, Filed, Closed}
use Rattle.exports.specs.declared.ops.ExportOp.{ExportOp}
use Rattle.exports.specs.declared.ops.ExportOp.TheVariants.{Open, Portion, File, Close}

-- ---- how it is read

-- the lent rows of an export, as lists of words
abbrev pub ExportedRows : Type 0
ExportedRows = CopyRows

-- an open export
abbrev pub open_in : ExportedRows → Export → model.Export
open_in rows x = record { records = copied_in rows x.count; taken = x.taken }

-- the export if one is open, else none
unfoldable pub export_in : ExportedRows → Optional Export → Option model.Export
export_in rows (Some x) = some (open_in rows x)
export_in rows None = none

-- There is room for the records of an open one, and no more are taken than there are.
pub record OpenHeld (x : Export) : Type 0 where
  pub room : x.count ≤ limits.map_limit
  pub within : x.taken ≤ x.count

abbrev pub ExportHeld : Optional Export → Type 0
ExportHeld x = IfSome x OpenHeld

-- ---- answers

-- What there is to write to: the buffers of a portion, and the bytes of a file. A step that is not lent the one or the other
-- leaves it, whatever it is.
pub record Space : Type 0 where
  pub portion : Buffers
  pub bytes : List ℕ

abbrev pub space : Buffers → List ℕ → Space
space b bs = record { portion = b; bytes = bs }

-- what a step answers
abbrev pub ExportAnswer : Type 0
ExportAnswer = Result ExportTold Refusal

-- an answer, with what the step left there
unfoldable pub export_answer_in : ExportAnswer → Space → model.ExportAnswer
export_answer_in (Ok (Opened n)) s = model.opened n
export_answer_in (Ok (Given n m)) s = model.given (rows_in n s.portion) m
export_answer_in (Ok (Filed n)) s = model.filed (take n s.bytes)
export_answer_in (Ok Closed) s = model.closed
export_answer_in (Err r) s = model.declined r

-- how many places of the buffers were written, and how many bytes
unfoldable pub places_written : ExportAnswer → ℕ
places_written (Ok (Opened n)) = 0
places_written (Ok (Given n m)) = n
places_written (Ok (Filed n)) = 0
places_written (Ok Closed) = 0
places_written (Err r) = 0

unfoldable pub bytes_written : ExportAnswer → ℕ
bytes_written (Ok (Opened n)) = 0
bytes_written (Ok (Given n m)) = 0
bytes_written (Ok (Filed n)) = n
bytes_written (Ok Closed) = 0
bytes_written (Err r) = 0

-- how many of them a step may write at most
unfoldable pub places_wanted : model.ExportStep → ℕ
places_wanted model.open_export = 0
places_wanted (model.portion w) = shortest w
places_wanted (model.file n) = 0
places_wanted model.close_export = 0

unfoldable pub bytes_wanted : model.ExportStep → ℕ
bytes_wanted model.open_export = 0
bytes_wanted (model.portion w) = 0
bytes_wanted (model.file n) = n
bytes_wanted model.close_export = 0

-- ---- the promise of every step

-- A step of the export in these rows, with these contents of the map: its answer and the export after it are the model's, the
-- invariant holds again, no more is written than the step has places and bytes, and all past what was written is as it was.
pub record ExportStepped (contents : List (Row Record)) (step : model.ExportStep) (rows : ExportedRows) (x : Optional Export) (s : Space)
    (rows' : ExportedRows) (x' : Optional Export) (s' : Space) (a : ExportAnswer) : Type 0 where
  pub held : ExportHeld x'
  pub answer_is : export_answer_in a s' ≡ model.export_answer contents (export_in rows x) step
  pub next_is : export_in rows' x' ≡ model.export_next contents (export_in rows x) step
  pub places : Beyond (places_written a) s.portion s'.portion
  pub bytes : Unmoved (bytes_written a) s.bytes s'.bytes
  pub few_places : places_written a ≤ places_wanted step
  pub few_bytes : bytes_written a ≤ bytes_wanted step

-- ---- any step, as one operation

-- the model's step, with the places that it wants
abbrev pub export_step_in : ExportOp → Places → model.ExportStep
export_step_in Open w = model.open_export
export_step_in Portion w = model.portion w
export_step_in (File n) w = model.file n
export_step_in Close w = model.close_export

-- The space has as many places and bytes as a step wants.
pub record LendsTo (s : Space) (o : ExportOp) (w : Places) : Type 0 where
  pub places : Lends (places_of s.portion) w
  pub bytes : (n : ℕ) → o ≡ File n → n ≤ length s.bytes
