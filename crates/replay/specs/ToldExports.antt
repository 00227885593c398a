-- Request 107 of a history: what was told of exports, in exchanges one after the other, whoever asked for them.
use Rattle.std.specs.Prelude.{ℕ, ◌≡◌, Bool, true, false, List, [], ◌∷◌, ◌++◌, length}
use Rattle.std.proofs.Math.Option.{some}
use Rattle.lists.specs.Rows.{Row, any}
use Rattle.spec.specs.Records.{Made, Record}
use Rattle.spec.specs.Steps.{fresh}
use Rattle.spec.specs.Claim.{reading, list_after}
use Rattle.spec.specs.Files.{parsed}
use Rattle.spec.specs.Exports.{unstamped, ExportStep, open_export, file, ExportAnswer, declined, opened, given, filed, closed, export_of, Exporting, Request, job, exporting, Exchange, job_told, export_told, contents_now, exchange, next_of, final_of, starting_at, job_events, portions_given, is_close}

-- ---- exchanges of a run

-- what was asked for
abbrev pub request_of : Exchange → Request
request_of (job_told e) = job e.step
request_of (export_told s a) = exporting s

abbrev pub requests_of : List Exchange → List Request
requests_of [] = []
requests_of (e ∷ es) = request_of e ∷ requests_of es

-- The model's exchanges from one state to another, where bytes that are told are read back as the records of the export open there.
pub data Tells : Exporting → List Exchange → Exporting → Type 0 where
  nothing_told : {ξ : Exporting} → Tells ξ [] ξ
  told_next : {ξ ζ : Exporting} {e : Exchange} {es : List Exchange} → exchange ξ (request_of e) ≡ e
      → ((s : ExportStep) (bs : List ℕ) → e ≡ export_told s (filed bs) → parsed bs ≡ some (export_of ξ.export).records)
      → Tells (next_of ξ (request_of e)) es ζ → Tells ξ (e ∷ es) ζ

-- ---- read off what was told

-- how many records portions have yet to give after an answer, if it was n before
unfoldable pub remains_by : ℕ → ExportAnswer → ℕ
remains_by n (declined r) = n
remains_by n (opened k) = k
remains_by n (given rs left) = left
remains_by n (filed bs) = n
remains_by n closed = 0

-- ... and after all of these
unfoldable pub remains_told : ℕ → List Exchange → ℕ
remains_told n [] = n
remains_told n (job_told e ∷ es) = remains_told n es
remains_told n (export_told s a ∷ es) = remains_told (remains_by n a) es

-- the present contents after these exchanges, from a fresh map
abbrev pub present_after : Made → List Exchange → List (Row Record)
present_after made es = contents_now (final_of (starting_at (fresh made)) (requests_of es))

-- the plain list after all jobs that these exchanges installed, by serial number
abbrev pub listed_after : List Exchange → List (Row Record)
listed_after es = let ρ = reading (job_events es) in list_after ρ.installed ρ.given

-- An export that is open after these exchanges: those before its opening, how many records that told, and those since, of which
-- none closes it.
pub record OpenAfter (es : List Exchange) : Type 0 where
  pub before : List Exchange
  pub count : ℕ
  pub since : List Exchange
  pub told : es ≡ before ++ (export_told open_export (opened count) ∷ since)
  pub unclosed : any is_close (requests_of since) ≡ false

-- the exchange told a file
unfoldable pub tells_file : Exchange → Bool
tells_file (job_told e) = false
tells_file (export_told s (declined r)) = false
tells_file (export_told s (opened n)) = false
tells_file (export_told s (given rs n)) = false
tells_file (export_told s (filed bs)) = true
tells_file (export_told s closed) = false

-- ---- what is claimed, of a history from a fresh map

-- Portions taken until nothing remains are together the present contents at opening, without stamps: wherever the export was
-- opened, and whatever was asked for between.
pub record PortionsTold (made : Made) (es : List Exchange) : Type 0 where
  pub whole :
      (upto rest : List Exchange) → es ≡ upto ++ rest → (x : OpenAfter upto) → remains_told x.count x.since ≡ 0
      → portions_given x.since ≡ unstamped (present_after made x.before)

-- That equals a run of the jobs installed by then; and opening told how many records that are.
pub record OpenedTold (made : Made) (es : List Exchange) : Type 0 where
  pub listed : (upto rest : List Exchange) → es ≡ upto ++ rest → (x : OpenAfter upto) → present_after made x.before ≡ listed_after x.before
  pub counted : (upto rest : List Exchange) → es ≡ upto ++ rest → (x : OpenAfter upto) → x.count ≡ length (listed_after x.before)

-- A file that was told after these exchanges: an export was open, and the bytes are read back as what it was opened with.
pub record FileTold (made : Made) (es : List Exchange) (bs : List ℕ) : Type 0 where
  pub opening : OpenAfter es
  pub records : parsed bs ≡ some (unstamped (present_after made opening.before))

-- Every file.
pub record FilesTold (made : Made) (es : List Exchange) : Type 0 where
  pub each : (upto rest : List Exchange) (n : ℕ) (bs : List ℕ) → es ≡ upto ++ (export_told (file n) (filed bs) ∷ rest) → FileTold made upto bs
