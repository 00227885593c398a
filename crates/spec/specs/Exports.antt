-- Request 107: an export beside the map. It is opened, taken in portions, written as a file, and closed; jobs and folds go on
-- meanwhile, and neither sees the other.
use Rattle.std.specs.Prelude.{ℕ, ◌+◌, ◌≡◌, Bool, true, false, not, List, [], ◌∷◌, ◌++◌, length, take, drop}
use Rattle.std.proofs.Math.Option.{Option, none, some}
use Rattle.lists.specs.Tests.{pick, maybe, present, less}
use Rattle.lists.specs.Rows.{Row, map_items}
use Rattle.spec.specs.declared.Refusal.{Refusal}
use Rattle.spec.specs.declared.Refusal.TheVariants.{ShortBuffer, ExportOpen, NoExport}
use Rattle.spec.specs.Records.{Payload, Record}
use Rattle.spec.specs.Maps.{contents}
use Rattle.spec.specs.Steps.{Cause, cause, first_cause, State, Places, shortest, Step, Answer, answer, next, Event}
use Rattle.spec.specs.Claim.{reading, list_after}
use Rattle.spec.specs.Files.{file_of, file_size}

-- ---- an export

-- An open export: its records, and how many of them portions have given.
pub record Export : Type 0 where
  pub records : List (Row Payload)
  pub taken : ℕ

-- the present contents without stamps
abbrev pub unstamped : List (Row Record) → List (Row Payload)
unstamped rs = map_items (λ (r : Record). r.payload) rs

-- those that portions have yet to give
abbrev pub remaining : Export → List (Row Payload)
remaining x = drop x.taken x.records

-- ---- steps and answers

-- None names a worker. A portion has the places of its buffers, a file the bytes of its own.
pub data ExportStep : Type 0 where
  open_export : ExportStep
  portion : Places → ExportStep
  file : ℕ → ExportStep
  close_export : ExportStep

pub data ExportAnswer : Type 0 where
  declined : Refusal → ExportAnswer
  opened : ℕ → ExportAnswer  -- how many records it has
  given : List (Row Payload) → ℕ → ExportAnswer  -- a portion: the first places of its buffers, and how many records remain
  filed : List ℕ → ExportAnswer  -- the bytes written
  closed : ExportAnswer

-- the open export, or one of no records
unfoldable pub export_of : Option Export → Export
export_of x = maybe x (record { records = []; taken = 0 }) (λ (e : Export). e)

-- ---- refusals

abbrev pub none_open : Option Export → Cause
none_open x = cause (not (present x)) NoExport

unfoldable pub export_causes : Option Export → ExportStep → List Cause
export_causes x open_export = cause (present x) ExportOpen ∷ []
export_causes x (portion b) = none_open x ∷ []
export_causes x (file n) = none_open x ∷ cause (less n (file_size (export_of x).records)) ShortBuffer ∷ []
export_causes x close_export = none_open x ∷ []

-- ---- granted steps

-- what a portion gives
abbrev pub portion_of : Export → Places → List (Row Payload)
portion_of x b = take (shortest b) (remaining x)

-- the export after a portion
abbrev pub after_portion : Export → Places → Export
after_portion x b = record { records = x.records; taken = x.taken + length (portion_of x b) }

-- the answer to a granted step, with these contents of the map
unfoldable pub export_granted : List (Row Record) → Option Export → ExportStep → ExportAnswer
export_granted rs x open_export = opened (length rs)
export_granted rs x (portion b) = given (portion_of (export_of x) b) (length (remaining (after_portion (export_of x) b)))
export_granted rs x (file n) = filed (file_of (export_of x).records)
export_granted rs x close_export = closed

-- the export after a granted step
unfoldable pub export_effect : List (Row Record) → Option Export → ExportStep → Option Export
export_effect rs x open_export = some (record { records = unstamped rs; taken = 0 })
export_effect rs x (portion b) = some (after_portion (export_of x) b)
export_effect rs x (file n) = x
export_effect rs x close_export = none

unfoldable pub export_refusal : Option Export → ExportStep → Option Refusal
export_refusal x s = first_cause (export_causes x s)

unfoldable pub export_answer : List (Row Record) → Option Export → ExportStep → ExportAnswer
export_answer rs x s = maybe (export_refusal x s) (export_granted rs x s) declined

-- a refused step leaves everything
unfoldable pub export_next : List (Row Record) → Option Export → ExportStep → Option Export
export_next rs x s = maybe (export_refusal x s) (export_effect rs x s) (λ (r : Refusal). x)

-- ---- both kinds of steps

-- The state of document 01, and beside it the open export.
pub record Exporting : Type 0 where
  pub state : State
  pub export : Option Export

pub data Request : Type 0 where
  job : Step → Request
  exporting : ExportStep → Request

-- A request that was taken, and its answer.
pub data Exchange : Type 0 where
  job_told : Event → Exchange
  export_told : ExportStep → ExportAnswer → Exchange

-- the present contents
abbrev pub contents_now : Exporting → List (Row Record)
contents_now ξ = contents ξ.state.map

unfoldable pub exchange : Exporting → Request → Exchange
exchange ξ (job s) = job_told (record { step = s; answer = answer ξ.state s })
exchange ξ (exporting s) = export_told s (export_answer (contents_now ξ) ξ.export s)

-- a step of one kind leaves the part of the other
unfoldable pub next_of : Exporting → Request → Exporting
next_of ξ (job s) = record { state = next ξ.state s; export = ξ.export }
next_of ξ (exporting s) = record { state = ξ.state; export = export_next (contents_now ξ) ξ.export s }

unfoldable pub final_of : Exporting → List Request → Exporting
final_of ξ [] = ξ
final_of ξ (r ∷ rs) = final_of (next_of ξ r) rs

unfoldable pub exchanges : Exporting → List Request → List Exchange
exchanges ξ [] = []
exchanges ξ (r ∷ rs) = exchange ξ r ∷ exchanges (next_of ξ r) rs

-- no export is open
abbrev pub starting_at : State → Exporting
starting_at σ = record { state = σ; export = none }

-- ---- what is said of them

-- the steps of jobs among the requests, and their events among the exchanges
unfoldable pub job_steps : List Request → List Step
job_steps [] = []
job_steps (job s ∷ rs) = s ∷ job_steps rs
job_steps (exporting s ∷ rs) = job_steps rs

unfoldable pub job_events : List Exchange → List Event
job_events [] = []
job_events (job_told e ∷ xs) = e ∷ job_events xs
job_events (export_told s a ∷ xs) = job_events xs

-- the records of an answer
unfoldable pub records_given : ExportAnswer → List (Row Payload)
records_given (declined r) = []
records_given (opened n) = []
records_given (given rs n) = rs
records_given (filed bs) = []
records_given closed = []

-- the records of all portions, one after the other
unfoldable pub portions_given : List Exchange → List (Row Payload)
portions_given [] = []
portions_given (job_told e ∷ xs) = portions_given xs
portions_given (export_told s a ∷ xs) = records_given a ++ portions_given xs

unfoldable pub is_close : Request → Bool
is_close (job s) = false
is_close (exporting open_export) = false
is_close (exporting (portion b)) = false
is_close (exporting (file n)) = false
is_close (exporting close_export) = true

-- the records that portions have yet to give, if an export is open
abbrev pub remaining_of : Exporting → List (Row Payload)
remaining_of ξ = remaining (export_of ξ.export)

-- the plain list after all jobs installed by the end of these requests, by serial number
abbrev pub listed_then : Exporting → List Request → List (Row Record)
listed_then ξ rs = let ρ = reading (job_events (exchanges ξ rs)) in list_after ρ.installed ρ.given

-- ---- what is claimed

-- The portions of an export are together the present contents at its opening: it was opened where these requests begin, none
-- of them closes it, and nothing remains after them.
pub record PortionsWhole (ξ : Exporting) (rs : List Request) : Type 0 where
  pub whole : remaining_of (final_of ξ (exporting open_export ∷ rs)) ≡ [] → portions_given (exchanges ξ (exporting open_export ∷ rs)) ≡ unstamped (contents_now ξ)

-- What an export that is opened after these requests, none being open then, has: the records of the plain list that the jobs
-- installed by then leave, run alone one after the other. No place among the serial numbers is claimed for it.
pub record OpenedSerial (ξ : Exporting) (rs : List Request) : Type 0 where
  pub answered : exchange (final_of ξ rs) (exporting open_export) ≡ export_told open_export (opened (length (listed_then ξ rs)))
  pub records : (export_of (next_of (final_of ξ rs) (exporting open_export)).export).records ≡ unstamped (listed_then ξ rs)
