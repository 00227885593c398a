-- What the entries promise: the same as the Rattle functions below them, with the outcome read off the words.
use Rattle.std.specs.Prelude.{ℕ, Option as Optional, ◌≡◌, Bool, List, [], ◌∷◌, get_or}
use Rattle.std.proofs.Math.Option.{none}
use Rattle.lists.specs.Tests.{maybe, present}
use Rattle.lists.specs.Rows.{Row}
use Rattle.spec.specs.Records.{Made, Record}
use Rattle.spec.specs.Maps.{contents}
use Rattle.spec.specs.Exports as model
use Rattle.map.specs.Views.{Lent, map_of}
use Rattle.queries.specs.Contents.{first_from}
use Rattle.transactions.specs.Views.{Logs}
use Rattle.transactions.specs.Ready.{Ready}
use Rattle.buffers.specs.Buffers.{Buffers}
use Rattle.exports.specs.declared.Export.{Export}
use Rattle.exports.specs.Exporting.{ExportAnswer, ExportedRows, export_in, ExportHeld, Space, ExportStepped}
use Rattle.codes.specs.declared.Code.{Code}
use Rattle.codes.specs.declared.Coded.{Coded}
use Rattle.codes.specs.Codes.{coded_as}
use Rattle.codes.specs.ExportCodes.{export_coded_of}
use Rattle.replay.specs.declared.stops.Stop.{Stop}
use Rattle.replay.specs.declared.stops.Stop.TheVariants.{Complete, Meaningless, Full}
use Rattle.replay.specs.CodedSteps.{StepEnd, CodedStep}
use Rattle.replay.specs.Replays.{code_of, ReplayEnd, run_of, Replays}
use Rattle.sections.specs.Saved.{saved_globals, saved_core, saved_export, export_saved, export_numbers}

-- ---- a step

-- a step in its words
abbrev pub code_in : List ℕ → Code
code_in ws = code_of (get_or ws 0 0) (get_or ws 1 0) (get_or ws 2 0) (get_or ws 3 0) (get_or ws 4 0) (get_or ws 5 0) (get_or ws 6 0)

-- an answer in five words
abbrev pub coded_in : List ℕ → Coded
coded_in ws = coded_as (get_or ws 0 0) (get_or ws 1 0) (get_or ws 2 0) (get_or ws 3 0) (get_or ws 4 0)

abbrev pub stepped_in : List ℕ → List ℕ → List ℕ → StepEnd
stepped_in workers globals answer = record { core = saved_core workers globals; answer = coded_in answer }

-- a coded step, from the words of workers and globals to those after it
pub record StepEntry (l : Lent) (g : Logs) (workers globals : List ℕ) (k : Code) (b : Buffers) (l' : Lent) (g' : Logs) (workers' globals' : List ℕ) (b' : Buffers) (answer : List ℕ) : Type 0 where
  pub ready : Ready l' g' (saved_core workers' globals')
  pub step : CodedStep l g (saved_core workers globals) k b l' g' b' (stepped_in workers' globals' answer)

-- ---- a list of steps

abbrev pub stop_number : Stop → ℕ
stop_number Complete = 0
stop_number Meaningless = 1
stop_number Full = 2

pub record CountsAre (ws : List ℕ) (taken written : ℕ) : Type 0 where
  pub taken_is : get_or ws 0 0 ≡ taken
  pub written_is : get_or ws 1 0 ≡ written

abbrev pub replayed_in : List ℕ → List ℕ → List ℕ → List ℕ → Stop → ReplayEnd
replayed_in workers globals export counts stop =
    record { core = saved_core workers globals; export = saved_export export; taken = get_or counts 0 0; written = get_or counts 1 0; stop = stop }

-- A list of steps: the promise of a replay, the number that tells why no more were taken, and the words of the export.
pub record ReplayEntry (made : Made) (words : List ℕ) (s : Space) (out : List ℕ) (l : Lent) (g : Logs) (xs : ExportedRows) (s' : Space) (out' : List ℕ)
    (workers globals export counts : List ℕ) (n : ℕ) : Type 0 where
  pub replays : Replays made words s out l g xs s' out' (replayed_in workers globals export counts (run_of made words s out).stop)
  pub number : n ≡ stop_number (run_of made words s out).stop
  pub numbers : export ≡ export_numbers (run_of made words s out).after.export

-- ---- the contents, one after the other

-- what the map holds
abbrev pub contents_in : Lent → List ℕ → List (Row Record)
contents_in l globals = contents (map_of l (saved_globals globals).sizes)

-- a record in four words: address, value, owner, serial number
abbrev pub record_words : Row Record → List ℕ
record_words r = r.key ∷ r.item.payload.value ∷ r.item.payload.owner ∷ r.item.commit ∷ []

-- the first record of the contents from an address on, in words that it leaves if there is none
pub record NextRecord (l : Lent) (globals : List ℕ) (from : ℕ) (old new : List ℕ) (r : Bool) : Type 0 where
  pub there : r ≡ present (first_from from (contents_in l globals))
  pub words : new ≡ maybe (first_from from (contents_in l globals)) old record_words

-- ---- an export beside the map

-- none is open
pub record NoneIn (words : List ℕ) : Type 0 where
  pub numbers : words ≡ export_numbers none
  pub none_open_lem : (rows : ExportedRows) → export_in rows (saved_export words) ≡ none
  pub held : ExportHeld (saved_export words)

-- the export after a step in its words, and the words of its answer
pub record DoneIn (words told : List ℕ) (x : Optional Export) (a : ExportAnswer) : Type 0 where
  pub export_is : words ≡ export_saved x
  pub answer_is : coded_in told ≡ export_coded_of a

-- An export step: the rows, the numbers and the space before it, those after it, and the words of its answer.
pub record ExportEntry (contents : List (Row Record)) (step : model.ExportStep) (rows : ExportedRows) (words : List ℕ) (s : Space)
    (rows' : ExportedRows) (words' : List ℕ) (s' : Space) (told : List ℕ) : Type 0 where
  pub answer : ExportAnswer
  pub stepped : ExportStepped contents step rows (saved_export words) s rows' (saved_export words') s' answer
  pub words_are : coded_in told ≡ export_coded_of answer
  pub numbers : words' ≡ export_numbers (model.export_next contents (export_in rows (saved_export words)) step)
