-- A list of coded steps, run from a fresh map with no export open: which steps are taken, what is written, and what the run
-- promises, demand 3 included.
use Rattle.std.specs.Prelude.{ℕ, ◌+◌, ◌-◌, ◌*◌, ◌≤◌, ◌≡◌, Option as Optional, Some, None, List, [], ◌∷◌, ◌++◌, map, length}
use Rattle.std.proofs.Math.Option.{Option, none, some}
use Rattle.std.proofs.lemmas.List.Edits.{sets}
use Rattle.lists.specs.Tests.{pick, maybe, less}
use Rattle.lists.specs.Rows.{Row}
use Rattle.lists.specs.Texts.{Wrote}
use Rattle.spec.specs.Records.{Made, Payload}
use Rattle.spec.specs.Maps.{contents}
use Rattle.spec.specs.Steps.{Places, shortest, fresh, Answer, refused, done, found, listed, numbered, counted}
use Rattle.spec.specs.Claim.{SerialRun}
use Rattle.spec.specs.Exports.{ExportAnswer, declined, opened, given, filed, closed, Exporting, Request, job, exporting, Exchange, job_told, export_told, exchange, next_of, starting_at, job_events, records_given}
use Rattle.map.specs.Views.{Lent, map_of}
use Rattle.buffers.specs.Buffers.{counted_places, places_of}
use Rattle.exports.specs.declared.Export.{Export}
use Rattle.exports.specs.Exporting.{ExportedRows, export_in, ExportHeld, Space, export_step_in}
use Rattle.transactions.specs.Cores.{Core}
use Rattle.transactions.specs.Views.{Logs, state_of, core_of}
use Rattle.transactions.specs.Ready.{Ready}
use Rattle.engine.specs.Performs.{step_in}
use Rattle.codes.specs.declared.Code.{Code}
use Rattle.codes.specs.Codes.{Decoded, decoded, words_of}
use Rattle.codes.specs.ExportCodes.{DecodedExport, decoded_export, export_words}
use Rattle.replay.specs.declared.stops.Stop.{Stop}
use Rattle.replay.specs.declared.stops.Stop.TheVariants as stop
use Rattle.replay.specs.declared.runs.Replayed.{Replayed}
use Rattle.replay.specs.ToldExports.{Tells}

-- ---- what a code asks for

-- A request, and how many places it wants of each of the lent buffers.
pub record Asked : Type 0 where
  pub request : Request
  pub wants : Places

abbrev pub asked_job : Decoded → Option Asked
asked_job (Some (o, w)) = some (record { request = job (step_in o (counted_places w)); wants = counted_places w })
asked_job None = none

abbrev pub asked_export : DecodedExport → Option Asked
asked_export (Some (o, w)) = some (record { request = exporting (export_step_in o (counted_places w)); wants = counted_places w })
asked_export None = none

-- with lent buffers of m places and n bytes; the kinds of export steps stand behind those of jobs
unfoldable pub asked : Places → ℕ → Code → Option Asked
asked m n k = pick (less k.kind 11) (asked_job (decoded m k)) (asked_export (decoded_export m n k))

-- ---- which steps are taken

-- The steps taken with their answers, why no more were taken, and the state after them.
pub record Ran : Type 0 where
  pub told : List Exchange
  pub stop : Stop
  pub after : Exporting

abbrev pub ended : Stop → Exporting → Ran
ended t ξ = record { told = []; stop = t; after = ξ }

-- one step, and then those
abbrev pub followed_by : Exchange → Ran → Ran
followed_by e r = record { told = e ∷ r.told; stop = r.stop; after = r.after }

-- the words of a step
abbrev pub step_words : ℕ
step_words = 7

abbrev pub code_of : ℕ → ℕ → ℕ → ℕ → ℕ → ℕ → ℕ → Code
code_of k a b c d e f = record { kind = k; a = a; b = b; c = c; d = d; e = e; f = f }

-- the longest answer of a step that wants so many places, in words
abbrev pub longest_answer : Places → ℕ
longest_answer w = 5 + 3 * shortest w

-- the words of an answer
unfoldable pub told_words : Exchange → List ℕ
told_words (job_told e) = words_of e.answer
told_words (export_told s a) = export_words a

-- The run of a list of words, so many to a step, from a state, with lent buffers of m places, n lent bytes and room for so many
-- words of answers. It stops at a code with no meaning, where the longest answer of a step would find no room, or at the end;
-- words that make no whole code have no meaning.
unfoldable pub ran : Places → ℕ → Exporting → ℕ → List ℕ → Ran
ran m n ξ room [] = ended stop.Complete ξ
ran m n ξ room (k ∷ []) = ended stop.Meaningless ξ
ran m n ξ room (k ∷ a ∷ []) = ended stop.Meaningless ξ
ran m n ξ room (k ∷ a ∷ b ∷ []) = ended stop.Meaningless ξ
ran m n ξ room (k ∷ a ∷ b ∷ c ∷ []) = ended stop.Meaningless ξ
ran m n ξ room (k ∷ a ∷ b ∷ c ∷ d ∷ []) = ended stop.Meaningless ξ
ran m n ξ room (k ∷ a ∷ b ∷ c ∷ d ∷ e ∷ []) = ended stop.Meaningless ξ
ran m n ξ room (k ∷ a ∷ b ∷ c ∷ d ∷ e ∷ f ∷ ws) =
    maybe (asked m n (code_of k a b c d e f)) (ended stop.Meaningless ξ)
    (λ (q : Asked). pick (less room (longest_answer q.wants)) (ended stop.Full ξ)
    (followed_by (exchange ξ q.request)
    (ran m n (next_of ξ q.request) (room - length (told_words (exchange ξ q.request))) ws)))

-- ---- what is written

-- the answers in numbers, one after the other
unfoldable pub all_words : List Exchange → List ℕ
all_words [] = []
all_words (e ∷ es) = told_words e ++ all_words es

-- the records of a scan
unfoldable pub scanned : Answer → List (Row Payload)
scanned (refused r) = []
scanned done = []
scanned (found p x) = []
scanned (listed rs) = rs
scanned (numbered n) = []
scanned (counted n) = []

-- what a step leaves in the first places of the lent buffers: the records of a scan or a portion
unfoldable pub shown_by : Exchange → List (Row Payload)
shown_by (job_told e) = scanned e.answer
shown_by (export_told s a) = records_given a

-- ... and in the first lent bytes: those of a file
unfoldable pub bytes_of : ExportAnswer → List ℕ
bytes_of (declined r) = []
bytes_of (opened n) = []
bytes_of (given rs n) = []
bytes_of (filed bs) = bs
bytes_of closed = []

unfoldable pub filed_by : Exchange → List ℕ
filed_by (job_told e) = []
filed_by (export_told s a) = bytes_of a

-- a buffer after the steps, by what each of them leaves in its first places
unfoldable pub left_in : (Exchange → List ℕ) → List Exchange → List ℕ → List ℕ
left_in f [] ks = ks
left_in f (e ∷ es) ks = left_in f es (sets ks 0 (f e))

-- every file has so many bytes at most
unfoldable pub FilesFit : ℕ → List Exchange → Type 0
FilesFit n [] = Unit {0}
FilesFit n (e ∷ es) = (length (filed_by e) ≤ n) × FilesFit n es

abbrev pub addresses_by : Exchange → List ℕ
addresses_by e = map (λ (r : Row Payload). r.key) (shown_by e)

abbrev pub values_by : Exchange → List ℕ
values_by e = map (λ (r : Row Payload). r.item.value) (shown_by e)

abbrev pub owners_by : Exchange → List ℕ
owners_by e = map (λ (r : Row Payload). r.item.owner) (shown_by e)

-- the lent buffers and bytes after the steps
pub record SpaceBecomes (es : List Exchange) (s s' : Space) : Type 0 where
  pub addresses : s'.portion.addresses ≡ left_in addresses_by es s.portion.addresses
  pub values : s'.portion.values ≡ left_in values_by es s.portion.values
  pub owners : s'.portion.owners ≡ left_in owners_by es s.portion.owners
  pub bytes : s'.bytes ≡ left_in filed_by es s.bytes
  pub fits : FilesFit (length s.bytes) es

-- ---- what is promised

-- The engine's arrays and core, and beside them the rows and the numbers of the export.
pub record Whole : Type 0 where
  pub map : Lent
  pub logs : Logs
  pub core : Core
  pub exported : ExportedRows
  pub export : Optional Export

abbrev pub whole : Lent → Logs → Core → ExportedRows → Optional Export → Whole
whole l g c xs x = record { map = l; logs = g; core = c; exported = xs; export = x }

-- how they are read
abbrev pub exporting_in : Whole → Exporting
exporting_in h = record { state = state_of h.map h.logs h.core; export = export_in h.exported h.export }

-- the invariant of both
pub record WholeReady (h : Whole) : Type 0 where
  pub engine : Ready h.map h.logs h.core
  pub export : ExportHeld h.export

-- The run of these words, with these buffers and bytes, from a fresh map.
abbrev pub run_of : Made → List ℕ → Space → List ℕ → Ran
run_of made words s out = ran (places_of s.portion) (length s.bytes) (starting_at (fresh made)) (length out) words

-- The core and the export's numbers after the steps, how many were taken, how many words were written, and why no more.
pub record ReplayEnd : Type 0 where
  pub core : Core
  pub export : Optional Export
  pub taken : ℕ
  pub written : ℕ
  pub stop : Stop

abbrev pub replay_end_of : List ℕ → Replayed → ReplayEnd
replay_end_of ws r =
    record { core = core_of ws r.globals; export = r.export; taken = r.taken; written = r.written; stop = r.stop }

-- what a run left: the arrays, with the core and the export's numbers of its outcome
abbrev pub left_by : Lent → Logs → ExportedRows → ReplayEnd → Whole
left_by l g xs r = whole l g r.core xs r.export

-- What the map is made with, the words of the steps, the lent space and the answer buffer before, the arrays, the space, the
-- answer buffer and the outcome after.
pub record Replays (made : Made) (words : List ℕ) (s : Space) (out : List ℕ) (l : Lent) (g : Logs) (xs : ExportedRows) (s' : Space) (out' : List ℕ) (r : ReplayEnd) : Type 0 where
  pub ready : WholeReady (left_by l g xs r)
  -- the steps that the run takes are taken, and why no more
  pub after : exporting_in (left_by l g xs r) ≡ (run_of made words s out).after
  pub stop : r.stop ≡ (run_of made words s out).stop
  pub taken : r.taken ≡ length (run_of made words s out).told
  -- their answers are written, and nothing past them
  pub answers : Wrote out 0 (all_words (run_of made words s out).told) out' r.written
  pub space : SpaceBecomes (run_of made words s out).told s s'
  -- they are the model's, one after the other up to what is left, and each file among them is read back
  pub tells : Tells (starting_at (fresh made)) (run_of made words s out).told (exporting_in (left_by l g xs r))
  -- demand 3, of the jobs' steps among these, their answers and the contents after them
  pub serial : SerialRun (job_events (run_of made words s out).told) (contents (map_of l r.core.sizes))
