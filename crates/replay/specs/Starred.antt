-- Document 01's starred runs, of the engine: one fact about `replay`, over the table of crate `spec`.
use Rattle.std.specs.Prelude.{ℕ, ◌≡◌, refl, Bool, false, List, [], ◌∷◌, ◌++◌, map, length}
use Rattle.std.proofs.Common.{sym, ap, ◌∙◌, subst}
use Rattle.lists.specs.Rows.{Row, row}
use Rattle.lists.specs.Texts.{Wrote}
use Rattle.spec.specs.declared.Refusal.TheVariants.{ShortBuffer, ExportOpen, NoExport}
use Rattle.spec.specs.Records.{limits, standard, standard_map, Record}
use Rattle.spec.specs.Leaves.{cuts}
use Rattle.spec.specs.Slots.{home_slot}
use Rattle.spec.specs.Maps.{contents}
use Rattle.spec.specs.Steps.{places, shortest, first_cause, State, Step, begin, put, remove, lock, validate, install, merge, merge_oldest, done, numbered, fresh, final, act, beginning, access, read_at, scan_over, put_to, remove_at, locking, validating, installing, aborting}
use Rattle.spec.specs.Computing.{model}
use Rattle.spec.specs.Files.{little_endian, address_bytes, entry_bytes, file_of, file_size}
use Rattle.spec.specs.Exports.{ExportStep, open_export, portion, file, close_export, declined, opened, given, filed, closed, export_of, export_causes, export_refusal, export_granted, export_effect, export_answer, export_next, Request, job, exporting, Exchange, job_told, export_told, exchange, next_of, starting_at, job_steps}
use Rattle.spec.specs.Events.{event}
use Rattle.spec.specs.Runs.{wide, owned, owners_told, Run, home, leaves, script, starred}
use Rattle.map.specs.Views.{Lent, map_of}
use Rattle.buffers.specs.Buffers.{places_of}
use Rattle.exports.specs.Exporting.{ExportedRows, Space}
use Rattle.transactions.specs.Views.{Logs, state_of}
use Rattle.calls.proofs.CallLaws.{map_in}
use Rattle.codes.specs.Codes.{places_lent, decoded_scan, decoded_put, decoded_access, decoded, decoded_seat, decoded_merge, decoded_numbered, listed_words, words_of}
use Rattle.codes.specs.ExportCodes.{decoded_portion, decoded_file, decoded_export, export_words}
use Rattle.replay.specs.declared.stops.Stop.TheVariants as stop
use Rattle.replay.specs.Replays.{ReplayEnd, asked, Ran, ran, told_words, all_words, Replays}
use Rattle.replay.specs.ToldExports.{requests_of}
use Rattle.replay.specs.ToldLaws.{tells_state}

-- ---- steps in coded form

abbrev pub code_for : Step → List ℕ
code_for (act w beginning) = 0 ∷ w ∷ 0 ∷ 0 ∷ 0 ∷ 0 ∷ 0 ∷ []
code_for (act w (access (read_at k))) = 1 ∷ w ∷ k ∷ 0 ∷ 0 ∷ 0 ∷ 0 ∷ []
code_for (act w (access (scan_over lo hi b))) = 2 ∷ w ∷ lo ∷ hi ∷ b.addresses ∷ b.values ∷ b.owners ∷ []
code_for (act w (access (put_to k p))) = 3 ∷ w ∷ k ∷ p.value ∷ p.owner ∷ 0 ∷ 0 ∷ []
code_for (act w (access (remove_at k))) = 4 ∷ w ∷ k ∷ 0 ∷ 0 ∷ 0 ∷ 0 ∷ []
code_for (act w locking) = 5 ∷ w ∷ 0 ∷ 0 ∷ 0 ∷ 0 ∷ 0 ∷ []
code_for (act w validating) = 6 ∷ w ∷ 0 ∷ 0 ∷ 0 ∷ 0 ∷ 0 ∷ []
code_for (act w installing) = 7 ∷ w ∷ 0 ∷ 0 ∷ 0 ∷ 0 ∷ 0 ∷ []
code_for (act w aborting) = 8 ∷ w ∷ 0 ∷ 0 ∷ 0 ∷ 0 ∷ 0 ∷ []
code_for (merge a) = 9 ∷ a ∷ 0 ∷ 0 ∷ 0 ∷ 0 ∷ 0 ∷ []
code_for merge_oldest = 10 ∷ 0 ∷ 0 ∷ 0 ∷ 0 ∷ 0 ∷ 0 ∷ []

abbrev pub export_code : ExportStep → List ℕ
export_code open_export = 11 ∷ 0 ∷ 0 ∷ 0 ∷ 0 ∷ 0 ∷ 0 ∷ []
export_code (portion b) = 12 ∷ 0 ∷ 0 ∷ 0 ∷ b.addresses ∷ b.values ∷ b.owners ∷ []
export_code (file n) = 13 ∷ 0 ∷ 0 ∷ 0 ∷ n ∷ 0 ∷ 0 ∷ []
export_code close_export = 14 ∷ 0 ∷ 0 ∷ 0 ∷ 0 ∷ 0 ∷ 0 ∷ []

abbrev pub codes_for : List Request → List ℕ
codes_for [] = []
codes_for (job s ∷ rs) = code_for s ++ codes_for rs
codes_for (exporting s ∷ rs) = export_code s ++ codes_for rs

-- ---- what is said of a row

-- The outcome of a replay is the row's: every step is taken, the answers are written, the contents are left.
pub record Shows (x : List Exchange) (rs : List (Row Record)) (out : List ℕ) (l : Lent) (out' : List ℕ) (r : ReplayEnd) : Type 0 where
  pub complete : r.stop ≡ stop.Complete
  pub answers : Wrote out 0 (all_words x) out' r.written
  pub same_contents : contents (map_of l r.core.sizes) ≡ rs

-- the words of room, and the bytes, in what is said of the rows; the places are those in which every scan fits
abbrev pub room : ℕ
room = 4096

abbrev pub bytes : ℕ
bytes = 64

-- of every replay of these steps with so many places, so many bytes and so much room
abbrev pub AllShow : Bool → List Exchange → List (Row Record) → Type 0
AllShow b x rs =
    (s : Space) (out : List ℕ) (l : Lent) (g : Logs) (xs : ExportedRows) (s' : Space) (out' : List ℕ) (r : ReplayEnd)
    → places_of s.portion ≡ wide → length s.bytes ≡ bytes → length out ≡ room → Replays (standard_map b) (codes_for (requests_of x)) s out l g xs s' out' r
    → Shows x rs out l out' r

-- what a row says of the engine
abbrev pub HoldsOf : Run → Type 0
HoldsOf (home a h) = home_slot limits.bytes a ≡ h
HoldsOf (leaves n ns) = cuts standard n ≡ ns
HoldsOf (script b h rs) = AllShow b (map job_told h) rs

abbrev pub AllHoldOf : List Run → Type 0
AllHoldOf [] = Unit {0}
AllHoldOf (r ∷ rs) = HoldsOf r × AllHoldOf rs

-- the run of a row's steps in coded form
abbrev run_for : Bool → List Exchange → Ran
run_for b x = ran wide bytes (starting_at (fresh (standard_map b))) room (codes_for (requests_of x))

-- its steps are all taken, and answered as the row says
abbrev Runs : Bool → List Exchange → Type 0
Runs b x = ((run_for b x).told ≡ x) × ((run_for b x).stop ≡ stop.Complete)

shows : (b : Bool) (x : List Exchange) (rs : List (Row Record)) → Runs b x → contents (final (fresh (standard_map b)) (job_steps (requests_of x))).map ≡ rs → AllShow b x rs
shows b x rs e k s out l g xs s' out' r m n o p =
    let same : ran (places_of s.portion) (length s.bytes) (starting_at (fresh (standard_map b))) (length out) (codes_for (requests_of x)) ≡ run_for b x
    = λ i. ran (m i) (n i) (starting_at (fresh (standard_map b))) (o i) (codes_for (requests_of x)) in
    let state : state_of l g r.core ≡ final (fresh (standard_map b)) (job_steps (requests_of x))
    = tells_state p.tells
    ∙ ap (λ (es : List Exchange). final (fresh (standard_map b)) (job_steps (requests_of es))) (ap (λ (y : Ran). y.told) same ∙ e.0) in
    record {
      complete = p.stop ∙ ap (λ (y : Ran). y.stop) same ∙ e.1;
      answers = subst (λ (es : List Exchange). Wrote out 0 (all_words es) out' r.written) (ap (λ (y : Ran). y.told) same ∙ e.0) p.answers;
      same_contents = ap contents (sym (map_in l g r.core) ∙ ap (λ (σ : State). σ.map) state) ∙ k;
    }

pub starred_replay : AllHoldOf starred
unfolding model shortest ran asked exchange next_of job_steps decoded decoded_numbered decoded_seat decoded_merge decoded_access decoded_scan places_lent decoded_put told_words words_of listed_words
starred_replay =
    (refl, (refl, (refl, (refl, (refl, (refl, (refl, (shows _ _ _ (refl, refl) refl, (shows _ _ _ (refl, refl) refl, (shows _ _ _ (refl, refl) refl, (shows _ _ _ (refl, refl) refl, (shows _ _ _ (refl, refl) refl, (shows _ _ _ (refl, refl) refl, (shows _ _ _ (refl, refl) refl, tt))))))))))))))

-- Request 106's run too: owners in numbers, and a scan that the third buffer decides.
pub owners_replay : HoldsOf (script false owners_told (row 7 (record { payload = owned 5 65535; commit = 2 }) ∷ []))
unfolding model shortest ran asked exchange next_of job_steps decoded decoded_numbered decoded_seat decoded_merge decoded_access decoded_scan places_lent decoded_put told_words words_of listed_words
owners_replay = shows _ _ _ (refl, refl) refl

-- Request 107's: an export held open while a job installs. It shows the contents at its opening, in portions and as a file.
abbrev pub exports_told : List Exchange
exports_told =
    export_told close_export (declined NoExport)
    ∷ job_told (event (begin 0) done)
    ∷ job_told (event (put 0 7 (owned 5 9)) done)
    ∷ job_told (event (put 0 260 (owned 6 10)) done)
    ∷ job_told (event (lock 0) done)
    ∷ job_told (event (validate 0) (numbered 1))
    ∷ job_told (event (install 0) done)
    ∷ export_told open_export (opened 2)
    ∷ job_told (event (begin 1) done)
    ∷ job_told (event (remove 1 7) done)
    ∷ job_told (event (lock 1) done)
    ∷ job_told (event (validate 1) (numbered 2))
    ∷ job_told (event (install 1) done)
    ∷ export_told open_export (declined ExportOpen)
    ∷ export_told (portion (places 3 3 0)) (given [] 2)
    ∷ export_told (portion (places 1 3 2)) (given (row 7 (owned 5 9) ∷ []) 1)
    ∷ export_told (file 35) (declined ShortBuffer)
    ∷ export_told (file 40)
    (filed (2 ∷ 0 ∷ 0 ∷ 0 ∷ 10 ∷ 0 ∷ 0 ∷ 0 ∷ 7 ∷ 0 ∷ 0 ∷ 0 ∷ 4 ∷ 1 ∷ 0 ∷ 0 ∷ 5 ∷ 0 ∷ 0 ∷ 0 ∷ 0 ∷ 0 ∷ 0 ∷ 0 ∷ 9 ∷ 0 ∷ 6 ∷ 0 ∷ 0 ∷ 0 ∷ 0 ∷ 0 ∷ 0 ∷ 0 ∷ 10 ∷ 0 ∷ []))
    ∷ export_told (portion (places 3 3 3)) (given (row 260 (owned 6 10) ∷ []) 0)
    ∷ export_told close_export closed
    ∷ export_told (portion (places 3 3 3)) (declined NoExport)
    ∷ export_told open_export (opened 1)
    ∷ []

pub exports_replay : AllShow false exports_told (row 260 (record { payload = owned 6 10; commit = 1 }) ∷ [])
unfolding model shortest ran asked exchange next_of job_steps decoded decoded_numbered decoded_seat decoded_merge decoded_access decoded_scan places_lent decoded_put told_words words_of listed_words decoded_export decoded_portion decoded_file export_words export_of export_causes export_refusal export_granted export_effect export_answer export_next first_cause little_endian address_bytes entry_bytes file_of file_size
exports_replay = shows _ _ _ (refl, refl) refl
