-- Any calls of the library from a fresh map: they are a serial run, and what requests 101, 102, 103 and 107 say holds of them.
use Rattle.std.specs.Prelude.{ℕ, ◌≤◌, ◌≡◌, true, false, None}
use Rattle.std.proofs.Math.Path.{refl, sym, ap}
use Rattle.std.proofs.Common.{◌∙◌, subst}
use mathlib.Core.List.{List, [], ◌∷◌, ◌++◌}
use Rattle.std.proofs.Math.Option.{some}
use Rattle.lists.specs.Rows.{Row, any}
use Rattle.spec.specs.Records.{limits, Made, Record}
use Rattle.spec.specs.Maps.{MapState, contents}
use Rattle.spec.specs.Steps.{Places, Step, Answer, fresh, final}
use Rattle.spec.specs.Slots.{search}
use Rattle.spec.specs.Guards.{NoOverlap}
use Rattle.spec.specs.Waiting.{waits_since, oldest_merges, TakenWithin}
use Rattle.spec.specs.Examined.{takes_out}
use Rattle.spec.specs.Claim.{SerialRun}
use Rattle.spec.specs.Exports.{unstamped, ExportStep, export_of, export_answer, export_next, Exporting, job, exporting, Exchange, job_told, export_told, contents_now, exchange, next_of, starting_at, job_steps, job_events}
use Rattle.spec.specs.GoodTuning.{GoodTuning}
use Rattle.map.specs.Views.{Lent, map_of}
use Rattle.buffers.specs.Buffers.{Buffers, places_of}
use Rattle.exports.specs.Exporting.{ExportedRows, export_in, Space, export_answer_in}
use Rattle.exports.specs.ReadBacks.{told_read_back}
use Rattle.transactions.specs.Views.{Logs, state_of}
use Rattle.calls.proofs.CallLaws.{map_in, reached_good}
use Rattle.calls.proofs.WaitingCalls.{reached_waiting}
use Rattle.calls.proofs.GuardedCalls.{reached_apart}
use Rattle.calls.proofs.ExaminedCalls.{reached_some}
use Rattle.engine.specs.declared.steps.Op.{Op}
use Rattle.engine.specs.Performs.{step_in}
use Rattle.codes.specs.declared.Code.{Code}
use Rattle.codes.specs.Codes.{meant_with, decoded}
use Rattle.codes.specs.CodeLaws.{meant_lends}
use Rattle.replay.specs.PartLaws.{performs_with}
use Rattle.replay.specs.ToldExports.{requests_of, listed_after, OpenAfter, PortionsTold, OpenedTold, FilesTold, Tells, nothing_told, told_next}
use Rattle.replay.specs.ToldLaws.{tells_answers, tells_final, tells_join, tells_state, tells_serial, job_no_file, export_file, portions_told, opened_told, held_listed, files_told}
use Rattle.replay.specs.ExaminedReplays.{told_examined}
use Rattle.replay.specs.Replays.{exporting_in, WholeReady}
use Rattle.sections.specs.Saved.{saved_globals, saved_core, saved_export}
use Rattle.sections.specs.Entries.{StepEntry, contents_in, ExportEntry}
use Rattle.sections.specs.LibraryCalls.{Library, library, whole_of, Begun, fresh_begun, replay_begun, LibraryCalls, no_call, step_call, void_call, export_call, step_told, SerialLibrary}

abbrev read_of : Library → Exporting
read_of a = exporting_in (whole_of a)

-- What is kept after some exchanges from a state.
record Reached (ξ : Exporting) (es : List Exchange) (z : Library) : Type 0 where
  tells : Tells ξ es (read_of z)
  ready : WholeReady (whole_of z)

-- ---- one call

module _ (a : Library) {l : Lent} {g : Logs} {workers globals answer : List ℕ} {b b' : Buffers} {k : Code}
    (s : StepEntry a.map a.logs a.workers a.globals k b l g workers globals b' answer)
  where
    abbrev stepped : Library
    stepped = library l g workers globals a.exported a.export

    step_ready : WholeReady (whole_of a) → WholeReady (whole_of stepped)
    step_ready r = record { engine = s.ready; export = r.export }

    step_tells : (o : Op) (w : Places) (e : decoded (places_of b) k ≡ meant_with o w) {h : List Exchange} {ζ : Exporting} → Tells (read_of stepped) h ζ
        → Tells (read_of a) (step_told o w b' (s.step.meant o w e).reply ∷ h) ζ
    unfolding exchange next_of
    step_tells o w e {h} {ζ} t =
        let m = s.step.meant o w e in
        let y = performs_with (meant_lends (places_of b) k refl e) m.performs in
        let q : exchange (read_of a) (job (step_in o w)) ≡ step_told o w b' m.reply
        = ap (λ (x : Answer). job_told (record { step = step_in o w; answer = x })) (sym y.refines.says) in
        let n : read_of stepped ≡ next_of (read_of a) (job (step_in o w))
        = λ i. record { state = y.refines.state i; export = export_in a.exported (saved_export a.export) } in
        told_next q (λ t bs p. job_no_file (read_of a) (step_in o w) t bs (q ∙ p)) (subst (λ (η : Exporting). Tells η h ζ) n t)

    void_same : decoded (places_of b) k ≡ None → read_of stepped ≡ read_of a
    void_same e =
        let u = s.step.meaningless e in
        λ i. record { state = state_of (u.map i) (u.logs i) (u.outcome i).core; export = export_in a.exported (saved_export a.export) }

module _ (a : Library) {rows : ExportedRows} {words told : List ℕ} (step : ExportStep) (s s' : Space)
    (e : ExportEntry (contents_in a.map a.globals) step a.exported a.export s rows words s' told)
  where
    abbrev exported : Library
    exported = library a.map a.logs a.workers a.globals rows words

    export_ready : WholeReady (whole_of a) → WholeReady (whole_of exported)
    export_ready r = record { engine = r.engine; export = e.stepped.held }

    export_tells : WholeReady (whole_of a) → {h : List Exchange} {ζ : Exporting} → Tells (read_of exported) h ζ
        → Tells (read_of a) (export_told step (export_answer_in e.answer s') ∷ h) ζ
    unfolding exchange next_of
    export_tells r {h} {ζ} t =
        let c = saved_core a.workers a.globals in
        let x = saved_export a.export in
        let now : contents_in a.map a.globals ≡ contents (state_of a.map a.logs c).map = sym (ap contents (map_in a.map a.logs c)) in
        let q : exchange (read_of a) (exporting step) ≡ export_told step (export_answer_in e.answer s')
        = ap (export_told step) (sym (e.stepped.answer_is ∙ ap (λ (cs : List (Row Record)). export_answer cs (export_in a.exported x) step) now)) in
        let n : read_of exported ≡ next_of (read_of a) (exporting step)
        = λ i. record {
          state = state_of a.map a.logs c;
          export = (e.stepped.next_is ∙ ap (λ (cs : List (Row Record)). export_next cs (export_in a.exported x) step) now) i;
        } in
        told_next q
        (λ y bs p. told_read_back (contents_now (read_of a)) a.exported x step bs r.export (export_file (read_of a) step y bs (q ∙ p)))
        (subst (λ (η : Exporting). Tells η h ζ) n t)

-- ---- any calls

calls_reach : {a z : Library} {h : List Exchange} → WholeReady (whole_of a) → LibraryCalls a h z → Reached (read_of a) h z
calls_reach r no_call = record { tells = nothing_told; ready = r }
calls_reach {a} r (step_call o w e s rest) =
    let k = calls_reach (step_ready a s r) rest in
    record { tells = step_tells a s o w e k.tells; ready = k.ready }
calls_reach {a} {z} {h} r (void_call e s rest) =
    let k = calls_reach (step_ready a s r) rest in
    record { tells = subst (λ (η : Exporting). Tells η h (read_of z)) (void_same a s e) k.tells; ready = k.ready }
calls_reach {a} r (export_call step s s' e rest) =
    let k = calls_reach (export_ready a step s s' e r) rest in
    record { tells = export_tells a step s s' e r k.tells; ready = k.ready }

begun_reach : {d : Made} {es : List Exchange} {a : Library} → Begun d es a → Reached (starting_at (fresh d)) es a
begun_reach {d} (fresh_begun {a = a} f n) =
    let q : starting_at (fresh d) ≡ read_of a = λ i. record { state = sym f.state i; export = sym (n.none_open_lem a.exported) i } in
    record { tells = subst (Tells (starting_at (fresh d)) []) q nothing_told; ready = record { engine = f.ready; export = n.held } }
begun_reach (replay_begun p) = record { tells = p.replays.tells; ready = p.replays.ready }

module _ {d : Made} {es h : List Exchange} {a z : Library} (f : Begun d es a) (q : LibraryCalls a h z) where
  all_told : Reached (starting_at (fresh d)) (es ++ h) z
  all_told =
      let b = begun_reach f in
      let c = calls_reach b.ready q in
      record { tells = tells_join b.tells c.tells; ready = c.ready }

  -- the engine's part of what is left
  state_left : state_of z.map z.logs (saved_core z.workers z.globals) ≡ final (fresh d) (job_steps (requests_of (es ++ h)))
  state_left = tells_state all_told.tells

  good : GoodTuning d.tuning
  good = reached_good z.map z.logs (saved_core z.workers z.globals) d (job_steps (requests_of (es ++ h))) state_left all_told.ready.engine

  -- Demand 3 of any calls, and demands 1 and 2.
  pub library_serial : SerialLibrary d (es ++ h) z
  library_serial =
      let t = all_told.tells in
      record {
        serial =
            subst (λ (m : MapState). SerialRun (job_events (es ++ h)) (contents m)) (map_in z.map z.logs (saved_core z.workers z.globals))
            (tells_serial d good t);
        answers = sym (tells_answers t);
        state = sym (tells_final t);
        ready = all_told.ready;
      }

  -- Request 107.
  pub library_portions : PortionsTold d (es ++ h)
  library_portions = portions_told d all_told.tells

  pub library_opened : OpenedTold d (es ++ h)
  library_opened = opened_told d all_told.tells good

  -- an export that is left open is still in its rows
  pub library_held : (x : OpenAfter (es ++ h)) → (export_of (export_in z.exported (saved_export z.export))).records ≡ unstamped (listed_after x.before)
  library_held x = held_listed d good x all_told.tells

  pub library_files : FilesTold d (es ++ h)
  library_files = files_told d all_told.tells

  -- Request 101.
  pub library_waiting : (k t : ℕ) → waits_since (map_of z.map (saved_globals z.globals).sizes) k ≡ some t → (ts : List Step) → d.tuning.waiting_limit ≤ oldest_merges ts
      → TakenWithin (state_of z.map z.logs (saved_core z.workers z.globals)) k d.tuning.waiting_limit ts
  library_waiting = reached_waiting z.map z.logs (saved_core z.workers z.globals) d (job_steps (requests_of (es ++ h))) state_left all_told.ready.engine

  -- Request 103.
  pub library_examined : any takes_out (job_events (es ++ h)) ≡ false
      → (k : ℕ) → (search limits.bytes (map_of z.map (saved_globals z.globals).sizes).slots k).examined ≤ d.tuning.waiting_limit
  library_examined e k =
      subst (λ (m : MapState). (search limits.bytes m.slots k).examined ≤ d.tuning.waiting_limit)
      (map_in z.map z.logs (saved_core z.workers z.globals))
      (told_examined d good (reached_some z.map z.logs (saved_core z.workers z.globals) d (job_steps (requests_of (es ++ h))) state_left) all_told.tells e k)

-- Request 102.
pub library_apart : {d : Made} {es h : List Exchange} {a z : Library} → d.guarded ≡ true → Begun d es a → LibraryCalls a h z → NoOverlap (contents_in z.map z.globals)
library_apart {d} {es} {h} {z = z} t f q =
    reached_apart z.map z.logs (saved_core z.workers z.globals) d (job_steps (requests_of (es ++ h))) (state_left f q) (all_told f q).ready.engine t
