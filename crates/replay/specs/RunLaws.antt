-- One code of a run: what its words are, and what taking it makes of the run.
use Prim.Native.Nat.{ℕ, suc, ◌+◌, ◌-◌, ◌*◌, ◌<◌, ◌≤◌, zero-le}
use Rattle.std.proofs.Common.{arith, le_refl, le_trans, ◌∙◌, subst, drop-cons}
use Rattle.std.specs.Prelude.{Option as Optional, ◌≡◌, length, get_or, drop, Some, None}
use Rattle.std.proofs.Math.Path.{refl, sym, ap}
use mathlib.Core.List.{List, [], ◌∷◌, ◌++◌, append-nil}
use Rattle.std.proofs.Math.Option.{Option, none, some}
use Rattle.lists.specs.TestLaws.{less_yes, less_no}
use Rattle.lists.specs.Rows.{Row}
use Rattle.lists.specs.Texts.{Wrote}
use Rattle.spec.specs.Records.{Record}
use Rattle.spec.specs.Maps.{contents}
use Rattle.spec.specs.Steps.{Places, places, shortest, Answer, answer}
use Rattle.spec.specs.Files.{parsed}
use Rattle.spec.specs.Exports.{ExportStep, ExportAnswer as ModelAnswer, filed, export_of, export_answer, export_next, Exporting, job, exporting, Exchange, job_told, export_told, exchange, next_of}
use Rattle.calls.proofs.CallLaws.{map_in}
use Rattle.map.specs.Views.{Lent, map_of}
use Rattle.buffers.specs.Buffers.{counted_places, Buffers, places_of}
use Rattle.buffers.specs.BufferLaws.{unmoved_refl}
use Rattle.exports.specs.declared.Export.{Export}
use Rattle.exports.specs.declared.ops.ExportOp.{ExportOp}
use Rattle.exports.specs.declared.ops.ExportOp.TheVariants.{Open, Portion, File, Close}
use Rattle.exports.specs.Exporting.{ExportAnswer as Told, ExportedRows, export_in, ExportHeld, Space, space, export_answer_in, places_written, bytes_written, places_wanted, bytes_wanted, ExportStepped, export_step_in, LendsTo}
use Rattle.exports.specs.ReadBacks.{told_read_back}
use Rattle.transactions.specs.Cores.{Core}
use Rattle.transactions.specs.Views.{Logs, state_of}
use Rattle.transactions.specs.Ready.{Ready}
use Rattle.engine.specs.declared.steps.Op.{Op}
use Rattle.engine.specs.Performs.{Performed}
use Rattle.engine.specs.Performs.{step_in, reply_in}
use Rattle.codes.specs.declared.Code.{Code}
use Rattle.buffers.specs.declared.Places.{Places as PlaceCounts}
use Rattle.codes.specs.Codes.{Decoded, decoded, words_of}
use Rattle.codes.specs.CodeLaws.{meant_lends}
use Rattle.codes.specs.ExportCodes.{DecodedExport, decoded_export, export_words}
use Rattle.codes.specs.Words.{Roomy, ExportRoomy}
use Rattle.replay.specs.declared.stops.Stop.{Stop}
use Rattle.replay.specs.declared.stops.Stop.TheVariants as stop
use Rattle.replay.specs.CodedSteps.{PerformsFirst}
use Rattle.replay.specs.PartLaws.{performs_with}
use Rattle.replay.specs.ToldExports.{Tells, nothing_told}
use Rattle.replay.specs.ToldLaws.{tells_one, job_no_file, export_file}
use Rattle.replay.specs.Replays.{Asked, asked_job, asked_export, asked, Ran, ended, followed_by, step_words, code_of, longest_answer, told_words, ran, all_words, shown_by, filed_by, left_in, FilesFit, SpaceBecomes, Whole, whole, exporting_in, WholeReady}
use Rattle.replay.specs.ShownLaws.{room_left, places_left, places_kept, space_shown, reply_shown, export_shown, export_filed}

-- ---- codes

-- the code at place i
abbrev pub code_at : List ℕ → ℕ → Code
code_at ws i =
    code_of (get_or ws (step_words * i) 0) (get_or ws (step_words * i + 1) 0) (get_or ws (step_words * i + 2) 0)
    (get_or ws (step_words * i + 3) 0) (get_or ws (step_words * i + 4) 0) (get_or ws (step_words * i + 5) 0) (get_or ws (step_words * i + 6) 0)

-- a code in words, and the words after it
abbrev pub words_from : Code → List ℕ → List ℕ
words_from k ws = k.kind ∷ k.a ∷ k.b ∷ k.c ∷ k.d ∷ k.e ∷ k.f ∷ ws

drop_one : (ws : List ℕ) (i j : ℕ) (rest : List ℕ) → i < length ws → suc i ≡ j → drop j ws ≡ rest → drop i ws ≡ get_or ws i 0 ∷ rest
drop_one ws i j rest h e f = drop-cons ws i 0 h ∙ ap (λ (xs : List ℕ). get_or ws i 0 ∷ xs) (ap (λ (k : ℕ). drop k ws) e ∙ f)

pub drop_code : (ws : List ℕ) (i : ℕ) → step_words * i + step_words ≤ length ws
    → drop (step_words * i) ws ≡ words_from (code_at ws i) (drop (step_words * (i + 1)) ws)
drop_code ws i h =
    drop_one ws (step_words * i) (step_words * i + 1) _ (omega arith) (omega arith)
    (drop_one ws (step_words * i + 1) (step_words * i + 2) _ (omega arith) (omega arith)
    (drop_one ws (step_words * i + 2) (step_words * i + 3) _ (omega arith) (omega arith)
    (drop_one ws (step_words * i + 3) (step_words * i + 4) _ (omega arith) (omega arith)
    (drop_one ws (step_words * i + 4) (step_words * i + 5) _ (omega arith) (omega arith)
    (drop_one ws (step_words * i + 5) (step_words * i + 6) _ (omega arith) (omega arith)
    (drop_one ws (step_words * i + 6) (step_words * (i + 1)) _ (omega arith) (omega arith) refl))))))

-- ---- the run, by what its first code asks for

-- with so many places and bytes as are lent
abbrev pub ran_with : Space → Exporting → ℕ → List ℕ → Ran
ran_with s ξ room ws = ran (places_of s.portion) (length s.bytes) ξ room ws

abbrev asked_with : Space → Code → Option Asked
asked_with s k = asked (places_of s.portion) (length s.bytes) k

module _ (s : Space) (ξ : Exporting) (room : ℕ) (k : Code) (ws : List ℕ) where
  ran_unmeant : asked_with s k ≡ none → ran_with s ξ room (words_from k ws) ≡ ended stop.Meaningless ξ
  unfolding ran
  ran_unmeant e = rw e

  ran_full : (q : Asked) → asked_with s k ≡ some q → room < longest_answer q.wants → ran_with s ξ room (words_from k ws) ≡ ended stop.Full ξ
  unfolding ran
  ran_full q e h = rw (e, less_yes h)

  ran_meant : (q : Asked) → asked_with s k ≡ some q → longest_answer q.wants ≤ room
      → ran_with s ξ room (words_from k ws)
      ≡ followed_by (exchange ξ q.request) (ran_with s (next_of ξ q.request) (room - length (told_words (exchange ξ q.request))) ws)
  unfolding ran
  ran_meant q e h = rw (e, less_no h)

-- what a job's code asks for
abbrev asked_op : Op → Places → Asked
asked_op o w = record { request = job (step_in o w); wants = w }

abbrev asked_step : ExportOp → Places → Asked
asked_step o w = record { request = exporting (export_step_in o w); wants = w }

module _ (k : Code) {d : Decoded} (m : Places) (n : ℕ) (j : k.kind < 11) (e : d ≡ decoded m k) where
  job_none : d ≡ None → asked m n k ≡ none
  unfolding asked
  job_none u = rw (less_yes j) (ap asked_job (sym e ∙ u))

  job_some : {o : Op} {w : PlaceCounts} → d ≡ Some (o, w) → asked m n k ≡ some (asked_op o (counted_places w))
  unfolding asked
  job_some u = rw (less_yes j) (ap asked_job (sym e ∙ u))

module _ (k : Code) {d : DecodedExport} (m : Places) (n : ℕ) (j : 11 ≤ k.kind) (e : d ≡ decoded_export m n k) where
  export_none : d ≡ None → asked m n k ≡ none
  unfolding asked
  export_none u = rw (less_no j) (ap asked_export (sym e ∙ u))

  export_some : {o : ExportOp} {w : PlaceCounts} → d ≡ Some (o, w) → asked m n k ≡ some (asked_step o (counted_places w))
  unfolding asked
  export_some u = rw (less_no j) (ap asked_export (sym e ∙ u))

-- ---- one code

-- some steps, and then the rest of a run
abbrev pub all_followed_by : List Exchange → Ran → Ran
all_followed_by es r = record { told = es ++ r.told; stop = r.stop; after = r.after }

-- ... which goes on if the code was taken
abbrev pub chained : List Exchange → Stop → Exporting → Ran → Ran
chained es stop.Complete ξ r = all_followed_by es r
chained es stop.Meaningless ξ r = record { told = es; stop = stop.Meaningless; after = ξ }
chained es stop.Full ξ r = record { told = es; stop = stop.Full; after = ξ }

-- how many steps are taken
abbrev pub tally : Stop → ℕ
tally stop.Complete = 1
tally stop.Meaningless = 0
tally stop.Full = 0

-- One code: all that it goes over, the lent space, the answer buffer and the place before it, those after it and whether it was
-- taken; and the steps taken, none or one.
pub record TakesCode (h : Whole) (k : Code) (s : Space) (out : List ℕ) (at : ℕ) (h' : Whole) (s' : Space) (out' : List ℕ) (next : ℕ) (t : Stop) : Type 0 where
  pub told : List Exchange
  pub ready : WholeReady h'
  pub wrote : Wrote out at (all_words told) out' next
  pub run :
      (ws : List ℕ) → ran_with s (exporting_in h) (length out - at) (words_from k ws)
      ≡ chained told t (exporting_in h') (ran_with s (exporting_in h') (length out - next) ws)
  pub count : length told ≡ tally t
  pub space : SpaceBecomes told s s'
  pub tells : Tells (exporting_in h) told (exporting_in h')

wrote_nothing : (out : List ℕ) (at : ℕ) → at ≤ length out → Wrote out at (all_words []) out at
unfolding all_words
wrote_nothing out at h = record { written = refl; within = omega arith; place = omega arith }

module _ {h : Whole} {k : Code} (s : Space) (out : List ℕ) (at : ℕ) (r : WholeReady h) (i : at ≤ length out) where
  -- no step is taken
  not_taken : (x : Stop) → 0 ≡ tally x
      → ((ws : List ℕ) → ran_with s (exporting_in h) (length out - at) (words_from k ws)
      ≡ chained [] x (exporting_in h) (ran_with s (exporting_in h) (length out - at) ws))
      → TakesCode h k s out at h s out at x
  unfolding left_in FilesFit
  not_taken x z f =
      record {
        told = [];
        ready = r;
        wrote = wrote_nothing out at i;
        run = f;
        count = z;
        space = record { addresses = refl; values = refl; owners = refl; bytes = refl; fits = tt };
        tells = nothing_told;
      }

  code_unmeant : asked_with s k ≡ none → TakesCode h k s out at h s out at stop.Meaningless
  code_unmeant e = not_taken stop.Meaningless refl (λ ws. ran_unmeant s (exporting_in h) (length out - at) k ws e)

  code_full : (q : Asked) → asked_with s k ≡ some q → length out - at < longest_answer q.wants → TakesCode h k s out at h s out at stop.Full
  code_full q e f = not_taken stop.Full refl (λ ws. ran_full s (exporting_in h) (length out - at) k ws q e f)

-- a step is taken
code_taken : {h h' : Whole} {k : Code} {s s' : Space} {out out' : List ℕ} {at j : ℕ} (q : Asked) → asked_with s k ≡ some q → longest_answer q.wants ≤ length out - at
    → WholeReady h' → exporting_in h' ≡ next_of (exporting_in h) q.request
    → Wrote out at (told_words (exchange (exporting_in h) q.request)) out' j → SpaceBecomes (exchange (exporting_in h) q.request ∷ []) s s'
    → ((t : ExportStep) (bs : List ℕ) → exchange (exporting_in h) q.request ≡ export_told t (filed bs) → parsed bs ≡ some (export_of (export_in h.exported h.export)).records)
    → TakesCode h k s out at h' s' out' j stop.Complete
unfolding all_words
code_taken {h} {h'} {k} {s} {s'} {out} {out'} {at} {j} q e f r n w b p =
    let ξ = exporting_in h in
    let x = exchange ξ q.request in
    let place : j ≡ at + length (told_words (exchange ξ q.request)) = w.place in
    let left : length out - at - length (told_words (exchange ξ q.request)) ≡ length out - j = omega arith in
    record {
      told = x ∷ [];
      ready = r;
      wrote = subst (λ (t : List ℕ). Wrote out at t out' j) (sym (append-nil (told_words x))) w;
      run =
          λ ws. ran_meant s ξ (length out - at) k ws q e f
          ∙ ap (λ (ζ : Exporting). followed_by x (ran_with s ζ (length out - at - length (told_words x)) ws)) (sym n)
          ∙ ap (λ (n : ℕ). followed_by x (ran_with s (exporting_in h') n ws)) left;
      count = refl;
      space = b;
      tells = tells_one q.request n p;
    }

-- ---- a job's

module _ {l : Lent} {g : Logs} {c : Core} (k : Code) {d : Decoded} (b : Buffers) (out : List ℕ) (at : ℕ) (ready : Ready l g c) (i : at ≤ length out) (small : k.kind < 11)
    (e : d ≡ decoded (places_of b) k)
  where
    pub job_unmeant : d ≡ None → (xs : ExportedRows) (x : Optional Export) (bs : List ℕ) → ExportHeld x
        → TakesCode (whole l g c xs x) k (space b bs) out at (whole l g c xs x) (space b bs) out at stop.Meaningless
    job_unmeant u xs x bs h =
        code_unmeant (space b bs) out at (record { engine = ready; export = h }) i (job_none k (places_of b) (length bs) small e u)

    module _ {o : Op} {w : PlaceCounts} (u : d ≡ Some (o, w)) where
      pub job_full : length out - at < longest_answer (counted_places w) → (xs : ExportedRows) (x : Optional Export) (bs : List ℕ) → ExportHeld x
          → TakesCode (whole l g c xs x) k (space b bs) out at (whole l g c xs x) (space b bs) out at stop.Full
      job_full f xs x bs h =
          code_full (space b bs) out at (record { engine = ready; export = h }) i (asked_op o (counted_places w)) (job_some k (places_of b) (length bs) small e u) f

      module _ {l' : Lent} {g' : Logs} {b' : Buffers} (p : Performed) (f : longest_answer (counted_places w) ≤ length out - at)
          (z : PerformsFirst l g c o (counted_places w) b l' g' b' p)
        where
          -- room for the reply
          pub job_roomy : Roomy p.reply b' out at
          job_roomy =
              let v = counted_places w in
              let n = meant_lends (places_of b) k e u in
              let y = performs_with n z in
              record { places = places_kept b b' (places_left v b y.few n) y.beyond; words = room_left v out y.few i f }

          pub job_taken : {out' : List ℕ} {j : ℕ} → Wrote out at (words_of (reply_in p.reply b')) out' j → (xs : ExportedRows) (x : Optional Export) (bs : List ℕ) → ExportHeld x
              → TakesCode (whole l g c xs x) k (space b bs) out at (whole l' g' p.core xs x) (space b' bs) out' j stop.Complete
          unfolding exchange next_of told_words shown_by filed_by
          job_taken {out'} {j} wrote xs x bs h =
              let v = counted_places w in
              let lends = meant_lends (places_of b) k e u in
              let y = performs_with lends z in
              let σ = state_of l g c in
              let a : reply_in p.reply b' ≡ answer σ (step_in o v) = y.refines.says in
              code_taken (asked_op o v) (job_some k (places_of b) (length bs) small e u) f
              (record { engine = y.refines.ready; export = h })
              (λ i. record { state = y.refines.state i; export = export_in xs x })
              (subst (λ (r : Answer). Wrote out at (words_of r) out' j) a wrote)
              (subst (λ (r : Answer). SpaceBecomes (job_told (record { step = step_in o v; answer = r }) ∷ []) (space b bs) (space b' bs)) a
              (space_shown (job_told (record { step = step_in o v; answer = reply_in p.reply b' })) (space b bs) (space b' bs) _ 0
              (reply_shown p.reply b') refl (places_left v b y.few lends) y.beyond zero-le (unmoved_refl 0 bs)))
              (λ t y q. job_no_file (exporting_in (whole l g c xs x)) (step_in o v) t y q)

-- ---- an export's

-- no more is written than the step wants, and than is lent
wanted_places : (o : ExportOp) (w : Places) → places_wanted (export_step_in o w) ≤ shortest w
unfolding places_wanted
wanted_places Open w = zero-le
wanted_places Portion w = le_refl (shortest w)
wanted_places (File n) w = zero-le
wanted_places Close w = zero-le

wanted_bytes : (s : Space) (o : ExportOp) (w : Places) → LendsTo s o w → bytes_wanted (export_step_in o w) ≤ length s.bytes
unfolding bytes_wanted
wanted_bytes s Open w h = zero-le
wanted_bytes s Portion w h = zero-le
wanted_bytes s (File n) w h = h.bytes n refl
wanted_bytes s Close w h = zero-le

module _ {rs : List (Row Record)} {xs xs' : ExportedRows} {x x' : Optional Export} {s s' : Space} {p : Told} (o : ExportOp) where
  few_places : (w : Places) → ExportStepped rs (export_step_in o w) xs x s xs' x' s' p → places_written p ≤ shortest w
  few_places w z = le_trans z.few_places (wanted_places o w)

  few_bytes : {w : Places} → LendsTo s o w → ExportStepped rs (export_step_in o w) xs x s xs' x' s' p → bytes_written p ≤ length s.bytes
  few_bytes {w} h z = le_trans z.few_bytes (wanted_bytes s o w h)

module _ (k : Code) {d : DecodedExport} {xs : ExportedRows} {x : Optional Export} (rs : List (Row Record)) (s : Space) (out : List ℕ) (at : ℕ) (held : ExportHeld x) (i : at ≤ length out)
    (large : 11 ≤ k.kind) (e : d ≡ decoded_export (places_of s.portion) (length s.bytes) k)
  where
    pub export_unmeant : d ≡ None → (l : Lent) (g : Logs) (c : Core) → Ready l g c → contents (map_of l c.sizes) ≡ rs
        → TakesCode (whole l g c xs x) k s out at (whole l g c xs x) s out at stop.Meaningless
    export_unmeant u l g c r q =
        code_unmeant s out at (record { engine = r; export = held }) i (export_none k (places_of s.portion) (length s.bytes) large e u)

    module _ {o : ExportOp} {w : PlaceCounts} (u : d ≡ Some (o, w)) where
      pub export_full : length out - at < longest_answer (counted_places w) → (l : Lent) (g : Logs) (c : Core) → Ready l g c → contents (map_of l c.sizes) ≡ rs
          → TakesCode (whole l g c xs x) k s out at (whole l g c xs x) s out at stop.Full
      export_full f l g c r z =
          code_full s out at (record { engine = r; export = held }) i (asked_step o (counted_places w)) (export_some k (places_of s.portion) (length s.bytes) large e u) f

      module _ {xs' : ExportedRows} {x' : Optional Export} {s' : Space} {p : Told} (f : longest_answer (counted_places w) ≤ length out - at) (lends : LendsTo s o (counted_places w))
          (z : ExportStepped rs (export_step_in o (counted_places w)) xs x s xs' x' s' p)
        where
          -- room for the answer
          pub export_roomy : ExportRoomy p s'.portion out at
          export_roomy =
              let v = counted_places w in
              let few = few_places o v z in
              record { places = places_kept s.portion s'.portion (places_left v s.portion few lends.places) z.places; words = room_left v out few i f }

          bytes_left : bytes_written p ≤ length s'.bytes
          bytes_left =
              let n : length s'.bytes ≡ length s.bytes = z.bytes.size in
              let h : bytes_written p ≤ length s.bytes = few_bytes o lends z in
              omega arith

          pub export_taken : {out' : List ℕ} {j : ℕ}
              → ((bs : List ℕ) → bytes_written p ≤ length bs → Wrote out at (export_words (export_answer_in p (space s'.portion bs))) out' j)
              → (l : Lent) (g : Logs) (c : Core) → Ready l g c → contents (map_of l c.sizes) ≡ rs
              → TakesCode (whole l g c xs x) k s out at (whole l g c xs' x') s' out' j stop.Complete
          unfolding exchange next_of told_words shown_by filed_by
          export_taken {out'} {j} wrote l g c r same =
              let v = counted_places w in
              let t = export_step_in o v in
              let now : rs ≡ contents (state_of l g c).map = sym (ap contents (map_in l g c) ∙ same) in
              let a : export_answer_in p s' ≡ export_answer (contents (state_of l g c).map) (export_in xs x) t
              = z.answer_is ∙ ap (λ (cs : List (Row Record)). export_answer cs (export_in xs x) t) now in
              let next : export_in xs' x' ≡ export_next (contents (state_of l g c).map) (export_in xs x) t
              = z.next_is ∙ ap (λ (cs : List (Row Record)). export_next cs (export_in xs x) t) now in
              code_taken (asked_step o v) (export_some k (places_of s.portion) (length s.bytes) large e u) f
              (record { engine = r; export = z.held })
              (λ i. record { state = state_of l g c; export = next i })
              (subst (λ (y : ModelAnswer). Wrote out at (export_words y) out' j) a (wrote s'.bytes bytes_left))
              (subst (λ (y : ModelAnswer). SpaceBecomes (export_told t y ∷ []) s s') a
              (space_shown (export_told t (export_answer_in p s')) s s' _ _ (export_shown p s') (export_filed p s')
              (places_left v s.portion (few_places o v z) lends.places) z.places (few_bytes o lends z) z.bytes))
              (λ y bs q. told_read_back (contents (state_of l g c).map) xs x t bs held (export_file (exporting_in (whole l g c xs x)) t y bs q))
