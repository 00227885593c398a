-- Request 107: demand 3 with export steps anywhere in the list; what the portions of an export are together; and what an export
-- is that was opened after some steps.
use Rattle.std.specs.Prelude.{ℕ, ◌≡◌, refl, false, List, [], ◌∷◌, ◌++◌, length}
use Rattle.std.proofs.Common.{sym, ap, ◌∙◌, subst, append-nil}
use Rattle.std.proofs.Math.Option.{Option, none, some}
use Rattle.lists.specs.Tests.{maybe}
use Rattle.lists.specs.Rows.{Row, any}
use Rattle.spec.specs.Records.{Made, Payload, Record}
use Rattle.spec.specs.Maps.{contents}
use Rattle.spec.specs.Steps.{State, fresh, final, history, Event, first_cause}
use Rattle.spec.specs.Claim.{SerialRun}
use Rattle.spec.specs.Exports.{Export, unstamped, remaining, open_export, ExportAnswer, opened, export_of, export_causes, export_refusal, export_granted, export_effect, export_answer, export_next, Exporting, Request, exporting, Exchange, export_told, contents_now, exchange, next_of, final_of, exchanges, starting_at, job_steps, job_events, records_given, portions_given, is_close, remaining_of, listed_then, PortionsWhole, OpenedSerial}
use Rattle.spec.specs.GoodTuning.{GoodTuning}
use Rattle.laws.specs.ExportLaws.{jobs_alone, jobs_final, Portioned, portioned}
use Rattle.serial.specs.Theorem.{every_run_is_serial}

-- The claim of demand 3, whatever export steps stand between: of the jobs' steps with their answers, and the contents.
pub exports_serial : (d : Made) → GoodTuning d.tuning → (rs : List Request)
    → SerialRun (job_events (exchanges (starting_at (fresh d)) rs)) (contents_now (final_of (starting_at (fresh d)) rs))
exports_serial d k rs =
    let ξ = starting_at (fresh d) in
    subst (λ (es : List Event). SerialRun es (contents_now (final_of ξ rs))) (sym (jobs_alone ξ rs))
    (subst (λ (σ : State). SerialRun (history (fresh d) (job_steps rs)) (contents σ.map)) (sym (jobs_final ξ rs))
    (every_run_is_serial d k (job_steps rs)))

-- ---- opening

abbrev opened_at : Exporting → Export
opened_at ξ = record { records = unstamped (contents_now ξ); taken = 0 }

answered_open : (rs : List (Row Record)) (x : Option Export) → x ≡ none → export_answer rs x open_export ≡ opened (length rs)
unfolding export_answer export_refusal export_causes first_cause export_granted
answered_open rs x e = ap (λ (y : Option Export). export_answer rs y open_export) e

next_open : (ξ : Exporting) → ξ.export ≡ none → next_of ξ (exporting open_export) ≡ record { state = ξ.state; export = some (opened_at ξ) }
unfolding next_of export_next export_refusal export_causes first_cause export_effect
next_open ξ e = λ i. record { state = ξ.state; export = export_next (contents_now ξ) (e i) open_export }

-- What the request says of an export's beginning.
pub opened_serial : (d : Made) → GoodTuning d.tuning → (rs : List Request) → (final_of (starting_at (fresh d)) rs).export ≡ none → OpenedSerial (starting_at (fresh d)) rs
unfolding exchange export_of
opened_serial d k rs e =
    let ξ = starting_at (fresh d) in
    let ζ = final_of ξ rs in
    let q : contents_now ζ ≡ listed_then ξ rs = sym (exports_serial d k rs).same_contents in
    record {
      answered =
          ap (export_told open_export) (answered_open (contents_now ζ) ζ.export e)
          ∙ ap (λ (l : List (Row Record)). export_told open_export (opened (length l))) q;
      records = ap (λ (η : Exporting). (export_of η.export).records) (next_open ζ e) ∙ ap unstamped q;
    }

-- ---- portions

-- Whatever buffers the portions had, and whatever steps came between.
pub portions_whole : (ξ : Exporting) (rs : List Request) → ξ.export ≡ none → any is_close rs ≡ false → PortionsWhole ξ rs
unfolding exchanges exchange final_of portions_given records_given export_of
portions_whole ξ rs e c =
    let ζ : Exporting = record { state = ξ.state; export = some (opened_at ξ) } in
    let n = next_open ξ e in
    let h = portioned ξ.state (opened_at ξ) rs c in
    record {
      whole = λ r.
          let left : remaining h.left ≡ []
          = sym (ap (λ (x : Option Export). remaining (export_of x)) h.still_open) ∙ ap (λ (η : Exporting). remaining_of (final_of η rs)) (sym n) ∙ r in
          ap (λ (a : ExportAnswer). records_given a ++ portions_given (exchanges (next_of ξ (exporting open_export)) rs)) (answered_open (contents_now ξ) ξ.export e)
          ∙ ap (λ (η : Exporting). portions_given (exchanges η rs)) n
          ∙ sym (append-nil (portions_given (exchanges ζ rs)))
          ∙ ap (λ (l : List (Row Payload)). portions_given (exchanges ζ rs) ++ l) (sym left)
          ∙ h.parts;
    }
