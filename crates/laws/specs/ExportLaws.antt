-- Request 107: jobs and exports side by side. Jobs do not see an export, and an open export does not see jobs: its portions,
-- until nothing remains, are together what it was at its opening.
use Rattle.std.specs.Prelude.{ℕ, zero, suc, ◌+◌, ◌≡◌, refl, Bool, true, false, List, [], ◌∷◌, ◌++◌, length, take, drop}
use Rattle.std.proofs.Common.{sym, ap, ◌∙◌, subst, append_assoc, append-nil, drop-drop}
use Rattle.std.proofs.Math.Option.{Option, none, some}
use Rattle.lists.specs.Tests.{pick, maybe}
use Rattle.lists.specs.TestLaws.{clash}
use Rattle.lists.specs.Rows.{Row, any}
use Rattle.spec.specs.declared.Refusal.{Refusal}
use Rattle.spec.specs.Records.{Payload, Record}
use Rattle.spec.specs.Maps.{contents}
use Rattle.spec.specs.Steps.{State, Places, shortest, Step, final, history, Event, answer, next, first_cause}
use Rattle.spec.specs.Exports.{Export, unstamped, remaining, ExportStep, open_export, portion, file, close_export, ExportAnswer, declined, export_of, export_causes, export_refusal, export_granted, export_effect, portion_of, after_portion, export_answer, export_next, Exporting, Request, job, exporting, Exchange, contents_now, exchange, next_of, final_of, exchanges, job_steps, job_events, records_given, portions_given, is_close}

-- ---- jobs beside exports

-- the events of jobs are those of a run without exports
pub jobs_alone : (ξ : Exporting) (rs : List Request) → job_events (exchanges ξ rs) ≡ history ξ.state (job_steps rs)
unfolding exchanges exchange next_of job_events job_steps history
jobs_alone ξ [] = refl
jobs_alone ξ (job s ∷ rs) =
    ap (λ (h : List Event). record { step = s; answer = answer ξ.state s } ∷ h) (jobs_alone (next_of ξ (job s)) rs)
jobs_alone ξ (exporting s ∷ rs) = jobs_alone (next_of ξ (exporting s)) rs

-- and so is the state after them
pub jobs_final : (ξ : Exporting) (rs : List Request) → (final_of ξ rs).state ≡ final ξ.state (job_steps rs)
unfolding final_of next_of job_steps final
jobs_final ξ [] = refl
jobs_final ξ (job s ∷ rs) = jobs_final (next_of ξ (job s)) rs
jobs_final ξ (exporting s ∷ rs) = jobs_final (next_of ξ (exporting s)) rs

-- ---- portions

seam : {A : Type 0} (k : ℕ) (l : List A) → take k l ++ drop (length (take k l)) l ≡ l
seam zero l = refl
seam (suc k) [] = refl
seam (suc k) (x ∷ l) = ap (λ (t : List _). x ∷ t) (seam k l)

-- what a portion gives and what then remains are what remained
portion_parts : (x : Export) (b : Places) → portion_of x b ++ remaining (after_portion x b) ≡ remaining x
portion_parts x b =
    ap (λ (t : List (Row Payload)). portion_of x b ++ t) (sym (drop-drop (length (portion_of x b)) x.taken x.records))
    ∙ seam (shortest b) (remaining x)

-- One step of an open export that does not close it, with these contents of the map.
record Goes (rs : List (Row Record)) (x : Export) (s : ExportStep) : Type 0 where
  left : Export
  next_is : export_next rs (some x) s ≡ some left
  records : left.records ≡ x.records
  parts : records_given (export_answer rs (some x) s) ++ remaining left ≡ remaining x

file_goes : (rs : List (Row Record)) (x : Export) (n : ℕ) (r : Option Refusal) → export_refusal (some x) (file n) ≡ r → Goes rs x (file n)
unfolding export_next export_answer export_granted export_effect records_given
file_goes rs x n none e =
    record {
      left = x;
      next_is = ap (λ (o : Option Refusal). maybe o (some x) (λ (r : Refusal). some x)) e;
      records = refl;
      parts = ap (λ (o : Option Refusal). records_given (maybe o (export_granted rs (some x) (file n)) declined) ++ remaining x) e;
    }
file_goes rs x n (some r) e =
    record {
      left = x;
      next_is = ap (λ (o : Option Refusal). maybe o (some x) (λ (r : Refusal). some x)) e;
      records = refl;
      parts = ap (λ (o : Option Refusal). records_given (maybe o (export_granted rs (some x) (file n)) declined) ++ remaining x) e;
    }

goes : (rs : List (Row Record)) (x : Export) (s : ExportStep) → is_close (exporting s) ≡ false → Goes rs x s
unfolding export_next export_answer export_refusal export_causes export_granted export_effect first_cause records_given export_of is_close
goes rs x open_export e = record { left = x; next_is = refl; records = refl; parts = refl }
goes rs x (portion b) e = record { left = after_portion x b; next_is = refl; records = refl; parts = portion_parts x b }
goes rs x (file n) e = file_goes rs x n (export_refusal (some x) (file n)) refl
goes rs x close_export e = clash refl e

-- What is left of an open export after some steps, none of which closes it: its records are the same, and what portions gave
-- meanwhile, with what remains, is what remained before.
pub record Portioned (ξ : Exporting) (x : Export) (rs : List Request) : Type 0 where
  pub left : Export
  pub still_open : (final_of ξ rs).export ≡ some left
  pub records : left.records ≡ x.records
  pub parts : portions_given (exchanges ξ rs) ++ remaining left ≡ remaining x

neither : (a b : Bool) → pick a true b ≡ false → (a ≡ false) × (b ≡ false)
neither true b e = clash refl e
neither false b e = (refl, e)

pub portioned : (σ : State) (x : Export) (rs : List Request) → any is_close rs ≡ false → Portioned (record { state = σ; export = some x }) x rs
unfolding final_of exchanges next_of exchange portions_given any is_close
portioned σ x [] e = record { left = x; still_open = refl; records = refl; parts = refl }
portioned σ x (job s ∷ rs) e =
    let h = portioned (next σ s) x rs (neither false (any is_close rs) e).1 in
    record { left = h.left; still_open = h.still_open; records = h.records; parts = h.parts }
portioned σ x (exporting s ∷ rs) e =
    let g = goes (contents σ.map) x s (neither (is_close (exporting s)) (any is_close rs) e).0 in
    let h = portioned σ g.left rs (neither (is_close (exporting s)) (any is_close rs) e).1 in
    let ξ : Exporting = record { state = σ; export = some g.left } in
    let q : next_of (record { state = σ; export = some x }) (exporting s) ≡ ξ = λ i. record { state = σ; export = g.next_is i } in
    record {
      left = h.left;
      still_open = ap (λ (ζ : Exporting). (final_of ζ rs).export) q ∙ h.still_open;
      records = h.records ∙ g.records;
      parts =
          ap (λ (ζ : Exporting). records_given (export_answer (contents σ.map) (some x) s) ++ portions_given (exchanges ζ rs) ++ remaining h.left) q
          ∙ append_assoc (records_given (export_answer (contents σ.map) (some x) s)) (portions_given (exchanges ξ rs)) (remaining h.left)
          ∙ ap (λ (t : List (Row Payload)). records_given (export_answer (contents σ.map) (some x) s) ++ t) h.parts
          ∙ g.parts;
    }
