-- The laws of exchanges one after the other: joined, cut, and what they tell of exports.
use Rattle.std.specs.Prelude.{ℕ, suc, ◌≡◌, Bool, length}
use Rattle.std.proofs.Common.{arith, ◌∙◌, subst}
use Rattle.std.proofs.Math.Path.{refl, sym, ap}
use Rattle.std.proofs.Math.Bool.{true, false}
use mathlib.Core.List.{List, [], ◌∷◌, ◌++◌, append_assoc, append-nil}
use Rattle.std.proofs.Math.Option.{Option, none, some}
use Rattle.lists.specs.Tests.{pick, maybe, present, less}
use Rattle.lists.specs.TestLaws.{clash}
use Rattle.lists.specs.Rows.{Row, any, map_items}
use Rattle.lists.specs.Options.{both_options, some_same}
use Rattle.spec.specs.declared.Refusal.{Refusal}
use Rattle.spec.specs.declared.Refusal.TheVariants.{ShortBuffer}
use Rattle.spec.specs.Records.{Made, Payload, Record}
use Rattle.spec.specs.Steps.{Step, fresh, final, first_cause}
use Rattle.spec.specs.Claim.{SerialRun}
use Rattle.spec.specs.Files.{file_of, file_size, parsed}
use Rattle.spec.specs.Exports.{Export, unstamped, remaining, ExportStep, open_export, portion, file, close_export, ExportAnswer, declined, opened, given, filed, closed, export_of, export_causes, export_refusal, export_granted, export_effect, export_answer, export_next, Exporting, Request, job, exporting, Exchange, job_told, export_told, contents_now, exchange, next_of, final_of, exchanges, starting_at, job_steps, job_events, records_given, portions_given, is_close, remaining_of}
use Rattle.spec.specs.GoodTuning.{GoodTuning}
use Rattle.laws.specs.ExportLaws.{jobs_final}
use Rattle.serial.specs.ExportRuns.{exports_serial, portions_whole}
use Rattle.replay.specs.ToldExports.{request_of, requests_of, Tells, nothing_told, told_next, remains_by, remains_told, present_after, listed_after, OpenAfter, PortionsTold, OpenedTold, FilesTold}

-- ---- joined and cut

pub tells_answers : {ξ ζ : Exporting} {es : List Exchange} → Tells ξ es ζ → exchanges ξ (requests_of es) ≡ es
unfolding exchanges
tells_answers nothing_told = refl
tells_answers (told_next a r t) = λ i. a i ∷ tells_answers t i

pub tells_final : {ξ ζ : Exporting} {es : List Exchange} → Tells ξ es ζ → final_of ξ (requests_of es) ≡ ζ
unfolding final_of
tells_final nothing_told = refl
tells_final (told_next a r t) = tells_final t

pub tells_join : {ξ η ζ : Exporting} {es fs : List Exchange} → Tells ξ es η → Tells η fs ζ → Tells ξ (es ++ fs) ζ
tells_join nothing_told k = k
tells_join (told_next a r t) k = told_next a r (tells_join t k)

-- the jobs' part of the state after them
pub tells_state : {ξ ζ : Exporting} {es : List Exchange} → Tells ξ es ζ → ζ.state ≡ final ξ.state (job_steps (requests_of es))
tells_state {ξ} {es = es} t = ap (λ (η : Exporting). η.state) (sym (tells_final t)) ∙ jobs_final ξ (requests_of es)

-- demand 3 of them
pub tells_serial : {ζ : Exporting} {es : List Exchange} (d : Made) → GoodTuning d.tuning → Tells (starting_at (fresh d)) es ζ → SerialRun (job_events es) (contents_now ζ)
tells_serial {ζ} {es} d k t =
    subst (λ (η : Exporting). SerialRun (job_events es) (contents_now η)) (tells_final t)
    (subst (λ (l : List Exchange). SerialRun (job_events l) (contents_now (final_of (starting_at (fresh d)) (requests_of es)))) (tells_answers t)
    (exports_serial d k (requests_of es)))

-- an exchange is of its request
request_of_lem : (ξ : Exporting) (q : Request) → request_of (exchange ξ q) ≡ q
unfolding exchange
request_of_lem ξ (job s) = refl
request_of_lem ξ (exporting s) = refl

-- one of them
pub tells_one : {ξ ζ : Exporting} (q : Request) → ζ ≡ next_of ξ q
    → ((s : ExportStep) (bs : List ℕ) → exchange ξ q ≡ export_told s (filed bs) → parsed bs ≡ some (export_of ξ.export).records)
    → Tells ξ (exchange ξ q ∷ []) ζ
tells_one {ξ} {ζ} q n r =
    let e = request_of_lem ξ q in
    told_next (ap (exchange ξ) e) r (subst (λ (η : Exporting). Tells (next_of ξ (request_of (exchange ξ q))) [] η) (ap (next_of ξ) e ∙ sym n) nothing_told)

record Cut (ξ : Exporting) (es fs : List Exchange) (ζ : Exporting) : Type 0 where
  between : Exporting
  first : Tells ξ es between
  second : Tells between fs ζ

tells_cut : {ξ ζ : Exporting} (es fs : List Exchange) → Tells ξ (es ++ fs) ζ → Cut ξ es fs ζ
tells_cut {ξ} [] fs t = record { between = ξ; first = nothing_told; second = t }
tells_cut {ξ = ξ} (e ∷ es) fs (told_next a r t) =
    let c = tells_cut {ξ = next_of ξ (request_of e)} es fs t in
    record { between = c.between; first = told_next a r c.first; second = c.second }

-- ---- one step of an export

-- what is told of a granted opening, and of a file
abbrev count_in : Exchange → Option ℕ
count_in (job_told e) = none
count_in (export_told s (declined r)) = none
count_in (export_told s (opened n)) = some n
count_in (export_told s (given rs n)) = none
count_in (export_told s (filed bs)) = none
count_in (export_told s closed) = none

abbrev bytes_in : Exchange → Option (List ℕ)
bytes_in (job_told e) = none
bytes_in (export_told s (declined r)) = none
bytes_in (export_told s (opened n)) = none
bytes_in (export_told s (given rs n)) = none
bytes_in (export_told s (filed bs)) = some bs
bytes_in (export_told s closed) = none

-- the answer of an exchange
abbrev answer_in : ExportAnswer → Exchange → ExportAnswer
answer_in d (job_told e) = d
answer_in d (export_told s a) = a

-- no job tells bytes
pub job_no_file : {A : Type 0} (ξ : Exporting) (j : Step) (s : ExportStep) (bs : List ℕ) → exchange ξ (job j) ≡ export_told s (filed bs) → A
unfolding exchange
job_no_file ξ j s bs e = both_options (ap bytes_in e) refl

pub export_file : (ξ : Exporting) (j s : ExportStep) (bs : List ℕ) → exchange ξ (exporting j) ≡ export_told s (filed bs)
    → export_answer (contents_now ξ) ξ.export j ≡ filed bs
unfolding exchange
export_file ξ j s bs e = ap (answer_in (filed bs)) e

-- what a granted opening tells
record Openable (rs : List (Row Record)) (o : Option Export) (n : ℕ) : Type 0 where
  none_open_lem : o ≡ none
  count_is : n ≡ length rs

openable : (rs : List (Row Record)) (o : Option Export) (n : ℕ) → export_told open_export (export_answer rs o open_export) ≡ export_told open_export (opened n) → Openable rs o n
unfolding export_answer export_refusal export_causes first_cause export_granted
openable rs none n e = record { none_open_lem = refl; count_is = some_same (sym (ap count_in e)) }
openable rs (some x) n e = both_options (ap count_in e) refl

opens_some : (rs : List (Row Record)) (o : Option Export) → present (export_next rs o open_export) ≡ true
unfolding export_next export_refusal export_causes first_cause export_effect
opens_some rs none = refl
opens_some rs (some x) = refl

-- an opening leaves the contents, or what was open
opens_with : (rs : List (Row Record)) (o : Option Export) → o ≡ none → (export_of (export_next rs o open_export)).records ≡ unstamped rs
unfolding export_next export_refusal export_causes first_cause export_effect export_of
opens_with rs o e = ap (λ (o : Option Export). (export_of (export_next rs o open_export)).records) e

-- a file is told of an open export
file_open : (rs : List (Row Record)) (o : Option Export) (n : ℕ) (bs : List ℕ)
    → export_told (file n) (export_answer rs o (file n)) ≡ export_told (file n) (filed bs) → present o ≡ true
unfolding export_answer export_refusal export_causes first_cause
file_open rs none n bs e = both_options (ap bytes_in e) refl
file_open rs (some x) n bs e = refl

length_items : {A B : Type 0} (f : A → B) (l : List (Row A)) → length (map_items f l) ≡ length l
unfolding map_items
length_items f [] = refl
length_items f (x ∷ l) = ap suc (length_items f l)

-- ---- what remains

-- the test of a file's bytes
abbrev tested : Export → Bool → Option Refusal
tested x b = pick b (some ShortBuffer) none

module _ (rs : List (Row Record)) where
  file_remains : (x : Export) (n : ℕ) (b : Bool)
      → remains_by (length (remaining x)) (maybe (tested x b) (filed (file_of x.records)) declined)
      ≡ length (remaining (export_of (maybe (tested x b) (some x) (λ (r : Refusal). some x))))
  unfolding remains_by export_of
  file_remains x n true = refl
  file_remains x n false = refl

  remains_by_lem : (o : Option Export) (s : ExportStep)
      → remains_by (length (remaining (export_of o))) (export_answer rs o s) ≡ length (remaining (export_of (export_next rs o s)))
  unfolding remains_by export_answer export_next export_refusal export_causes first_cause export_granted export_effect export_of
  remains_by_lem none open_export = sym (length_items (λ (r : Record). r.payload) rs)
  remains_by_lem (some x) open_export = refl
  remains_by_lem none (portion b) = refl
  remains_by_lem (some x) (portion b) = refl
  remains_by_lem none (file n) = refl
  remains_by_lem (some x) (file n) = file_remains x n (less n (file_size x.records))
  remains_by_lem none close_export = refl
  remains_by_lem (some x) close_export = refl

-- what was told to remain remains
remains_next : (ξ ζ : Exporting) (es : List Exchange) (e : Exchange) → exchange ξ (request_of e) ≡ e
    → remains_told (length (remaining_of (next_of ξ (request_of e)))) es ≡ length (remaining_of ζ) → remains_told (length (remaining_of ξ)) (e ∷ es) ≡ length (remaining_of ζ)
unfolding exchange next_of remains_told
remains_next ξ ζ es (job_told e) a h = h
remains_next ξ ζ es (export_told s a) q h =
    ap (λ (x : Exchange). remains_told (length (remaining_of ξ)) (x ∷ es)) (sym q)
    ∙ ap (λ (n : ℕ). remains_told n es) (remains_by_lem (contents_now ξ) ξ.export s)
    ∙ h

remains_told_lem : {ξ ζ : Exporting} {es : List Exchange} → Tells ξ es ζ → remains_told (length (remaining_of ξ)) es ≡ length (remaining_of ζ)
unfolding remains_told
remains_told_lem nothing_told = refl
remains_told_lem (told_next {ξ = ξ} {ζ = ζ} {e = e} {es = es} a r t) = remains_next ξ ζ es e a (remains_told_lem t)

-- ---- an open export keeps its records

-- after some steps, none of which closes it
record Stays (ξ ζ : Exporting) : Type 0 where
  still_open : present ζ.export ≡ true
  records : (export_of ζ.export).records ≡ (export_of ξ.export).records

-- the same of what is open alone
record KeptBy (rs : List (Row Record)) (o : Option Export) (s : ExportStep) : Type 0 where
  still_open : present (export_next rs o s) ≡ true
  records : (export_of (export_next rs o s)).records ≡ (export_of o).records

abbrev KeptAs : Option Export → Export → Type 0
KeptAs o x = (present o ≡ true) × ((export_of o).records ≡ x.records)

kept_file : (x : Export) (b : Bool) → KeptAs (maybe (tested x b) (some x) (λ (r : Refusal). some x)) x
unfolding export_of
kept_file x true = (refl, refl)
kept_file x false = (refl, refl)

kept_by : (rs : List (Row Record)) (o : Option Export) (s : ExportStep) → present o ≡ true → is_close (exporting s) ≡ false → KeptBy rs o s
unfolding export_next export_refusal export_causes first_cause export_effect export_of is_close
kept_by rs none s p c = clash p refl
kept_by rs (some x) open_export p c = record { still_open = refl; records = refl }
kept_by rs (some x) (portion b) p c = record { still_open = refl; records = refl }
kept_by rs (some x) (file n) p c =
    let k = kept_file x (less n (file_size x.records)) in
    record { still_open = k.0; records = k.1 }
kept_by rs (some x) close_export p c = clash refl c

pub neither : (a b : Bool) → pick a true b ≡ false → (a ≡ false) × (b ≡ false)
neither true b e = clash refl e
neither false b e = (refl, e)

stays_next : {ξ : Exporting} (e : Exchange) → present ξ.export ≡ true → is_close (request_of e) ≡ false → Stays ξ (next_of ξ (request_of e))
unfolding next_of
stays_next (job_told e) p c = record { still_open = p; records = refl }
stays_next {ξ} (export_told s a) p c =
    let k = kept_by (contents_now ξ) ξ.export s p c in
    record { still_open = k.still_open; records = k.records }

stays : {ξ ζ : Exporting} {es : List Exchange} → Tells ξ es ζ → present ξ.export ≡ true → any is_close (requests_of es) ≡ false → Stays ξ ζ
unfolding any
stays nothing_told p c = record { still_open = p; records = refl }
stays (told_next {e = e} {es = es} a r t) p c =
    let n = neither (is_close (request_of e)) (any is_close (requests_of es)) c in
    let k = stays_next e p n.0 in
    let l = stays t k.still_open n.1 in
    record { still_open = l.still_open; records = l.records ∙ k.records }

-- ---- an export that is open was opened

none_any : (es fs : List Request) → any is_close es ≡ false → any is_close fs ≡ false → any is_close (es ++ fs) ≡ false
unfolding any
none_any [] fs p q = q
none_any (e ∷ es) fs p q =
    let n = neither (is_close e) (any is_close es) p in
    ap (λ (b : Bool). pick b true (any is_close (es ++ fs))) n.0 ∙ none_any es fs n.1 q

requests_append : (es fs : List Exchange) → requests_of (es ++ fs) ≡ requests_of es ++ requests_of fs
requests_append [] fs = refl
requests_append (e ∷ es) fs = ap (λ (l : List Request). request_of e ∷ l) (requests_append es fs)

-- one exchange more, which does not close it
open_on : {es : List Exchange} (e : Exchange) → is_close (request_of e) ≡ false → OpenAfter es → OpenAfter (es ++ (e ∷ []))
unfolding any
open_on {es} e c x =
    record {
      before = x.before;
      count = x.count;
      since = x.since ++ (e ∷ []);
      told =
          ap (λ (l : List Exchange). l ++ (e ∷ [])) x.told
          ∙ append_assoc x.before (export_told open_export (opened x.count) ∷ x.since) (e ∷ []);
      unclosed =
          ap (any is_close) (requests_append x.since (e ∷ []))
          ∙ none_any (requests_of x.since) (request_of e ∷ []) x.unclosed (ap (λ (b : Bool). pick b true false) c);
    }

-- by what was open before it
open_step : {es : List Exchange} (rs : List (Row Record)) (o : Option Export) (s : ExportStep) (a : ExportAnswer) → export_answer rs o s ≡ a
    → (present o ≡ true → OpenAfter es) → present (export_next rs o s) ≡ true → OpenAfter (es ++ (export_told s a ∷ []))
unfolding export_answer export_next export_refusal export_causes first_cause export_granted export_effect is_close any
open_step {es} rs none open_export a q h p =
    record { before = es; count = length rs; since = []; told = ap (λ (a : ExportAnswer). es ++ (export_told open_export a ∷ [])) (sym q); unclosed = refl }
open_step rs (some x) open_export a q h p = open_on (export_told open_export a) refl (h refl)
open_step rs none (portion b) a q h p = clash p refl
open_step rs (some x) (portion b) a q h p = open_on (export_told (portion b) a) refl (h refl)
open_step rs none (file n) a q h p = clash p refl
open_step rs (some x) (file n) a q h p = open_on (export_told (file n) a) refl (h refl)
open_step rs none close_export a q h p = clash p refl
open_step rs (some x) close_export a q h p = clash p refl

open_next : (ξ : Exporting) {es : List Exchange} (e : Exchange) → exchange ξ (request_of e) ≡ e → (present ξ.export ≡ true → OpenAfter es)
    → present (next_of ξ (request_of e)).export ≡ true → OpenAfter (es ++ (e ∷ []))
unfolding exchange next_of is_close
open_next ξ (job_told e) q h p = open_on (job_told e) refl (h p)
open_next ξ (export_told s a) q h p = open_step (contents_now ξ) ξ.export s a (ap (answer_in a) q) h p

opening_on : {ξ ζ : Exporting} {es : List Exchange} (seen : List Exchange) → Tells ξ es ζ → (present ξ.export ≡ true → OpenAfter seen)
    → present ζ.export ≡ true → OpenAfter (seen ++ es)
opening_on seen nothing_told h p = subst OpenAfter (sym (append-nil seen)) (h p)
opening_on seen (told_next {ξ = ξ} {e = e} {es = es} a r t) h p =
    subst OpenAfter (append_assoc seen (e ∷ []) es) (opening_on (seen ++ (e ∷ [])) t (open_next ξ e a h) p)

-- ---- what is claimed

module _ (d : Made) where
  abbrev start : Exporting
  start = starting_at (fresh d)

  present_is : {ζ : Exporting} {es : List Exchange} → Tells start es ζ → present_after d es ≡ contents_now ζ
  present_is t = ap contents_now (tells_final t)

  -- the plain list is what is present
  listed_is : GoodTuning d.tuning → {ζ : Exporting} {es : List Exchange} → Tells start es ζ → present_after d es ≡ listed_after es
  listed_is k {es = es} t = sym (exports_serial d k (requests_of es)).same_contents ∙ ap listed_after (tells_answers t)

  -- What an open export was opened with.
  record OpenedWith (es : List Exchange) (ζ : Exporting) (x : OpenAfter es) : Type 0 where
    at_opening : Exporting
    before : Tells start x.before at_opening
    opening : Tells at_opening (export_told open_export (opened x.count) ∷ x.since) ζ
    openable_is : Openable (contents_now at_opening) at_opening.export x.count

  answered : {η ζ : Exporting} {n : ℕ} {es : List Exchange} → Tells η (export_told open_export (opened n) ∷ es) ζ → Openable (contents_now η) η.export n
  unfolding exchange
  answered {η} {n = n} (told_next a r t) = openable (contents_now η) η.export n a

  opened_with : {es : List Exchange} {ζ : Exporting} (x : OpenAfter es) → Tells start es ζ → OpenedWith es ζ x
  opened_with {es} {ζ} x t =
      let c = tells_cut x.before (export_told open_export (opened x.count) ∷ x.since) (subst (λ (l : List Exchange). Tells start l ζ) x.told t) in
      record { at_opening = c.between; before = c.first; opening = c.second; openable_is = answered c.second }

  held_from : {η ζ : Exporting} {n : ℕ} {es : List Exchange} → Tells η (export_told open_export (opened n) ∷ es) ζ → η.export ≡ none → any is_close (requests_of es) ≡ false
      → (export_of ζ.export).records ≡ unstamped (contents_now η)
  unfolding next_of
  held_from {η} (told_next a r t) e c =
      (stays t (opens_some (contents_now η) η.export) c).records ∙ opens_with (contents_now η) η.export e

  -- what it holds until it is closed
  held_told : {es : List Exchange} {ζ : Exporting} (x : OpenAfter es) → Tells start es ζ → (export_of ζ.export).records ≡ unstamped (present_after d x.before)
  held_told x t =
      let w = opened_with x t in
      held_from w.opening w.openable_is.none_open_lem x.unclosed ∙ ap unstamped (sym (present_is w.before))

  pub held_listed : GoodTuning d.tuning → {es : List Exchange} {ζ : Exporting} (x : OpenAfter es) → Tells start es ζ → (export_of ζ.export).records ≡ unstamped (listed_after x.before)
  held_listed k x t = held_told x t ∙ ap unstamped (listed_is k (opened_with x t).before)

  none_left : (l : List (Row Payload)) → length l ≡ 0 → l ≡ []
  none_left [] e = refl
  none_left (x ∷ l) e = absurd (let b : ⊥ = omega arith in b)

  portions_from : {η ζ : Exporting} {n : ℕ} {es : List Exchange} → Tells η (export_told open_export (opened n) ∷ es) ζ → η.export ≡ none → any is_close (requests_of es) ≡ false
      → remains_told n es ≡ 0 → portions_given es ≡ unstamped (contents_now η)
  unfolding remains_told remains_by portions_given records_given
  portions_from {η} {ζ} {es = es} t e c z =
      let left : remaining_of ζ ≡ [] = none_left (remaining_of ζ) (sym (remains_told_lem t) ∙ z) in
      ap portions_given (sym (tells_answers t))
      ∙ (portions_whole η (requests_of es) e c).whole (ap remaining_of (tells_final t) ∙ left)

  file_from : {η ζ : Exporting} {n : ℕ} {bs : List ℕ} {es : List Exchange} → Tells η (export_told (file n) (filed bs) ∷ es) ζ
      → (present η.export ≡ true) × (parsed bs ≡ some (export_of η.export).records)
  unfolding exchange
  file_from {η} {n = n} {bs = bs} (told_next a r t) = (file_open (contents_now η) η.export n bs a, r (file n) bs refl)

  module _ {es : List Exchange} {ζ : Exporting} (t : Tells start es ζ) where
    upto_told : (upto rest : List Exchange) → es ≡ upto ++ rest → Cut start upto rest ζ
    upto_told upto rest e = tells_cut upto rest (subst (λ (l : List Exchange). Tells start l ζ) e t)

    pub portions_told : PortionsTold d es
    portions_told =
        record {
          whole = λ upto rest e x z.
              let w = opened_with x (upto_told upto rest e).first in
              portions_from w.opening w.openable_is.none_open_lem x.unclosed z ∙ ap unstamped (sym (present_is w.before));
        }

    pub opened_told : GoodTuning d.tuning → OpenedTold d es
    opened_told k =
        record {
          listed = λ upto rest e x. listed_is k (opened_with x (upto_told upto rest e).first).before;
          counted = λ upto rest e x.
              let w = opened_with x (upto_told upto rest e).first in
              w.openable_is.count_is ∙ ap length (sym (present_is w.before) ∙ listed_is k w.before);
        }

    pub files_told : FilesTold d es
    files_told =
        record {
          each = λ upto rest n bs e.
              let c = upto_told upto (export_told (file n) (filed bs) ∷ rest) e in
              let f = file_from c.second in
              let x = opening_on [] c.first (λ p. clash p refl) f.0 in
              record { opening = x; records = f.1 ∙ ap some (held_told x c.first) };
        }
