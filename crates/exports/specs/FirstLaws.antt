-- A step with the first places of the lent buffers, or the first of the lent bytes: what it makes of the whole.
use Rattle.std.specs.Prelude.{ℕ, ◌≤◌, ◌≡◌, refl, List, ◌++◌, length, take, drop, Ok, Err, Option as Optional}
use Rattle.std.proofs.Common.{sym, ap, ◌∙◌, subst, length-take-le, take_at, drop_at, take-take}
use Rattle.lists.specs.Rows.{Row}
use Rattle.spec.specs.Records.{Record}
use Rattle.spec.specs.Steps.{Places, shortest}
use Rattle.spec.specs.Exports as model
use Rattle.buffers.specs.Buffers.{Buffers, places_of, Beyond, Lends, first_of, Unmoved}
use Rattle.buffers.specs.FirstPlaces.{first_places, behind, behind_first, behind_others, beyond_part, unmoved_part, rows_part}
use Rattle.exports.specs.declared.Export.{Export}
use Rattle.exports.specs.declared.ExportTold.TheVariants.{Opened, Given, Filed, Closed}
use Rattle.exports.specs.declared.ops.ExportOp.{ExportOp}
use Rattle.exports.specs.Exporting.{ExportAnswer, ExportedRows, export_in, Space, space, export_answer_in, places_written, bytes_written, places_wanted, bytes_wanted, ExportStepped, export_step_in}

-- ---- a portion

portion_answer : (a : ExportAnswer) (w : Places) (b : Buffers) (bs : List ℕ) → places_written a ≤ shortest w
    → export_answer_in a (space b bs) ≡ export_answer_in a (space (first_of w b) bs)
unfolding export_answer_in places_written
portion_answer (Ok (Opened n)) w b bs h = refl
portion_answer (Ok (Given n m)) w b bs h = ap (λ (rs : List _). model.given rs m) (sym (rows_part n w b h))
portion_answer (Ok (Filed n)) w b bs h = refl
portion_answer (Ok Closed) w b bs h = refl
portion_answer (Err r) w b bs h = refl

pub portion_part : {contents : List (Row Record)} {rows : ExportedRows} {x x' : Optional Export} {a : ExportAnswer} {p : Buffers} {bs : List ℕ} (w : Places) (b : Buffers)
    → Lends (places_of b) w
    → ExportStepped contents (model.portion (places_of (first_of w b))) rows x (space (first_of w b) bs) rows x' (space p bs) a
    → ExportStepped contents (model.portion w) rows x (space b bs) rows x' (space (behind w p b) bs) a
unfolding places_wanted bytes_wanted
portion_part {contents} {rows} {x} {x'} {a} {p} {bs} w b n h =
    let first : first_of w (behind w p b) ≡ p = behind_first w b n h.places in
    let step : places_of (first_of w b) ≡ w = first_places w b n in
    let few : places_written a ≤ shortest w = subst (λ (v : Places). places_written a ≤ shortest v) step h.few_places in
    record {
      held = h.held;
      answer_is =
          portion_answer a w (behind w p b) bs few
          ∙ ap (λ (c : Buffers). export_answer_in a (space c bs)) first
          ∙ h.answer_is
          ∙ ap (λ (v : Places). model.export_answer contents (export_in rows x) (model.portion v)) step;
      next_is = h.next_is ∙ ap (λ (v : Places). model.export_next contents (export_in rows x) (model.portion v)) step;
      places =
          beyond_part w b (behind w p b) n
          (subst (λ (c : Buffers). Beyond (places_written a) (first_of w b) c) (sym first) h.places)
          (behind_others w b n h.places);
      bytes = h.bytes;
      few_places = few;
      few_bytes = h.few_bytes;
    }

-- ---- a file

file_answer : (a : ExportAnswer) (n : ℕ) (b : Buffers) (bs : List ℕ) → bytes_written a ≤ n → export_answer_in a (space b bs) ≡ export_answer_in a (space b (take n bs))
unfolding export_answer_in bytes_written
file_answer (Ok (Opened k)) n b bs h = refl
file_answer (Ok (Given k m)) n b bs h = refl
file_answer (Ok (Filed k)) n b bs h = ap model.filed (sym (take-take k n bs h))
file_answer (Ok Closed) n b bs h = refl
file_answer (Err r) n b bs h = refl

pub file_part : {contents : List (Row Record)} {rows : ExportedRows} {x x' : Optional Export} {a : ExportAnswer} {b : Buffers} {ps : List ℕ} (n : ℕ) (bs : List ℕ) → n ≤ length bs
    → ExportStepped contents (model.file (length (take n bs))) rows x (space b (take n bs)) rows x' (space b ps) a
    → ExportStepped contents (model.file n) rows x (space b bs) rows x' (space b (ps ++ drop n bs)) a
unfolding places_wanted bytes_wanted
file_part {contents} {rows} {x} {x'} {a} {b} {ps} n bs i h =
    let size : length (take n bs) ≡ n = length-take-le n bs i in
    let s : length ps ≡ n = h.bytes.size ∙ size in
    let first : take n (ps ++ drop n bs) ≡ ps = take_at ps (drop n bs) n s in
    let few : bytes_written a ≤ n = subst (λ (k : ℕ). bytes_written a ≤ k) size h.few_bytes in
    record {
      held = h.held;
      answer_is =
          file_answer a n b (ps ++ drop n bs) few
          ∙ ap (λ (cs : List ℕ). export_answer_in a (space b cs)) first
          ∙ h.answer_is
          ∙ ap (λ (k : ℕ). model.export_answer contents (export_in rows x) (model.file k)) size;
      next_is = h.next_is ∙ ap (λ (k : ℕ). model.export_next contents (export_in rows x) (model.file k)) size;
      places = h.places;
      bytes =
          unmoved_part (bytes_written a) n bs (ps ++ drop n bs) i
          (subst (λ (cs : List ℕ). Unmoved (bytes_written a) (take n bs) cs) (sym first) h.bytes)
          (drop_at ps (drop n bs) n s);
      few_places = h.few_places;
      few_bytes = few;
    }

-- ---- any step, once it is known which

pub stepped_as : {contents : List (Row Record)} {rows rows' : ExportedRows} {x x' : Optional Export} {s s' : Space} {a : ExportAnswer} {o q : ExportOp} (w : Places) → o ≡ q
    → ExportStepped contents (export_step_in q w) rows x s rows' x' s' a → ExportStepped contents (export_step_in o w) rows x s rows' x' s' a
stepped_as {contents} {rows} {rows'} {x} {x'} {s} {s'} {a} w e h = subst (λ (p : ExportOp). ExportStepped contents (export_step_in p w) rows x s rows' x' s' a) (sym e) h
