-- From what the Rattle functions promise to what the entries promise.
use Rattle.std.specs.Prelude.{ℕ, Option as Optional, ◌%◌, ◌≡◌, refl, true, false, List, [], ◌∷◌, Some, None}
use Rattle.std.proofs.Common.{sym, ap, ◌∙◌}
use Rattle.std.proofs.Math.Path.{subst}
use Rattle.std.proofs.Math.Option.{Option, none, some}
use Rattle.lists.specs.Tests.{maybe, present}
use Rattle.lists.specs.Rows.{Row, row}
use Rattle.spec.specs.Payloads.{owners, record_of_words}
use Rattle.spec.specs.Records.{Made, Record}
use Rattle.spec.specs.Leaves.{Leaf}
use Rattle.spec.specs.Maps.{contents}
use Rattle.spec.specs.Exports as model
use Rattle.queries.specs.declared.NextRecord.{NextRecord as NextWords}
use Rattle.map.specs.Views.{RecordRows, SlotRows, Lent, map_of}
use Rattle.queries.specs.QueryViews.{map_with}
use Rattle.queries.specs.NextViews.{next_in, Follows}
use Rattle.queries.specs.Contents.{first_from, all_records}
use Rattle.transactions.specs.Cores.{Core}
use Rattle.transactions.specs.declared.Globals.{Globals}
use Rattle.transactions.specs.Views.{Logs, core_of}
use Rattle.transactions.specs.Ready.{Ready}
use Rattle.transactions.specs.Starts.{Fresh}
use Rattle.buffers.specs.Buffers.{counted_places, Buffers, places_of}
use Rattle.exports.specs.declared.Export.{Export}
use Rattle.exports.specs.Exporting.{ExportAnswer, ExportedRows, export_in, ExportHeld, Space, ExportStepped}
use Rattle.codes.specs.declared.Code.{Code}
use Rattle.codes.specs.declared.Coded.{Coded}
use Rattle.codes.specs.Codes.{Decoded, decoded}
use Rattle.replay.specs.declared.runs.Replayed.{Replayed}
use Rattle.replay.specs.CodedSteps.{StepEnd, step_end_of, CodedStep}
use Rattle.replay.specs.Replays.{replay_end_of, Replays}
use Rattle.sections.specs.Saved.{saved_globals, saved_core, saved_export, export_saved, export_numbers}
use Rattle.sections.specs.SavedLaws.{export_put, numbers_are}
use Rattle.sections.specs.Entries.{coded_in, stepped_in, StepEntry, stop_number, CountsAre, ReplayEntry, contents_in, record_words, NextRecord, NoneIn, DoneIn, ExportEntry}

-- ---- the core in the words

pub fresh_saved : {l : Lent} {g : Logs} {d : Made} {c : Globals} (workers globals : List ℕ) → Fresh l g d (core_of workers c) → saved_globals globals ≡ c
    → Fresh l g d (saved_core workers globals)
fresh_saved {l} {g} {d} workers globals h e = subst (λ (x : Globals). Fresh l g d (core_of workers x)) (sym e) h

pub ready_loaded : {l : Lent} {g : Logs} {c : Globals} (workers globals : List ℕ) → c ≡ saved_globals globals → Ready l g (saved_core workers globals)
    → Ready l g (core_of workers c)
ready_loaded {l} {g} workers globals e h = subst (λ (x : Globals). Ready l g (core_of workers x)) (sym e) h

-- ---- a step

module _ {l l' : Lent} {g g' : Logs} {c : Core} {k : Code} {b b' : Buffers} {r : StepEnd} (h : Ready l g c) (s : CodedStep l g c k b l' g' b' r) where
  ready_by : (d : Decoded) → decoded (places_of b) k ≡ d → Ready l' g' r.core
  ready_by (Some (o, w)) e = (s.meant o (counted_places w) e).performs.performs.refines.ready
  ready_by None e =
      let u = s.meaningless e in
      subst (λ (x : StepEnd). Ready l' g' x.core) (sym u.outcome)
      (subst (λ (y : Logs). Ready l' y c) (sym u.logs) (subst (λ (x : Lent). Ready x g c) (sym u.map) h))

  steps_ready : Ready l' g' r.core
  steps_ready = ready_by (decoded (places_of b) k) refl

pub step_entry : {l l' : Lent} {g g' : Logs} {c : Globals} {j k : Code} {b b' : Buffers} (workers globals workers' globals' answer : List ℕ) (d : Globals) (a : Coded)
    → c ≡ saved_globals globals → j ≡ k → Ready l g (saved_core workers globals) → CodedStep l g (core_of workers c) j b l' g' b' (step_end_of workers' d a)
    → saved_globals globals' ≡ d → coded_in answer ≡ a → StepEntry l g workers globals k b l' g' workers' globals' b' answer
step_entry {l} {l'} {g} {g'} {c} {j} {k} {b} {b'} workers globals workers' globals' answer d a e f h s p q =
    record {
      ready = subst (λ (x : Globals). Ready l' g' (core_of workers' x)) (sym p) (steps_ready (ready_loaded workers globals e h) s);
      step =
          subst (λ (x : Code). CodedStep l g (saved_core workers globals) x b l' g' b' (stepped_in workers' globals' answer)) f
          (subst (λ (x : Globals). CodedStep l g (core_of workers x) j b l' g' b' (stepped_in workers' globals' answer)) e
          (subst (λ (x : StepEnd). CodedStep l g (core_of workers c) j b l' g' b' x) (λ i. record { core = core_of workers' (sym p i); answer = sym q i }) s));
    }

-- ---- a list of steps

-- the words of an export
export_saved_lem : {x : Optional Export} (words : List ℕ) → words ≡ export_saved x → saved_export words ≡ x
export_saved_lem {x} words e = ap saved_export e ∙ export_put x

pub replayed : {made : Made} {words : List ℕ} {s s' : Space} {out out' : List ℕ} {l : Lent} {g : Logs} {xs : ExportedRows} (workers globals export counts : List ℕ) (n : ℕ) (r : Replayed)
    → Replays made words s out l g xs s' out' (replay_end_of workers r) → saved_globals globals ≡ r.globals → export ≡ export_saved r.export
    → CountsAre counts r.taken r.written → n ≡ stop_number r.stop
    → ReplayEntry made words s out l g xs s' out' workers globals export counts n
replayed {made} {words} {s} {s'} {out} {out'} {l} {g} {xs} workers globals export counts n r h e x f q =
    record {
      replays =
          subst (Replays made words s out l g xs s' out')
          (λ i. record {
            core = core_of workers (sym e i);
            export = sym (export_saved_lem {x = r.export} export x) i;
            taken = sym f.taken_is i;
            written = sym f.written_is i;
            stop = h.stop i;
          })
          h;
      number = q ∙ ap stop_number h.stop;
      numbers = x ∙ numbers_are xs r.export ∙ ap (λ (ξ : model.Exporting). export_numbers ξ.export) h.after;
    }

-- ---- the contents

module _ (l : Lent) (globals : List ℕ) {c : Globals} {from : ℕ} {r : Optional NextWords} (e : c ≡ saved_globals globals)
    (h : Follows l.rows c.sizes.records l.slots from r) where
  first_is : next_in r ≡ first_from from (contents_in l globals)
  first_is = h.next_is (map_of l c.sizes).leaves ∙ ap (λ (x : Globals). first_from from (contents (map_of l x.sizes))) e

  next_record : (old : List ℕ) (o : Option (Row Record)) → next_in r ≡ o → NextRecord l globals from old (maybe o old record_words) (present o)
  next_record old o q =
      let p : o ≡ first_from from (contents_in l globals) = sym q ∙ first_is in
      record { there = ap present p; words = ap (λ (x : Option (Row Record)). maybe x old record_words) p }

  pub next_record_one : {old : List ℕ} {n : NextWords} → r ≡ Some n
      → NextRecord l globals from old (n.address ∷ n.record.payload.value ∷ n.record.payload.owner % owners ∷ n.record.commit ∷ []) true
  next_record_one {old} {n} q = next_record old (some (row n.address (record_of_words n.record))) (ap next_in q)

  pub next_record_none : {old : List ℕ} → r ≡ None → NextRecord l globals from old old false
  next_record_none {old} q = next_record old none (ap next_in q)

-- ---- an export

-- none is open
pub none_saved : (x : Optional Export) (words : List ℕ) → ((rows : ExportedRows) → export_in rows x ≡ none) × ExportHeld x → words ≡ export_saved x → NoneIn words
none_saved x words h e =
    let q = export_saved_lem words e in
    record {
      numbers = e ∙ numbers_are [] x ∙ ap export_numbers (h.0 []);
      none_open_lem = λ rows. ap (export_in rows) q ∙ h.0 rows;
      held = subst ExportHeld (sym q) h.1;
    }

pub held_loaded : {x : Optional Export} (words : List ℕ) → x ≡ saved_export words → ExportHeld (saved_export words) → ExportHeld x
held_loaded words e h = subst ExportHeld (sym e) h

module _ {step : model.ExportStep} {rows rows' : ExportedRows} {s s' : Space} {words words' told : List ℕ} where
  pub export_entry : {rs : List (Row Record)} {x x' : Optional Export} {a : ExportAnswer} → x ≡ saved_export words → ExportStepped rs step rows x s rows' x' s' a
      → DoneIn words' told x' a → ExportEntry rs step rows words s rows' words' s' told
  export_entry {rs} {x} {x'} {a} e h t =
      record {
        answer = a;
        stepped =
            subst (λ (y : Optional Export). ExportStepped rs step rows y s rows' (saved_export words') s' a) e
            (subst (λ (y : Optional Export). ExportStepped rs step rows x s rows' y s' a) (sym (export_saved_lem words' t.export_is)) h);
        words_are = t.answer_is;
        numbers =
            t.export_is
            ∙ numbers_are rows' x'
            ∙ ap export_numbers (h.next_is ∙ ap (λ (y : Optional Export). model.export_next rs (export_in rows y) step) e);
      }

  -- leaves play no part in the contents
  pub contents_entry : (records : RecordRows) (slots : SlotRows) (globals : List ℕ) (ls : List Leaf) {c : Globals} → c ≡ saved_globals globals
      → ExportEntry (all_records records c.sizes.records slots) step rows words s rows' words' s' told
      → ExportEntry (contents (map_with records (saved_globals globals).sizes.records slots ls)) step rows words s rows' words' s' told
  unfolding contents
  contents_entry records slots globals ls e h =
      subst (λ (k : Globals). ExportEntry (contents (map_with records k.sizes.records slots ls)) step rows words s rows' words' s' told) e h
