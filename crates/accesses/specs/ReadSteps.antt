-- Read, as it goes: refused by 1, 2, 4 or 6, or it tells the worker's own write, or the current record, which is logged.
use Rattle.std.specs.Prelude.{ℕ, Result, Ok, Err, Some, None, Option as Optional, ◌+◌, ◌%◌, ◌<◌, ◌≤◌, ◌≡◌, Bool, false, get_or, set}
use Rattle.std.proofs.Common.{arith, sym, ◌∙◌}
use Rattle.std.proofs.Math.Path.{refl, ap, subst}
use Rattle.std.proofs.Math.Bool.{not}
use mathlib.Core.List.{List, [], ◌∷◌, append-nil}
use Rattle.std.proofs.Math.Option.{Option, none, some}
use Rattle.std.proofs.Math.ListN.{length}
use Rattle.std.proofs.lemmas.List.{set-get_or}
use Rattle.lists.specs.Tests.{both, maybe, present, less}
use Rattle.lists.specs.TestLaws.{less_yes, less_no}
use Rattle.lists.specs.Rows.{row, look, any}
use Rattle.spec.specs.Payloads.{record_in}
use Rattle.spec.specs.declared.PayloadWords.{PayloadWords}
use Rattle.spec.specs.declared.RecordWords.{RecordWords}
use Rattle.spec.specs.declared.Refusal.{Refusal}
use Rattle.spec.specs.declared.Refusal.TheVariants.{LogFull}
use Rattle.spec.specs.Refusals.{ends}
use Rattle.spec.specs.Records.{limits, Payload, Record, Write, own_view, payload_of}
use Rattle.spec.specs.Slots.{search}
use Rattle.spec.specs.Maps.{current}
use Rattle.spec.specs.Steps as model
use Rattle.spec.specs.Steps.{State, read, Answer, found, is_open, worker_of, free_worker, own_write, slots_examined, cause, no_worker, worker_free, wrong_stage, read_log_full, causes, first_cause, refusal, granted, effect, with_worker, logged, read_rows, access_causes, access_answer, accessed}
use Rattle.laws.specs.WorkerLaws.{mild_cause}
use Rattle.workers.specs.declared.Worker.{Worker}
use Rattle.sets.specs.declared.writes.Write.{Write as WriteWords}
use Rattle.sets.specs.declared.writes.Write.TheVariants.{Put, Deletion}
use Rattle.workers.specs.Workers.{worker_in, with_reads}
use Rattle.workers.proofs.WorkerLaws.{read_in_lem}
use Rattle.sets.specs.Reads.{ReadRows, reads_of, ReadsHeld, LogsRead}
use Rattle.sets.specs.Reads as reads
use Rattle.sets.specs.Leaves.{LeafSetRows}
use Rattle.sets.specs.Writes.{WriteRows, edit_in, found_in, writes_in}
use Rattle.sets.specs.SetLaws.{each_set, other_set, length_rows}
use Rattle.queries.specs.QueryViews.{Examines}
use Rattle.map.specs.Views.{leaves_in, by_columns, SlotRows, RecordRows, Lent}
use Rattle.transactions.specs.Cores.{Core}
use Rattle.accesses.specs.declared.reads.ReadValue.{ReadValue}
use Rattle.accesses.specs.declared.reads.Found.{Found}
use Rattle.accesses.specs.declared.reads.Taken.{Taken}
use Rattle.transactions.specs.Answering.{Yields, yields_granted, cause_holds, cause_fails, front, front_first}
use Rattle.transactions.specs.Admits.{Turned, Entered}
use Rattle.transactions.specs.Views.{Logs, logs, state_of, core_with}
use Rattle.transactions.specs.ViewLaws.{state_with}
use Rattle.transactions.specs.Ready.{Within, Ready, Refines}
use Rattle.transactions.specs.ReadyLaws.{refines, refines_refused}
use Rattle.transactions.specs.CoreLaws.{Writable, ready_writable, worker_is, within, stored_worker}
use Rattle.map.specs.Parts.{RecordsHeld, SlotsHeld, records_held, slots_held}
use Rattle.accesses.specs.Answers.{told, value_in, found_by, read_answer}

-- What the arrays hold for a read that is logged.
pub record Loggable (rs : List ReadRows) (rows : RecordRows) (slots : SlotRows) (c : Core) : Type 0 where
  pub reads : ReadsHeld rs
  pub records : RecordsHeld rows c.sizes.records
  pub entries : SlotsHeld slots

-- and for any read
pub record Readable (rs : List ReadRows) (rows : RecordRows) (slots : SlotRows) (ws : List WriteRows) (c : Core) : Type 0 where
  pub loggable : Loggable rs rows slots c
  pub writable : Writable ws c.workers

pub ready_readable : {rs : List ReadRows} {ls : List LeafSetRows} {ws : List WriteRows} {rows : RecordRows} {lows versions hidden pending : List ℕ} {slots : SlotRows} {c : Core}
    → Ready (by_columns rows lows versions hidden pending slots) (logs rs ls ws) c → Readable rs rows slots ws c
ready_readable k =
    record {
      loggable = record { reads = k.stored.reads; records = records_held k.stored.map.tables; entries = slots_held k.stored.map.tables };
      writable = ready_writable k;
    }

-- The current record is the one that was seen, so many slots were examined, and it is logged.
pub record LogsCurrent (rs : ReadRows) (rows : RecordRows) (slots : SlotRows) (records n a : ℕ) (us : ReadRows) (r : Taken) : Type 0 where
  pub logs : LogsRead rs n a r.seen.current us r.count
  pub examines : Examines rows records slots a r.seen

-- The step, whatever the other arrays hold: rs are the read sets before it, us those after it, and c' is the core after it.
pub record Tells (rs : List ReadRows) (rows : RecordRows) (slots : SlotRows) (ws : List WriteRows) (c : Core) (w a : ℕ) (us : List ReadRows) (c' : Core) (r : Result Found Refusal) : Type 0 where
  pub refines_so : (lows versions hidden pending : List ℕ) (ls : List LeafSetRows)
      → Ready (by_columns rows lows versions hidden pending slots) (logs rs ls ws) c
      → Refines (by_columns rows lows versions hidden pending slots) (logs rs ls ws) c (read w a)
      (by_columns rows lows versions hidden pending slots) (logs us ls ws) c' (read_answer r)

-- The step of a worker that has no write at the address.
pub record TellsCurrent (rs : List ReadRows) (rows : RecordRows) (slots : SlotRows) (c : Core) (w : ℕ) (x : Worker) (a : ℕ) (us : List ReadRows) (c' : Core) (r : Result Found Refusal) : Type 0 where
  pub tells : (ws : List WriteRows) → look (writes_in ws w x.writes) a ≡ none → Tells rs rows slots ws c w a us c' r

-- ---- what was seen

pub shown_there : (s : Optional RecordWords) (r : RecordWords) → s ≡ Some r → value_in (Some (told r.payload)) ≡ payload_of (record_in s)
unfolding payload_of
shown_there s r e = ap (λ (o : Optional RecordWords). payload_of (record_in o)) (sym e)

pub shown_none : (s : Optional RecordWords) → s ≡ None → value_in None ≡ payload_of (record_in s)
unfolding payload_of
shown_none s e = ap (λ (o : Optional RecordWords). payload_of (record_in o)) (sym e)

-- ---- the refusals

refusal_front : (σ : State) (w a : ℕ) (o : Option Refusal) → front is_open σ w ≡ o
    → refusal σ (read w a) ≡ maybe o (first_cause (cause (read_log_full σ w a) LogFull ∷ [])) some
unfolding refusal causes access_causes
refusal_front σ w a o q =
    front_first is_open σ w (cause (read_log_full σ w a) LogFull ∷ [])
    ∙ ap (λ (p : Option Refusal). maybe p (first_cause (cause (read_log_full σ w a) LogFull ∷ [])) some) q

mild : (σ : State) (w a : ℕ) (r : Refusal) → refusal σ (read w a) ≡ some r → ends r ≡ false
unfolding refusal causes access_causes no_worker worker_free wrong_stage any
mild σ w a r q = mild_cause (causes σ (read w a)) r refl q

pub read_refused : {rs : List ReadRows} {rows : RecordRows} {slots : SlotRows} {ws : List WriteRows} {c : Core} {w a : ℕ} {r : Refusal} → Turned is_open c.workers w r
    → Tells rs rows slots ws c w a rs c (Err r)
read_refused {rs} {rows} {slots} {ws} {c} {w} {a} {r} t =
    record {
      refines_so = λ lows versions hidden pending ls k.
          let l = by_columns rows lows versions hidden pending slots in
          let σ = state_of l (logs rs ls ws) c in
          let q : refusal σ (read w a) ≡ some r = refusal_front σ w a (some r) (t.front_is l (logs rs ls ws) c refl) in
          refines_refused k q (mild σ w a r q);
    }

-- ---- the worker in the open stage

module _ (l : Lent) (g : Logs) (c : Core) (w : ℕ) (x : Worker) (k : Ready l g c) (t : Entered is_open c.workers w x) (a : ℕ) where
  own_is : own_write (state_of l g c) w a ≡ look (writes_in g.writes w x.writes) a
  unfolding own_write worker_in
  own_is = ap (λ (y : model.Worker). look y.writes a) (worker_is is_open l g c w x k t)

  full_is : (o : Option Write) → look (writes_in g.writes w x.writes) a ≡ o
      → read_log_full (state_of l g c) w a ≡ both (not (present o)) (not (less x.reads limits.read_limit))
  unfolding read_log_full worker_in state_of
  full_is o q =
      ap (λ (p : Option Write). both (not (present p)) (not (less (length (worker_of (state_of l g c) w).reads) limits.read_limit))) (own_is ∙ q)
      ∙ ap (λ (n : ℕ). both (not (present o)) (not (less n limits.read_limit)))
      (ap (λ (y : model.Worker). length y.reads) (worker_is is_open l g c w x k t)
      ∙ length_rows reads.read_in (get_or g.reads w []) x.reads)

  refusal_is : (o : Option Write) → look (writes_in g.writes w x.writes) a ≡ o
      → refusal (state_of l g c) (read w a) ≡ first_cause (cause (both (not (present o)) (not (less x.reads limits.read_limit))) LogFull ∷ [])
  refusal_is o q =
      refusal_front (state_of l g c) w a none (t.front_is l g c refl)
      ∙ ap (λ (d : Bool). first_cause (cause d LogFull ∷ [])) (full_is o q)

pub read_full : {rs : List ReadRows} {rows : RecordRows} {slots : SlotRows} {c : Core} {w a : ℕ} {x : Worker} → Entered is_open c.workers w x → limits.read_limit ≤ x.reads
    → TellsCurrent rs rows slots c w x a rs c (Err LogFull)
read_full {rs} {rows} {slots} {c} {w} {a} {x} t h =
    record {
      tells = λ ws q. record {
        refines_so = λ lows versions hidden pending ls k.
            refines_refused k
            (refusal_is (by_columns rows lows versions hidden pending slots) (logs rs ls ws) c w x k t a none q
            ∙ cause_holds (not (less x.reads limits.read_limit)) LogFull [] (ap not (less_no {m = x.reads} {n = limits.read_limit} h)))
            refl;
      };
    }

-- ---- the worker's own write

logged_none : (x : model.Worker) → logged [] [] [] x ≡ x
unfolding logged
logged_none x =
    λ i. record {
      stage = x.stage;
      reads = append-nil x.reads i;
      versions = append-nil x.versions i;
      scans = append-nil x.scans i;
      writes = x.writes;
      number = x.number;
    }

worker_back : (σ : State) (w : ℕ) → with_worker σ w (worker_of σ w) ≡ σ
unfolding with_worker worker_of
worker_back σ w =
    ap (λ (xs : List model.Worker). record { made = σ.made; counters = σ.counters; map = σ.map; workers = xs })
    (set-get_or σ.workers w free_worker)

-- the answer and the state, by the worker's write at the address
-- what is told, where the worker has this write at the address
abbrev told_by : State → ℕ → Option Write → Answer
told_by σ a o =
    found (maybe o (payload_of (current σ.map a)) own_view) (maybe o (search limits.bytes σ.map.slots a).examined (λ (e : Write). 0))

granted_is : (σ : State) (w a : ℕ) (o : Option Write) → own_write σ w a ≡ o → granted σ (read w a) ≡ told_by σ a o
unfolding granted access_answer slots_examined
granted_is σ w a o q = ap (told_by σ a) q

effect_is : (σ : State) (w a : ℕ) (o : Option Write) → own_write σ w a ≡ o
    → effect σ (read w a) ≡ with_worker σ w (logged (maybe o (row a (current σ.map a) ∷ []) (λ (e : Write). [])) [] [] (worker_of σ w))
unfolding effect accessed read_rows
effect_is σ w a o q =
    ap (λ (p : Option Write). with_worker σ w (logged (maybe p (row a (current σ.map a) ∷ []) (λ (e : Write). [])) [] [] (worker_of σ w))) q

yields_read : (σ : State) (w a : ℕ) (o : Option Write) → own_write σ w a ≡ o → refusal σ (read w a) ≡ none
    → Yields σ (read w a) (told_by σ a o)
    (with_worker σ w (logged (maybe o (row a (current σ.map a) ∷ []) (λ (e : Write). [])) [] [] (worker_of σ w)))
yields_read σ w a o q n =
    let k : Yields σ (read w a) (granted σ (read w a)) (effect σ (read w a)) = yields_granted σ (read w a) n in
    record { answers = k.answers ∙ granted_is σ w a o q; leaves = k.leaves ∙ effect_is σ w a o q }

read_own : {rs : List ReadRows} {rows : RecordRows} {slots : SlotRows} {ws : List WriteRows} {c : Core} {w a : ℕ} {x : Worker} (e : Write) (v : Found) → Entered is_open c.workers w x
    → look (writes_in ws w x.writes) a ≡ some e → found_by v ≡ found (own_view e) 0
    → Tells rs rows slots ws c w a rs c (Ok v)
unfolding first_cause
read_own {rs} {rows} {slots} {ws} {c} {w} {a} {x} e v t q s =
    record {
      refines_so = λ lows versions hidden pending ls k.
          let l = by_columns rows lows versions hidden pending slots in
          let g = logs rs ls ws in
          let σ = state_of l g c in
          subst (Refines l g c (read w a) l g c) (sym s)
          (refines k (yields_read σ w a (some e) (own_is l g c w x k t a ∙ q) (refusal_is l g c w x k t a (some e) q))
          (sym (ap (with_worker σ w) (logged_none (worker_of σ w)) ∙ worker_back σ w)) k.stored);
    }

pub own_put : (v : PayloadWords) → found_by (record { value = Some (told v); examined = 0 }) ≡ found (own_view (edit_in (Put v))) 0
unfolding own_view
own_put v = refl

pub own_deletion : found_by (record { value = None; examined = 0 }) ≡ found (own_view (edit_in Deletion)) 0
unfolding own_view
own_deletion = refl

pub read_written : {rs : List ReadRows} {rows : RecordRows} {slots : SlotRows} {ws : List WriteRows} {c : Core} {w a : ℕ} {e : WriteWords} {v : Found} {x : Worker} {f : Optional WriteWords}
    → Entered is_open c.workers w x → f ≡ Some e → found_in f ≡ look (writes_in ws w x.writes) a → found_by v ≡ found (own_view (edit_in e)) 0
    → Tells rs rows slots ws c w a rs c (Ok v)
read_written {e = e} {v} t p q s = read_own (edit_in e) v t (sym q ∙ ap found_in p) s

pub read_nothing : {rs us : List ReadRows} {rows : RecordRows} {slots : SlotRows} {ws : List WriteRows} {c c' : Core} {w a : ℕ} {x : Worker} {f : Optional WriteWords} {r : Result Found Refusal}
    → f ≡ None → found_in f ≡ look (writes_in ws w x.writes) a
    → TellsCurrent rs rows slots c w x a us c' r → Tells rs rows slots ws c w a us c' r
read_nothing {ws = ws} e q k = k.tells ws (sym q ∙ ap found_in e)

-- ---- the current record

pub read_logged : {rs : List ReadRows} {rows : RecordRows} {slots : SlotRows} {us : ReadRows} {c c' : Core} {w a : ℕ} {x : Worker} {r : Taken} {o : Optional ReadValue}
    → Entered is_open c.workers w x → x.reads < limits.read_limit → LogsCurrent (get_or rs w []) rows slots c.sizes.records x.reads a us r
    → c' ≡ core_with c w (with_reads x r.count) → value_in o ≡ payload_of (record_in r.seen.current)
    → TellsCurrent rs rows slots c w x a (set rs w us) c' (Ok (record { value = o; examined = r.seen.examined }))
unfolding first_cause
read_logged {rs} {rows} {slots} {us} {c} {c'} {w} {a} {x} {r} {o} t h p m s =
    record {
      tells = λ ws q. record {
        refines_so = λ lows versions hidden pending ls k.
            let l = by_columns rows lows versions hidden pending slots in
            let g = logs rs ls ws in
            let σ = state_of l g c in
            let seen : record_in r.seen.current ≡ current σ.map a = unfold state_of in p.examines.sees.record_is (leaves_in lows versions c.sizes.leaves) in
            let examined : r.seen.examined ≡ (search limits.bytes σ.map.slots a).examined = unfold state_of in p.examines.examined in
            let room : refusal σ (read w a) ≡ none
            = refusal_is l g c w x k t a none q
            ∙ cause_fails (not (less x.reads limits.read_limit)) LogFull [] (ap not (less_yes {m = x.reads} {n = limits.read_limit} h)) in
            let count : r.count ≡ x.reads + 1 = p.logs.count in
            let b : Within x = within is_open l g c w x k t in
            subst (λ (z : Core). Refines l g c (read w a) l (logs (set rs w us) ls ws) z (found (value_in o) r.seen.examined)) (sym m)
            (subst (Refines l g c (read w a) l (logs (set rs w us) ls ws) (core_with c w (with_reads x r.count)))
            (sym (ap (λ (p : Option Payload). found p r.seen.examined) s ∙ ap (λ (z : Option Record). found (payload_of z) r.seen.examined) seen ∙ ap (found (payload_of (current σ.map a))) examined))
            (refines k (yields_read σ w a none (own_is l g c w x k t a ∙ q) room)
            (state_with l g (logs (set rs w us) ls ws) c w (with_reads x r.count)
            (record { reads = λ u m d. other_set (λ (z : ReadRows). reads_of z m) rs w us u d; leaves = λ u m d. refl; scans = λ u m d. refl; writes = λ u m d. refl })
            ∙ ap (with_worker σ w)
            (read_in_lem rs ls ws w x us r.count a r.seen.current k.stored.reads t.inside p.logs
            ∙ ap (λ (o : Option Record). logged (row a o ∷ []) [] [] (worker_in x rs ls ws w)) seen
            ∙ ap (logged (row a (current σ.map a) ∷ []) [] []) (sym (worker_is is_open l g c w x k t))))
            (stored_worker l rs ls ws (set rs w us) ws c w (with_reads x r.count) t.inside k.stored
            (each_set w us k.stored.reads p.logs.held) k.stored.writes
            (record { reads = omega arith; leaves = b.leaves; writes = b.writes })
            (ap (λ (y : Worker). y.leaves) t.is))));
      };
    }
