-- Put and remove, as they go: refused by 1, 2, 4 or 7, or the write stands in the worker's write set.
use Rattle.std.specs.Prelude.{ℕ, Result, Ok, Err, Option as Optional, Some, None, is_some, ◌%◌, ◌<◌, ◌≤◌, ◌≡◌, refl, ◌⊎◌, Bool, true, false, not, List, [], ◌∷◌, length, get_or, set}
use Rattle.std.proofs.Common.{arith, sym, ◌∙◌, subst}
use Rattle.std.proofs.Math.Path.{ap}
use Rattle.std.proofs.Math.Option.{Option, none, some}
use Rattle.lists.specs.Tests.{both, maybe, present, less}
use Rattle.lists.specs.TestLaws.{less_yes, less_no}
use Rattle.lists.specs.Rows.{look, any}
use Rattle.spec.specs.Payloads.{owners}
use Rattle.spec.specs.declared.Refusal.{Refusal}
use Rattle.spec.specs.declared.Refusal.TheVariants.{WritesFull}
use Rattle.spec.specs.Refusals.{ends}
use Rattle.spec.specs.Records.{limits, Write, written, deleted}
use Rattle.spec.specs.Steps as model
use Rattle.spec.specs.Steps.{State, Step, put, remove, Answer, done, is_open, worker_of, own_write, cause, no_worker, worker_free, wrong_stage, writes_full, causes, first_cause, refusal, granted, effect, with_worker, writing, access_causes, access_answer, accessed}
use Rattle.laws.specs.WorkerLaws.{mild_cause}
use Rattle.workers.specs.declared.Worker.{Worker}
use Rattle.sets.specs.declared.writes.Write.{Write as WriteWords}
use Rattle.sets.specs.declared.writes.Write.TheVariants.{Put, Deletion}
use Rattle.workers.specs.Workers.{worker_in, with_writes}
use Rattle.workers.proofs.WorkerLaws.{write_in_lem}
use Rattle.sets.specs.Reads.{ReadRows}
use Rattle.sets.specs.Leaves.{LeafSetRows}
use Rattle.sets.specs.Writes.{WriteRows, edit_in, found_in, write_in, writes_of, PutsWrite}
use Rattle.sets.specs.SetLaws.{each_set, other_set, length_rows}
use Rattle.sets.specs.WriteLaws.{room_found}
use Rattle.map.specs.Views.{Lent}
use Rattle.transactions.specs.Cores.{Core}
use Rattle.transactions.specs.Answering.{Yields, yields_granted, cause_holds, cause_fails, front, front_first}
use Rattle.transactions.specs.Admits.{Turned, Entered}
use Rattle.transactions.specs.Views.{Logs, logs, state_of, core_with}
use Rattle.transactions.specs.ViewLaws.{state_with}
use Rattle.transactions.specs.Ready.{Within, Ready, Refines}
use Rattle.transactions.specs.ReadyLaws.{refines, refines_refused}
use Rattle.transactions.specs.Begins.{plain_in}
use Rattle.transactions.specs.CoreLaws.{worker_is, within, stored_worker}

-- the step that gives worker w this write
abbrev pub editing : ℕ → ℕ → Write → Step
editing w a (written p) = put w a p
editing w a deleted = remove w a

-- a write set of n writes has no write at the address, and no room for one
abbrev pub full_at : WriteRows → ℕ → ℕ → Bool
full_at ws n a = both (not (present (look (writes_of ws n) a))) (not (less n limits.write_limit))

-- The step, whatever the other arrays hold: ws are the write sets before it, us those after it, and c' is the core after it.
pub record Edits (ws : List WriteRows) (c : Core) (w a : ℕ) (e : Write) (us : List WriteRows) (c' : Core) (r : Result Unit Refusal) : Type 0 where
  pub refines_so : (l : Lent) (rs : List ReadRows) (ls : List LeafSetRows) → Ready l (logs rs ls ws) c
      → Refines l (logs rs ls ws) c (editing w a e) l (logs rs ls us) c' (plain_in r)

-- ---- whether there is room

both_last : (b : Bool) → false ≡ both b false
both_last true = refl
both_last false = refl

twice : (b : Bool) → b ≡ not (not b)
twice true = refl
twice false = refl

both_first : (b : Bool) → b ≡ both b true
both_first true = refl
both_first false = refl

module _ (ws : WriteRows) (n a : ℕ) where
  pub full_room : n < limits.write_limit → false ≡ full_at ws n a
  full_room h =
      both_last (not (present (look (writes_of ws n) a)))
      ∙ ap (λ (b : Bool). both (not (present (look (writes_of ws n) a))) (not b)) (sym (less_yes {m = n} {n = limits.write_limit} h))

  none_found : (f : Optional WriteWords) → not (present (found_in f)) ≡ not (is_some f)
  none_found None = refl
  none_found (Some e) = refl

  pub full_told : {b : Bool} (f : Optional WriteWords) → found_in f ≡ look (writes_of ws n) a → limits.write_limit ≤ n → is_some f ≡ not b → b ≡ full_at ws n a
  full_told {b} f q h e =
      twice b ∙ ap not (sym e) ∙ sym (none_found f)
      ∙ ap (λ (o : Option Write). not (present o)) q
      ∙ both_first (not (present (look (writes_of ws n) a)))
      ∙ ap (λ (b : Bool). both (not (present (look (writes_of ws n) a))) (not b)) (sym (less_no {m = n} {n = limits.write_limit} h))

  pub room_here : (b : Bool) → b ≡ full_at ws n a → b ≡ false → (n < limits.write_limit) ⊎ (present (look (writes_of ws n) a) ≡ true)
  room_here b q f = room_found ws n a (sym q ∙ f)

-- ---- the refusals

refusal_editing : (σ : State) (w a : ℕ) (e : Write)
    → refusal σ (editing w a e) ≡ maybe (front is_open σ w) (first_cause (cause (writes_full σ w a) WritesFull ∷ [])) some
unfolding refusal causes access_causes
refusal_editing σ w a (written p) = front_first is_open σ w (cause (writes_full σ w a) WritesFull ∷ [])
refusal_editing σ w a deleted = front_first is_open σ w (cause (writes_full σ w a) WritesFull ∷ [])

mild : (σ : State) (w a : ℕ) (e : Write) (r : Refusal) → refusal σ (editing w a e) ≡ some r → ends r ≡ false
unfolding refusal causes access_causes no_worker worker_free wrong_stage any
mild σ w a (written p) r q = mild_cause (causes σ (put w a p)) r refl q
mild σ w a deleted r q = mild_cause (causes σ (remove w a)) r refl q

refusal_front : (σ : State) (w a : ℕ) (e : Write) (o : Option Refusal) → front is_open σ w ≡ o
    → refusal σ (editing w a e) ≡ maybe o (first_cause (cause (writes_full σ w a) WritesFull ∷ [])) some
refusal_front σ w a e o q =
    refusal_editing σ w a e ∙ ap (λ (p : Option Refusal). maybe p (first_cause (cause (writes_full σ w a) WritesFull ∷ [])) some) q

pub edit_refused : {ws : List WriteRows} {c : Core} {w a : ℕ} {e : Write} {r : Refusal} → Turned is_open c.workers w r
    → Edits ws c w a e ws c (Err r)
edit_refused {ws} {c} {w} {a} {e} {r} t =
    record {
      refines_so = λ l rs ls k.
          let q : refusal (state_of l (logs rs ls ws) c) (editing w a e) ≡ some r
          = refusal_front (state_of l (logs rs ls ws) c) w a e (some r) (t.front_is l (logs rs ls ws) c refl) in
          refines_refused k q (mild (state_of l (logs rs ls ws) c) w a e r q);
    }

-- ---- the worker in the open stage

module _ (l : Lent) (g : Logs) (c : Core) (w : ℕ) (x : Worker) (k : Ready l g c) (t : Entered is_open c.workers w x) where
  full_is : (a : ℕ) → writes_full (state_of l g c) w a ≡ full_at (get_or g.writes w []) x.writes a
  unfolding writes_full own_write worker_in state_of
  full_is a =
      ap (λ (y : model.Worker). both (not (present (look y.writes a))) (not (less (length y.writes) limits.write_limit))) (worker_is is_open l g c w x k t)
      ∙ ap (λ (n : ℕ). both (not (present (look (writes_of (get_or g.writes w []) x.writes) a))) (not (less n limits.write_limit)))
      (length_rows write_in (get_or g.writes w []) x.writes)

  refusal_is : (a : ℕ) (e : Write) (b : Bool) → b ≡ full_at (get_or g.writes w []) x.writes a
      → refusal (state_of l g c) (editing w a e) ≡ first_cause (cause b WritesFull ∷ [])
  refusal_is a e b q =
      refusal_front (state_of l g c) w a e none (t.front_is l g c refl)
      ∙ ap (λ (d : Bool). first_cause (cause d WritesFull ∷ [])) (full_is a ∙ sym q)

pub edit_full : {ws : List WriteRows} {c : Core} {w a : ℕ} {e : Write} {x : Worker} {b : Bool} → Entered is_open c.workers w x
    → b ≡ full_at (get_or ws w []) x.writes a → b ≡ true → Edits ws c w a e ws c (Err WritesFull)
edit_full {ws} {c} {w} {a} {e} {x} {b} t q f =
    record {
      refines_so = λ l rs ls k.
          refines_refused k (refusal_is l (logs rs ls ws) c w x k t a e b q ∙ cause_holds b WritesFull [] f) refl;
    }

-- ---- granted

granted_editing : (σ : State) (w a : ℕ) (e : Write) → granted σ (editing w a e) ≡ done
unfolding granted access_answer
granted_editing σ w a (written p) = refl
granted_editing σ w a deleted = refl

effect_editing : (σ : State) (w a : ℕ) (e : Write) → effect σ (editing w a e) ≡ with_worker σ w (writing a e (worker_of σ w))
unfolding effect accessed
effect_editing σ w a (written p) = refl
effect_editing σ w a deleted = refl

pub edit_granted : {ws : List WriteRows} {us : WriteRows} {c c' : Core} {w a : ℕ} {e : WriteWords} {x : Worker} {b : Bool} {n : ℕ} → Entered is_open c.workers w x
    → b ≡ full_at (get_or ws w []) x.writes a → b ≡ false → PutsWrite (get_or ws w []) x.writes a e us n → c' ≡ core_with c w (with_writes x n)
    → Edits ws c w a (edit_in e) (set ws w us) c' (Ok tt)
unfolding first_cause
edit_granted {ws} {us} {c} {c'} {w} {a} {e = u} {x} {b} {n} t q f p s =
    record {
      refines_so = λ l rs ls k.
          subst (λ (o : Core). Refines l (logs rs ls ws) c (editing w a (edit_in u)) l (logs rs ls (set ws w us)) o (plain_in (Ok tt))) (sym s)
          (let σ = state_of l (logs rs ls ws) c in
          let e = edit_in u in
          let g : Yields σ (editing w a e) (granted σ (editing w a e)) (effect σ (editing w a e))
          = yields_granted σ (editing w a e) (refusal_is l (logs rs ls ws) c w x k t a e b q ∙ cause_fails b WritesFull [] f) in
          let d : Yields σ (editing w a e) done (effect σ (editing w a e))
          = subst (λ (o : Answer). Yields σ (editing w a e) o (effect σ (editing w a e))) (granted_editing σ w a e) g in
          refines k d
          (state_with l (logs rs ls ws) (logs rs ls (set ws w us)) c w (with_writes x n)
          (record { reads = λ u m d. refl; leaves = λ u m d. refl; scans = λ u m d. refl; writes = λ u m d. other_set (λ (s : WriteRows). writes_of s m) ws w us u d })
          ∙ ap (with_worker σ w)
          (write_in_lem rs ls ws w x us n a u k.stored.writes t.inside p ∙ ap (writing a e) (sym (worker_is is_open l (logs rs ls ws) c w x k t)))
          ∙ sym (effect_editing σ w a e))
          (stored_worker l rs ls ws rs (set ws w us) c w (with_writes x n) t.inside k.stored k.stored.reads (each_set w us k.stored.writes p.set.held)
          (let h : Within x = within is_open l (logs rs ls ws) c w x k t in record { reads = h.reads; leaves = h.leaves; writes = p.set.room })
          (ap (λ (y : Worker). y.leaves) t.is)));
    }

-- ---- the two steps

pub put_refines : {ws us : List WriteRows} {c c' : Core} {w a : ℕ} {r : Result Unit Refusal} {l : Lent} {rs : List ReadRows} {ls : List LeafSetRows} (value owner : ℕ) → owner < owners
    → Edits ws c w a (edit_in (Put (record { value = value; owner = owner }))) us c' r → Ready l (logs rs ls ws) c
    → Refines l (logs rs ls ws) c (put w a (record { value = value; owner = owner })) l (logs rs ls us) c' (plain_in r)
put_refines {ws} {us} {c} {c'} {w} {a} {r} {l} {rs} {ls} value owner h e k =
    subst (λ (x : Write). Refines l (logs rs ls ws) c (editing w a x) l (logs rs ls us) c' (plain_in r))
    (ap (λ (n : ℕ). written (record { value = value; owner = n })) (let z : owner % owners ≡ owner = omega arith in z))
    (e.refines_so l rs ls k)

pub remove_refines : {ws us : List WriteRows} {c c' : Core} {w a : ℕ} {r : Result Unit Refusal} {l : Lent} {rs : List ReadRows} {ls : List LeafSetRows} → Edits ws c w a (edit_in Deletion) us c' r
    → Ready l (logs rs ls ws) c → Refines l (logs rs ls ws) c (remove w a) l (logs rs ls us) c' (plain_in r)
remove_refines {l = l} {rs} {ls} e k = e.refines_so l rs ls k
