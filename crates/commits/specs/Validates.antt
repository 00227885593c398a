-- What validate tests, over the arrays that it looks at.
use Rattle.std.specs.Prelude.{ℕ, Result, Ok, Err, Some, None, Option as Optional, ◌+◌, ◌%◌, ◌<◌, ◌≤◌, ◌≡◌, Bool, true, false, not, List, [], ◌∷◌, eqb, get_or, set}
use Rattle.std.proofs.Math.Path.{sym}
use Rattle.std.proofs.Common.{ap, ◌∙◌, subst}
use Rattle.std.proofs.Math.Option.{Option, some}
use Rattle.lists.specs.Tests.{pick, both, same, less}
use Rattle.lists.specs.TestLaws.{same_yes, same_no, less_yes, less_no}
use Rattle.lists.specs.Rows.{Row, look, keys, has, any}
use Rattle.spec.specs.Payloads.{owners, payload_in, record_in}
use Rattle.spec.specs.declared.PayloadWords.{PayloadWords}
use Rattle.spec.specs.declared.RecordWords.{RecordWords}
use Rattle.spec.specs.declared.Refusal.{Refusal}
use Rattle.spec.specs.declared.Refusal.TheVariants.{Changed, UnderLock, Phantom, Spent}
use Rattle.spec.specs.Steps.{numbered, cause, first_cause}
use Rattle.spec.specs.Records.{limits, Record, Write, is_put, same_payload, same_record}
use Rattle.spec.specs.Slots.{content_of}
use Rattle.spec.specs.Maps.{MapState, current, held_by_other, phantom_in}
use Rattle.counters.specs.declared.Counters.{Counters}
use Rattle.map.specs.declared.Sizes.{Sizes}
use Rattle.queries.specs.QueryViews.{map_with, Sees}
use Rattle.queries.specs.PhantomViews.{Holding, Logged}
use Rattle.workers.specs.declared.Worker.{Worker}
use Rattle.workers.specs.Workers.{at_check}
use Rattle.sets.specs.declared.reads.Observed.{Observed}
use Rattle.sets.specs.declared.leaves.LoggedLeaf.{LoggedLeaf}
use Rattle.sets.specs.Reads.{ReadRows, reads_of, no_read, ReadSetHeld, GivesRead}
use Rattle.sets.specs.Leaves.{LeafSetRows, versions_of, lows_of, LeafSetHeld, GivesLeaf}
use Rattle.sets.specs.Writes.{WriteRows, writes_of, WriteSetOrdered}
use Rattle.transactions.specs.Cores.{Core}
use Rattle.transactions.specs.declared.Globals.{Globals}
use Rattle.transactions.specs.Views.{core_of}
use Rattle.transactions.specs.Ready.{Within}
use Rattle.map.specs.Parts as map_parts
use Rattle.map.specs.Views.{slots_in, map_of, Lent, SlotRows, RecordRows}

-- the logged row's address has another record now
unfoldable pub changed_in : RecordRows → ℕ → SlotRows → Row (Option Record) → Bool
changed_in rows n slots r = not (same_record (current (map_with rows n slots []) r.key) r.item)

-- another worker has the lock of the address
unfoldable pub locked_in : SlotRows → ℕ → ℕ → Bool
locked_in slots w k = held_by_other w (content_of (slots_in slots) k)

-- Each of the first k rows of a leaf set is a logged leaf.
pub record LoggedAll (l : Lent) (leaves : LeafSetRows) (z : Sizes) (k : ℕ) : Type 0 where
  pub at : (i : ℕ) → i < k
      → Logged (map_of l z).leaves (get_or (versions_of leaves k) i 0) (get_or (lows_of leaves k) i 0)

-- What the comparison of worker w's log asks of the arrays, x the worker.
pub record Examinable (l : Lent) (reads : ReadRows) (leaves : LeafSetRows) (writes : WriteRows) (z : Sizes) (x : Worker) (w : ℕ) : Type 0 where
  pub counts : Within x
  pub held : Holding l z
  pub reads_held : ReadSetHeld reads
  pub leaves_held : LeafSetHeld leaves
  pub writes_set : WriteSetOrdered writes x.writes
  pub logged_all : LoggedAll l leaves z x.leaves
  -- the worker's locks are the addresses of its write set, each for the write that it has there
  pub mine : (k : ℕ) → has k (keys (writes_of writes x.writes)) ≡ true → (content_of (slots_in l.slots) k).holder ≡ some w
  pub only : (k : ℕ) → (content_of (slots_in l.slots) k).holder ≡ some w → has k (keys (writes_of writes x.writes)) ≡ true
  pub kinds : (k : ℕ) (e : Write) → look (writes_of writes x.writes) k ≡ some e → (content_of (slots_in l.slots) k).for_put ≡ is_put e

-- ---- answers

-- what the three tests refuse, in their order
unfoldable pub first_of : Bool → Bool → Bool → Option Refusal
first_of a b c = first_cause (cause a Changed ∷ cause b UnderLock ∷ cause c Phantom ∷ [])

-- what they say of the arrays
unfoldable pub judged : Lent → ReadRows → LeafSetRows → Sizes → Worker → ℕ → Option Refusal
judged l reads leaves z x w =
    first_of
    (any (changed_in l.rows z.records l.slots) (reads_of reads x.reads))
    (any (locked_in l.slots w) (keys (reads_of reads x.reads)))
    (any (phantom_in (map_of l z) w) (versions_of leaves x.leaves))

-- The core after a validation, and its answer.
pub record Validated : Type 0 where
  pub core : Core
  pub answer : Result ℕ Refusal

abbrev pub validated_of : List ℕ → Globals → Result ℕ Refusal → Validated
validated_of ws c a = record { core = core_of ws c; answer = a }

-- the core after worker w, now y, took commit number n
abbrev pub with_number : Core → ℕ → Worker → ℕ → Core
with_number c w y n = record { workers = set c.workers w y; sizes = c.sizes; counters = record { number = n; version = c.counters.version; installs = c.counters.installs }; guarded = c.guarded }

-- what a validation answers if a commit number is left, and if none is
abbrev takes : Core → ℕ → Worker → Bool → Validated
takes c w x left =
    pick left
    (record { core = with_number c w (at_check x (c.counters.number + 1)) (c.counters.number + 1); answer = Ok (c.counters.number + 1) })
    (record { core = c; answer = Err Spent })

-- the next commit number, if one is left
unfoldable pub numbering : Core → ℕ → Worker → Validated
numbering c w x = takes c w x (less c.counters.number limits.last_number)

-- ---- two records compared

pub payloads_same : (p q : PayloadWords) {b : Bool} → p.value ≡ q.value → b ≡ eqb (p.owner % owners) (q.owner % owners) → b ≡ same_payload (payload_in p) (payload_in q)
unfolding same_payload same
payloads_same p q e f = f ∙ sym (ap (λ (x : Bool). both x (eqb (p.owner % owners) (q.owner % owners))) (same_yes e))

pub payloads_differ : (p q : PayloadWords) → (p.value ≡ q.value → ⊥) → eqb p.value q.value ≡ same_payload (payload_in p) (payload_in q)
unfolding same_payload
payloads_differ p q h =
    let e : eqb p.value q.value ≡ false = unfold same in same_no h in
    e ∙ sym (ap (λ (x : Bool). both x (same (p.owner % owners) (q.owner % owners))) (same_no h))

abbrev pub differing : Optional RecordWords → Optional RecordWords → Bool
differing now then = not (same_record (record_in now) (record_in then))

module _ {a b : Optional RecordWords} where
  module _ (p q : RecordWords) (e : a ≡ Some p) (f : b ≡ Some q) {s : Bool} (g : s ≡ same_payload (payload_in p.payload) (payload_in q.payload)) where
    differ_is : (x : Bool) → s ≡ x → not (both x (same p.commit q.commit)) ≡ differing a b
    unfolding same_record
    differ_is x h =
        ap (λ (y : Bool). not (both y (same p.commit q.commit))) (sym h ∙ g)
        ∙ sym (λ i. differing (e i) (f i))

    pub differ_payloads : s ≡ false → not s ≡ differing a b
    differ_payloads h = ap not h ∙ differ_is false h

    pub differ_stamps : s ≡ true → not (eqb p.commit q.commit) ≡ differing a b
    unfolding same
    differ_stamps h = differ_is true h

  pub differ_none : a ≡ None → b ≡ None → false ≡ differing a b
  unfolding same_record
  differ_none e f = sym (λ i. differing (e i) (f i))

  pub differ_gone : (p : RecordWords) → a ≡ Some p → b ≡ None → true ≡ differing a b
  unfolding same_record
  differ_gone p e f = sym (λ i. differing (e i) (f i))

  pub differ_new : (q : RecordWords) → a ≡ None → b ≡ Some q → true ≡ differing a b
  unfolding same_record
  differ_new q e f = sym (λ i. differing (e i) (f i))

-- ---- one row

pub row_changed : {rows : RecordRows} {n : ℕ} {slots : SlotRows} {reads : ReadRows} {i : ℕ} {l : Observed} {now : Optional RecordWords} {b c : Bool} (k : ℕ) → i < k
    → GivesRead reads i l → Sees rows n slots l.address now → b ≡ differing now l.current → b ≡ c
    → changed_in rows n slots (get_or (reads_of reads k) i no_read) ≡ c
unfolding changed_in
row_changed {rows} {n} {slots} {reads} {i} {l} {now} {b} {c} k h g s e q =
    ap (changed_in rows n slots) (sym (g.at k h))
    ∙ ap (λ (o : Option Record). not (same_record o (record_in l.current))) (sym (s.record_is []))
    ∙ sym e
    ∙ q

-- a test of the row's address
abbrev pub row_locked : SlotRows → ℕ → Row (Option Record) → Bool
row_locked slots w r = locked_in slots w r.key

pub row_locked_lem : {reads : ReadRows} {i : ℕ} {l : Observed} {b c : Bool} (slots : SlotRows) (w k : ℕ) → i < k
    → GivesRead reads i l → b ≡ held_by_other w (content_of (slots_in slots) l.address) → b ≡ c
    → row_locked slots w (get_or (reads_of reads k) i no_read) ≡ c
unfolding locked_in
row_locked_lem {reads} {i} {l} {b} {c} slots w k h g e q =
    ap (row_locked slots w) (sym (g.at k h)) ∙ sym e ∙ q

pub row_phantom : {leaves : LeafSetRows} {i : ℕ} {r : LoggedLeaf} {b c : Bool} (m : MapState) (w k : ℕ) → i < k
    → GivesLeaf leaves i r → b ≡ phantom_in m w r.version → b ≡ c
    → phantom_in m w (get_or (versions_of leaves k) i 0) ≡ c
row_phantom {leaves} {i} {r} {b} {c} m w k h g e q =
    ap (phantom_in m w) (sym (g.version k h)) ∙ sym e ∙ q

pub row_logged : {l : Lent} {leaves : LeafSetRows} {z : Sizes} {i : ℕ} {m : LoggedLeaf} (k : ℕ) → i < k → LoggedAll l leaves z k
    → GivesLeaf leaves i m → Logged (map_of l z).leaves m.version m.low
row_logged {l} {leaves} {z} {i} {m} k h a g =
    subst (λ (v : ℕ). Logged (map_of l z).leaves v m.low) (sym (g.version k h))
    (subst (Logged (map_of l z).leaves (get_or (versions_of leaves k) i 0)) (sym (g.low k h)) (a.at i h))

-- ---- the next commit number

module _ (c : Core) (w : ℕ) (x : Worker) where
  pub number_spent : limits.last_number ≤ c.counters.number → record { core = c; answer = Err Spent } ≡ numbering c w x
  unfolding numbering
  number_spent h = sym (ap (takes c w x) (less_no {m = c.counters.number} {n = limits.last_number} h))

  pub number_left : c.counters.number < limits.last_number
      → record { core = with_number c w (at_check x (c.counters.number + 1)) (c.counters.number + 1); answer = Ok (c.counters.number + 1) } ≡ numbering c w x
  unfolding numbering
  number_left h = sym (ap (takes c w x) (less_yes {m = c.counters.number} {n = limits.last_number} h))

  -- the number is taken from the counters, xs the workers after it
  pub number_taken : {xs : List Worker} (k : Counters) (n : ℕ) (y : Worker) → c.counters.number < limits.last_number
      → (n ≡ (map_parts.numbered c.counters).number) × (k ≡ map_parts.numbered c.counters) → y ≡ at_check x n
      → xs ≡ set c.workers w y
      → record { core = record { workers = xs; sizes = c.sizes; counters = k; guarded = c.guarded }; answer = Ok n } ≡ numbering c w x
  number_taken k n y h (p, q) e u =
      (λ i. record { core = record { workers = (u ∙ ap (set c.workers w) (e ∙ ap (at_check x) p)) i; sizes = c.sizes; counters = q i; guarded = c.guarded }; answer = Ok (p i) })
      ∙ number_left h
