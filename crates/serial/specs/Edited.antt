-- The theorem needs each of its tests: with one of them dropped or weakened, a closed run of the edited rule breaks the
-- claim. Each of these was a plausible rule; a scan, a read or a lock would be lost on a customer's map.
-- (Numbers by the order of installs: `by_install` among the lies of crate `spec`.)
use Rattle.std.specs.Prelude.{ℕ, ◌≡◌, refl, Bool, false, not}
use Rattle.std.proofs.Common.{arith}
use mathlib.Core.List.{List, [], ◌∷◌, ◌++◌}
use Rattle.std.proofs.Math.Option.{none, some}
use Rattle.lists.specs.Tests.{pick, both, either, maybe, present, same}
use Rattle.lists.specs.Rows.{Row, look, any, filter, has}
use Rattle.spec.specs.declared.Refusal.{Refusal}
use Rattle.spec.specs.declared.Refusal.TheVariants.{Phantom}
use Rattle.spec.specs.Refusals.{number_of}
use Rattle.spec.specs.Records.{standard_map, Payload}
use Rattle.spec.specs.Leaves.{live}
use Rattle.spec.specs.Slots.{Content, entries}
use Rattle.spec.specs.Maps.{contents, hidden_in}
use Rattle.spec.specs.Steps.{State, fresh, worker_of, Step, begin, read, scan, put, remove, lock, validate, install, merge, merge_oldest, refused, listed, Cause, cause, causes, first_cause, granted, effect, after_refusal, write_keys, Event, act, beginning, access, locking, validating, installing, aborting}
use Rattle.spec.specs.Claim.{SerialRun}
use Rattle.spec.specs.Computing.{claim}
use Rattle.spec.specs.Events.{value}
use Rattle.spec.specs.Runs.{wide}

found_differ : {p : Payload} → some none ≡ some (some p) → ⊥
found_differ e = let z : ◌≡◌ {A = ℕ} 0 1 = cc in omega arith

listed_differ : {r : Row Payload} {rs : List (Row Payload)} → listed [] ≡ listed (r ∷ rs) → ⊥
listed_differ e = let z : ◌≡◌ {A = ℕ} 0 1 = cc in omega arith

-- ---- a run by edited causes

-- The state, and the keys that an edited rule remembers.
pub record Edit : Type 0 where
  pub state : State
  pub flagged : List ℕ

abbrev pub Rule : Type 0
Rule = Edit → Step → List Cause

-- the keys of a write set are flagged when the lock is granted, if the index lacks them then
flags : Edit → Step → List ℕ
flags x (act w beginning) = x.flagged
flags x (act w (access a)) = x.flagged
flags x (act w locking) =
    filter (λ (k : ℕ). not (present (look x.state.map.records k))) (write_keys x.state w)
    ++ filter (λ (k : ℕ). not (has k (write_keys x.state w))) x.flagged
flags x (act w validating) = x.flagged
flags x (act w installing) = x.flagged
flags x (act w aborting) = x.flagged
flags x (merge a) = x.flagged
flags x merge_oldest = x.flagged

edited_next : Rule → Edit → Step → Edit
edited_next rule x s =
    maybe (first_cause (rule x s)) (record { state = effect x.state s; flagged = flags x s })
    (λ (r : Refusal). record { state = after_refusal x.state s r; flagged = x.flagged })

edited_final : Rule → Edit → List Step → Edit
edited_final rule x [] = x
edited_final rule x (s ∷ ss) = edited_final rule (edited_next rule x s) ss

edited_history : Rule → Edit → List Step → List Event
edited_history rule x [] = []
edited_history rule x (s ∷ ss) =
    record { step = s; answer = maybe (first_cause (rule x s)) (granted x.state s) refused } ∷ edited_history rule (edited_next rule x s) ss

-- the claim of the run by the rule
pub SerialUnder : Rule → List Step → Type 0
SerialUnder rule ss =
    let x : Edit = record { state = fresh (standard_map false); flagged = [] } in
    SerialRun (edited_history rule x ss) (contents (edited_final rule x ss).state.map)

-- ---- the tests dropped

-- all causes but the one with this number
pub without : ℕ → Rule
without n x s = filter (λ (c : Cause). not (same (number_of c.refusal) n)) (causes x.state s)

-- the under-lock test dropped: each reads what the other edits, and both are installed
pub crossed : List Step
crossed =
    begin 0 ∷ begin 1 ∷ read 0 1 ∷ put 0 2 (value 20) ∷ read 1 2 ∷ put 1 1 (value 10) ∷ lock 0 ∷ lock 1 ∷ validate 0 ∷ validate 1 ∷ install 0 ∷ install 1 ∷ []

pub no_under_lock_breaks : SerialUnder (without 13) crossed → ⊥
unfolding claim SerialUnder edited_final edited_history edited_next flags without crossed
no_under_lock_breaks s =
    found_differ (s.answers 1 _ refl).0

-- the phantom test dropped: a scan misses the section that waits
pub missing : List Step
missing =
    begin 0 ∷ put 0 4096 (value 32) ∷ lock 0 ∷ validate 0 ∷ install 0 ∷ begin 1 ∷ scan 1 4000 5000 wide ∷ lock 1 ∷ validate 1 ∷ install 1 ∷ []

pub no_phantom_breaks : SerialUnder (without 14) missing → ⊥
unfolding claim SerialUnder edited_final edited_history edited_next flags without missing
no_phantom_breaks s =
    listed_differ (s.answers 1 _ refl).0

-- ---- hidden keys worked out at lock only

-- a key is hidden only if it was flagged when it was locked
flagged_phantom : Edit → ℕ → ℕ → Bool
flagged_phantom x w v =
    either (not (live x.state.map.leaves v))
    (any (λ (e : Row Content). both (has e.key x.flagged) (hidden_in x.state.map w v e)) (entries x.state.map.slots))

phantom_by_flag : Edit → Step → Cause → Cause
phantom_by_flag x (act w beginning) c = c
phantom_by_flag x (act w (access a)) c = c
phantom_by_flag x (act w locking) c = c
phantom_by_flag x (act w validating) c =
    pick (same (number_of c.refusal) 14) (cause (any (flagged_phantom x w) (worker_of x.state w).versions) Phantom) c
phantom_by_flag x (act w installing) c = c
phantom_by_flag x (act w aborting) c = c
phantom_by_flag x (merge a) c = c
phantom_by_flag x merge_oldest c = c

pub at_lock_only : Rule
at_lock_only x s = mathlib.Core.List.map (phantom_by_flag x s) (causes x.state s)

-- the index holds 7 when the put at 7 is locked; the merge drops it, and nothing hides 7 from the scan
pub dropped_record : List Step
dropped_record =
    begin 0 ∷ put 0 7 (value 70) ∷ lock 0 ∷ validate 0 ∷ install 0 ∷ merge 7 ∷ begin 0 ∷ remove 0 7 ∷ lock 0 ∷ validate 0 ∷ install 0
    ∷ begin 0 ∷ put 0 7 (value 71) ∷ lock 0 ∷ validate 0 ∷ merge 7 ∷ begin 1 ∷ scan 1 0 10 wide ∷ lock 1 ∷ validate 1 ∷ install 0 ∷ install 1 ∷ []

pub flags_at_lock_break : SerialUnder at_lock_only dropped_record → ⊥
unfolding claim SerialUnder edited_final edited_history edited_next flags at_lock_only phantom_by_flag flagged_phantom dropped_record
flags_at_lock_break s =
    listed_differ (s.answers 3 _ refl).0
