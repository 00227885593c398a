-- Request 104 takes no grant away: a validation that was granted when every pending write and every lock of another worker
-- hid its key is granted now.
use Rattle.std.specs.Prelude.{ℕ, ◌≡◌, refl, Bool, true, false, not, List, [], ◌∷◌}
use Rattle.std.proofs.Math.Option.{Option, none, some}
use Rattle.lists.specs.Tests.{both, either, maybe, present, same, less}
use Rattle.lists.specs.TestLaws.{clash}
use Rattle.lists.specs.Rows.{Row, look, keys, any}
use Rattle.lists.specs.RowLaws.{any_false, none_any}
use Rattle.spec.specs.declared.Refusal.TheVariants.{Changed, UnderLock, Phantom, Spent}
use Rattle.spec.specs.Records.{limits, is_put}
use Rattle.spec.specs.Leaves.{version_at, live}
use Rattle.spec.specs.Slots.{Pending, Content, entries}
use Rattle.spec.specs.Maps.{MapState, held_by_other, put_pending, hiding, hidden_in, hides, phantom_in}
use Rattle.spec.specs.Steps.{State, worker_of, validate, Cause, cause, is_locked, no_worker, worker_free, wrong_stage, locked_by_other, changed_since, causes, first_cause, refusal}
use Rattle.laws.specs.WorkerLaws.{cause_passed, cause_passes}

-- ---- hidden keys as they were

-- a write of any kind is pending, or another worker has a lock of any kind
abbrev hiding_any : ℕ → Content → Bool
hiding_any w c = either (present c.pending) (held_by_other w c)

abbrev hidden_in_any : MapState → ℕ → ℕ → Row Content → Bool
hidden_in_any m w v e =
    both (same (version_at m.leaves e.key) v)
    (both (not (present (look m.records e.key))) (hiding_any w e.item))

abbrev phantom_in_any : State → ℕ → ℕ → Bool
phantom_in_any σ w v = either (not (live σ.map.leaves v)) (any (hidden_in_any σ.map w v) (entries σ.map.slots))

-- a validation's causes with them
abbrev causes_any : State → ℕ → List Cause
causes_any σ w =
    no_worker σ w
    ∷ worker_free σ w
    ∷ wrong_stage is_locked σ w
    ∷ cause (any (changed_since σ) (worker_of σ w).reads) Changed
    ∷ cause (any (locked_by_other σ w) (keys (worker_of σ w).reads)) UnderLock
    ∷ cause (any (phantom_in_any σ w) (worker_of σ w).versions) Phantom
    ∷ cause (not (less σ.counters.number limits.last_number)) Spent
    ∷ []

-- ---- each test is narrower

both_narrower : (a b c : Bool) → (b ≡ false → c ≡ false) → both a b ≡ false → both a c ≡ false
both_narrower true b c f e = f e
both_narrower false b c f e = refl

either_narrower : (a b c : Bool) → (b ≡ false → c ≡ false) → either a b ≡ false → either a c ≡ false
either_narrower true b c f e = e
either_narrower false b c f e = f e

any_narrower : {A : Type 0} (p q : A → Bool) → ((x : A) → p x ≡ false → q x ≡ false) → (xs : List A) → any p xs ≡ false → any q xs ≡ false
any_narrower p q f xs e = none_any q xs (λ x m. f x (any_false p xs e x m))

hiding_narrower : (w : ℕ) (c : Content) → hiding_any w c ≡ false → hiding w c ≡ false
unfolding hiding put_pending
hiding_narrower w c e = go c.pending e
  where
    held : (b : Bool) → held_by_other w c ≡ false → both b (held_by_other w c) ≡ false
    held true t = t
    held false t = refl

    go : (o : Option Pending) → either (present o) (held_by_other w c) ≡ false
        → either (maybe o false (λ (p : Pending). is_put p.write)) (both c.for_put (held_by_other w c)) ≡ false
    go none t = held c.for_put t
    go (some p) t = clash refl t

phantom_narrower : (σ : State) (w v : ℕ) → phantom_in_any σ w v ≡ false → phantom_in σ.map w v ≡ false
unfolding phantom_in hides hidden_in
phantom_narrower σ w v =
    either_narrower (not (live σ.map.leaves v)) (any (hidden_in_any σ.map w v) (entries σ.map.slots)) (any (hidden_in σ.map w v) (entries σ.map.slots))
    (any_narrower (hidden_in_any σ.map w v) (hidden_in σ.map w v)
    (λ e. both_narrower (same (version_at σ.map.leaves e.key) v) _ _
    (both_narrower (not (present (look σ.map.records e.key))) _ _ (hiding_narrower w e.item)))
    (entries σ.map.slots))

-- no phantom in the wider sense, none in the narrower
fewer_phantoms : (σ : State) (w : ℕ) → any (phantom_in_any σ w) (worker_of σ w).versions ≡ false → any (phantom_in σ.map w) (worker_of σ w).versions ≡ false
fewer_phantoms σ w = any_narrower (phantom_in_any σ w) (phantom_in σ.map w) (phantom_narrower σ w) (worker_of σ w).versions

pub still_granted : (σ : State) (w : ℕ) → first_cause (causes_any σ w) ≡ none → refusal σ (validate w) ≡ none
unfolding refusal causes
still_granted σ w e =
    let a = cause_passed _ _ e in
    let b = cause_passed _ _ a.1 in
    let c = cause_passed _ _ b.1 in
    let d = cause_passed _ _ c.1 in
    let f = cause_passed _ _ d.1 in
    let g = cause_passed _ _ f.1 in
    cause_passes _ _ a.0
    (cause_passes _ _ b.0
    (cause_passes _ _ c.0 (cause_passes _ _ d.0 (cause_passes _ _ f.0 (cause_passes _ _ (fewer_phantoms σ w g.0) g.1)))))
