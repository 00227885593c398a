-- A step lists no more records than the shortest of its buffers has places.
use Rattle.std.specs.Prelude.{ℕ, ◌≤◌, ◌≡◌, refl, length, Result, Ok, Err}
use Rattle.std.proofs.Common.{arith, sym, ap, ◌∙◌, subst}
use Rattle.std.proofs.Math.Option.{Option, none, some}
use Rattle.lists.specs.Tests.{maybe}
use Rattle.lists.specs.TestLaws.{less_false}
use Rattle.spec.specs.declared.Refusal.{Refusal}
use Rattle.spec.specs.Steps as model
use Rattle.spec.specs.Steps.{Places, shortest, State, Step, Answer, refused, done, found, listed, numbered, counted, answer, granted, refusal, causes, scanned, access_causes, access_answer}
use Rattle.laws.specs.WorkerLaws.{cause_passed}
use Rattle.buffers.specs.Buffers.{Buffers}
use Rattle.buffers.specs.BufferLaws.{length_rows}
use Rattle.engine.specs.declared.steps.Access.TheVariants as access
use Rattle.engine.specs.declared.steps.Ending.TheVariants as ending
use Rattle.engine.specs.declared.steps.Op.{Op}
use Rattle.engine.specs.declared.steps.Op.TheVariants as op
use Rattle.engine.specs.declared.steps.Told.{Told}
use Rattle.engine.specs.declared.steps.Told.TheVariants as told
use Rattle.engine.specs.Performs.{step_in, reply_in, places_in}

-- how many records an answer lists
abbrev count_in : Answer → ℕ
count_in (refused r) = 0
count_in done = 0
count_in (found p n) = 0
count_in (listed rs) = length rs
count_in (numbered n) = 0
count_in (counted n) = 0

scan_room : (σ : State) (w lo hi : ℕ) (b : Places) → refusal σ (model.scan w lo hi b) ≡ none → length (scanned σ w lo hi) ≤ shortest b
unfolding refusal causes access_causes
scan_room σ w lo hi b e =
    let a = (cause_passed _ _ e).1 in
    let g = (cause_passed _ _ a).1 in
    let c = (cause_passed _ _ g).1 in
    let d = (cause_passed _ _ c).1 in
    let f = (cause_passed _ _ d).1 in
    less_false (shortest b) (length (scanned σ w lo hi)) (cause_passed _ _ f).0

-- none but a scan lists any
none_listed : (σ : State) (s : Step) (m : ℕ) → count_in (granted σ s) ≡ 0 → count_in (answer σ s) ≤ m
unfolding answer
none_listed σ s m z = go (refusal σ s)
  where
    go : (q : Option Refusal) → count_in (maybe q (granted σ s) refused) ≤ m
    go none = subst (λ (k : ℕ). k ≤ m) (sym z) (omega arith)
    go (some r) = omega arith

scan_listed : (σ : State) (w lo hi : ℕ) (b : Places) → count_in (answer σ (model.scan w lo hi b)) ≤ shortest b
unfolding answer granted access_answer
scan_listed σ w lo hi b = go (refusal σ (model.scan w lo hi b)) refl
  where
    go : (q : Option Refusal) → refusal σ (model.scan w lo hi b) ≡ q
        → count_in (maybe q (listed (scanned σ w lo hi)) refused) ≤ shortest b
    go none e = scan_room σ w lo hi b e
    go (some r) e = omega arith

listed_fits : (σ : State) (o : Op) (b : Places) → count_in (answer σ (step_in o b)) ≤ shortest b
unfolding granted access_answer
listed_fits σ (op.Begin w) b = none_listed σ (model.begin w) (shortest b) refl
listed_fits σ (op.Access w (access.Read a)) b = none_listed σ (model.read w a) (shortest b) refl
listed_fits σ (op.Access w (access.Scan lo hi)) b = scan_listed σ w lo hi b
listed_fits σ (op.Access w (access.Put a v o)) b = none_listed σ (model.put w a (record { value = v; owner = o })) (shortest b) refl
listed_fits σ (op.Access w (access.Remove a)) b = none_listed σ (model.remove w a) (shortest b) refl
listed_fits σ (op.Ending w ending.Lock) b = none_listed σ (model.lock w) (shortest b) refl
listed_fits σ (op.Ending w ending.Validate) b = none_listed σ (model.validate w) (shortest b) refl
listed_fits σ (op.Ending w ending.Install) b = none_listed σ (model.install w) (shortest b) refl
listed_fits σ (op.Ending w ending.Abort) b = none_listed σ (model.abort w) (shortest b) refl
listed_fits σ (op.Merge a) b = none_listed σ (model.merge a) (shortest b) refl
listed_fits σ op.MergeOldest b = none_listed σ model.merge_oldest (shortest b) refl

places_count : (p : Result Told Refusal) (d : Buffers) → places_in p ≡ count_in (reply_in p d)
places_count (Ok told.Nothing) d = refl
places_count (Ok (told.Found f)) d = refl
places_count (Ok (told.Listed n)) d = sym (length_rows n d)
places_count (Ok (told.Numbered n)) d = refl
places_count (Ok (told.Counted n)) d = refl
places_count (Err r) d = refl

pub places_fit : (σ : State) (o : Op) (b : Places) (p : Result Told Refusal) (d : Buffers) → reply_in p d ≡ answer σ (step_in o b) → places_in p ≤ shortest b
places_fit σ o b p d e =
    subst (λ (x : ℕ). x ≤ shortest b) (sym (places_count p d ∙ ap count_in e)) (listed_fits σ o b)
