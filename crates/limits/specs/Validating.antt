-- Validation is granted exactly when each logged record or absence is unchanged and not locked by another worker, each
-- scanned leaf is the same leaf and hides no key, and a commit number is left. And install in its stage is never refused.
use Rattle.std.specs.Prelude.{ℕ, ◌<◌, ◌≡◌, refl, ◌⊎◌, ◌↔◌, Bool, true, false}
use Rattle.std.proofs.Common.{sym, ◌∙◌, inl, inr}
use Rattle.std.proofs.Math.Path.{ap, subst}
use Rattle.std.proofs.Math.Logic.{⊎_elim}
use Rattle.std.proofs.Math.Bool.{not}
use mathlib.Core.List.{[], Memᴰ}
use Rattle.std.proofs.Math.Option.{Option, none, some}
use Rattle.lists.specs.Tests.{both, either, maybe, present, same, less}
use Rattle.lists.specs.TestLaws.{cases, clash, same_true, same_refl, same_yes, same_no, less_true, less_yes}
use Rattle.lists.specs.Options.{both_options}
use Rattle.lists.specs.Rows.{Row, row, look, keys, any}
use Rattle.lists.specs.RowLaws.{any_false, any_true, none_any, some_any}
use Rattle.lists.specs.Ascending.{mem_keys, keys_mem}
use Rattle.spec.specs.declared.Stage.TheVariants.{Locked, Checked}
use Rattle.spec.specs.Records.{limits, Record, is_put, same_record}
use Rattle.spec.specs.Leaves.{Leaf, version_at, live}
use Rattle.spec.specs.Slots.{Pending, Content, is_idle, entries, content_of}
use Rattle.spec.specs.Maps.{MapState, current, held_by_other, put_pending, hiding, hidden_in, hides, phantom_in}
use Rattle.spec.specs.Steps.{State, worker_of, validate, install, is_free, is_locked, is_checked, locked_by_other, changed_since, causes, refusal}
use Rattle.laws.specs.SlotLaws.{Good, member_content, content_member}
use Rattle.laws.specs.MapLaws.{idle_holder, idle_pending}
use Rattle.laws.specs.RecordLaws.{both_left, both_right, same_record_true, same_record_refl}
use Rattle.laws.specs.WorkerLaws.{locked_stage, not-false, cause_passed, cause_passes, no_causes, stage_passed, stage_passes}

-- a put is pending there, or another worker has a lock for a put
abbrev UnseenPut : ℕ → Content → Type 0
UnseenPut w c =
    ((p : Pending) × (c.pending ≡ some p) × (is_put p.write ≡ true)) ⊎ ((u : ℕ) × (c.holder ≡ some u) × (u ≡ w → ⊥) × (c.for_put ≡ true))

-- Worker w is hidden the address k, of which the indexlet says c, in the leaf with version v: the index does not hold it,
-- and a put is pending there or another worker has a lock for a put.
pub record Hidden (m : MapState) (w v k : ℕ) (c : Content) : Type 0 where
  pub in_leaf_lem : version_at m.leaves k ≡ v
  pub unindexed : look m.records k ≡ none
  pub why : UnseenPut w c

-- What a validation asks, of every member of the log.
pub record Valid (σ : State) (w : ℕ) : Type 0 where
  pub inside : w < limits.workers
  pub stage : (worker_of σ w).stage ≡ Locked
  pub unchanged : (r : Row (Option Record)) → Memᴰ r (worker_of σ w).reads → current σ.map r.key ≡ r.item
  pub unlocked :
      (r : Row (Option Record)) → Memᴰ r (worker_of σ w).reads
      → ((content_of σ.map.slots r.key).holder ≡ none) ⊎ ((content_of σ.map.slots r.key).holder ≡ some w)
  pub same_leaf : (v : ℕ) → Memᴰ v (worker_of σ w).versions → (l : Leaf) × Memᴰ l σ.map.leaves × (l.version ≡ v)
  pub no_phantom :
      (v : ℕ) → Memᴰ v (worker_of σ w).versions
      → (e : Row Content) → Memᴰ e (entries σ.map.slots) → Hidden σ.map w v e.key e.item → ⊥
  pub number_left : σ.counters.number < limits.last_number

-- ---- tests and what they say

either_none : (a b : Bool) → a ≡ false → b ≡ false → either a b ≡ false
either_none a b p q = rw p q

unheld : (w : ℕ) (c : Content) → held_by_other w c ≡ false → (c.holder ≡ none) ⊎ (c.holder ≡ some w)
unfolding held_by_other
unheld w c e = go c.holder e
  where
    go : (o : Option ℕ) → maybe o false (λ (h : ℕ). not (same h w)) ≡ false → (o ≡ none) ⊎ (o ≡ some w)
    go none t = inl refl
    go (some u) t = inr (ap some (same_true u w (not-false (same u w) t)))

held_not : (w : ℕ) (c : Content) → (c.holder ≡ none) ⊎ (c.holder ≡ some w) → held_by_other w c ≡ false
unfolding held_by_other
held_not w c (inl e) = ap (λ (o : Option ℕ). maybe o false (λ (h : ℕ). not (same h w))) e
held_not w c (inr e) =
    ap (λ (o : Option ℕ). maybe o false (λ (h : ℕ). not (same h w))) e ∙ ap not (same_refl w)

held_by_other_lem : (w : ℕ) (c : Content) → held_by_other w c ≡ true → (u : ℕ) × (c.holder ≡ some u) × (u ≡ w → ⊥)
unfolding held_by_other
held_by_other_lem w c e = go c.holder e
  where
    go : (o : Option ℕ) → maybe o false (λ (h : ℕ). not (same h w)) ≡ true → (u : ℕ) × (o ≡ some u) × (u ≡ w → ⊥)
    go none t = clash t refl
    go (some u) t = (u, refl, λ q. clash t (ap not (same_yes {m = u} {n = w} q)))

absent_none : {A : Type 0} (o : Option A) → present o ≡ false → o ≡ none
absent_none none e = refl
absent_none (some a) e = clash refl e

put_pending_lem : (c : Content) → put_pending c ≡ true → (p : Pending) × (c.pending ≡ some p) × (is_put p.write ≡ true)
unfolding put_pending
put_pending_lem c e = go c.pending e
  where
    go : (o : Option Pending) → maybe o false (λ (p : Pending). is_put p.write) ≡ true → (p : Pending) × (o ≡ some p) × (is_put p.write ≡ true)
    go none t = clash t refl
    go (some p) t = (p, refl, t)

why_hiding : (w : ℕ) (c : Content) → hiding w c ≡ true → UnseenPut w c
unfolding hiding
why_hiding w c e =
    ⊎_elim
    (λ t. inl (put_pending_lem c t))
    (λ t.
    let q : both c.for_put (held_by_other w c) ≡ true = sym (ap (λ (b : Bool). either b (both c.for_put (held_by_other w c))) t) ∙ e in
    let r = held_by_other_lem w c (both_right c.for_put _ q) in
    inr (r.0, r.1, r.2, both_left c.for_put _ q))
    (cases (put_pending c))

hiding_why : (w : ℕ) (c : Content) → UnseenPut w c → hiding w c ≡ true
unfolding hiding put_pending held_by_other
hiding_why w c (inl r) = rw (r.1, r.2)
hiding_why w c (inr r) = other (cases (put_pending c))
  where
    other : (put_pending c ≡ true) ⊎ (put_pending c ≡ false) → hiding w c ≡ true
    other (inl t) = rw t
    other (inr t) = rw (t, r.3, r.1, same_no {m = r.0} {n = w} r.2)

hidden_test : (m : MapState) (w v : ℕ) (e : Row Content) → hidden_in m w v e ≡ true → Hidden m w v e.key e.item
unfolding hidden_in
hidden_test m w v e t =
    let a = both_left (same (version_at m.leaves e.key) v) _ t in
    let b = both_right (same (version_at m.leaves e.key) v) _ t in
    record {
      in_leaf_lem = same_true (version_at m.leaves e.key) v a;
      unindexed = absent_none (look m.records e.key) (not-true (present (look m.records e.key)) (both_left (not (present (look m.records e.key))) _ b));
      why = why_hiding w e.item (both_right (not (present (look m.records e.key))) _ b);
    }
  where
    not-true : (b : Bool) → not b ≡ true → b ≡ false
    not-true true q = sym q
    not-true false q = refl

test_hidden : (m : MapState) (w v : ℕ) (e : Row Content) → Hidden m w v e.key e.item → hidden_in m w v e ≡ true
unfolding hidden_in
test_hidden m w v e r =
    rw (same_yes {m = version_at m.leaves e.key} {n = v} r.in_leaf_lem, r.unindexed) (hiding_why w e.item r.why)

-- ---- the log

module _ (σ : State) (w : ℕ) where
  unchanged_is : (any (changed_since σ) (worker_of σ w).reads ≡ false)
      ↔ ((r : Row (Option Record)) → Memᴰ r (worker_of σ w).reads → current σ.map r.key ≡ r.item)
  unfolding changed_since
  unchanged_is = (
    λ e r m. same_record_true (current σ.map r.key) r.item (not-false (same_record (current σ.map r.key) r.item) (any_false (changed_since σ) (worker_of σ w).reads e r m)),
    λ f. none_any (changed_since σ) (worker_of σ w).reads
        (λ r m. ap (λ (o : Option Record). not (same_record o r.item)) (f r m) ∙ ap not (same_record_refl r.item)),
  )

  unlocked_is : (any (locked_by_other σ w) (keys (worker_of σ w).reads) ≡ false)
      ↔ ((r : Row (Option Record)) → Memᴰ r (worker_of σ w).reads
      → ((content_of σ.map.slots r.key).holder ≡ none) ⊎ ((content_of σ.map.slots r.key).holder ≡ some w))
  unfolding locked_by_other
  unlocked_is = (
    λ e r m. unheld w (content_of σ.map.slots r.key) (any_false (locked_by_other σ w) (keys (worker_of σ w).reads) e r.key (keys_mem r (worker_of σ w).reads m)),
    λ f. none_any (locked_by_other σ w) (keys (worker_of σ w).reads)
        (λ k m. let q = mem_keys (worker_of σ w).reads m in
        subst (λ (j : ℕ). held_by_other w (content_of σ.map.slots j) ≡ false) q.2 (held_not w (content_of σ.map.slots q.0.key) (f q.0 q.1))),
  )

  live_is : (v : ℕ) → (live σ.map.leaves v ≡ true) ↔ ((l : Leaf) × Memᴰ l σ.map.leaves × (l.version ≡ v))
  unfolding live
  live_is v = (
    λ e. let r = any_true (λ (l : Leaf). same l.version v) σ.map.leaves e in (r.0, r.1, same_true r.0.version v r.2),
    λ r. some_any (λ (l : Leaf). same l.version v) σ.map.leaves r.0 r.1 (same_yes {m = r.0.version} {n = v} r.2),
  )

  hides_is : (v : ℕ) → (hides σ.map w v ≡ false)
      ↔ ((e : Row Content) → Memᴰ e (entries σ.map.slots) → Hidden σ.map w v e.key e.item → ⊥)
  unfolding hides
  hides_is v = (
    λ t e m r. clash (test_hidden σ.map w v e r) (any_false (hidden_in σ.map w v) (entries σ.map.slots) t e m),
    λ f. none_any (hidden_in σ.map w v) (entries σ.map.slots)
        (λ e m. ⊎_elim (λ t. absurd (f e m (hidden_test σ.map w v e t))) (λ t. t) (cases (hidden_in σ.map w v e))),
  )

  phantom_is : (v : ℕ) → (phantom_in σ.map w v ≡ false)
      ↔ (((l : Leaf) × Memᴰ l σ.map.leaves × (l.version ≡ v))
      × ((e : Row Content) → Memᴰ e (entries σ.map.slots) → Hidden σ.map w v e.key e.item → ⊥))
  unfolding phantom_in
  phantom_is v = (
    λ e. ⊎_elim
        (λ t. ((live_is v).0 t, (hides_is v).0 (sym (ap (λ (b : Bool). either (not b) (hides σ.map w v)) t) ∙ e)))
        (λ t. clash (ap (λ (b : Bool). either (not b) (hides σ.map w v)) t) e)
        (cases (live σ.map.leaves v)),
    λ r. either_none (not (live σ.map.leaves v)) (hides σ.map w v) (ap not ((live_is v).1 r.0)) ((hides_is v).1 r.1),
  )

  granted_valid : refusal σ (validate w) ≡ none → Valid σ w
  unfolding refusal causes
  granted_valid e =
      let a = stage_passed σ is_locked w _ e in
      let b = cause_passed _ _ a.2 in
      let c = cause_passed _ _ b.1 in
      let d = cause_passed _ _ c.1 in
      let f = cause_passed _ _ d.1 in
      record {
        inside = a.0;
        stage = locked_stage (worker_of σ w).stage a.1;
        unchanged = unchanged_is.0 b.0;
        unlocked = unlocked_is.0 c.0;
        same_leaf = λ v m. ((phantom_is v).0 (any_false (phantom_in σ.map w) (worker_of σ w).versions d.0 v m)).0;
        no_phantom = λ v m. ((phantom_is v).0 (any_false (phantom_in σ.map w) (worker_of σ w).versions d.0 v m)).1;
        number_left = less_true σ.counters.number limits.last_number (not-false (less σ.counters.number limits.last_number) f.0);
      }

  valid_granted : Valid σ w → refusal σ (validate w) ≡ none
  unfolding refusal causes is_free is_locked
  valid_granted r =
      stage_passes σ is_locked w _ r.inside (ap is_free r.stage) (ap is_locked r.stage)
      (cause_passes _ _ (unchanged_is.1 r.unchanged)
      (cause_passes _ _ (unlocked_is.1 r.unlocked)
      (cause_passes _ _ (none_any (phantom_in σ.map w) (worker_of σ w).versions (λ v m. (phantom_is v).1 (r.same_leaf v m, r.no_phantom v m)))
      (cause_passes _ _ (ap not (less_yes r.number_left)) no_causes))))

  -- validation is granted exactly when the log is valid
  pub validation_exact : (refusal σ (validate w) ≡ none) ↔ Valid σ w
  validation_exact = (granted_valid, valid_granted)

  -- install in its stage is never refused
  pub install_granted : w < limits.workers → (worker_of σ w).stage ≡ Checked → refusal σ (install w) ≡ none
  unfolding refusal causes is_free is_checked
  install_granted i s = stage_passes σ is_checked w [] i (ap is_free s) (ap is_checked s) no_causes

-- ---- hidden keys, by address

-- that no entry makes a hidden key in the leaf says that no address is one
pub hidden_addresses : {bytes : ℕ} {m : MapState} → Good bytes m.slots → (w v : ℕ)
    → ((e : Row Content) → Memᴰ e (entries m.slots) → Hidden m w v e.key e.item → ⊥)
    ↔ ((k : ℕ) → Hidden m w v k (content_of m.slots k) → ⊥)
hidden_addresses {bytes} {m} g w v = (
  λ f k r. f (row k (content_of m.slots k)) (content_member g k (busy k r)) r,
  λ f e p r. f e.key (subst (Hidden m w v e.key) (sym (member_content g p)) r),
)
  where
    busy : (k : ℕ) → Hidden m w v k (content_of m.slots k) → is_idle (content_of m.slots k) ≡ false
    busy k r =
        ⊎_elim
        (λ t. ⊎_elim
        (λ p. both_options p.1 (idle_pending (content_of m.slots k) t))
        (λ u. both_options u.1 (idle_holder (content_of m.slots k) t))
        r.why)
        (λ t. t)
        (cases (is_idle (content_of m.slots k)))
