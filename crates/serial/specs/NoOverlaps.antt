-- Request 102: after any list of steps from a fresh guarded map, the present sections fit, and no two of them share a byte.
--
-- By the order of the commit numbers: what a transaction puts has room between what it saw (`RoomFor`), and what it saw is
-- what those with smaller numbers leave (`Valid`).
use Rattle.std.specs.Prelude.{ℕ, zero, suc, ◌-◌, ◌<◌, ◌≤◌, ◌≡◌, ◌⊎◌, Bool, true, false, not}
use native.Mathlib.Omega.{arith}
use Rattle.std.proofs.Math.Path.{refl, ap, subst}
use Rattle.std.proofs.Common.{sym, ◌∙◌, inl, inr, ⊎_elim}
use mathlib.Core.List.{List, [], ◌∷◌, Memᴰ}
use Rattle.std.proofs.Math.Option.{Option, none, some}
use Rattle.lists.specs.Tests.{pick, both, maybe, at_most, within}
use Rattle.lists.specs.TestLaws.{cases, at_most_true, at_most_false, at_most_no}
use Rattle.lists.specs.Options.{both_options, some_same}
use Rattle.lists.specs.Rows.{Row, row, look, From, Rising}
use Rattle.lists.specs.RowLaws.{look_nil, look_here, look_there}
use Rattle.spec.specs.declared.Refusal.{Refusal}
use Rattle.spec.specs.Refusals.{ends}
use Rattle.spec.specs.Records.{limits, Made, standard_map, Payload, Record, Write, written, deleted, outcome, payload_of}
use Rattle.spec.specs.Guards.{last_byte, share, unfit, NoOverlap}
use Rattle.spec.specs.Maps.{contents}
use Rattle.spec.specs.Steps.{State, fresh, Step, merge, merge_oldest, step_worker, refusal, with_worker, with_map, with_counters, install_counted, dropped, merged, effect, after_refusal, next, final, history, act, beginning, access, locking, validating, installing, aborting}
use Rattle.spec.specs.Sequential.{after_steps}
use Rattle.spec.specs.Claim.{Transaction, Reading, nothing_read, read_on, reading, list_after}
use Rattle.spec.specs.GoodTuning.{GoodTuning}
use Rattle.laws.specs.WorkerLaws.{standard_tuning}
use Rattle.serial.specs.Feeding.{event_writes, laid, look_after_all, look_member, list_after_none, rising_list_after}
use Rattle.serial.specs.Invariant.{Facts, Observation, Matches, RoomFor, Done, Invariant}
use Rattle.serial.specs.Observing.{within_low}
use Rattle.serial.specs.Model.{facts, not-false}
use Rattle.serial.specs.Finishing.{either_left}
use Rattle.serial.specs.Theorem.{run_sound, fresh_sound, every_run_is_serial}

-- ---- sections by address

-- The sections of a list fit, and no two share a byte.
record Spaced (l : List (Row Record)) : Type 0 where
  pub fit : (k : ℕ) (r : Record) → look l k ≡ some r → unfit k r.payload.value ≡ false
  pub apart :
      (j k : ℕ) (q r : Record) → (j ≡ k → ⊥) → look l j ≡ some q → look l k ≡ some r
      → share j q.payload.value k r.payload.value ≡ false

share_swap : (j m k n : ℕ) → share j m k n ≡ share k n j m
unfolding share
share_swap j m k n = go (at_most j (last_byte k n)) (at_most k (last_byte j m))
  where
    go : (a b : Bool) → both a b ≡ both b a
    go true true = refl
    go true false = refl
    go false true = refl
    go false false = refl

-- a section that fits has a length from 1 to the longest
fit_length : (k n : ℕ) → unfit k n ≡ false → (1 ≤ n) × (n ≤ limits.longest)
unfolding unfit
fit_length k n e = within_low 1 limits.longest n (not-false (within 1 limits.longest n) (either_left (not (within 1 limits.longest n)) _ e))

-- one that starts behind the last byte of the other shares none
share_behind : (j m k n : ℕ) → last_byte k n < j → share j m k n ≡ false
unfolding share
share_behind j m k n h = rw (at_most_no h)

-- one that starts too far below to reach the other shares none
share_before : (j m k n lo : ℕ) → unfit j m ≡ false → j < lo → lo ≤ k - (limits.longest - 1) → share j m k n ≡ false
share_before j m k n lo f h l = share_swap j m k n ∙ share_behind k n j m (short (fit_length j m f))
  where
    short : (1 ≤ m) × (m ≤ limits.longest) → last_byte j m < k
    short b = let x : 1 ≤ m = b.0 in let y : m ≤ limits.longest = b.1 in unfold last_byte in omega arith

-- ---- one transaction more

-- what writes leave at a key is an own put, or what stood there
left_by_lem : (n : ℕ) (x : Option Write) (o : Option Record) (r : Record) → maybe x o (outcome n) ≡ some r
    → (x ≡ some (written r.payload)) ⊎ ((x ≡ none) × (o ≡ some r))
unfolding outcome
left_by_lem n none o r e = inr (refl, e)
left_by_lem n (some (written p)) o r e = inl (ap (λ (y : Record). some (written y.payload)) (some_same e))
left_by_lem n (some deleted) o r e = both_options e refl

module _ (n : ℕ) (ws : List (Row Write)) (os : List Observation) (l l' : List (Row Record))
    (over : (k : ℕ) → look l' k ≡ laid n ws k (look l k))
    (room : (k : ℕ) (p : Payload) → look ws k ≡ some (written p) → RoomFor os ws k p)
    (seen : Matches os l) (h : Spaced l) where
  -- a put and what stood elsewhere: it was seen, or lies too far away
  put_apart : (j k : ℕ) (q : Record) (p : Payload) → (j ≡ k → ⊥) → look ws j ≡ none → look l j ≡ some q → look ws k ≡ some (written p)
      → share j q.payload.value k p.value ≡ false
  put_apart j k q p d e t w =
      ⊎_elim
      (λ a. ⊎_elim
      (λ b. inside (at_most_true g.o.lo j a) (at_most_true j g.o.hi b))
      (λ b. share_behind j q.payload.value k p.value (behind (at_most_false j g.o.hi b) g.above))
      (cases (at_most j g.o.hi)))
      (λ a. share_before j q.payload.value k p.value g.o.lo (h.fit j q t) (at_most_false g.o.lo j a) g.below)
      (cases (at_most g.o.lo j))
    where
      g : RoomFor os ws k p
      g = room k p w

      behind : g.o.hi < j → last_byte k p.value ≤ g.o.hi → last_byte k p.value < j
      behind x y = omega arith

      inside : g.o.lo ≤ j → j ≤ g.o.hi → share j q.payload.value k p.value ≡ false
      inside a b = g.others j q.payload d e a b (ap payload_of (sym (seen g.o g.member j a b) ∙ t) ∙ (unfold payload_of in refl))

  left : (k : ℕ) (r : Record) → look l' k ≡ some r → (look ws k ≡ some (written r.payload)) ⊎ ((look ws k ≡ none) × (look l k ≡ some r))
  left k r e = left_by_lem n (look ws k) (look l k) r (sym (over k) ∙ e)

  spaced_laid : Spaced l'
  spaced_laid =
      record {
        fit = λ k r e. ⊎_elim (λ w. (room k r.payload w).fits) (λ w. h.fit k r w.1) (left k r e);
        apart =
            λ j k q r d e f.
            ⊎_elim
            (λ w. ⊎_elim
            (λ v. (room k r.payload v).own j q.payload d w)
            (λ v. share_swap j q.payload.value k r.payload.value ∙ put_apart k j r q.payload (λ x. d (sym x)) v.0 v.1 w)
            (left k r f))
            (λ w. ⊎_elim
            (λ v. put_apart j k q r.payload d w.0 w.1 v)
            (λ v. h.apart j k q r d w.1 v.1)
            (left k r f))
            (left j q e);
      }

-- ---- all transactions

module _ {F : Facts} {ρ : Reading} (i : Invariant F ρ) (g : F.guard ≡ true) where
  spaced_after : (m : ℕ) → Spaced (list_after ρ.installed m)
  spaced_after zero =
      unfold list_after in
      record { fit = λ k r e. both_options e (look_nil k); apart = λ j k q r d e f. both_options e (look_nil j) }
  spaced_after (suc m) = go (look ρ.installed (suc m)) refl (spaced_after m)
    where
      go : (o : Option Transaction) → look ρ.installed (suc m) ≡ o → Spaced (list_after ρ.installed m)
          → Spaced (list_after ρ.installed (suc m))
      go none e h = subst Spaced (sym (list_after_none ρ.installed m e)) h
      go (some t) e h = spaced_laid (suc m) (event_writes t.events) d.os (list_after ρ.installed m) (list_after ρ.installed (suc m)) over (d.room g) seen h
        where
          d : Done F ρ.installed (row (suc m) t)
          d = i.done (row (suc m) t) (look_member ρ.installed (suc m) t e)

          seen : Matches d.os (list_after ρ.installed m)
          seen =
              subst (λ (j : ℕ). Matches d.os (list_after ρ.installed j))
              (let q : suc m ≡ suc d.m = d.number in let z : d.m ≡ m = omega arith in z)
              d.valid.before

          over : (k : ℕ) → look (list_after ρ.installed (suc m)) k ≡ laid (suc m) (event_writes t.events) k (look (list_after ρ.installed m) k)
          over k =
              unfold list_after in
              ap
              (λ (x : Option Transaction).
              look (maybe x (list_after ρ.installed m) (λ (y : Transaction). after_steps (suc m) (list_after ρ.installed m) y.events)) k)
              e
              ∙ look_after_all (suc m) (list_after ρ.installed m) t.events k

-- ---- rows

member_look : (lo : ℕ) (rs : List (Row Record)) (r : Row Record) → From lo rs → Memᴰ r rs → (lo ≤ r.key) × (look rs r.key ≡ some r.item)
unfolding From
member_look lo [] r f x'' = elim x'' [ ]
member_look lo (x ∷ rs) r f (Memᴰ.head e) =
    (subst (λ (y : Row Record). lo ≤ y.key) (sym e) f.0, look_here x rs r.key (ap (λ (y : Row Record). y.key) (sym e)) ∙ ap (λ (y : Row Record). some y.item) (sym e))
member_look lo (x ∷ rs) r f (Memᴰ.tail m) =
    let a = member_look (suc x.key) rs r f.1 m in
    let b : suc x.key ≤ r.key = a.0 in
    let c : lo ≤ x.key = f.0 in
    (omega arith, look_there x rs r.key (λ q. omega arith) ∙ a.1)

spaced_rows : (l : List (Row Record)) → Rising l → Spaced l → NoOverlap l
unfolding Rising
spaced_rows l f h =
    record {
      fit = λ r m. h.fit r.key r.item (member_look 0 l r f m).1;
      apart = λ r q m n d. h.apart r.key q.key r.item q.item d (member_look 0 l r f m).1 (member_look 0 l q f n).1;
    }

-- ---- a map stays guarded

granted_guard : (σ : State) (s : Step) → (facts (effect σ s)).guard ≡ (facts σ).guard
unfolding effect with_worker with_map with_counters install_counted dropped merged
granted_guard σ (act w beginning) = refl
granted_guard σ (act w (access a)) = refl
granted_guard σ (act w locking) = refl
granted_guard σ (act w validating) = refl
granted_guard σ (act w installing) = refl
granted_guard σ (act w aborting) = refl
granted_guard σ (merge a) = refl
granted_guard σ merge_oldest = refl

refused_guard : (σ : State) (s : Step) (r : Refusal) → (facts (after_refusal σ s r)).guard ≡ (facts σ).guard
unfolding after_refusal dropped with_worker with_map
refused_guard σ s r = go (ends r) (step_worker s)
  where
    go : (b : Bool) (o : Option ℕ) → (facts (pick b (maybe o σ (dropped σ)) σ)).guard ≡ (facts σ).guard
    go true none = refl
    go true (some w) = refl
    go false o = refl

final_guard : (σ : State) (ss : List Step) → (facts (final σ ss)).guard ≡ (facts σ).guard
unfolding final next
final_guard σ [] = refl
final_guard σ (s ∷ ss) = final_guard (next σ s) ss ∙ go (refusal σ s)
  where
    go : (o : Option Refusal) → (facts (maybe o (effect σ s) (after_refusal σ s))).guard ≡ (facts σ).guard
    go none = granted_guard σ s
    go (some r) = refused_guard σ s r

-- ---- the statement

-- no list of steps makes two sections of a guarded map overlap
pub no_overlap : (d : Made) → d.guarded ≡ true → GoodTuning d.tuning → (ss : List Step) → NoOverlap (contents (final (fresh d) ss).map)
unfolding reading
no_overlap d g c ss =
    let ρ : Reading = read_on nothing_read (history (fresh d) ss) in
    subst NoOverlap (every_run_is_serial d c ss).same_contents
    (spaced_rows (list_after ρ.installed ρ.given) (rising_list_after ρ.installed ρ.given)
    (spaced_after (run_sound (fresh d) nothing_read ss (fresh_sound d c)).invariant (final_guard (fresh d) ss ∙ g) ρ.given))

-- ... under document 01's limits
pub no_overlap_standard : (ss : List Step) → NoOverlap (contents (final (fresh (standard_map true)) ss).map)
no_overlap_standard ss = no_overlap (standard_map true) refl standard_tuning ss
