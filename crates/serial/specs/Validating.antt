-- A granted validation keeps the invariant: the new transaction comes after all others, what it observed is what stands
-- now, and nobody who may still be installed before it would change that.
use Prim.Native.Nat.{ℕ, suc, ◌<◌, ◌≤◌}
use Rattle.std.proofs.Common.{le_refl, ap, ◌∙◌, inl, ⊎_elim}
use Rattle.std.proofs.Math.Nat.{le_trans, le_step, le_of_eq}
use native.Mathlib.Omega.{arith}
use Rattle.std.specs.Prelude.{◌≡◌, Bool, false}
use Rattle.std.proofs.Math.Path.{refl, sym, subst}
use Rattle.std.proofs.Math.Bool.{true}
use mathlib.Core.List.{List, Memᴰ}
use Rattle.std.proofs.Math.Option.{Option, none, some}
use Rattle.lists.specs.Tests.{present, same}
use Rattle.lists.specs.TestLaws.{cases, clash, same_true, same_false}
use Rattle.lists.specs.Rows.{Row, row, look, keys, Different}
use Rattle.spec.specs.Records.{Payload, Record, Write, written}
use Rattle.spec.specs.Steps.{Worker, is_free, is_open, is_checked}
use Rattle.spec.specs.Claim.{Transaction, Reading, list_after}
use Rattle.serial.specs.Stages.{checked_busy, checked_not_open}
use Rattle.serial.specs.Feeding.{event_writes, NoLaterWriter, look_member, list_after_none}
use Rattle.serial.specs.Invariant.{Facts, Observation, Throughout, Explains, Backed, by_read, by_leaf, RoomFor, Harmless, Valid, CheckedAs, HasLock, put_at, Working, Done, Invariant}
use Rattle.serial.specs.Keeping.{SameChecks, done_kept, checked_kept, Kept, working_kept, backed_kept}

-- no checked worker but w would change r at k
abbrev pub OthersHarmless : Facts → ℕ → ℕ → Option Record → Type 0
OthersHarmless F w k r =
    (v : ℕ) → (v ≡ w → ⊥) → is_checked (F.worker v).stage ≡ true → Harmless (F.worker v).writes k r

-- What a granted validation has tested of worker w's log.
pub record Passed (F : Facts) (w : ℕ) (x : Worker) : Type 0 where
  pub read_same : (k : ℕ) (r : Option Record) → Memᴰ (row k r) x.reads → F.current k ≡ r
  pub read_free : (k : ℕ) (r : Option Record) → Memᴰ (row k r) x.reads → OthersHarmless F w k r
  pub leaf_live : (v : ℕ) → Memᴰ v x.versions → (j : ℕ) × (F.version j ≡ v)
  pub leaf_empty : (v : ℕ) → Memᴰ v x.versions → (k : ℕ) → F.version k ≡ v → F.indexed k ≡ false → F.current k ≡ none
  pub leaf_free : (v : ℕ) → Memᴰ v x.versions → (k : ℕ) → F.version k ≡ v → F.indexed k ≡ false → OthersHarmless F w k none

-- The state and the reading after worker w was validated.
pub record Checks (F F' : Facts) (ρ ρ' : Reading) (w : ℕ) : Type 0 where
  pub given : F'.given ≡ suc F.given
  pub guard : F'.guard ≡ F.guard
  pub last_version : F'.last_version ≡ F.last_version
  pub current : (k : ℕ) → F'.current k ≡ F.current k
  pub indexed : (k : ℕ) → F'.indexed k ≡ F.indexed k
  pub version : (k : ℕ) → F'.version k ≡ F.version k
  pub locks : (v k : ℕ) (b : Bool) → HasLock F v k b → HasLock F' v k b
  pub others : (v : ℕ) → (v ≡ w → ⊥) → F'.worker v ≡ F.worker v
  pub writes : (F'.worker w).writes ≡ (F.worker w).writes
  pub number : (F'.worker w).number ≡ suc F.given
  pub is_checked_lem : is_checked (F'.worker w).stage ≡ true
  pub was_working : is_free (F.worker w).stage ≡ false
  pub was_unchecked : is_checked (F.worker w).stage ≡ false
  pub was_locked : is_open (F.worker w).stage ≡ false
  pub place : ρ.place ≤ ρ'.place
  pub read_given : ρ'.given ≡ suc ρ.given
  pub installed : ρ'.installed ≡ ρ.installed
  pub running : (v : ℕ) → (v ≡ w → ⊥) → look ρ'.running v ≡ look ρ.running v
  -- the worker's transaction has one event more, which is neither compared nor a write, and the number
  pub now : Transaction
  pub now_running : look ρ'.running w ≡ some now
  pub now_number : now.number ≡ suc F.given
  pub now_events :
      (t : Transaction) → look ρ.running w ≡ some t
      → (now.begun ≡ t.begun) × (event_writes now.events ≡ event_writes t.events)
      × ((os : List Observation) → Explains os t.events → Explains os now.events)

module _ {F F' : Facts} {ρ ρ' : Reading} {w : ℕ} (h : Checks F F' ρ ρ' w) (p : Passed F w (F.worker w)) (i : Invariant F ρ) where
  ts : List (Row Transaction)
  ts = ρ.installed

  g : Working F ρ w (F.worker w)
  g = i.working w h.was_working

  more : F.given ≤ F'.given
  more = le_trans (le_step (le_refl F.given)) (le_of_eq (sym h.given))

  -- what the log backs stands now, and nobody else would change it
  stands : (k : ℕ) (r : Option Record) → Backed F (F.worker w) k r → F.current k ≡ r
  stands k r (by_read m) = p.read_same k r m
  stands k r (by_leaf v e m b f) =
      let l = p.leaf_live v m in
      let s = f l.0 l.1 in
      p.leaf_empty v m k s.0 s.1 ∙ sym e

  free : (k : ℕ) (r : Option Record) → Backed F (F.worker w) k r → OthersHarmless F w k r
  free k r (by_read m) = p.read_free k r m
  free k r (by_leaf v e m b f) =
      let l = p.leaf_live v m in
      let s = f l.0 l.1 in
      subst (OthersHarmless F w k) (sym e) (p.leaf_free v m k s.0 s.1)

  -- the checked transactions with a number up to m are those of before
  checks : (m : ℕ) → m ≤ F.given → SameChecks F F' m
  checks m l v c =
      ⊎_elim
      (λ e. absurd (late v (same_true v w e) c.1))
      (λ e. h.others v (same_false v w e))
      (cases (same v w))
    where
      late : (v : ℕ) → v ≡ w → (F'.worker v).number ≤ m → ⊥
      late v e n =
          let q : (F'.worker w).number ≤ m = subst (λ (u : ℕ). (F'.worker u).number ≤ m) e n in
          let s : (F'.worker w).number ≡ suc F.given = h.number in
          omega arith

  fresh_number : look ts (suc F.given) ≡ none
  unfolding ts
  fresh_number = go (look ts (suc F.given)) refl
    where
      go : (o : Option Transaction) → look ts (suc F.given) ≡ o → look ts (suc F.given) ≡ none
      go none e = e
      go (some t) e =
          let d = i.done (row (suc F.given) t) (look_member ts (suc F.given) t e) in
          let a : suc F.given ≡ suc d.m = d.number in
          let b : d.m < F.given = d.given in
          absurd (let z : ⊥ = omega arith in z)

  all_earlier : (k : ℕ) → NoLaterWriter (suc F.given) ts k
  unfolding ts
  all_earlier k r m q =
      let d = i.done r m in
      let a : r.key ≡ suc d.m = d.number in
      let b : d.m < F.given = d.given in
      omega arith

  backed : Throughout g.os (Backed F (F.worker w))
  backed = g.backed h.was_unchecked

  valid : Valid F' ts F.given g.os
  unfolding ts
  valid =
      record {
        before = λ o m k a b. sym (i.current k) ∙ stands k (o.seen k) (backed o m k a b);
        unharmed =
            λ v c o m k a b.
            let e : F'.worker v ≡ F.worker v = checks F.given (le_refl F.given) v c in
            subst (λ (x : Worker). Harmless x.writes k (o.seen k)) (sym e)
            (free k (o.seen k) (backed o m k a b) v (other v e) (subst (λ (x : Worker). is_checked x.stage ≡ true) e c.0));
      }
    where
      other : (v : ℕ) → F'.worker v ≡ F.worker v → v ≡ w → ⊥
      other v e q =
          clash h.is_checked_lem
          (ap (λ (x : Worker). is_checked x.stage) (subst (λ (u : ℕ). F'.worker u ≡ F.worker u) q e) ∙ h.was_unchecked)

  mine : Working F' ρ' w (F'.worker w)
  unfolding ts
  mine =
      let n = h.now_events g.t g.running in
      record {
        t = h.now;
        running = h.now_running;
        wrote = n.1 ∙ g.wrote ∙ sym h.writes;
        os = g.os;
        explains = n.2 g.os g.explains;
        since = g.since;
        since_given = le_trans g.since_given more;
        past =
            λ r m l. g.past r (subst (Memᴰ r) h.installed m) (le_trans l (le_of_eq n.0));
        begun = le_trans (le_of_eq n.0) (le_trans g.begun h.place);
        backed = λ s. clash h.is_checked_lem s;
        locked =
            λ s k.
            subst (λ (ws : List (Row Write)). present (look ws k) ≡ true → HasLock F' w k (put_at ws k)) (sym h.writes)
            (λ q. h.locks w k (put_at (F.worker w).writes k) (g.locked h.was_locked k q));
        checked =
            λ s.
            subst (λ (is : List (Row Transaction)). CheckedAs F' is (F'.worker w) h.now g.os g.since) (sym h.installed)
            (record {
              m = F.given;
              number = h.number;
              told = h.now_number;
              given = le_of_eq (sym h.given);
              later = g.since_given;
              valid = valid;
              unused = fresh_number;
              latest = λ k q. all_earlier k;
            });
        saw = λ s. clash s (checked_not_open (F'.worker w).stage h.is_checked_lem);
        room =
            λ s q.
            subst (λ (ws : List (Row Write)). (k : ℕ) (p : Payload) → look ws k ≡ some (written p) → RoomFor g.os ws k p) (sym h.writes)
            (g.room h.was_locked (sym h.guard ∙ q));
      }

  kept : (v : ℕ) → (v ≡ w → ⊥) → (x : Worker) → Kept F F' ρ ρ' v x
  kept v d x =
      record {
        running = h.running v d;
        given = more;
        guard = h.guard;
        place = h.place;
        installed = λ r m. inl (subst (Memᴰ r) h.installed m);
        backed = backed_kept F F' x (le_of_eq (sym h.last_version)) h.version h.indexed;
        locks = h.locks v;
        checked =
            λ t os since s c.
            subst (λ (is : List (Row Transaction)). CheckedAs F' is x t os since) (sym h.installed)
            (checked_kept F F' ρ.installed x more (λ m l. checks m (le_trans (le_step (le_refl m)) l)) t os since c);
      }

  -- the number of a checked worker of before is not the new one
  old_number : (v : ℕ) → (v ≡ w → ⊥) → is_checked (F'.worker v).stage ≡ true → (F'.worker v).number ≡ suc F.given → ⊥
  old_number v d c e =
      let q : F'.worker v ≡ F.worker v = h.others v d in
      let s : is_checked (F.worker v).stage ≡ true = subst (λ (x : Worker). is_checked x.stage ≡ true) q c in
      let k = (i.working v (checked_busy (F.worker v).stage s)).checked s in
      let a : (F.worker v).number ≡ suc k.m = k.number in
      let b : k.m < F.given = k.given in
      let n : (F.worker v).number ≡ suc F.given = sym (ap (λ (x : Worker). x.number) q) ∙ e in
      omega arith

  pub validate_step : Invariant F' ρ'
  validate_step =
      record {
        numbers = h.read_given ∙ ap suc i.numbers ∙ sym h.given;
        current =
            λ k. h.current k ∙ i.current k
            ∙ ap (λ (l : List (Row Record)). look l k) (sym (list_after_none ρ.installed F.given fresh))
            ∙ ap (λ (n : ℕ). look (list_after ρ.installed n) k) (sym h.given)
            ∙ ap (λ (is : List (Row Transaction)). look (list_after is F'.given) k) (sym h.installed);
        different = subst (λ (is : List (Row Transaction)). Different (keys is)) (sym h.installed) i.different;
        done =
            λ r m.
            subst (λ (is : List (Row Transaction)). Done F' is r) (sym h.installed)
            (done_kept F F' ρ.installed r more h.guard (λ n l. checks n (le_trans (le_step (le_refl n)) l)) (i.done r (subst (Memᴰ r) h.installed m)));
        begun = λ r m. le_trans (i.begun r (subst (Memᴰ r) h.installed m)) h.place;
        working = λ v s. ⊎_elim (λ e. subst (λ (u : ℕ). Working F' ρ' u (F'.worker u)) (sym (same_true v w e)) mine) (λ e. other v (same_false v w e) s) (cases (same v w));
        apart = λ u v cu cv e. ⊎_elim (λ a. ⊎_elim (λ b. same_true u w a ∙ sym (same_true v w b)) (λ b. absurd (old_number v (same_false v w b) cv (sym e ∙ ap (λ (y : ℕ). (F'.worker y).number) (same_true u w a) ∙ h.number))) (cases (same v w))) (λ a. ⊎_elim (λ b. absurd (old_number u (same_false u w a) cu (e ∙ ap (λ (y : ℕ). (F'.worker y).number) (same_true v w b) ∙ h.number))) (λ b. before u v (same_false u w a) (same_false v w b) cu cv e) (cases (same v w))) (cases (same u w));
      }
    where
      fresh : look ρ.installed (suc F.given) ≡ none
      fresh = unfold ts in fresh_number

      other : (v : ℕ) → (v ≡ w → ⊥) → is_free (F'.worker v).stage ≡ false → Working F' ρ' v (F'.worker v)
      other v d s =
          let e : F'.worker v ≡ F.worker v = h.others v d in
          subst (Working F' ρ' v) (sym e)
          (working_kept (kept v d (F.worker v)) (i.working v (subst (λ (x : Worker). is_free x.stage ≡ false) e s)))

      before : (u v : ℕ) → (u ≡ w → ⊥) → (v ≡ w → ⊥) → is_checked (F'.worker u).stage ≡ true → is_checked (F'.worker v).stage ≡ true
          → (F'.worker u).number ≡ (F'.worker v).number → u ≡ v
      before u v du dv cu cv e =
          let eu : F'.worker u ≡ F.worker u = h.others u du in
          let ev : F'.worker v ≡ F.worker v = h.others v dv in
          i.apart u v (subst (λ (x : Worker). is_checked x.stage ≡ true) eu cu) (subst (λ (x : Worker). is_checked x.stage ≡ true) ev cv)
          (sym (ap (λ (x : Worker). x.number) eu) ∙ e ∙ ap (λ (x : Worker). x.number) ev)
