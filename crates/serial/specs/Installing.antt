-- An install keeps the invariant: the transaction's writes enter the list at its number, below which nothing changes; no
-- writer of its keys has a larger number, since it holds their locks; and nobody checked after it saw what it changes.
use Rattle.std.specs.Prelude.{ℕ, suc, ◌<◌, ◌≤◌, ◌≡◌, Bool, true, false}
use Rattle.std.proofs.Common.{zero-le, suc-le-suc, le_refl, ◌∙◌}
use Rattle.std.proofs.Math.Nat.{le_trans, le_of_eq}
use native.Mathlib.Omega.{arith}
use Rattle.std.proofs.Math.Path.{refl, sym, ap, subst}
use Rattle.std.proofs.Math.Logic.{inl, inr, ⊎_elim}
use mathlib.Core.List.Memᴰ
use mathlib.Core.List.{List, ◌∷◌, Memᴰ}
use Rattle.std.proofs.Math.Option.{Option, none, some}
use Rattle.lists.specs.Tests.{present, same, less}
use Rattle.lists.specs.TestLaws.{cases, clash, same_true, same_false, less_true, less_false}
use Rattle.lists.specs.Rows.{Row, row, look, keys, has, Different}
use Rattle.lists.specs.RowLaws.{look_there, has_keys}
use Rattle.spec.specs.Records.{Payload, Record, Write, written, deleted, outcome}
use Rattle.spec.specs.Steps.{Worker, is_free, is_checked}
use Rattle.spec.specs.Claim.{Transaction, Reading, list_after}
use Rattle.serial.specs.Stages.{checked_busy, checked_not_open}
use Rattle.serial.specs.Feeding.{event_writes, laid, list_after_before, list_after_other, list_after_mine}
use Rattle.serial.specs.Invariant.{Facts, Observation, Matches, Explains, RoomFor, Harmless, unwritten, already_absent, Valid, CheckedAs, HasLock, Working, Done, Invariant}
use Rattle.serial.specs.Keeping.{SameChecks, valid_kept, Kept, working_kept, backed_kept}

-- The state and the reading after worker w installed.
pub record Installs (F F' : Facts) (ρ ρ' : Reading) (w : ℕ) : Type 0 where
  pub given : F'.given ≡ F.given
  pub guard : F'.guard ≡ F.guard
  pub last_version : F'.last_version ≡ F.last_version
  pub current : (k : ℕ) → F'.current k ≡ laid (F.worker w).number (F.worker w).writes k (F.current k)
  pub indexed : (k : ℕ) → F'.indexed k ≡ F.indexed k
  pub version : (k : ℕ) → F'.version k ≡ F.version k
  pub locks : (v : ℕ) → (v ≡ w → ⊥) → (k : ℕ) (b : Bool) → HasLock F v k b → HasLock F' v k b
  pub others : (v : ℕ) → (v ≡ w → ⊥) → F'.worker v ≡ F.worker v
  pub is_free_lem : is_free (F'.worker w).stage ≡ true
  pub was_checked : is_checked (F.worker w).stage ≡ true
  pub place : ρ.place ≤ ρ'.place
  pub read_given : ρ'.given ≡ ρ.given
  pub running : (v : ℕ) → (v ≡ w → ⊥) → look ρ'.running v ≡ look ρ.running v
  -- the transaction as it was installed: it ends here
  pub now : Transaction
  pub now_ended : now.ended ≡ ρ.place
  pub now_same : (t : Transaction) → look ρ.running w ≡ some t → (now.begun ≡ t.begun) × (now.events ≡ t.events)
  pub installed : (t : Transaction) → look ρ.running w ≡ some t → ρ'.installed ≡ row t.number now ∷ ρ.installed

module _ {F F' : Facts} {ρ ρ' : Reading} {w : ℕ} (h : Installs F F' ρ ρ' w) (i : Invariant F ρ) where
  g : Working F ρ w (F.worker w)
  g = i.working w (checked_busy (F.worker w).stage h.was_checked)

  c : CheckedAs F ρ.installed (F.worker w) g.t g.os g.since
  c = g.checked h.was_checked

  n : ℕ
  n = suc c.m

  ts : List (Row Transaction)
  ts = row n h.now ∷ ρ.installed

  installs : ρ'.installed ≡ ts
  unfolding ts n
  installs = h.installed g.t g.running ∙ ap (λ (j : ℕ). row j h.now ∷ ρ.installed) c.told

  -- its writes are those of the worker
  writes : event_writes h.now.events ≡ (F.worker w).writes
  writes = ap event_writes (h.now_same g.t g.running).1 ∙ g.wrote

  own_write_lem : (k : ℕ) → look (event_writes h.now.events) k ≡ look (F.worker w).writes k
  own_write_lem k = ap (λ (ws : List (Row Write)). look ws k) writes

  -- ---- the list with the transaction in it

  same_below : (m : ℕ) → m < n → list_after ts m ≡ list_after ρ.installed m
  unfolding ts
  same_below m l = list_after_before n h.now ρ.installed m l

  same_elsewhere : (k : ℕ) → look (F.worker w).writes k ≡ none → (m : ℕ) → look (list_after ts m) k ≡ look (list_after ρ.installed m) k
  unfolding ts n
  same_elsewhere k e m = list_after_other n h.now ρ.installed c.unused k (own_write_lem k ∙ e) m

  write_stands : (k : ℕ) (e : Write) → look (F.worker w).writes k ≡ some e → (m : ℕ) → n ≤ m → look (list_after ts m) k ≡ outcome n e
  unfolding ts n
  write_stands k e q m l =
      list_after_mine n h.now ρ.installed k e (own_write_lem k ∙ q) (c.latest k (ap present q)) m (suc-le-suc zero-le) l

  -- what was seen before a number is still what stands before it
  matches : (m : ℕ) (os : List Observation) → Valid F ρ.installed m os → Matches os (list_after ts m)
  matches m os v o mem k a b =
      ⊎_elim
      (λ l. ap (λ (s : List (Row Record)). look s k) (same_below m (less_true m n l)) ∙ v.before o mem k a b)
      (λ l. above (less_false m n l) (v.unharmed w (h.was_checked, upto (less_false m n l)) o mem k a b))
      (cases (less m n))
    where
      upto : n ≤ m → (F.worker w).number ≤ m
      upto l = le_trans (le_of_eq c.number) (unfold n in l)

      above : n ≤ m → Harmless (F.worker w).writes k (o.seen k) → look (list_after ts m) k ≡ o.seen k
      above l (unwritten e) = same_elsewhere k e m ∙ v.before o mem k a b
      above l (already_absent e q) = write_stands k deleted e m l ∙ (unfold outcome in sym q)

  checks : (m : ℕ) → SameChecks F F' m
  checks m v d = h.others v (λ e. clash d.0 (not_checked v e))
    where
      not_checked : (v : ℕ) → v ≡ w → is_checked (F'.worker v).stage ≡ false
      not_checked v e = free_unchecked (subst (λ (u : ℕ). is_free (F'.worker u).stage ≡ true) (sym e) h.is_free_lem)
        where
          free_unchecked : is_free (F'.worker v).stage ≡ true → is_checked (F'.worker v).stage ≡ false
          free_unchecked f = ⊎_elim (λ q. clash f (checked_busy (F'.worker v).stage q)) (λ q. q) (cases (is_checked (F'.worker v).stage))

  valid_installed : (m : ℕ) (os : List Observation) → Valid F ρ.installed m os → Valid F' ts m os
  valid_installed m os v =
      valid_kept F F' ts m os (checks m) (record { before = matches m os v; unharmed = v.unharmed })

  given_same : F.given ≤ F'.given
  given_same = le_of_eq (sym h.given)

  -- ---- the installed transactions

  begun_before : h.now.begun ≤ ρ.place
  begun_before = le_trans (le_of_eq (h.now_same g.t g.running).0) g.begun

  mine_done : Done F' ts (row n h.now)
  unfolding n ts
  mine_done =
      record {
        m = c.m;
        number = refl;
        given = le_trans c.given given_same;
        os = g.os;
        explains = subst (Explains g.os) (sym (h.now_same g.t g.running).1) g.explains;
        valid = valid_installed c.m g.os c.valid;
        past = λ q mem l. ⊎_elim (λ e. absurd (never q e l)) (λ m. earlier q m l) (Memᴰ.cases_cons mem);
        room =
            λ q.
            subst (λ (ws : List (Row Write)). (k : ℕ) (p : Payload) → look ws k ≡ some (written p) → RoomFor g.os ws k p) (sym writes)
            (g.room (checked_not_open (F.worker w).stage h.was_checked) (sym h.guard ∙ q));
      }
    where
      never : (q : Row Transaction) → q ≡ row n h.now → q.item.ended < h.now.begun → ⊥
      never q e l =
          let a : q.item.ended ≡ ρ.place = ap (λ (r : Row Transaction). r.item.ended) e ∙ h.now_ended in
          let b : h.now.begun ≤ ρ.place = begun_before in
          omega arith

      earlier : (q : Row Transaction) → Memᴰ q ρ.installed → q.item.ended < h.now.begun → q.key ≤ c.m
      earlier q m l =
          le_trans (g.past q m (le_trans l (le_of_eq (h.now_same g.t g.running).0))) c.later

  old_done : (r : Row Transaction) → r.item.begun ≤ ρ.place → Done F ρ.installed r → Done F' ts r
  unfolding ts
  old_done r b d =
      record {
        m = d.m;
        number = d.number;
        given = le_trans d.given given_same;
        os = d.os;
        explains = d.explains;
        valid = valid_installed d.m d.os d.valid;
        past = λ q mem l. ⊎_elim (λ e. absurd (never q e l)) (λ m. d.past q m l) (Memᴰ.cases_cons mem);
        room = λ q. d.room (sym h.guard ∙ q);
      }
    where
      never : (q : Row Transaction) → q ≡ row n h.now → q.item.ended < r.item.begun → ⊥
      never q e l =
          let a : q.item.ended ≡ ρ.place = ap (λ (x : Row Transaction). x.item.ended) e ∙ h.now_ended in
          omega arith

  -- ---- the other workers

  apart_from : (v : ℕ) → (v ≡ w → ⊥) → (is_checked (F.worker v).stage ≡ true) → (F.worker v).number ≡ n → ⊥
  unfolding n
  apart_from v d s e = d (i.apart v w s h.was_checked (e ∙ sym c.number))

  kept : (v : ℕ) → (v ≡ w → ⊥) → is_free (F.worker v).stage ≡ false → Kept F F' ρ ρ' v (F.worker v)
  unfolding n ts
  kept v d s =
      record {
        running = h.running v d;
        given = given_same;
        guard = h.guard;
        place = h.place;
        installed = λ r m. ⊎_elim (λ e. inr (ends_now r e)) (λ q. inl q) (Memᴰ.cases_cons (subst (Memᴰ r) installs m));
        backed = backed_kept F F' (F.worker v) (le_of_eq (sym h.last_version)) h.version h.indexed;
        locks = h.locks v d;
        checked = λ t os since q k. subst (λ (is : List (Row Transaction)). CheckedAs F' is (F.worker v) t os since) (sym installs) (moved t os since q k);
      }
    where
      ends_now : (r : Row Transaction) → r ≡ row n h.now → ρ.place ≤ r.item.ended
      ends_now r e = le_of_eq (sym (ap (λ (q : Row Transaction). q.item.ended) e ∙ h.now_ended))

      moved : (t : Transaction) (os : List Observation) (since : ℕ) → is_checked (F.worker v).stage ≡ true
          → CheckedAs F ρ.installed (F.worker v) t os since → CheckedAs F' ts (F.worker v) t os since
      moved t os since q k =
          record {
            m = k.m;
            number = k.number;
            told = k.told;
            given = le_trans k.given given_same;
            later = k.later;
            valid = valid_installed k.m os k.valid;
            unused = look_there (row n h.now) ρ.installed (suc k.m) (λ e. apart_from v d q (k.number ∙ sym e)) ∙ k.unused;
            latest = λ j p r m e. ⊎_elim (λ a. absurd (shared j p r a e)) (λ a. k.latest j p r a e) (Memᴰ.cases_cons m);
          }
        where
          shared : (j : ℕ) → present (look (F.worker v).writes j) ≡ true → (r : Row Transaction) → r ≡ row n h.now
              → present (look (event_writes r.item.events) j) ≡ true → ⊥
          shared j p r a e =
              let hv : F.holder j ≡ some v = ((i.working v s).locked (checked_not_open (F.worker v).stage q) j p).0 in
              let hw : F.holder j ≡ some w =
              (g.locked (checked_not_open (F.worker w).stage h.was_checked) j
              (ap present (sym (own_write_lem j)) ∙ ap (λ (x : Row Transaction). present (look (event_writes x.item.events) j)) (sym a) ∙ e)).0 in
              d (cc)

  -- the current records are those of the list with the transaction in it
  current_installed : (k : ℕ) → F'.current k ≡ look (list_after ts F.given) k
  unfolding n
  current_installed k = h.current k ∙ go (look (F.worker w).writes k) refl
    where
      go : (o : Option Write) → look (F.worker w).writes k ≡ o
          → laid (F.worker w).number (F.worker w).writes k (F.current k) ≡ look (list_after ts F.given) k
      go none e = rw e (i.current k ∙ sym (same_elsewhere k e F.given))
      go (some x) e = rw e (ap (λ (j : ℕ). outcome j x) c.number ∙ sym (write_stands k x e F.given c.given))

  fresh_number : has n (keys ρ.installed) ≡ false
  unfolding n
  fresh_number = has_keys ρ.installed n ∙ ap present c.unused

  different_now : Different (keys ts)
  unfolding ts keys Different
  different_now = (fresh_number, i.different)

  all_done : (r : Row Transaction) → Memᴰ r ts → Done F' ts r
  unfolding ts
  all_done r m =
      ⊎_elim
      (λ e. subst (λ (q : Row Transaction). Done F' ts q) (sym e) mine_done)
      (λ q. old_done r (i.begun r q) (i.done r q))
      (Memᴰ.cases_cons m)

  all_begun : (r : Row Transaction) → Memᴰ r ts → r.item.begun ≤ ρ.place
  unfolding ts
  all_begun r m =
      ⊎_elim
      (λ e. subst (λ (q : Row Transaction). q.item.begun ≤ ρ.place) (sym e) begun_before)
      (λ q. i.begun r q)
      (Memᴰ.cases_cons m)

  pub install_step : Invariant F' ρ'
  install_step =
      record {
        numbers = h.read_given ∙ i.numbers ∙ sym h.given;
        current =
            λ k. current_installed k
            ∙ ap (λ (j : ℕ). look (list_after ts j) k) (sym h.given)
            ∙ ap (λ (is : List (Row Transaction)). look (list_after is F'.given) k) (sym installs);
        different = subst (λ (is : List (Row Transaction)). Different (keys is)) (sym installs) different_now;
        done =
            λ r m. subst (λ (is : List (Row Transaction)). Done F' is r) (sym installs) (all_done r (subst (Memᴰ r) installs m));
        begun = λ r m. le_trans (all_begun r (subst (Memᴰ r) installs m)) h.place;
        working = λ v s. ⊎_elim (λ e. clash h.is_free_lem (subst (λ (u : ℕ). is_free (F'.worker u).stage ≡ false) (same_true v w e) s)) (λ e. other v (same_false v w e) s) (cases (same v w));
        apart =
            λ u v cu cv e.
            let eu : F'.worker u ≡ F.worker u = checks (F'.worker u).number u (cu, le_refl _) in
            let ev : F'.worker v ≡ F.worker v = checks (F'.worker v).number v (cv, le_refl _) in
            i.apart u v (subst (λ (x : Worker). is_checked x.stage ≡ true) eu cu) (subst (λ (x : Worker). is_checked x.stage ≡ true) ev cv)
            (sym (ap (λ (x : Worker). x.number) eu) ∙ e ∙ ap (λ (x : Worker). x.number) ev);
      }
    where
      other : (v : ℕ) → (v ≡ w → ⊥) → is_free (F'.worker v).stage ≡ false → Working F' ρ' v (F'.worker v)
      other v d s =
          let e : F'.worker v ≡ F.worker v = h.others v d in
          let q : is_free (F.worker v).stage ≡ false = subst (λ (x : Worker). is_free x.stage ≡ false) e s in
          subst (Working F' ρ' v) (sym e) (working_kept (kept v d q) (i.working v q))
