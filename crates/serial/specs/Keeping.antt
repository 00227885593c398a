-- The invariant is kept: one lemma for every step that only rewrites its own worker, and one each for a validation, an
-- install, and a merge. A step that changes nothing is a merge that moves nothing.
use Rattle.std.specs.Prelude.{ℕ, ◌<◌, ◌≤◌, ◌≡◌, ◌⊎◌, Bool, true, false}
use Rattle.std.proofs.Common.{le_trans, le_of_eq, arith, sym, ap, ◌∙◌, subst, inl, ⊎_elim}
use mathlib.Core.List.{List, Memᴰ}
use Rattle.std.proofs.Math.Option.{Option}
use Rattle.lists.specs.Tests.{same}
use Rattle.lists.specs.TestLaws.{cases, clash, same_true, same_false}
use Rattle.lists.specs.Rows.{Row, look, keys, Different}
use Rattle.spec.specs.Records.{Record}
use Rattle.spec.specs.Steps.{Worker, is_free, is_checked}
use Rattle.spec.specs.Claim.{Transaction, Reading, list_after}
use Rattle.serial.specs.Invariant.{Facts, Observation, Backed, by_read, by_leaf, Harmless, ChecksUpTo, Valid, CheckedAs, HasLock, put_at, Working, Done, Invariant}

-- ---- what does not change

-- the transactions checked up to m are the same
abbrev pub SameChecks : Facts → Facts → ℕ → Type 0
SameChecks F F' m = (w : ℕ) → ChecksUpTo F' m w → F'.worker w ≡ F.worker w

pub valid_kept : (F F' : Facts) (ts : List (Row Transaction)) (m : ℕ) (os : List Observation)
    → SameChecks F F' m → Valid F ts m os → Valid F' ts m os
valid_kept F F' ts m os h v =
    record {
      before = v.before;
      unharmed =
          λ w c o mem k a b.
          let e : F'.worker w ≡ F.worker w = h w c in
          subst (λ (x : Worker). Harmless x.writes k (o.seen k)) (sym e)
          (v.unharmed w (subst (λ (x : Worker). is_checked x.stage ≡ true) e c.0, subst (λ (x : Worker). x.number ≤ m) e c.1) o mem k a b);
    }

pub done_kept : (F F' : Facts) (ts : List (Row Transaction)) (r : Row Transaction)
    → F.given ≤ F'.given → F'.guard ≡ F.guard → ((m : ℕ) → m < F.given → SameChecks F F' m) → Done F ts r → Done F' ts r
done_kept F F' ts r g e h d =
    record {
      m = d.m;
      number = d.number;
      given = le_trans d.given g;
      os = d.os;
      explains = d.explains;
      valid = valid_kept F F' ts d.m d.os (h d.m d.given) d.valid;
      past = d.past;
      room = λ q. d.room (sym e ∙ q);
    }

pub checked_kept : (F F' : Facts) (ts : List (Row Transaction)) (x : Worker)
    → F.given ≤ F'.given → ((m : ℕ) → m < F.given → SameChecks F F' m)
    → (t : Transaction) (os : List Observation) (since : ℕ) → CheckedAs F ts x t os since → CheckedAs F' ts x t os since
checked_kept F F' ts x g h t os since c =
    record {
      m = c.m;
      number = c.number;
      told = c.told;
      given = le_trans c.given g;
      later = c.later;
      valid = valid_kept F F' ts c.m os (h c.m c.given) c.valid;
      unused = c.unused;
      latest = c.latest;
    }

-- What a worker's record needs of a step of another.
pub record Kept (F F' : Facts) (ρ ρ' : Reading) (w : ℕ) (x : Worker) : Type 0 where
  pub running : look ρ'.running w ≡ look ρ.running w
  pub given : F.given ≤ F'.given
  pub guard : F'.guard ≡ F.guard
  pub place : ρ.place ≤ ρ'.place
  pub installed :
      (r : Row Transaction) → Memᴰ r ρ'.installed → Memᴰ r ρ.installed ⊎ (ρ.place ≤ r.item.ended)
  pub backed : (k : ℕ) (r : Option Record) → Backed F x k r → Backed F' x k r
  pub locks : (k : ℕ) (b : Bool) → HasLock F w k b → HasLock F' w k b
  pub checked :
      (t : Transaction) (os : List Observation) (since : ℕ) → is_checked x.stage ≡ true
      → CheckedAs F ρ.installed x t os since → CheckedAs F' ρ'.installed x t os since

pub working_kept : {F F' : Facts} {ρ ρ' : Reading} {w : ℕ} {x : Worker} → Kept F F' ρ ρ' w x → Working F ρ w x → Working F' ρ' w x
working_kept {F} {F'} {ρ} {ρ'} {w} {x} h g =
    record {
      t = g.t;
      running = h.running ∙ g.running;
      wrote = g.wrote;
      os = g.os;
      explains = g.explains;
      since = g.since;
      since_given = le_trans g.since_given h.given;
      past = λ r mem l. ⊎_elim (λ m. g.past r m l) (λ p. absurd (early r l p)) (h.installed r mem);
      begun = le_trans g.begun h.place;
      backed = λ s o mem k a b. h.backed k (o.seen k) (g.backed s o mem k a b);
      locked = λ s k p. h.locks k (put_at x.writes k) (g.locked s k p);
      checked = λ s. h.checked g.t g.os g.since s (g.checked s);
      saw = g.saw;
      room = λ l q. g.room l (sym h.guard ∙ q);
    }
  where
    early : (r : Row Transaction) → r.item.ended < g.t.begun → ρ.place ≤ r.item.ended → ⊥
    early r l p = let q : g.t.begun ≤ ρ.place = g.begun in omega arith

-- what the log backs does not change where versions and index keys do not
pub backed_kept : (F F' : Facts) (x : Worker) → F.last_version ≤ F'.last_version → ((k : ℕ) → F'.version k ≡ F.version k)
    → ((k : ℕ) → F'.indexed k ≡ F.indexed k) → (k : ℕ) (r : Option Record) → Backed F x k r → Backed F' x k r
backed_kept F F' x l hv hi k r (by_read m) = by_read m
backed_kept F F' x l hv hi k r (by_leaf v e m b h) =
    by_leaf v e m (le_trans b l)
    (λ j q. let p = h j (sym (hv j) ∙ q) in (hv k ∙ p.0, hi k ∙ p.1))

-- The reading after a step that installs nothing and validates nothing.
pub record ReadOn (ρ ρ' : Reading) : Type 0 where
  pub place : ρ.place ≤ ρ'.place
  pub given : ρ'.given ≡ ρ.given
  pub installed : ρ'.installed ≡ ρ.installed

-- a property of the installed transactions, moved along
along : {ρ ρ' : Reading} (P : List (Row Transaction) → Type 0) → ReadOn ρ ρ' → P ρ.installed → P ρ'.installed
along P h p = subst P (sym h.installed) p

still_installed : {ρ ρ' : Reading} → ReadOn ρ ρ' → (r : Row Transaction) → Memᴰ r ρ'.installed → Memᴰ r ρ.installed
still_installed h r m = subst (Memᴰ r) h.installed m

-- ---- a step that only rewrites its own worker

pub record Own (F F' : Facts) (ρ ρ' : Reading) (w : ℕ) : Type 0 where
  pub given : F'.given ≡ F.given
  pub guard : F'.guard ≡ F.guard
  pub last_version : F'.last_version ≡ F.last_version
  pub current : (k : ℕ) → F'.current k ≡ F.current k
  pub indexed : (k : ℕ) → F'.indexed k ≡ F.indexed k
  pub version : (k : ℕ) → F'.version k ≡ F.version k
  pub others : (v : ℕ) → (v ≡ w → ⊥) → F'.worker v ≡ F.worker v
  pub locks : (v : ℕ) → (v ≡ w → ⊥) → (k : ℕ) (b : Bool) → HasLock F v k b → HasLock F' v k b
  pub unchecked : is_checked (F'.worker w).stage ≡ false
  pub reading : ReadOn ρ ρ'
  pub running : (v : ℕ) → (v ≡ w → ⊥) → look ρ'.running v ≡ look ρ.running v
  pub mine : is_free (F'.worker w).stage ≡ false → Working F' ρ' w (F'.worker w)

module _ {F F' : Facts} {ρ ρ' : Reading} {w : ℕ} (h : Own F F' ρ ρ' w) where
  -- a checked worker is another one, and was checked before
  own_other : (v : ℕ) → is_checked (F'.worker v).stage ≡ true → v ≡ w → ⊥
  own_other v c e = clash (subst (λ (u : ℕ). is_checked (F'.worker u).stage ≡ true) e c) h.unchecked

  own_checks : (m : ℕ) → m < F.given → SameChecks F F' m
  own_checks m l v c = h.others v (own_other v c.0)

  own_given : F.given ≤ F'.given
  own_given = le_of_eq (sym h.given)

  own_kept : (v : ℕ) → (v ≡ w → ⊥) → (x : Worker) → Kept F F' ρ ρ' v x
  own_kept v d x =
      record {
        running = h.running v d;
        given = own_given;
        guard = h.guard;
        place = h.reading.place;
        installed = λ r m. inl (still_installed h.reading r m);
        backed = backed_kept F F' x (le_of_eq (sym h.last_version)) h.version h.indexed;
        locks = h.locks v d;
        checked =
            λ t os since s c.
            along (λ (ts : List (Row Transaction)). CheckedAs F' ts x t os since) h.reading
            (checked_kept F F' ρ.installed x own_given own_checks t os since c);
      }

  pub own_step : Invariant F ρ → Invariant F' ρ'
  own_step i =
      record {
        numbers = h.reading.given ∙ i.numbers ∙ sym h.given;
        current =
            λ k. h.current k ∙ i.current k
            ∙ ap (λ (n : ℕ). look (list_after ρ.installed n) k) (sym h.given)
            ∙ ap (λ (ts : List (Row Transaction)). look (list_after ts F'.given) k) (sym h.reading.installed);
        different = along (λ (ts : List (Row Transaction)). Different (keys ts)) h.reading i.different;
        done =
            λ r m. along (λ (ts : List (Row Transaction)). Done F' ts r) h.reading
            (done_kept F F' ρ.installed r own_given h.guard own_checks (i.done r (still_installed h.reading r m)));
        begun = λ r m. le_trans (i.begun r (still_installed h.reading r m)) h.reading.place;
        working = λ v s. ⊎_elim (λ e. mine v (same_true v w e) s) (λ e. other v (same_false v w e) s) (cases (same v w));
        apart =
            λ u v cu cv e.
            let eu : F'.worker u ≡ F.worker u = h.others u (own_other u cu) in
            let ev : F'.worker v ≡ F.worker v = h.others v (own_other v cv) in
            i.apart u v (subst (λ (x : Worker). is_checked x.stage ≡ true) eu cu) (subst (λ (x : Worker). is_checked x.stage ≡ true) ev cv)
            (sym (ap (λ (x : Worker). x.number) eu) ∙ e ∙ ap (λ (x : Worker). x.number) ev);
      }
    where
      mine : (v : ℕ) → v ≡ w → is_free (F'.worker v).stage ≡ false → Working F' ρ' v (F'.worker v)
      mine v e s =
          subst (λ (u : ℕ). Working F' ρ' u (F'.worker u)) (sym e)
          (h.mine (subst (λ (u : ℕ). is_free (F'.worker u).stage ≡ false) e s))

      other : (v : ℕ) → (v ≡ w → ⊥) → is_free (F'.worker v).stage ≡ false → Working F' ρ' v (F'.worker v)
      other v d s =
          let e : F'.worker v ≡ F.worker v = h.others v d in
          subst (Working F' ρ' v) (sym e)
          (working_kept (own_kept v d (F.worker v)) (i.working v (subst (λ (x : Worker). is_free x.stage ≡ false) e s)))

-- ---- a merge

-- Leaf versions and index keys change together: of each key both are kept, or the old version is live no more.
pub record Rearranged (F F' : Facts) : Type 0 where
  pub given : F'.given ≡ F.given
  pub guard : F'.guard ≡ F.guard
  pub last_version : F.last_version ≤ F'.last_version
  pub current : (k : ℕ) → F'.current k ≡ F.current k
  pub locks : (w k : ℕ) (b : Bool) → HasLock F w k b → HasLock F' w k b
  pub worker : (w : ℕ) → F'.worker w ≡ F.worker w
  pub gone : ℕ → Bool
  pub fresh : (k : ℕ) → gone (F.version k) ≡ true → F.last_version < F'.version k
  pub kept : (k : ℕ) → gone (F.version k) ≡ false → (F'.version k ≡ F.version k) × (F'.indexed k ≡ F.indexed k)

module _ {F F' : Facts} {ρ ρ' : Reading} (h : Rearranged F F') (d : ReadOn ρ ρ') (same_running : ρ'.running ≡ ρ.running) where
  backed_merged : (x : Worker) (k : ℕ) (r : Option Record) → Backed F x k r → Backed F' x k r
  backed_merged x k r (by_read m) = by_read m
  backed_merged x k r (by_leaf v e m b f) = by_leaf v e m (le_trans b h.last_version) still
    where
      still : (j : ℕ) → F'.version j ≡ v → (F'.version k ≡ v) × (F'.indexed k ≡ false)
      still j q =
          ⊎_elim
          (λ g. absurd (let a : F.last_version < F'.version j = h.fresh j g in let z : ⊥ = omega arith in z))
          (λ g.
          let p : F.version j ≡ v = sym (h.kept j g).0 ∙ q in
          let s = f j p in
          let c = h.kept k (ap h.gone (s.0 ∙ sym p) ∙ g) in
          (c.0 ∙ s.0, c.1 ∙ s.1))
          (cases (h.gone (F.version j)))

  merge_checks : (m : ℕ) → m < F.given → SameChecks F F' m
  merge_checks m l v c = h.worker v

  merge_kept : (v : ℕ) (x : Worker) → Kept F F' ρ ρ' v x
  merge_kept v x =
      record {
        running = ap (λ (rs : List (Row Transaction)). look rs v) same_running;
        given = le_of_eq (sym h.given);
        guard = h.guard;
        place = d.place;
        installed = λ r m. inl (still_installed d r m);
        backed = backed_merged x;
        locks = h.locks v;
        checked =
            λ t os since s c.
            along (λ (ts : List (Row Transaction)). CheckedAs F' ts x t os since) d
            (checked_kept F F' ρ.installed x (le_of_eq (sym h.given)) merge_checks t os since c);
      }

  pub merge_step : Invariant F ρ → Invariant F' ρ'
  merge_step i =
      record {
        numbers = d.given ∙ i.numbers ∙ sym h.given;
        current =
            λ k. h.current k ∙ i.current k
            ∙ ap (λ (n : ℕ). look (list_after ρ.installed n) k) (sym h.given)
            ∙ ap (λ (ts : List (Row Transaction)). look (list_after ts F'.given) k) (sym d.installed);
        different = along (λ (ts : List (Row Transaction)). Different (keys ts)) d i.different;
        done =
            λ r m. along (λ (ts : List (Row Transaction)). Done F' ts r) d
            (done_kept F F' ρ.installed r (le_of_eq (sym h.given)) h.guard merge_checks (i.done r (still_installed d r m)));
        begun = λ r m. le_trans (i.begun r (still_installed d r m)) d.place;
        working =
            λ v s.
            subst (Working F' ρ' v) (sym (h.worker v))
            (working_kept (merge_kept v (F.worker v)) (i.working v (subst (λ (x : Worker). is_free x.stage ≡ false) (h.worker v) s)));
        apart =
            λ u v cu cv e.
            i.apart u v (subst (λ (x : Worker). is_checked x.stage ≡ true) (h.worker u) cu) (subst (λ (x : Worker). is_checked x.stage ≡ true) (h.worker v) cv)
            (sym (ap (λ (x : Worker). x.number) (h.worker u)) ∙ e ∙ ap (λ (x : Worker). x.number) (h.worker v));
      }
