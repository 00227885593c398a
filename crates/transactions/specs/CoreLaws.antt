-- The seat of a worker, and what the arrays hold once another is put in its place.
use Rattle.std.specs.Prelude.{ℕ, ◌<◌, ◌≡◌, refl, ◌⊎◌, Bool, List, [], get_or, set}
use Rattle.std.proofs.Common.{not-suc-le-zero, sym, ap, ◌∙◌, subst, inl, ⊎_elim, length-set, get_or-set_same, get_or-set_other}
use Rattle.lists.specs.Tests.{same}
use Rattle.lists.specs.TestLaws.{cases, same_true, same_false}
use Rattle.lists.specs.Rows.{Rising}
use Rattle.spec.specs.declared.Stage.{Stage}
use Rattle.spec.specs.Leaves.{Leaf}
use Rattle.spec.specs.Records.{limits}
use Rattle.spec.specs.Steps as model
use Rattle.spec.specs.Steps.{worker_of}
use Rattle.workers.specs.declared.Worker.{Worker}
use Rattle.workers.specs.Workers.{worker_in, freed}
use Rattle.sets.specs.Reads.{ReadRows, ReadsHeld}
use Rattle.sets.specs.Leaves.{LeafSetRows, LeavesHeld}
use Rattle.sets.specs.Writes.{WriteRows, WritesHeld, WriteSetOrdered}
use Rattle.map.specs.declared.Sizes.{Sizes}
use Rattle.map.specs.Views.{Lent, map_of}
use Rattle.map.specs.MapHeld as map
use Rattle.transactions.specs.Cores.{Core}
use Rattle.transactions.specs.Views.{Logs, logs, model_worker, state_of, core_with, with_both}
use Rattle.transactions.specs.ViewLaws.{worker_at_lem}
use Rattle.transactions.specs.Admits.{Entered}
use Rattle.transactions.specs.Ready.{worker_at, Within, LowsStay, Stored, Ready}

-- The rows of every worker are write sets.
pub record Writable (ws : List WriteRows) (workers : List Worker) : Type 0 where
  pub set : (w : ℕ) → w < limits.workers → WriteSetOrdered (get_or ws w []) (get_or workers w freed).writes

pub ready_writable : {l : Lent} {g : Logs} {c : Core} → Ready l g c → Writable g.writes c.workers
unfolding worker_in
ready_writable {l} {g} {c} k =
    record {
      set = λ w h. record {
        held = k.stored.writes.at w h;
        room = (k.stored.counts w h).writes;
        rising =
            subst (λ (x : model.Worker). Rising x.writes)
            (worker_at_lem l g c w (subst (λ (n : ℕ). w < n) (sym k.stored.workers) h))
            (k.kept.worker w).rising;
      };
    }

-- ---- the worker that passed the first tests

module _ (right : Stage → Bool) (l : Lent) (g : Logs) (c : Core) (w : ℕ) (x : Worker) (k : Ready l g c) (t : Entered right c.workers w x) where
  pub worker_is : worker_of (state_of l g c) w ≡ model_worker g x w
  worker_is =
      worker_at_lem l g c w (subst (λ (n : ℕ). w < n) (sym k.stored.workers) t.inside)
      ∙ ap (λ (y : Worker). model_worker g y w) (sym t.is)

  pub within : Within x
  within = subst Within (sym t.is) (k.stored.counts w t.inside)

pub worker_writable : {right : Stage → Bool} {ws : List WriteRows} {workers : List Worker} {w : ℕ} {x : Worker} → Writable ws workers → Entered right workers w x
    → WriteSetOrdered (get_or ws w []) x.writes
worker_writable {right} {ws} {workers} {w} {x} h t = subst (λ (y : Worker). WriteSetOrdered (get_or ws w []) y.writes) (sym t.is) (h.set w t.inside)

-- ---- the seat put back

-- worker w has become x: in a map with the same leaves, and with other sets of its own
module _ {l : Lent} {g : Logs} {c : Core} (l' : Lent) (g' : Logs) (w : ℕ) (x : Worker) (z : Sizes) (h : w < limits.workers) (t : Stored l g c) where
  mine : (v : ℕ) → v ≡ w → worker_at (with_both c w x z) v ≡ x
  mine v e =
      ap (λ (u : ℕ). get_or (set c.workers w x) u freed) e
      ∙ get_or-set_same c.workers w x freed (subst (λ (n : ℕ). w < n) (sym t.workers) h)

  other : (v : ℕ) → (v ≡ w → ⊥) → worker_at (with_both c w x z) v ≡ worker_at c v
  other v d = get_or-set_other c.workers w v x freed d

  pub stored_put : map.MapHeld l' z c.counters.version → (map_of l' z).leaves ≡ (map_of l c.sizes).leaves
      → ReadsHeld g'.reads → LeavesHeld g'.leaves → WritesHeld g'.writes
      → ((v : ℕ) → (v ≡ w → ⊥) → get_or g'.leaves v [] ≡ get_or g.leaves v [])
      → Within x → LowsStay (map_of l c.sizes).leaves (get_or g'.leaves w []) x.leaves → Stored l' g' (with_both c w x z)
  stored_put m e rs ls ws o q k =
      record {
        map = m;
        reads = rs;
        leaves = ls;
        writes = ws;
        workers = length-set c.workers w x ∙ t.workers;
        counts = λ v i.
            ⊎_elim
            (λ d. subst Within (sym (mine v (same_true v w d))) q)
            (λ d. subst Within (sym (other v (same_false v w d))) (t.counts v i))
            (cases (same v w));
        lows = λ v i.
            subst (λ (ts : List Leaf). LowsStay ts (get_or g'.leaves v []) (worker_at (with_both c w x z) v).leaves) (sym e)
            (⊎_elim
            (λ d. subst (λ (u : ℕ). LowsStay (map_of l c.sizes).leaves (get_or g'.leaves u []) (worker_at (with_both c w x z) u).leaves) (sym (same_true v w d))
            (subst (λ (y : Worker). LowsStay (map_of l c.sizes).leaves (get_or g'.leaves w []) y.leaves) (sym (mine w refl)) k))
            (λ d. subst (λ (y : Worker). LowsStay (map_of l c.sizes).leaves (get_or g'.leaves v []) y.leaves) (sym (other v (same_false v w d)))
            (subst (λ (r : LeafSetRows). LowsStay (map_of l c.sizes).leaves r (worker_at c v).leaves) (sym (o v (same_false v w d))) (t.lows v i)))
            (cases (same v w)));
      }

-- it logs as many leaves as before, or none
abbrev pub LeavesKept : Core → ℕ → Worker → Type 0
LeavesKept c w x = (x.leaves ≡ (worker_at c w).leaves) ⊎ (x.leaves ≡ 0)

pub lows_kept : {l : Lent} {g : Logs} {c : Core} (w : ℕ) (x : Worker) → w < limits.workers → Stored l g c → LeavesKept c w x
    → LowsStay (map_of l c.sizes).leaves (get_or g.leaves w []) x.leaves
lows_kept {l} {g} {c} w x h t k =
    ⊎_elim
    (λ e. subst (LowsStay (map_of l c.sizes).leaves (get_or g.leaves w [])) (sym e) (t.lows w h))
    (λ e. subst (LowsStay (map_of l c.sizes).leaves (get_or g.leaves w [])) (sym e) (λ i n. absurd (not-suc-le-zero n)))
    k

-- with other rows of reads and writes and the same leaf set
module _ (l : Lent) (rs : List ReadRows) (ls : List LeafSetRows) (ws : List WriteRows) (us : List ReadRows) (vs : List WriteRows) (c : Core) (w : ℕ) (x : Worker) (h : w < limits.workers) (t : Stored l (logs rs ls ws) c) where
  pub stored_worker : ReadsHeld us → WritesHeld vs → Within x → x.leaves ≡ (worker_at c w).leaves → Stored l (logs us ls vs) (core_with c w x)
  stored_worker r s q n =
      stored_put l (logs us ls vs) w x c.sizes h t t.map refl r t.leaves s (λ v d. refl) q (lows_kept w x h t (inl n))
