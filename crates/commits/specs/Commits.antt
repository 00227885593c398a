-- What lock, install and the end of a transaction make of the state: a new map, and one worker put anew.
use Prim.Native.Nat.{ℕ, suc, ◌+◌, ◌<◌, zero-le}
use Rattle.std.proofs.Common.{arith, ◌∙◌, subst, inr}
use Rattle.std.specs.Prelude.{◌≡◌, refl, length, set}
use Rattle.std.proofs.Math.Path.{sym, ap}
use mathlib.Core.List.{List}
use Rattle.lists.specs.Rows.{Row, keys}
use Rattle.spec.specs.Records.{limits, Write}
use Rattle.spec.specs.Slots.{Slot}
use Rattle.spec.specs.Maps.{MapState, with_slots, unlock_all, install_all}
use Rattle.spec.specs.Steps as model
use Rattle.spec.specs.Steps.{State, free_worker, worker_of, write_keys, with_worker, with_map, installed_map, dropped, effect, install}
use Rattle.laws.specs.MapLaws.{Installable}
use Rattle.workers.specs.declared.Worker.{Worker}
use Rattle.workers.specs.Workers.{worker_in, freed}
use Rattle.workers.proofs.WorkerLaws.{free_in}
use Rattle.sets.specs.Reads.{ReadRows}
use Rattle.sets.specs.Leaves.{LeafSetRows}
use Rattle.sets.specs.Writes.{WriteRows, writes_of, writes_in, WriteSetOrdered}
use Rattle.map.specs.declared.Sizes.{Sizes}
use Rattle.counters.specs.declared.Counters.{Counters}
use Rattle.map.specs.Views.{Lent, map_of}
use Rattle.map.specs.Parts.{install_counted}
use Rattle.map.specs.Entries.{MapBecomes}
use Rattle.map.specs.WriteWalks.{Writing}
use Rattle.transactions.specs.Cores.{Core}
use Rattle.transactions.specs.Views.{Logs, logs, model_worker, workers_from, made_of, state_of, with_both}
use Rattle.transactions.specs.ViewLaws.{worker_at_lem, same_logs, state_with}
use Rattle.transactions.specs.Ready.{worker_at, Within, Stored}
use Rattle.transactions.specs.CoreLaws.{LeavesKept, stored_put, lows_kept}

-- The arrays and the core after a change f of the state, whatever the read sets and leaf sets hold.
pub record Reaches (f : State → State) (l : Lent) (ws : List WriteRows) (c : Core) (l' : Lent) (c' : Core) : Type 0 where
  pub state : (rs : List ReadRows) (ls : List LeafSetRows) → Stored l (logs rs ls ws) c → state_of l' (logs rs ls ws) c' ≡ f (state_of l (logs rs ls ws) c)
  pub stored : (rs : List ReadRows) (ls : List LeafSetRows) → Stored l (logs rs ls ws) c → Stored l' (logs rs ls ws) c'

-- a worker's write set, as the map takes it
pub writing : {ws : WriteRows} {n : ℕ} → WriteSetOrdered ws n → Writing ws n
writing o = record { held = o.held; few = o.room }

-- what holds of a worker's write set holds of that of the worker handed over
pub set_of : {ws : WriteRows} {x y : Worker} → x ≡ y → WriteSetOrdered ws y.writes → WriteSetOrdered ws x.writes
set_of {ws} e o = subst (λ (u : Worker). WriteSetOrdered ws u.writes) (sym e) o

pub can_of : {ss : List Slot} (ws : WriteRows) {x y : Worker} → x ≡ y → Installable ss (writes_of ws y.writes) → Installable ss (writes_of ws x.writes)
can_of {ss} ws e i = subst (λ (u : Worker). Installable ss (writes_of ws u.writes)) (sym e) i

-- ---- a new map and a new worker

-- the core with other workers and sizes
abbrev pub with_workers : Core → List Worker → Sizes → Core
with_workers c xs z = record { workers = xs; sizes = z; counters = c.counters; guarded = c.guarded }

new_map : (l l' : Lent) (g : Logs) (c : Core) (z : Sizes) (m : MapState) → map_of l' z ≡ m
    → state_of l' g (with_workers c c.workers z) ≡ with_map (state_of l g c) m
unfolding state_of with_map
new_map l l' g c z m e =
    ap
    (λ (x : MapState).
    record {
      made = made_of c;
      counters = record { number = c.counters.number; version = c.counters.version; installs = c.counters.installs };
      map = x;
      workers = workers_from g c.workers 0;
    })
    e

state_both : (l l' : Lent) (g : Logs) (c : Core) (w : ℕ) (x : Worker) (z : Sizes) (m : MapState) → map_of l' z ≡ m
    → state_of l' g (with_both c w x z) ≡ with_worker (with_map (state_of l g c) m) w (model_worker g x w)
state_both l l' g c w x z m e =
    state_with l' g g (with_workers c c.workers z) w x (same_logs g w)
    ∙ ap (λ (σ : State). with_worker σ w (model_worker g x w)) (new_map l l' g c z m e)

stored_both : (l l' : Lent) (g : Logs) (c : Core) (w : ℕ) (x : Worker) (z : Sizes) (m : MapState) → w < limits.workers
    → MapBecomes l' z c.counters.version m → m.leaves ≡ (map_of l c.sizes).leaves → Within x → LeavesKept c w x
    → Stored l g c → Stored l' g (with_both c w x z)
stored_both l l' g c w x z m h b e q k t =
    stored_put l' g w x z h t b.held (ap (λ (y : MapState). y.leaves) b.map ∙ e) t.reads t.leaves t.writes (λ v d. refl) q (lows_kept w x h t k)

-- ---- the worker's write set

pub worker_inside : {l : Lent} {g : Logs} {c : Core} → Stored l g c → (w : ℕ) → w < limits.workers → w < length c.workers
worker_inside t w h = subst (λ (n : ℕ). w < n) (sym t.workers) h

module _ (l : Lent) (g : Logs) (c : Core) (w : ℕ) (inside : w < length c.workers) where
  pub writes_are : (worker_of (state_of l g c) w).writes ≡ writes_in g.writes w (worker_at c w).writes
  unfolding worker_in
  writes_are = ap (λ (x : model.Worker). x.writes) (worker_at_lem l g c w inside)

  number_is : (worker_of (state_of l g c) w).number ≡ (worker_at c w).number
  unfolding worker_in
  number_is = ap (λ (x : model.Worker). x.number) (worker_at_lem l g c w inside)

  pub keys_are : write_keys (state_of l g c) w ≡ keys (writes_in g.writes w (worker_at c w).writes)
  unfolding write_keys
  keys_are = ap keys writes_are

-- A change f of the state that is a new map m and x put as worker w: `is` says that it is, `within` that the worker's
-- counts stay within its rows.
pub reached : (f : State → State) (l l' : Lent) (ws : List WriteRows) (c : Core) (w : ℕ) (x : Worker) (z : Sizes) (m : MapState) → w < limits.workers
    → MapBecomes l' z c.counters.version m → m.leaves ≡ (map_of l c.sizes).leaves → LeavesKept c w x
    → ((rs : List ReadRows) (ls : List LeafSetRows) → Stored l (logs rs ls ws) c → Within x)
    → ((rs : List ReadRows) (ls : List LeafSetRows) → Stored l (logs rs ls ws) c
    → with_worker (with_map (state_of l (logs rs ls ws) c) m) w (worker_in x rs ls ws w) ≡ f (state_of l (logs rs ls ws) c))
    → Reaches f l ws c l' (with_both c w x z)
reached f l l' ws c w x z m h b e k within is =
    record {
      state = λ rs ls t. state_both l l' (logs rs ls ws) c w x z m b.map ∙ is rs ls t;
      stored = λ rs ls t. stored_both l l' (logs rs ls ws) c w x z m h b e (within rs ls t) k t;
    }

freed_within : Within freed
freed_within = record { reads = zero-le; leaves = zero-le; writes = zero-le }

-- ---- the end of a transaction

unlock_leaves : (w : ℕ) (m : MapState) (ks : List ℕ) → (unlock_all w m ks).leaves ≡ m.leaves
unfolding unlock_all with_slots
unlock_leaves w m ks = refl

-- x the worker before it, y after it, xs the workers after it
pub drops : (l l' : Lent) (ws : List WriteRows) (c : Core) {xs : List Worker} (w : ℕ) (x y : Worker) (z : Sizes) → w < limits.workers → x ≡ worker_at c w
    → y ≡ freed → MapBecomes l' z c.counters.version (unlock_all w (map_of l c.sizes) (keys (writes_in ws w x.writes)))
    → xs ≡ set c.workers w y → Reaches (λ (σ : State). dropped σ w) l ws c l' (with_workers c xs z)
drops l l' ws c w x y z h e q b p =
    subst (λ (us : List Worker). Reaches (λ (σ : State). dropped σ w) l ws c l' (with_workers c us z))
    (sym (p ∙ ap (set c.workers w) q))
    (reached (λ (σ : State). dropped σ w) l l' ws c w freed z _ h b (unlock_leaves w (map_of l c.sizes) (keys (writes_in ws w x.writes))) (inr refl)
    (λ rs ls t. freed_within)
    (λ rs ls t.
    (λ i. with_worker (with_map (state_of l (logs rs ls ws) c) (unlock_all w (map_of l c.sizes) (ks rs ls t i))) w (free_in rs ls ws w i))
    ∙ (unfold dropped state_of in refl)))
  where
    ks : (rs : List ReadRows) (ls : List LeafSetRows) → Stored l (logs rs ls ws) c → keys (writes_in ws w x.writes) ≡ write_keys (state_of l (logs rs ls ws) c) w
    ks rs ls t = ap (λ (u : Worker). keys (writes_in ws w u.writes)) e ∙ sym (keys_are l (logs rs ls ws) c w (worker_inside t w h))

-- ---- install

install_leaves : (n t : ℕ) (m : MapState) (rs : List (Row Write)) → (install_all n t m rs).leaves ≡ m.leaves
unfolding install_all with_slots
install_leaves n t m rs = refl

-- the core with one install more
abbrev counted_core : Core → Core
counted_core c = record { workers = c.workers; sizes = c.sizes; counters = install_counted c.counters; guarded = c.guarded }

one_more : (n : ℕ) → n + 1 ≡ suc n
one_more n = omega arith

counted_state : (l : Lent) (g : Logs) (c : Core) → state_of l g (counted_core c) ≡ model.install_counted (state_of l g c)
unfolding state_of model.install_counted
counted_state l g c =
    ap
    (λ (n : ℕ).
    record {
      made = made_of c;
      counters = record { number = c.counters.number; version = c.counters.version; installs = n };
      map = map_of l c.sizes;
      workers = workers_from g c.workers 0;
    })
    (one_more c.counters.installs)

counted_stored : {l : Lent} {g : Logs} {c : Core} → Stored l g c → Stored l g (counted_core c)
counted_stored t =
    record {
      map = t.map;
      reads = t.reads;
      leaves = t.leaves;
      writes = t.writes;
      workers = t.workers;
      counts = t.counts;
      lows = t.lows;
    }

-- a change, and an install counted
counts : {f : State → State} {l l' : Lent} {ws : List WriteRows} {c c' : Core} → Reaches f l ws c l' c'
    → Reaches (λ (σ : State). model.install_counted (f σ)) l ws c l' (counted_core c')
counts {f} {l} {l'} {ws} {c} {c'} r =
    record {
      state = λ rs ls t. counted_state l' (logs rs ls ws) c' ∙ ap model.install_counted (r.state rs ls t);
      stored = λ rs ls t. counted_stored (r.stored rs ls t);
    }

-- the map and the worker after an install, which is not counted yet
abbrev installed_state : ℕ → State → State
installed_state w σ = with_worker (with_map σ (installed_map σ w)) w free_worker

-- x the worker before it, y after it, k the counters and xs the workers after it
pub installs : (l l' : Lent) (ws : List WriteRows) (c : Core) {xs : List Worker} (w : ℕ) (x y : Worker) (z : Sizes) (k : Counters) → w < limits.workers
    → x ≡ worker_at c w → y ≡ freed → k ≡ install_counted c.counters
    → MapBecomes l' z c.counters.version (install_all x.number k.installs (map_of l c.sizes) (writes_in ws w x.writes))
    → xs ≡ set c.workers w y
    → Reaches (λ (σ : State). effect σ (install w)) l ws c l' (record { workers = xs; sizes = z; counters = k; guarded = c.guarded })
unfolding effect
installs l l' ws c w x y z k h f q e b p =
    subst (λ (d : Core). Reaches (λ (σ : State). effect σ (install w)) l ws c l' d)
    (sym (λ i. record { workers = (p ∙ ap (set c.workers w) q) i; sizes = z; counters = e i; guarded = c.guarded }))
    (counts
    (reached (installed_state w) l l' ws c w freed z _ h b
    (install_leaves x.number k.installs (map_of l c.sizes) (writes_in ws w x.writes)) (inr refl) (λ rs ls t. freed_within)
    (λ rs ls t.
    (λ i.
    with_worker (with_map (state_of l (logs rs ls ws) c) (install_all (number rs ls t i) (install_number i) (map_of l c.sizes) (writes rs ls t i))) w (free_in rs ls ws w i))
    ∙ (unfold state_of in refl))))
  where
    install_number : k.installs ≡ suc c.counters.installs
    install_number = ap (λ (n : Counters). n.installs) e ∙ one_more c.counters.installs

    number : (rs : List ReadRows) (ls : List LeafSetRows) → Stored l (logs rs ls ws) c → x.number ≡ (worker_of (state_of l (logs rs ls ws) c) w).number
    number rs ls t = ap (λ (u : Worker). u.number) f ∙ sym (number_is l (logs rs ls ws) c w (worker_inside t w h))

    writes : (rs : List ReadRows) (ls : List LeafSetRows) → Stored l (logs rs ls ws) c → writes_in ws w x.writes ≡ (worker_of (state_of l (logs rs ls ws) c) w).writes
    writes rs ls t = ap (λ (u : Worker). writes_in ws w u.writes) f ∙ sym (writes_are l (logs rs ls ws) c w (worker_inside t w h))
