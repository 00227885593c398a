-- The laws of the views: a worker of the state, and a state in which one worker changes.
use Rattle.std.specs.Prelude.{ℕ, zero, suc, ◌+◌, ◌<◌, ◌≡◌, refl, List, [], ◌∷◌, length, get_or, set}
use Rattle.std.proofs.Common.{not-suc-le-zero, le_of_suc-le-suc, add-zero, add-suc, suc-add, arith, sym, ap, ◌∙◌, subst}
use Rattle.spec.specs.Steps as model
use Rattle.spec.specs.Steps.{worker_of, free_worker, with_worker}
use Rattle.workers.specs.declared.Worker.{Worker}
use Rattle.workers.specs.Workers.{worker_in, freed, workers_of}
use Rattle.map.specs.Views.{Lent, map_of}
use Rattle.transactions.specs.Cores.{Core}
use Rattle.transactions.specs.declared.Globals.{Globals}
use Rattle.transactions.specs.Views.{Logs, OthersSame, core_on, core_of, core_with, model_worker, made_of, state_of, workers_from}

-- ---- workers

from_length : (g : Logs) (xs : List Worker) (w : ℕ) → length (workers_from g xs w) ≡ length xs
unfolding workers_from
from_length g [] w = refl
from_length g (x ∷ xs) w = ap suc (from_length g xs (suc w))

pub worker_count : (l : Lent) (g : Logs) (c : Core) → length (state_of l g c).workers ≡ length c.workers
unfolding state_of
worker_count l g c = from_length g c.workers 0

from_at : (g : Logs) (xs : List Worker) (w i : ℕ) → i < length xs → get_or (workers_from g xs w) i free_worker ≡ model_worker g (get_or xs i freed) (w + i)
unfolding workers_from
from_at g [] w i h = absurd (not-suc-le-zero h)
from_at g (x ∷ xs) w zero h = ap (model_worker g x) (sym (add-zero w))
from_at g (x ∷ xs) w (suc i) h = from_at g xs (suc w) i (le_of_suc-le-suc h) ∙ ap (model_worker g (get_or xs i freed)) (suc-add w i ∙ sym (add-suc w i))

-- worker w of the state
pub worker_at_lem : (l : Lent) (g : Logs) (c : Core) (w : ℕ) → w < length c.workers → worker_of (state_of l g c) w ≡ model_worker g (get_or c.workers w freed) w
unfolding state_of worker_of
worker_at_lem l g c w h = from_at g c.workers 0 w h ∙ ap (model_worker g (get_or c.workers w freed)) (let e : 0 + w ≡ w = omega arith in e)

pub same_logs : (g : Logs) (w : ℕ) → OthersSame g g w
same_logs g w = record { reads = λ v n d. refl; leaves = λ v n d. refl; scans = λ v n d. refl; writes = λ v n d. refl }

other_worker : (g g' : Logs) (w : ℕ) → OthersSame g g' w → (x : Worker) (v : ℕ) → (v ≡ w → ⊥) → model_worker g' x v ≡ model_worker g x v
unfolding worker_in
other_worker g g' w o x v d =
    λ i. record {
      stage = x.stage;
      reads = o.reads v x.reads d i;
      versions = o.leaves v x.leaves d i;
      scans = o.scans v x.leaves d i;
      writes = o.writes v x.writes d i;
      number = x.number;
    }

from_above : (g g' : Logs) (w : ℕ) → OthersSame g g' w → (xs : List Worker) (v : ℕ) → w < v → workers_from g' xs v ≡ workers_from g xs v
unfolding workers_from
from_above g g' w o [] v h = refl
from_above g g' w o (x ∷ xs) v h =
    λ i. other_worker g g' w o x v (λ e. let z : ⊥ = omega arith in z) i ∷ from_above g g' w o xs (suc v) (let k : w < suc v = omega arith in k) i

from_set : (g g' : Logs) (xs : List Worker) (v i : ℕ) (x : Worker) → OthersSame g g' (v + i)
    → workers_from g' (set xs i x) v ≡ set (workers_from g xs v) i (model_worker g' x (v + i))
unfolding workers_from
from_set g g' [] v i x o = refl
from_set g g' (y ∷ ys) v zero x o =
    let e : v + 0 ≡ v = omega arith in
    λ j. model_worker g' x (sym e j) ∷ from_above g g' (v + 0) o ys (suc v) (let k : v + 0 < suc v = omega arith in k) j
from_set g g' (y ∷ ys) v (suc i) x o =
    let e : suc v + i ≡ v + suc i = omega arith in
    let first : model_worker g' y v ≡ model_worker g y v = other_worker g g' (v + suc i) o y v (λ q. let z : ⊥ = omega arith in z) in
    let rest : workers_from g' (set ys i x) (suc v) ≡ set (workers_from g ys (suc v)) i (model_worker g' x (v + suc i)) =
    from_set g g' ys (suc v) i x (subst (OthersSame g g') (sym e) o) ∙ ap (λ (n : ℕ). set (workers_from g ys (suc v)) i (model_worker g' x n)) e in
    λ j. first j ∷ rest j

-- a step of worker w that rewrites its seat and its rows
pub state_with : (l : Lent) (g g' : Logs) (c : Core) (w : ℕ) (x : Worker) → OthersSame g g' w
    → state_of l g' (core_with c w x) ≡ with_worker (state_of l g c) w (model_worker g' x w)
unfolding state_of with_worker
state_with l g g' c w x o =
    ap
    (λ (ws : List model.Worker).
    record {
      made = made_of c;
      counters = record { number = c.counters.number; version = c.counters.version; installs = c.counters.installs };
      map = map_of l c.sizes;
      workers = ws;
    })
    (from_set g g' c.workers 0 w x (subst (OthersSame g g') (let e : w ≡ 0 + w = omega arith in e) o)
    ∙ ap (λ (n : ℕ). set (workers_from g c.workers 0) w (model_worker g' x n)) (let e : 0 + w ≡ w = omega arith in e))

-- ---- lent workers

-- the core by what its lent workers have become
pub core_put : (ws : List ℕ) {xs : List Worker} (c : Globals) → workers_of ws ≡ xs → core_of ws c ≡ core_on xs c
core_put ws c e = ap (λ (xs : List Worker). core_on xs c) e
