-- How the lent arrays and the core are read: they are the model's state.
use Rattle.std.specs.Prelude.{ℕ, suc, ◌≡◌, Bool, List, [], ◌∷◌, eqb, set}
use Rattle.spec.specs.Records.{Made, standard_map}
use Rattle.spec.specs.Steps as model
use Rattle.spec.specs.Steps.{State}
use Rattle.workers.specs.declared.Worker.{Worker}
use Rattle.workers.specs.Workers.{worker_in, workers_of}
use Rattle.sets.specs.Reads.{ReadRows, reads_in}
use Rattle.sets.specs.Leaves.{LeafSetRows, versions_in, scans_in}
use Rattle.sets.specs.Writes.{WriteRows, writes_in}
use Rattle.map.specs.declared.Sizes.{Sizes}
use Rattle.map.specs.Views.{Lent, map_of}
use Rattle.transactions.specs.Cores.{Core}
use Rattle.transactions.specs.declared.Globals.{Globals}

-- All workers' read sets, leaf sets and write sets.
pub record Logs : Type 0 where
  pub reads : List ReadRows
  pub leaves : List LeafSetRows
  pub writes : List WriteRows

abbrev pub logs : List ReadRows → List LeafSetRows → List WriteRows → Logs
logs reads leaves writes = record { reads = reads; leaves = leaves; writes = writes }

-- worker w, with its rows of the three sets
abbrev pub model_worker : Logs → Worker → ℕ → model.Worker
model_worker g x w = worker_in x g.reads g.leaves g.writes w

-- the workers from worker w on
unfoldable pub workers_from : Logs → List Worker → ℕ → List model.Worker
workers_from g [] w = []
workers_from g (x ∷ xs) w = model_worker g x w ∷ workers_from g xs (suc w)

-- whether a map is guarded, by the word of its core
abbrev pub guarded_in : ℕ → Bool
guarded_in n = eqb n 1

-- what the map is made with
abbrev pub made_of : Core → Made
made_of c = standard_map (guarded_in c.guarded)

-- the model's state
unfoldable pub state_of : Lent → Logs → Core → State
state_of l g c =
    record {
      made = made_of c;
      counters = record { number = c.counters.number; version = c.counters.version; installs = c.counters.installs };
      map = map_of l c.sizes;
      workers = workers_from g c.workers 0;
    }

-- the core of the workers and the globals, and of lent workers
abbrev pub core_on : List Worker → Globals → Core
core_on xs c = record { workers = xs; sizes = c.sizes; counters = c.counters; guarded = c.guarded }

abbrev pub core_of : List ℕ → Globals → Core
core_of ws c = core_on (workers_of ws) c

-- the core with another worker, and with other sizes
abbrev pub core_with : Core → ℕ → Worker → Core
core_with c w x = record { workers = set c.workers w x; sizes = c.sizes; counters = c.counters; guarded = c.guarded }

abbrev pub with_both : Core → ℕ → Worker → Sizes → Core
with_both c w x z = record { workers = set c.workers w x; sizes = z; counters = c.counters; guarded = c.guarded }

-- the rows of every worker but w are the same
pub record OthersSame (g g' : Logs) (w : ℕ) : Type 0 where
  pub reads : (v n : ℕ) → (v ≡ w → ⊥) → reads_in g'.reads v n ≡ reads_in g.reads v n
  pub leaves : (v n : ℕ) → (v ≡ w → ⊥) → versions_in g'.leaves v n ≡ versions_in g.leaves v n
  pub scans : (v n : ℕ) → (v ≡ w → ⊥) → scans_in g'.leaves v n ≡ scans_in g.leaves v n
  pub writes : (v n : ℕ) → (v ≡ w → ⊥) → writes_in g'.writes v n ≡ writes_in g.writes v n
