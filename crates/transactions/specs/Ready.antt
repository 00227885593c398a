-- The invariant of the engine: every public entry asks it, `fresh_state` establishes it and every entry keeps it. And what a
-- step promises: its answer and the state after it are the model's.
use Rattle.std.specs.Prelude.{ℕ, ◌<◌, ◌≤◌, ◌≡◌, true, List, [], length, get_or}
use Rattle.spec.specs.Records.{limits}
use Rattle.spec.specs.Leaves.{Leaf, version_at, live}
use Rattle.spec.specs.Steps.{Step, Answer, answer, next}
use Rattle.limits.specs.Invariant.{Kept}
use Rattle.limits.specs.LoggedVersions.{LoggedOld}
use Rattle.workers.specs.declared.Worker.{Worker}
use Rattle.workers.specs.Workers.{freed}
use Rattle.sets.specs.Reads.{ReadsHeld}
use Rattle.sets.specs.Leaves.{LeafSetRows, LeavesHeld, versions_of, lows_of}
use Rattle.sets.specs.Writes.{WritesHeld}
use Rattle.map.specs.Views.{Lent, map_of}
use Rattle.map.specs.MapHeld as map
use Rattle.transactions.specs.Cores.{Core}
use Rattle.transactions.specs.Views.{Logs, state_of}

abbrev pub worker_at : Core → ℕ → Worker
worker_at c w = get_or c.workers w freed

-- A worker's counts stay within its rows.
pub record Within (x : Worker) : Type 0 where
  pub reads : x.reads ≤ limits.read_limit
  pub leaves : x.leaves ≤ limits.leaf_set_limit
  pub writes : x.writes ≤ limits.write_limit

-- Each low address of a leaf set of n rows lies in the leaf with the version logged beside it, as long as there is one.
abbrev pub LowsStay : List Leaf → LeafSetRows → ℕ → Type 0
LowsStay ts rs n =
    (i : ℕ) → i < n → live ts (get_or (versions_of rs n) i 0) ≡ true → version_at ts (get_or (lows_of rs n) i 0) ≡ get_or (versions_of rs n) i 0

-- What the arrays and the core hold beside the model's own invariant: what the promises of the layers below ask.
pub record Stored (l : Lent) (g : Logs) (c : Core) : Type 0 where
  pub map : map.MapHeld l c.sizes c.counters.version
  pub reads : ReadsHeld g.reads
  pub leaves : LeavesHeld g.leaves
  pub writes : WritesHeld g.writes
  pub workers : length c.workers ≡ limits.workers
  pub counts : (w : ℕ) → w < limits.workers → Within (worker_at c w)
  pub lows : (w : ℕ) → w < limits.workers → LowsStay (map_of l c.sizes).leaves (get_or g.leaves w []) (worker_at c w).leaves

pub record Ready (l : Lent) (g : Logs) (c : Core) : Type 0 where
  pub stored : Stored l g c
  pub kept : Kept (state_of l g c)
  pub logged : LoggedOld (state_of l g c)

-- A step taken: the arrays and the core before it, the step, those after it, and its answer.
pub record Refines (l : Lent) (g : Logs) (c : Core) (s : Step) (l' : Lent) (g' : Logs) (c' : Core) (a : Answer) : Type 0 where
  pub ready : Ready l' g' c'
  pub state : state_of l' g' c' ≡ next (state_of l g c) s
  pub says : a ≡ answer (state_of l g c) s
