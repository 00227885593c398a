-- The arrays of a fresh map, with every worker free.
use Rattle.std.specs.Prelude.{ℕ, ◌≡◌, Bool, List, replicate}
use mir.Val.{bool_byte}
use Rattle.spec.specs.Records.{limits, Made}
use Rattle.spec.specs.Steps.{fresh}
use Rattle.workers.specs.Workers.{freed}
use Rattle.sets.specs.Reads.{read_words}
use Rattle.sets.specs.Leaves.{leaf_set_words}
use Rattle.sets.specs.Writes.{write_words}
use Rattle.map.specs.declared.Sizes.{Sizes}
use Rattle.map.specs.Views.{Lent}
use Rattle.transactions.specs.Cores.{Core}
use Rattle.transactions.specs.declared.Globals.{Globals}
use Rattle.transactions.specs.Views.{Logs, logs, state_of, core_on}
use Rattle.transactions.specs.Ready.{Ready}

pub record Fresh (l : Lent) (g : Logs) (made : Made) (c : Core) : Type 0 where
  pub ready : Ready l g c
  pub state : state_of l g c ≡ fresh made

-- all workers' sets, of rows of zeros
abbrev zeros : ℕ → ℕ → List (List (List ℕ))
zeros limit words = replicate limits.workers (replicate limit (replicate words 0))

abbrev pub no_logs : Logs
no_logs = logs (zeros limits.read_limit read_words) (zeros limits.leaf_set_limit leaf_set_words) (zeros limits.write_limit write_words)

abbrev pub start_globals : Sizes → Bool → Globals
start_globals z guarded = record { sizes = z; counters = record { number = 0; version = 0; installs = 0 }; guarded = bool_byte guarded }

-- every worker is free
abbrev pub start_core : Sizes → Bool → Core
start_core z guarded = core_on (replicate limits.workers freed) (start_globals z guarded)

-- the core of a guarded map, with all else as it is
abbrev pub guarded_core : Core → Core
guarded_core c = record { workers = c.workers; sizes = c.sizes; counters = c.counters; guarded = 1 }

abbrev pub guarded_globals : Globals → Globals
guarded_globals c = record { guarded = 1; sizes = c.sizes; counters = c.counters }
