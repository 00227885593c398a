-- The core: the workers and what goes by value beside the lent arrays, as statements have them together.
use Rattle.std.specs.Prelude.{ℕ, List}
use Rattle.workers.specs.declared.Worker.{Worker}
use Rattle.counters.specs.declared.Counters.{Counters}
use Rattle.map.specs.declared.Sizes.{Sizes}

pub record Core : Type 0 where
  pub workers : List Worker
  pub guarded : ℕ
  pub sizes : Sizes
  pub counters : Counters
