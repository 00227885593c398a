-- What is asked of a map's own numbers by statements that hold for all of them. The standard ones are such.
use Rattle.std.specs.Prelude.{◌<◌, ◌≤◌}
use Rattle.spec.specs.Records.{Tuning}
use Rattle.spec.specs.Slots.{slot_count}

-- a cut leaves no run without an address
pub record GoodCut (s : Tuning) : Type 0 where
  pub positive : 1 ≤ s.run
  pub smaller : s.run < s.leaf_limit

-- and not all slots are ever taken
pub record GoodTuning (s : Tuning) : Type 0 where
  pub cut : GoodCut s
  pub roomy : s.waiting_limit < slot_count
