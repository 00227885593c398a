-- Whichever place is sought: two steps on, what is left finds it.
use Rattle.std.proofs.Common.{ℕ, ◌+◌, ◌≤◌}
use Rattle.index.specs.Views.{record_places}
use Rattle.index.specs.Nearing.{Nearing, Steers}
use Rattle.index.proofs.search.descend.Given as goal

abbrev pub invariant-loop-step : goal.invariant-loop-step
invariant-loop-step g l = record {
  room : l.base + l.step + l.step ≤ record_places;
  near : (p : ℕ) → Steers (goal.F-post g l.goes) p → Nearing p 0 l.half → Nearing p l.base l.step;
}

abbrev pub decreases-loop-step : goal.decreases-loop-step
decreases-loop-step g l = l.step
