-- Where the first step leads, the second was tried.
use Rattle.index.specs.Nearing.{near_high, near_low}
use Rattle.index.proofs.search.probe_two.Goals as goal

pub returns-then-base-middle-clause-near : goal.returns-then-base-middle-clause-near
returns-then-base-middle-clause-near g c =
    λ p s n. near_high c.requires.room.0 n (c.probe-middle.ensures.took p s) c.if-base-middle.true (c.probe-high.ensures.took p s)

pub returns-else-base-middle-clause-near : goal.returns-else-base-middle-clause-near
returns-else-base-middle-clause-near g c =
    λ p s n. near_low c.requires.room.0 n (c.probe-middle.ensures.took p s) c.if-base-middle.false (c.probe-low.ensures.took p s)
