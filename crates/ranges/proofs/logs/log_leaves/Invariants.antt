-- `logs::log_leaves` meets its contract. The invariant: those logged and those left are all.
use Rattle.map.specs.Views.{lows_of, versions_of}
use Rattle.ranges.specs.Scanning.{LoggingLeaves}
use Rattle.ranges.proofs.logs.log_leaves.Given as goal

abbrev pub invariant-loop-i : goal.invariant-loop-i
invariant-loop-i l = LoggingLeaves l.initial.leafset l.m (lows_of l.leaves) (versions_of l.leaves) l.p l.s l.leafset l.i l.count
