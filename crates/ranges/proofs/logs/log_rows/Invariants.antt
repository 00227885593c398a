-- `logs::log_rows` meets its contract. The invariant: those logged and those left are all.
use Rattle.ranges.specs.Scanning.{seen_by, LoggingRows}
use Rattle.ranges.proofs.logs.log_rows.Given as goal

abbrev pub invariant-loop-i : goal.invariant-loop-i
invariant-loop-i l = LoggingRows l.initial.reads l.m (seen_by l.view) l.fn.p l.reads l.i l.count
