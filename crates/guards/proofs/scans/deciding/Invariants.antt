-- `scans::deciding` meets its contract: the last row that remembers a scan that covers the section, or none does.
use Rattle.guards.specs.ScanLaws.{Deciding}
use Rattle.guards.proofs.scans.deciding.Given as goal

abbrev pub invariant-loop-i : goal.invariant-loop-i
invariant-loop-i l = Deciding l.leafset l.a l.len l.m l.i
