-- `overlaps::read_overlaps` meets its contract.
use Rattle.guards.specs.OverlapLaws.{read_absent, read_apart, read_found}
use Rattle.guards.proofs.overlaps.read_overlaps.Goals as goal

pub returns-then-overlaps : goal.returns-then-overlaps
returns-then-overlaps c = read_found _ _ _ c.args.o _ c.in-Some.is c.overlaps.ensures c.if-overlaps.true c.find_write.ensures c.is_none.ensures

pub returns-else-overlaps : goal.returns-else-overlaps
returns-else-overlaps c = read_apart _ _ _ c.args.o c.in-Some.is c.overlaps.ensures c.if-overlaps.false

pub returns-in-None : goal.returns-in-None
returns-in-None c = read_absent _ _ _ c.args.o c.in-None.is
