-- `overlaps::overlapped_write` meets its contract: by the scan that decides, then own puts, then what the scan logged.
use Rattle.std.proofs.Common.{sym, ◌∙◌}
use Rattle.guards.specs.PutLaws.{of_put_lem, entry_put, entry_deletion}
use Rattle.guards.specs.OverlapLaws.{overlapped_none, overlapped_own, overlapped_logged}
use Rattle.guards.proofs.overlaps.overlapped_write.Goals as goal

pub deciding-requires-clause-len_value : goal.deciding-requires-clause-len_value
deciding-requires-clause-len_value c = sym (of_put_lem _ _ c.in-Put.is) ∙ c.requires.e_value

pub returns-in_default : goal.returns-in_default
returns-in_default c = entry_deletion _ _ c.in_default.is

pub returns-then-own_overlap : goal.returns-then-own_overlap
returns-then-own_overlap c = entry_put _ _ c.in-Put.is
    (c.if-own_overlap.true ∙ overlapped_own _ _ _ _ _ c.in-Some.is c.deciding.ensures c.own_overlap.ensures c.if-own_overlap.true)

pub returns-else-own_overlap : goal.returns-else-own_overlap
returns-else-own_overlap c = entry_put _ _ c.in-Put.is
    (overlapped_logged _ _ _ _ _ c.in-Some.is c.deciding.ensures c.own_overlap.ensures c.if-own_overlap.false c.logged_overlap.ensures)

pub returns-in-None : goal.returns-in-None
returns-in-None c = entry_put _ _ c.in-Put.is (overlapped_none _ _ _ _ _ c.in-None.is c.deciding.ensures)
