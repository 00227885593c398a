-- `scans::uncovered_write` meets its contract.
use Rattle.std.proofs.Common.{sym, ◌∙◌}
use Rattle.guards.specs.PutLaws.{of_put_lem, entry_put, entry_deletion}
use Rattle.guards.specs.ScanLaws.{uncovered_is}
use Rattle.guards.proofs.scans.uncovered_write.Goals as goal

pub deciding-requires-clause-len_value : goal.deciding-requires-clause-len_value
deciding-requires-clause-len_value c = sym (of_put_lem _ _ c.in-Put.is) ∙ c.requires.e_value

pub returns-in-Put : goal.returns-in-Put
returns-in-Put c = entry_put _ _ c.in-Put.is (uncovered_is _ _ _ _ c.deciding.ensures c.is_none.ensures)

pub returns-in-Deletion : goal.returns-in-Deletion
returns-in-Deletion c = entry_deletion _ _ c.in-Deletion.is
