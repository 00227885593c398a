-- `replies::write_found` meets its contract: a value, or none there.
use Rattle.console.specs.Replies.{wrote_value, wrote_absent}
use Rattle.console.proofs.replies.write_found.Goals as goal

pub returns-in-Some : goal.returns-in-Some
returns-in-Some c = λ b. wrote_value b c.in-Some.is c.put_value_line.ensures

pub returns-in-None : goal.returns-in-None
returns-in-None c = λ b. wrote_absent b c.in-None.is c.put_absent_line.ensures
