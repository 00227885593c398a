-- `script::parse_part` meets its contract: each state has its own function.
use Rattle.script.specs.Parsing.{in_number}
use Rattle.script.specs.Tokens.{turns_as}
use Rattle.script.proofs.parse_part.Goals as goal

pub returns-in-First-clause-parses_part : goal.returns-in-First-clause-parses_part
unfolding in_number
returns-in-First-clause-parses_part c = turns_as c.in-First.is c.first_number.ensures.parses_part

pub returns-in-Second-clause-parses_part : goal.returns-in-Second-clause-parses_part
unfolding in_number
returns-in-Second-clause-parses_part c = turns_as c.in-Second.is c.second_number.ensures.parses_part

pub returns-in-Third-clause-parses_part : goal.returns-in-Third-clause-parses_part
unfolding in_number
returns-in-Third-clause-parses_part c = turns_as c.in-Third.is c.third_number.ensures.parses_part

pub returns-in-Fourth-clause-parses_part : goal.returns-in-Fourth-clause-parses_part
unfolding in_number
returns-in-Fourth-clause-parses_part c = turns_as c.in-Fourth.is c.last_number.ensures.parses_part
