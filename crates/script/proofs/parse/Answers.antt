use Rattle.script.specs.Tokens.{goes_none, goes_join, goes_on_lem, goes_ends, goes_whole}
use Rattle.script.proofs.parse.Goals as goal

pub loop-i-init : goal.loop-i-init
loop-i-init c = goes_none _ _ _

pub loop-i-preserved : goal.loop-i-preserved
loop-i-preserved c = goes_on_lem c.loop-i.invariant c.parse_part-t.ensures.parses_part c.in-SliceEnd.is

pub returns-in_default : goal.returns-in_default
returns-in_default c = goes_ends (goes_join c.begin_line-q.ensures c.loop-i.invariant) c.parse_part-t.ensures.parses_part c.in_default.not-SliceEnd

pub returns : goal.returns
returns c = (goes_whole (goes_join c.begin_line-q.ensures c.loop-i.invariant) c.loop-i-test.false)
