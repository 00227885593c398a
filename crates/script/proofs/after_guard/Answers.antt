-- `script::after_guard` meets its contract: the byte after G is the line feed, or the line is malformed.
use Rattle.script.specs.TokenLaws.{turn_byte, guard_bad, guard_feed}
use Rattle.script.proofs.after_guard.Goals as goal

pub returns-then-end-eq-LINE_FEED-clause-parses_part : goal.returns-then-end-eq-LINE_FEED-clause-parses_part
returns-then-end-eq-LINE_FEED-clause-parses_part c = (turn_byte _ _ _ c.requires (guard_feed _ c.if-end-eq-LINE_FEED.true))

pub returns-else-end-eq-LINE_FEED-clause-parses_part : goal.returns-else-end-eq-LINE_FEED-clause-parses_part
returns-else-end-eq-LINE_FEED-clause-parses_part c = rw c.malformed.ensures (turn_byte _ _ _ c.requires (guard_bad _ c.if-end-eq-LINE_FEED.false))
