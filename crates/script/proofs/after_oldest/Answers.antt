-- `script::after_oldest` meets its contract: the byte after T is the line feed, or the line is malformed.
use Rattle.script.specs.TokenLaws.{turn_byte, oldest_bad, oldest_feed}
use Rattle.script.proofs.after_oldest.Goals as goal

pub returns-then-s-i-eq-LINE_FEED-clause-parses_part : goal.returns-then-s-i-eq-LINE_FEED-clause-parses_part
returns-then-s-i-eq-LINE_FEED-clause-parses_part c = (turn_byte _ _ _ c.requires (oldest_feed _ c.if-s-i-eq-LINE_FEED.true))

pub returns-else-s-i-eq-LINE_FEED-clause-parses_part : goal.returns-else-s-i-eq-LINE_FEED-clause-parses_part
returns-else-s-i-eq-LINE_FEED-clause-parses_part c = rw c.malformed.ensures (turn_byte _ _ _ c.requires (oldest_bad _ c.if-s-i-eq-LINE_FEED.false))
