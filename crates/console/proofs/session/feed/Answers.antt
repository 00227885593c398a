use Rattle.console.specs.SessionLaws.{feeds_join}
use Rattle.console.proofs.session.feed.Goals as goal

pub loop-addresses-preserved : goal.loop-addresses-preserved
loop-addresses-preserved c = feeds_join c.loop-addresses.invariant c.run_line-x.ensures.feeds
