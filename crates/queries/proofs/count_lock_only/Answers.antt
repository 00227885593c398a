use Rattle.std.proofs.Common.{◌∙◌}
use Rattle.map.specs.WriteWalks.{given}
use Rattle.queries.specs.PhantomLaws.{counting_start, counting_on, counting_end, byte_pick}
use Rattle.queries.proofs.count_lock_only.Goals as goal

pub loop-x-init : goal.loop-x-init
loop-x-init c = counting_start _ _ _ _ _ _ _ _

pub loop-x-preserved : goal.loop-x-preserved
loop-x-preserved c = counting_on _ _ _ _ _ _ _ _ _ _ _ _ c.loop-x.invariant c.loop-x-test.true (given c.write_at-e.ensures c.loop-x-test.true) (c.from-own.ensures ∙ byte_pick _ c.lock_only_at.ensures)

pub returns : goal.returns
returns c = counting_end _ _ _ _ _ _ _ _ _ _ c.loop-x.invariant c.loop-x-test.false
