use mir.Val.{bool_byte}
use Rattle.std.proofs.Common.{ap, ◌∙◌}
use Rattle.ranges.specs.ShowLaws.{counting_on, counting_end}
use Rattle.ranges.proofs.walks.count_shown.Goals as goal

pub loop-i-preserved : goal.loop-i-preserved
loop-i-preserved c =
    let w = c.requires.walks in
    counting_on _ w _ _ _ _ _ _ _ c.loop-i.invariant (c.next-x.ensures.comes _ w c.indexed-s.ensures) (c.from-count.ensures ∙ ap bool_byte c.is_some.ensures)

pub returns : goal.returns
returns c = counting_end _ c.requires.walks _ _ _ _ _ c.loop-i.invariant c.loop-i-test.false
