use Rattle.ranges.specs.ShowLaws.{filling_start, filling_fits, filling_on, filling_end}
use Rattle.ranges.proofs.walks.fill.Goals as goal

pub loop-i-init : goal.loop-i-init
loop-i-init c = filling_start _ c.requires.walks _ _ _ c.requires.inside

pub show-at-requires : goal.show-at-requires
show-at-requires c =
    let w = c.requires.walks in
    filling_fits _ w _ _ _ _ _ _ _ _ c.requires.records_fit c.loop-i.invariant (c.next-x.ensures.comes _ w c.logged-s.ensures)

pub loop-i-preserved : goal.loop-i-preserved
loop-i-preserved c =
    let w = c.requires.walks in
    filling_on _ w _ _ _ _ _ _ _ _ _ _ c.loop-i.invariant (c.next-x.ensures.comes _ w c.logged-s.ensures) c.show-at.ensures

pub returns : goal.returns
returns c = filling_end _ c.requires.walks _ _ _ _ _ _ _ c.loop-i.invariant c.loop-i-test.false
